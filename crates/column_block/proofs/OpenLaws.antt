-- What an opened block lends is that of the rows.
use Rattle.std.proofs.Common.{◌≡◌, ℕ, zero, suc, ◌+◌, ◌<◌, Bool, true, false, cond, List, [], ◌∷◌, length, map}
use Rattle.std.proofs.Common.{filter, take, get_or, Option, Some, None, IfSome, subst, refl, sym, ap, ◌∙◌, arith}
use Rattle.std.proofs.Common.{replicate, slice_get, unwrap_or}
use Rattle.std.specs.Prelude.{bytes_eq}
use Rattle.std.specs.List.{All, AllByRecursion, list_any}
use Rattle.std.specs.Map.{lookup}
use Rattle.std.proofs.lemmas.Bool.{false≢true}
use Rattle.std.proofs.lemmas.List.{length-map, map_more}
use Rattle.std.proofs.lemmas.List.Elements.{All-from_recursion}
use Rattle.std.proofs.lemmas.List.Sums.{fold_push}
use Rattle.std.proofs.lemmas.Option.{slice_get-get_or}
use Rattle.std.proofs.lemmas.Slice.Eq.{bytes_eq-Decides}
use Rattle.byte_format.proofs.Cases.{some_is}
use Rattle.lent_row.specs.Cells.{cell_at, has_value}
use Rattle.log_model.specs.Field.{Field, field_value, set_all, set_field}
use Rattle.log_model.specs.History.{Numbered}
use Rattle.block_model.specs.Columns.{names_of, row_of, values_of}
use Rattle.block_model.specs.Keys.{IsNumbered, key_of, keys_of}
use Rattle.block_model.specs.declared.keys.Key.{Key}
use Rattle.block_model.proofs.FieldLaws.{AreListed, set-again, value_named, valued-again}
use Rattle.block_model.proofs.NameLaws.{are-named, names-rising}
use Rattle.block_model.proofs.RowLaws.{none-below}
use Rattle.block_body.specs.Outline.{NamedFilter, Outline}
use Rattle.block_format.specs.Rows.{labels_of}
use Rattle.block_body.specs.Outlines.{filter_named, outline_of}
use Rattle.block_format.specs.Rows.{key_in}
use Rattle.block_body.proofs.HeldLaws.{get-map}
use Rattle.block_body.proofs.OutlineLaws.{all-names}
use Rattle.column_block.specs.InColumns.{cells_in, no_row, row_at}
use Rattle.vl_row.specs.Names.{is_among}

-- ---- elements

pub found : {X : Type 0} (xs : List X) (i : ℕ) → i < length xs → (x : X) × (slice_get xs i ≡ Some x)
found [] i lt = absurd (omega (arith, lt))
found (x ∷ xs) zero lt = (x, refl)
found (x ∷ xs) (suc i) lt = found xs i (omega (arith, lt))

pub found-map : {X Y : Type 0} (f : X → Y) (xs : List X) (i : ℕ) (x : X) → slice_get xs i ≡ Some x
    → slice_get (map f xs) i ≡ Some (f x)
found-map f [] i x e = absurd cc
found-map f (y ∷ ys) zero x e = ap (λ o. Some (f o)) (some_is y x e)
found-map f (y ∷ ys) (suc i) x e = found-map f ys i x e

pub all-at : {X : Type 0} (P : X → Type 0) (xs : List X) (i : ℕ) (x : X) → AllByRecursion P xs
    → slice_get xs i ≡ Some x → P x
all-at P [] i x h e = absurd cc
all-at P (y ∷ ys) zero x h e = subst P (some_is y x e) h.0
all-at P (y ∷ ys) (suc i) x h e = all-at P ys i x h.1 e

pub if-some : {X : Type 0} (o : Option X) (P : X → Type 0) → ((x : X) → o ≡ Some x → P x) → IfSome o P
if-some None P h = tt
if-some (Some x) P h = h x refl

pub at-some : {X : Type 0} (o : Option X) (P : X → Type 0) (x : X) → IfSome o P → o ≡ Some x → P x
at-some None P x h e = absurd cc
at-some (Some y) P x h e = subst P (some_is y x e) h

pub inside : {X : Type 0} (xs : List X) (i : ℕ) (x : X) → slice_get xs i ≡ Some x → i < length xs
inside [] i x e = absurd cc
inside (y ∷ ys) zero x e = omega arith
inside (y ∷ ys) (suc i) x e = let lt : i < length ys = inside ys i x e in omega arith

-- ---- keys

pub key-is : (rows : List Numbered) (i : ℕ) (k : Key) (n : Numbered) → slice_get rows i ≡ Some n
    → slice_get (keys_of rows) i ≡ Some k → k ≡ key_of n
key-is rows i k n e f = some_is k (key_of n) (sym f ∙ found-map key_of rows i n e)

pub key-at : (rows : List Numbered) (i : ℕ) (k : Key) → i < length rows → slice_get (keys_of rows) i ≡ Some k
    → slice_get (map key_in rows) i ≡ Some (k.time, k.batch, k.place)
key-at rows i k lt f =
    let n = found rows i lt in
    found-map key_in rows i n.0 n.1
    ∙ ap (λ (x : Key). Some (x.time, x.batch, x.place)) (sym (key-is rows i k n.0 n.1 f))

-- ---- values

pub column-count : (rows : List Numbered) (head : Outline) → head ≡ outline_of rows
    → length head.columns ≡ length (names_of rows)
column-count rows head h = ap (λ (o : Outline). length o.columns) h ∙ length-map (names_of rows) (filter_named rows)

-- the value in the column of a name
pub value-named : (rows : List Numbered) (i c : ℕ) (name value : List ℕ) (n : Numbered)
    → name ≡ get_or (names_of rows) c []
    → slice_get (values_of rows (get_or (names_of rows) c [])) i ≡ Some value → slice_get rows i ≡ Some n
    → value ≡ field_value n.row.fields name
value-named rows i c name value n is read e =
    some_is value (field_value n.row.fields name) (sym read
    ∙ ap (λ (other : List ℕ). slice_get (values_of rows other) i) (sym is)
    ∙ found-map (λ (m : Numbered). field_value m.row.fields name) rows i n e)

-- fields whose names are listed have no value under another name
unlisted : (fields : List Field) (names : List (List ℕ)) (name : List ℕ) → AreListed fields names
    → is_among names name ≡ false → field_value fields name ≡ []
unlisted [] names name listed none = refl
unlisted (f ∷ fs) names name listed none = by (bytes_eq name f.0) refl (unlisted fs names name listed.1 none)
  where
    by : (b : Bool) → bytes_eq name f.0 ≡ b → field_value fs name ≡ []
        → unwrap_or (cond b (Some f.1) (lookup (bytes_eq name) fs)) [] ≡ []
    by true same later =
        let other : list_any (bytes_eq name) names ≡ true =
        ap (λ (text : List ℕ). list_any (bytes_eq text) names) ((bytes_eq-Decides name f.0).0 same) ∙ listed.0 in
        absurd (false≢true (sym none ∙ other))
    by false same later = later

-- no row has a value under a name of no column
pub value-missing : (rows : List Numbered) (i : ℕ) (name : List ℕ) (n : Numbered) → slice_get rows i ≡ Some n
    → is_among (names_of rows) name ≡ false → field_value n.row.fields name ≡ []
value-missing rows i name n e none =
    unlisted n.row.fields (names_of rows) name
    (all-at (λ (m : Numbered). AreListed m.row.fields (names_of rows)) rows i n (are-named rows) e) none

missing-all : (rows : List Numbered) (names : List (List ℕ)) (name : List ℕ)
    → AllByRecursion (λ (m : Numbered). AreListed m.row.fields names) rows → is_among names name ≡ false
    → replicate (length rows) [] ≡ values_of rows name
missing-all [] names name listed none = refl
missing-all (n ∷ ns) names name listed none =
    ap (λ (value : List ℕ). value ∷ replicate (length ns) []) (sym (unlisted n.row.fields names name listed.0 none))
    ∙ ap (λ (l : List (List ℕ)). field_value n.row.fields name ∷ l) (missing-all ns names name listed.1 none)

pub values-missing : (rows : List Numbered) (name : List ℕ) → is_among (names_of rows) name ≡ false
    → replicate (length rows) [] ≡ values_of rows name
values-missing rows name none = missing-all rows (names_of rows) name (are-named rows) none

pub name-at : (rows : List Numbered) (head : Outline) (c : ℕ) (name : List ℕ) → head ≡ outline_of rows
    → c < length (names_of rows) → slice_get (map (λ (column : NamedFilter). column.0) head.columns) c ≡ Some name
    → name ≡ get_or (names_of rows) c []
name-at rows head c name h lt e =
    some_is name (get_or (names_of rows) c []) (sym e
    ∙ ap (λ (l : List (List ℕ)). slice_get l c) (all-names rows head h)
    ∙ slice_get-get_or (names_of rows) c [] lt)

-- ---- fields

pub fields-more : (all : List Field) (names : List (List ℕ)) (c : ℕ) (fields new : List Field) (name value : List ℕ)
    → c < length names → fields ≡ set_all [] (map (value_named all) (take c names)) → name ≡ get_or names c []
    → value ≡ field_value all (get_or names c []) → new ≡ set_field fields name value
    → new ≡ set_all [] (map (value_named all) (take (c + 1) names))
fields-more all names c fields new name value lt so_far n v put =
    put ∙ ap (λ (l : List Field). set_field l name value) so_far
    ∙ ap (λ (k : List ℕ). set_field (set_all [] (map (value_named all) (take c names))) k value) n
    ∙ ap (set_field (set_all [] (map (value_named all) (take c names))) (get_or names c [])) v
    ∙ sym (fold_push (λ (old : List Field) (field : Field). set_field old field.0 field.1) [] (map (value_named all)
    (take c names)) (value_named all (get_or names c [])))
    ∙ ap (set_all []) (sym (map_more (value_named all) names c [] lt))

pub fields-whole : (rows : List Numbered) (i : ℕ) (n : Numbered) → AllByRecursion IsNumbered rows
    → slice_get rows i ≡ Some n → set_all [] (map (value_named n.row.fields) (names_of rows)) ≡ n.row.fields
fields-whole rows i n each e =
    let numbered = all-at IsNumbered rows i n each e in
    let listed = all-at (λ (m : Numbered). AreListed m.row.fields (names_of rows)) rows i n (are-named rows) e in
    set-again (names_of rows) [] n.row.fields (names-rising rows) numbered.row.fields.ordered
    numbered.row.fields.filled listed (none-below (names_of rows))

pub row-is : (labels : List Field) (key : Key) (fields : List Field) (n : Numbered) → labels ≡ n.row.labels
    → key ≡ key_of n → fields ≡ n.row.fields → row_of labels key fields ≡ n
row-is labels key fields n l k f = rw (l, k, f) refl

-- the labels of each row are those of the stream
pub labels-at : (rows : List Numbered) (head : Outline) (i : ℕ) (n : Numbered) → head ≡ outline_of rows
    → AllByRecursion (λ (m : Numbered). m.row.labels ≡ labels_of rows) rows → slice_get rows i ≡ Some n
    → head.labels ≡ n.row.labels
labels-at rows head i n h stream e =
    ap (λ (o : Outline). o.labels) h
    ∙ sym (all-at (λ (m : Numbered). m.row.labels ≡ labels_of rows) rows i n stream e)

pub all-labels : (rows : List Numbered) (head : Outline) (labels : List Field) → head ≡ outline_of rows
    → labels ≡ head.labels → AllByRecursion (λ (m : Numbered). m.row.labels ≡ labels_of rows) rows
    → All (λ (m : Numbered). m.row.labels ≡ labels) rows
all-labels rows head labels h is stream =
    subst (λ (l : List Field). All (λ (m : Numbered). m.row.labels ≡ l) rows)
    (sym (is ∙ ap (λ (o : Outline). o.labels) h))
    (All-from_recursion (λ (m : Numbered). m.row.labels ≡ labels_of rows) rows stream)

-- ---- rows that are lent

pub row-there : (rows : List Numbered) (i : ℕ) → i < length rows → slice_get rows i ≡ Some (row_at rows i).numbered
row-there rows i lt = slice_get-get_or rows i no_row lt

pub cell-there : (rows : List Numbered) (i c : ℕ) → c < length (names_of rows)
    → cell_at (cells_in (row_at rows i)) c
    ≡ value_named (row_at rows i).numbered.row.fields (get_or (names_of rows) c [])
cell-there rows i c lt = get-map (value_named (row_at rows i).numbered.row.fields) (names_of rows) c [] ([], []) lt

pub cell-count : (rows : List Numbered) (i : ℕ) → length (cells_in (row_at rows i)) ≡ length (names_of rows)
cell-count rows i = length-map (names_of rows) (value_named (row_at rows i).numbered.row.fields)

-- the cells that have a value are the fields
pub cells-valued : (rows : List Numbered) (i : ℕ) → AllByRecursion IsNumbered rows → i < length rows
    → filter has_value (cells_in (row_at rows i)) ≡ (row_at rows i).numbered.row.fields
cells-valued rows i each lt =
    let n : Numbered = (row_at rows i).numbered in
    let there = row-there rows i lt in
    let numbered = all-at IsNumbered rows i n each there in
    let listed = all-at (λ (m : Numbered). AreListed m.row.fields (names_of rows)) rows i n (are-named rows) there in
    valued-again (names_of rows) n.row.fields (names-rising rows) numbered.row.fields.ordered numbered.row.fields.filled
    listed
