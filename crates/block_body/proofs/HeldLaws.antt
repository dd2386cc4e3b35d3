-- What a block holds says its rows.
use Rattle.std.proofs.Common.{◌≡◌, ℕ, zero, suc, ◌+◌, ◌-◌, ◌<◌, ◌^◌, List, [], ◌∷◌, ◌++◌, length, map, take, get_or}
use Rattle.std.proofs.Common.{Some, true, refl, sym, ap, ◌∙◌, arith, slice_get}
use Rattle.std.proofs.lemmas.Bool.{leb-true}
use Rattle.byte_format.proofs.Cases.{both_true}
use Rattle.std.specs.List.{AllByRecursion, list_all}
use Rattle.log_model.specs.History.{Numbered}
use Rattle.block_model.specs.Columns.{Column, columns_of, names_of, values_of}
use Rattle.block_model.specs.Keys.{IsNumbered, keys_of}
use Rattle.block_model.specs.Texts.{is_text_row}
use Rattle.block_model.specs.declared.keys.Key.{Key}
use Rattle.block_format.proofs.LabelLaws.{are-rows, is_short_name, names-short}
use Rattle.block_model.proofs.RowLaws.{AreRows, rows-again}
use Rattle.word_filter.specs.Words.{filter_of}
use Rattle.block_body.specs.Held.{AreFilters, IsHeld, columns_in, rows_in}
use Rattle.block_body.specs.Outline.{NamedFilter, Outline}
use Rattle.block_format.specs.Rows.{labels_of}
use Rattle.block_body.specs.Outlines.{filter_named, first_moment, last_moment, outline_of}
use Rattle.block_format.specs.Rows.{IsBlock}

columns-again : (rows : List Numbered) (names : List (List ℕ))
    → columns_in (map (filter_named rows) names) (map (values_of rows) names)
    ≡ map (λ name. (name, values_of rows name)) names
columns-again rows [] = refl
columns-again rows (name ∷ names) =
    ap (λ (l : List Column). (name, values_of rows name) ∷ l) (columns-again rows names)

-- the outline, the keys and the values of rows say these rows
pub held-again : (rows : List Numbered) → IsBlock rows → AllByRecursion IsNumbered rows
    → rows_in (outline_of rows) (keys_of rows) (map (values_of rows) (names_of rows)) ≡ rows
held-again rows block each =
    rw (columns-again rows (names_of rows)) (rows-again rows (labels_of rows) (are-rows rows each) block.stream)

pub held : (rows : List Numbered) (head : Outline) (keys : List Key) (columns : List (List (List ℕ)))
    → IsBlock rows → AllByRecursion IsNumbered rows → list_all is_text_row rows ≡ true → head ≡ outline_of rows
    → keys ≡ keys_of rows → columns ≡ map (values_of rows) (names_of rows)
    → (rows_in head keys columns ≡ rows) × IsHeld (rows_in head keys columns) head keys columns
held rows head keys columns block each texts h k c =
    let all : rows_in head keys columns ≡ rows = rw (h, k, c) (held-again rows block each) in (
      all,
      rw all (record { block = block; each = each; texts = texts; head_is = h; keys_are = k; columns_are = c }),
    )

-- the columns are those of the rows
pub columns-held : (rows : List Numbered) (head : Outline) (keys : List Key) (columns : List (List (List ℕ)))
    → IsHeld rows head keys columns → columns_in head.columns columns ≡ columns_of rows
columns-held rows head keys columns h = rw (h.head_is, h.columns_are) (columns-again rows (names_of rows))

-- the first row and the last
pub first-is : (rows : List Numbered) (n : Numbered) → 0 < length rows → n ≡ get_or rows 0 n
    → (labels_of rows ≡ n.row.labels) × (first_moment rows ≡ n.row.moment)
first-is [] n some e = absurd (omega (arith, some))
first-is (x ∷ xs) n some e = (ap (λ (y : Numbered). y.row.labels) (sym e), ap (λ (y : Numbered). y.row.moment) (sym e))

pub last-is : (rows : List Numbered) (n : Numbered) → 0 < length rows → n ≡ get_or rows (length rows - 1) n
    → last_moment rows ≡ n.row.moment
last-is [] n some e = absurd (omega (arith, some))
last-is (x ∷ []) n some e = ap (λ (y : Numbered). y.row.moment) (sym e)
last-is (x ∷ y ∷ ys) n some e =
    let back : length (x ∷ y ∷ ys) - 1 ≡ suc (length (y ∷ ys) - 1) = omega arith in
    last-is (y ∷ ys) n (omega arith) (e ∙ ap (λ (k : ℕ). get_or (x ∷ y ∷ ys) k n) back)

-- an element of a list that another one gives
pub get-map : {X Y : Type 0} (f : X → Y) (xs : List X) (i : ℕ) (d : X) (e : Y) → i < length xs
    → get_or (map f xs) i e ≡ f (get_or xs i d)
get-map f [] i d e lt = absurd (omega (arith, lt))
get-map f (x ∷ xs) zero d e lt = refl
get-map f (x ∷ xs) (suc i) d e lt = get-map f xs i d e (omega (arith, lt))

pub some-map : {X Y : Type 0} (f : X → Y) (xs : List X) (i : ℕ) (d : X) → i < length xs
    → slice_get (map f xs) i ≡ Some (f (get_or xs i d))
some-map f [] i d lt = absurd (omega (arith, lt))
some-map f (x ∷ xs) zero d lt = refl
some-map f (x ∷ xs) (suc i) d lt = some-map f xs i d (omega (arith, lt))

-- ---- columns that are written

pub filter-at : (heads : List NamedFilter) (columns : List (List (List ℕ))) (i : ℕ) (d : NamedFilter)
    (e : List (List ℕ)) → length heads ≡ length columns → i < length columns → AreFilters heads columns
    → (length (get_or heads i d).0 < 2 ^ 16) × ((get_or heads i d).1 ≡ filter_of (get_or columns i e))
filter-at [] columns i d e same lt h = absurd (omega (arith, same, lt))
filter-at (head ∷ heads) [] i d e same lt h = absurd (omega (arith, lt))
filter-at (head ∷ heads) (values ∷ columns) zero d e same lt h = (h.0, h.1)
filter-at (head ∷ heads) (values ∷ columns) (suc i) d e same lt h =
    filter-at heads columns i d e (omega (arith, same)) (omega (arith, lt)) h.2

one-column : (heads : List NamedFilter) (columns : List (List (List ℕ))) (i : ℕ) (d : NamedFilter)
    (e : List (List ℕ)) → length heads ≡ length columns → i < length columns
    → columns_in (take (suc i) heads) (take (suc i) columns)
    ≡ columns_in (take i heads) (take i columns) ++ ((get_or heads i d).0, get_or columns i e) ∷ []
one-column [] columns i d e same lt = absurd (omega (arith, same, lt))
one-column (head ∷ heads) [] i d e same lt = absurd (omega (arith, lt))
one-column (head ∷ heads) (values ∷ columns) zero d e same lt = refl
one-column (head ∷ heads) (values ∷ columns) (suc i) d e same lt =
    ap (λ (l : List Column). (head.0, values) ∷ l) (one-column heads columns i d e (omega (arith, same)) (omega
    (arith, lt)))

pub column-more : (heads : List NamedFilter) (columns : List (List (List ℕ))) (i : ℕ) (d : NamedFilter)
    (e : List (List ℕ)) → length heads ≡ length columns → i < length columns
    → columns_in (take (i + 1) heads) (take (i + 1) columns)
    ≡ columns_in (take i heads) (take i columns) ++ ((get_or heads i d).0, get_or columns i e) ∷ []
column-more heads columns i d e same lt =
    let next : i + 1 ≡ suc i = omega arith in
    ap (λ (k : ℕ). columns_in (take k heads) (take k columns)) next ∙ one-column heads columns i d e same lt

-- ---- filters that are written

filters : (rows : List Numbered) (names : List (List ℕ)) → list_all is_short_name names ≡ true
    → AreFilters (map (filter_named rows) names) (map (values_of rows) names)
filters rows [] e = tt
filters rows (name ∷ names) e =
    let p = both_true (is_short_name name) (list_all is_short_name names) e in
    let short = leb-true (length name) 128 p.0 in
    (omega (arith, short), refl, filters rows names p.1)

pub filters-held : (rows : List Numbered) (heads : List NamedFilter) (columns : List (List (List ℕ))) → AreRows rows
    → heads ≡ map (filter_named rows) (names_of rows) → columns ≡ map (values_of rows) (names_of rows)
    → AreFilters heads columns
filters-held rows heads columns h p q = rw (p, q) (filters rows (names_of rows) (names-short rows h))
