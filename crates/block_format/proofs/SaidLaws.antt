-- The rows that the items of a block say, one after another.
use Rattle.std.proofs.Common.{◌≡◌, ℕ, ℤ, zero, suc, pos, negsuc, ◌+◌, ◌<◌, ◌≤◌, ◌≤ℤ◌, inl, inr, Bool, true, false}
use Rattle.std.proofs.Common.{cond, eqb, List}
use Rattle.std.proofs.Common.{[], ◌∷◌, ◌++◌, length, map, take, get_or, filter, None, Some, refl, sym, ap}
use Rattle.std.proofs.Common.{◌∙◌, arith, slice_get}
use Rattle.std.specs.Prelude.{◌||◌, bytes_eq, not, int_lt}
use Rattle.std.specs.Ordering.{match_ordering}
use Rattle.std.specs.BTreeMap.{insert_entry}
use Rattle.std.specs.declared.cmp.Ordering.{Ordering}
use Rattle.std.specs.declared.cmp.Ordering.TheVariants.{Less, Equal, Greater}
use Rattle.std.specs.List.{list_all}
use Rattle.std.proofs.lemmas.Bool.{cases_Bool, eqb-true, lt-ltb}
use Rattle.std.proofs.lemmas.Int.{ints}
use Rattle.std.proofs.lemmas.List.{map-append, map_more, take_more}
use Rattle.std.proofs.lemmas.List.Folds.{list_all_at, list_all_more}
use Rattle.std.proofs.lemmas.List.Sums.{fold_push}
use Rattle.std.proofs.lemmas.Option.{slice_get-get_or}
use Rattle.std.proofs.lemmas.Slice.Eq.{bytes_eq-Decides}
use Rattle.byte_format.proofs.Cases.{both_true, some_is}
use Rattle.block_format.specs.Columns.{LentColumn, lent_column}
use Rattle.block_format.specs.Found.{Found}
use Rattle.log_model.specs.Field.{Field, bytes_cmp, is_empty, is_filled, is_reserved, set_all, set_field}
use Rattle.log_model.specs.History.{Numbered}
use Rattle.block_model.specs.Columns.{Column, fields_at, names_in, row_of, rows_from}
use Rattle.block_model.specs.declared.keys.Key.{Key}
use Rattle.block_model.proofs.Distinct.{right_true}
use Rattle.block_model.proofs.FieldLaws.{filled-value}
use Rattle.block_model.proofs.RowLaws.{row-labels-again, stored-again}
use Rattle.log_model.specs.Row.{IsRow, Row}
use Rattle.vl_row.specs.Faults.{labels_of, stored}
use Rattle.vl_row.specs.Names.{is_among}
use Rattle.block_format.specs.Reading.{are_said, has_name, has_spelling, in_order, is_named, is_numbered, is_row}
use Rattle.block_format.specs.Reading.{rows_found, rows_said}
use Rattle.block_format.proofs.OrderLaws.{all-in-order, length-in-order}
use Rattle.block_format.proofs.TestLaws.{both_from, not-all, not-block, not-numbered, row-refused}

-- ---- fields that are set

put-longer : (fields : List Field) (name value : List ℕ)
    → length fields ≤ length (insert_entry bytes_cmp fields name value)
put-longer [] name value = omega arith
put-longer (f ∷ fs) name value = by (bytes_cmp name f.0) (put-longer fs name value)
  where
    by : (o : Ordering) → length fs ≤ length (insert_entry bytes_cmp fs name value)
        → length (f ∷ fs)
        ≤ length (match_ordering o ((name, value) ∷ f ∷ fs) ((f.0, value) ∷ fs) (f ∷ insert_entry bytes_cmp fs name
        value))
    by Less h = omega arith
    by Equal h = omega arith
    by Greater h = omega (arith, h)

set-longer : (fields : List Field) (name value : List ℕ) → not (is_empty name || is_empty value) ≡ true
    → length fields ≤ length (set_field fields name value)
set-longer fields name [] e = absurd (omega (arith, filled-value (name, []) e))
set-longer fields name (b ∷ bs) e = put-longer fields name (b ∷ bs)

-- Fields that are set one after another grow in number.
pub more-set : (acc more : List Field) (k : ℕ) → list_all is_filled more ≡ true
    → length (set_all acc (take k more)) ≤ length (set_all acc more)
more-set acc [] zero e = omega arith
more-set acc [] (suc k) e = omega arith
more-set acc (f ∷ fs) zero e =
    let p = both_true (is_filled f) (list_all is_filled fs) e in
    omega (
      arith,
      set-longer acc f.0 f.1 p.0,
      more-set (set_field acc f.0 f.1) fs zero p.1,
    )
more-set acc (f ∷ fs) (suc k) e =
    let p = both_true (is_filled f) (list_all is_filled fs) e in
    more-set (set_field acc f.0 f.1) fs k p.1

pub label-more : (labels : List Field) (i : ℕ) (label : Field) (name value : List ℕ) (said new : List Field)
    → i < length labels → label ≡ get_or labels i label → name ≡ label.0 → value ≡ label.1
    → said ≡ set_all [] (take i labels) → new ≡ set_field said name value → new ≡ set_all [] (take (i + 1) labels)
label-more labels i label name value said new lt is n v so_far set =
    let field = λ (old : List Field) (f : Field). set_field old f.0 f.1 in
    set ∙ ap (λ (k : List ℕ). set_field said k value) n ∙ ap (set_field said label.0) v
    ∙ ap (λ (old : List Field). set_field old label.0 label.1) so_far
    ∙ ap (λ (f : Field). set_field (set_all [] (take i labels)) f.0 f.1) is
    ∙ sym (fold_push field [] (take i labels) (get_or labels i label))
    ∙ ap (set_all []) (sym (take_more labels i label lt))

abbrev said_at : ℕ → Column → Field
said_at i column = (column.0, get_or column.1 i [])

pub said-push : (columns : List Column) (column : Column) (i : ℕ)
    → fields_at (columns ++ column ∷ []) i ≡ set_field (fields_at columns i) column.0 (get_or column.1 i [])
said-push columns column i =
    ap (set_all []) (map-append (said_at i) columns (column ∷ []))
    ∙ fold_push (λ (old : List Field) (f : Field). set_field old f.0 f.1) [] (map (said_at i) columns)
    (said_at i column)

value-of : (values : List (List ℕ)) (i : ℕ) (text : List ℕ) → slice_get values i ≡ Some text
    → get_or values i [] ≡ text
value-of [] zero text e = absurd (let none : None ≡ Some text = e in cc)
value-of [] (suc i) text e = absurd (let none : None ≡ Some text = e in cc)
value-of (v ∷ vs) zero text e = some_is v text e
value-of (v ∷ vs) (suc i) text e = value-of vs i text e

-- one column more
pub set-more : (columns : List LentColumn) (k i : ℕ) (c : LentColumn) (text : List ℕ) (fields new : List Field)
    → k < length columns → c ≡ get_or columns k c → slice_get c.1.now i ≡ Some text
    → fields ≡ fields_at (map lent_column (take k columns)) i → new ≡ set_field fields c.0.now text
    → new ≡ fields_at (map lent_column (take (k + 1) columns)) i
set-more columns k i c text fields new lt is there so_far set =
    set ∙ ap (λ (l : List Field). set_field l c.0.now text) so_far
    ∙ ap (set_field (fields_at (map lent_column (take k columns)) i) c.0.now) (sym (value-of c.1.now i text there))
    ∙ ap (λ (d : LentColumn). set_field (fields_at (map lent_column (take k columns)) i) d.0.now (get_or d.1.now i []))
    is
    ∙ sym (said-push (map lent_column (take k columns)) (lent_column (get_or columns k c)) i)
    ∙ ap (λ (l : List Column). fields_at l i) (sym (map_more lent_column columns k c lt))

pub value-is : (values : List (List ℕ)) (i : ℕ) (text : List ℕ) → i < length values
    → slice_get values i ≡ Some text → get_or values i [] ≡ text
value-is values i text lt e = some_is (get_or values i []) text (sym (slice_get-get_or values i [] lt) ∙ e)

-- ---- rows of keys

more-from : (labels : List Field) (columns : List Column) (keys : List Key) (j i : ℕ) (d : Key) → i < length keys
    → rows_from labels columns j (take (suc i) keys)
    ≡ rows_from labels columns j (take i keys) ++ row_of labels (get_or keys i d) (fields_at columns (j + i)) ∷ []
more-from labels columns [] j i d lt = absurd (omega (arith, lt))
more-from labels columns (key ∷ keys) j zero d lt =
    let here : j + 0 ≡ j = omega arith in
    ap (λ (k : ℕ). row_of labels key (fields_at columns k) ∷ []) (sym here)
more-from labels columns (key ∷ keys) j (suc i) d lt =
    let row : Numbered = row_of labels key (fields_at columns j) in
    let next : suc j + i ≡ j + suc i = omega arith in
    ap (λ (l : List Numbered). row ∷ l) (more-from labels columns keys (suc j) i d (omega (arith, lt)))
    ∙ ap (λ (k : ℕ). (row ∷ rows_from labels columns (suc j) (take i keys)) ++ row_of labels (get_or keys i d)
    (fields_at columns k) ∷ []) next

pub rows-more : (labels : List Field) (columns : List Column) (keys : List Key) (i : ℕ) (d : Key) → i < length keys
    → rows_from labels columns 0 (take (i + 1) keys)
    ≡ rows_from labels columns 0 (take i keys) ++ row_of labels (get_or keys i d) (fields_at columns i) ∷ []
rows-more labels columns keys i d lt =
    let next : i + 1 ≡ suc i = omega arith in
    let here : 0 + i ≡ i = omega arith in
    ap (λ (k : ℕ). rows_from labels columns 0 (take k keys)) next ∙ more-from labels columns keys 0 i d lt
    ∙ ap (λ (k : ℕ). rows_from labels columns 0 (take i keys) ++ row_of labels (get_or keys i d) (fields_at columns k)
    ∷ []) here

at-from : (labels : List Field) (columns : List Column) (keys : List Key) (j i : ℕ) (d : Key) (n : Numbered)
    → i < length keys
    → get_or (rows_from labels columns j keys) i n ≡ row_of labels (get_or keys i d) (fields_at columns (j + i))
at-from labels columns [] j i d n lt = absurd (omega (arith, lt))
at-from labels columns (key ∷ keys) j zero d n lt =
    let here : j + 0 ≡ j = omega arith in
    ap (λ (k : ℕ). row_of labels key (fields_at columns k)) (sym here)
at-from labels columns (key ∷ keys) j (suc i) d n lt =
    let next : suc j + i ≡ j + suc i = omega arith in
    at-from labels columns keys (suc j) i d n (omega (arith, lt))
    ∙ ap (λ (k : ℕ). row_of labels (get_or keys i d) (fields_at columns k)) next

pub row-at : (labels : List Field) (columns : List Column) (keys : List Key) (i : ℕ) (d : Key) (n : Numbered)
    → i < length keys
    → get_or (rows_from labels columns 0 keys) i n ≡ row_of labels (get_or keys i d) (fields_at columns i)
row-at labels columns keys i d n lt =
    let here : 0 + i ≡ i = omega arith in
    at-from labels columns keys 0 i d n lt ∙ ap (λ (k : ℕ). row_of labels (get_or keys i d) (fields_at columns k)) here

length-from : (labels : List Field) (columns : List Column) (j : ℕ) (keys : List Key)
    → length (rows_from labels columns j keys) ≡ length keys
length-from labels columns j [] = refl
length-from labels columns j (key ∷ keys) = omega (arith, length-from labels columns (suc j) keys)

pub rows-length : (labels : List Field) (columns : List Column) (keys : List Key)
    → length (rows_from labels columns 0 keys) ≡ length keys
rows-length labels columns keys = length-from labels columns 0 keys

-- ---- rows of which one is none

pub nameless : (name : List ℕ) (values : List (List ℕ)) → eqb (length name) 0 ≡ true → has_name (name, values) ≡ false
nameless name values e = ap not (lt-ltb (length name) 1 (omega (arith, eqb-true (length name) 0 e)))

pub unnamed : (column : Column) (i : ℕ) (text : List ℕ) → has_name column ≡ false → i < length column.1
    → slice_get column.1 i ≡ Some text → is_empty text ≡ false → is_named column ≡ false
unnamed column i text e lt there some =
    rw e (list_all_at is_empty column.1 i [] lt (ap is_empty (value-is column.1 i text lt there) ∙ some))

same-empty : (value : List ℕ) → bytes_eq [] value ≡ true → is_empty value ≡ true
same-empty value e = ap is_empty (sym ((bytes_eq-Decides [] value).0 e))

all-empty : (values : List (List ℕ)) → list_all (bytes_eq []) values ≡ true → list_all is_empty values ≡ true
all-empty [] e = refl
all-empty (v ∷ vs) e =
    let p = both_true (bytes_eq [] v) (list_all (bytes_eq []) vs) e in
    both_from (is_empty v) (list_all is_empty vs) (same-empty v p.0) (all-empty vs p.1)

pub without-values : (column : Column) → list_all (bytes_eq []) column.1 ≡ true → is_named column ≡ true
without-values column e = right_true (has_name column) (list_all is_empty column.1) (all-empty column.1 e)

pub empty-more : (values : List (List ℕ)) (i : ℕ) (text : List ℕ) → i < length values
    → slice_get values i ≡ Some text → list_all is_empty (take i values) ≡ true → is_empty text ≡ true
    → list_all is_empty (take (i + 1) values) ≡ true
empty-more values i text lt there all one =
    list_all_more is_empty values i [] lt ∙ both_from (list_all is_empty (take i values)) (is_empty
    (get_or values i [])) all (ap is_empty (value-is values i text lt there) ∙ one)

pub late : (time : ℤ) → not (int_lt time (pos 0)) ≡ true → pos 0 ≤ℤ time
late (pos n) h = omega (arith, ints)
late (negsuc n) h = absurd (let e : false ≡ true = h in cc)

shorter : (p : Field → Bool) (fields : List Field) → length (filter p fields) ≤ length fields
shorter p [] = omega arith
shorter p (f ∷ fs) = by (p f) (shorter p fs)
  where
    by : (b : Bool) → length (filter p fs) ≤ length fs
        → length (cond b (f ∷ filter p fs) (filter p fs)) ≤ length (f ∷ fs)
    by true h = omega (arith, h)
    by false h = omega (arith, h)

-- where none is left out, all are there
kept-all : (p : Field → Bool) (fields : List Field) → length (filter p fields) ≡ length fields
    → filter p fields ≡ fields
kept-all p [] e = refl
kept-all p (f ∷ fs) e = by (p f) refl e (kept-all p fs)
  where
    by : (b : Bool) → p f ≡ b → length (cond b (f ∷ filter p fs) (filter p fs)) ≡ length (f ∷ fs)
        → (length (filter p fs) ≡ length fs → filter p fs ≡ fs)
        → cond b (f ∷ filter p fs) (filter p fs) ≡ f ∷ fs
    by true q h later = ap (λ (l : List Field). f ∷ l) (later (omega (arith, h)))
    by false q h later = absurd (omega (arith, h, shorter p fs))

pub stored-all : (fields : List Field) → length (stored fields) ≡ length fields → stored fields ≡ fields
stored-all fields e = kept-all (λ (field : Field). not (is_reserved field.0)) fields e

pub labels-all : (names : List (List ℕ)) (fields : List Field) → length fields ≤ length (labels_of names fields)
    → labels_of names fields ≡ fields
labels-all names fields le =
    let listed = λ (field : Field). is_among names field.0 in
    let some = shorter listed (stored fields) in
    let free = shorter (λ (field : Field). not (is_reserved field.0)) fields in
    let all : stored fields ≡ fields = stored-all fields (omega (arith, le, some, free)) in
    let same : labels_of names fields ≡ filter listed fields = ap (filter listed) all in
    same ∙ kept-all listed fields (omega (arith, le, ap length same, shorter listed fields))

-- only what is among the names matters
pub labels-among : (names others : List (List ℕ)) (fields : List Field)
    → ((name : List ℕ) → is_among names name ≡ is_among others name)
    → labels_of names fields ≡ labels_of others fields
labels-among names others fields same = by (stored fields)
  where
    by : (fs : List Field) → filter (λ (field : Field). is_among names field.0) fs
        ≡ filter (λ (field : Field). is_among others field.0) fs
    by [] = refl
    by (f ∷ fs) = rw (same f.0) (ap (λ (l : List Field). cond (is_among others f.0) (f ∷ l) l) (by fs))

labels-few : (row : Row) → IsRow row → length row.labels ≤ 1000
labels-few row h =
    let listed = λ (field : Field). is_among (names_in row.labels) field.0 in
    omega (
      arith,
      ap length (row-labels-again row h),
      shorter listed (stored row.fields),
      ap length (stored-again row h),
      h.few,
    )

-- A row has no more labels than fields.
wide-stream : (labels : List Field) (columns : List Column) (keys : List Key) → 0 < length keys
    → 1000 < length labels → list_all is_numbered (rows_from labels columns 0 keys) ≡ false
wide-stream labels columns [] some wide = absurd (omega (arith, some))
wide-stream labels columns (key ∷ keys) some wide =
    let row : Numbered = row_of labels key (fields_at columns 0) in
    let none : is_numbered (row_of labels key (fields_at columns 0)) ≡ false =
    not-numbered row (row-refused row.row (λ r. omega (arith, labels-few row.row r, wide))) in
    rw none refl

-- Columns that say the same fields say the same rows.
rows-alike : (labels : List Field) (columns others : List Column) (i : ℕ) (keys : List Key)
    → ((j : ℕ) → fields_at columns j ≡ fields_at others j)
    → rows_from labels columns i keys ≡ rows_from labels others i keys
rows-alike labels columns others i [] same = refl
rows-alike labels columns others i (key ∷ keys) same =
    ap (λ (fields : List Field). row_of labels key fields ∷ rows_from labels columns (suc i) keys) (same i)
    ∙ ap (λ (l : List Numbered). row_of labels key (fields_at others i) ∷ l) (rows-alike labels columns others (suc i)
    keys same)

-- ---- statements about all rows

pub unsaid : (found : Found) → are_said found ≡ false → has_spelling (rows_said found) ≡ false
unsaid found e = rw e (not-block [] (λ b. absurd (omega (arith, b.some))))

pub no-rows : (found : Found) → length found.keys ≡ 0 → has_spelling (rows_said found) ≡ false
no-rows found none =
    elim (cases_Bool (are_said found)) [
      | inl e ↦ rw e (not-block (in_order (rows_found found)) (λ b. omega (
        arith,
        b.some,
        length-in-order (rows_found found),
        rows-length (set_all [] found.labels) (filter has_name found.columns) found.keys,
        none,
      )))
      | inr e ↦ unsaid found e
    ]

pub too-many : (found : Found) → 4096 < length found.keys → has_spelling (rows_said found) ≡ false
too-many found lt =
    elim (cases_Bool (are_said found)) [
      | inl e ↦ rw e (not-block (in_order (rows_found found)) (λ b. omega (
        arith,
        b.few,
        length-in-order (rows_found found),
        rows-length (set_all [] found.labels) (filter has_name found.columns) found.keys,
        lt,
      )))
      | inr e ↦ unsaid found e
    ]

one-none : (found : Found) (labels : List Field) → are_said found ≡ true → labels ≡ set_all [] found.labels
    → list_all is_numbered (rows_from labels (filter has_name found.columns) 0 found.keys) ≡ false
    → has_spelling (rows_said found) ≡ false
one-none found labels e l none =
    let all : list_all is_numbered (rows_found found) ≡ false =
    ap (λ (k : List Field). list_all is_numbered (rows_from k (filter has_name found.columns) 0 found.keys)) (sym l)
    ∙ none in
    rw e (not-all (in_order (rows_found found)) (all-in-order is_numbered (rows_found found) ∙ all))

-- no stream has so many labels
pub not-few : (found : Found) → are_said found ≡ true → 0 < length found.keys
    → 1000 < length (set_all [] found.labels) → has_spelling (rows_said found) ≡ false
not-few found e some wide =
    one-none found (set_all [] found.labels) e refl (wide-stream (set_all [] found.labels) (filter has_name
    found.columns) found.keys some wide)

all-said : (found : Found) (labels : List Field) (rows sorted : List Numbered) → are_said found ≡ true
    → labels ≡ set_all [] found.labels → rows ≡ rows_from labels (filter has_name found.columns) 0 found.keys
    → sorted ≡ in_order rows → sorted ≡ rows_said found
all-said found labels rows sorted e l r s =
    let all : rows ≡ rows_found found =
    r ∙ ap (λ (k : List Field). rows_from k (filter has_name found.columns) 0 found.keys) l in
    let said : in_order (rows_found found) ≡ rows_said found = rw e refl in
    s ∙ ap in_order all ∙ said

-- the same by columns that say the same fields
pub said-none : (found : Found) (labels : List Field) (columns : List Column) → are_said found ≡ true
    → labels ≡ set_all [] found.labels
    → ((i : ℕ) → fields_at columns i ≡ fields_at (filter has_name found.columns) i)
    → list_all is_numbered (rows_from labels columns 0 found.keys) ≡ false → has_spelling (rows_said found) ≡ false
said-none found labels columns e l same none =
    one-none found labels e l (ap (list_all is_numbered) (sym (rows-alike labels columns (filter has_name
    found.columns) 0 found.keys same)) ∙ none)

pub said-rows : (found : Found) (labels : List Field) (columns : List Column) (rows sorted : List Numbered)
    → are_said found ≡ true → labels ≡ set_all [] found.labels
    → ((i : ℕ) → fields_at columns i ≡ fields_at (filter has_name found.columns) i)
    → rows ≡ rows_from labels columns 0 found.keys → sorted ≡ in_order rows → sorted ≡ rows_said found
said-rows found labels columns rows sorted e l same r s =
    all-said found labels rows sorted e l (r ∙ rows-alike labels columns (filter has_name found.columns) 0 found.keys
    same) s

-- one row more
pub found-none : (labels : List Field) (columns : List Column) (keys : List Key) (i : ℕ) (d : Key)
    → i < length keys → is_row (row_of labels (get_or keys i d) (fields_at columns i)).row ≡ false
    → list_all is_numbered (rows_from labels columns 0 keys) ≡ false
found-none labels columns keys i d lt none =
    let row : Numbered = row_of labels (get_or keys i d) (fields_at columns i) in
    list_all_at is_numbered (rows_from labels columns 0 keys) i row (omega (arith, rows-length labels columns keys, lt))
    (ap is_numbered (row-at labels columns keys i d row lt)
    ∙ not-numbered (row_of labels (get_or keys i d) (fields_at columns i)) none)

pub found-more : (labels : List Field) (columns : List Column) (keys : List Key) (i : ℕ) (d : Key)
    (fields : List Field) (rows new : List Numbered) (row : Numbered) → i < length keys
    → fields ≡ fields_at columns i → rows ≡ rows_from labels columns 0 (take i keys)
    → row ≡ row_of labels (get_or keys i d) fields → new ≡ rows ++ row ∷ []
    → new ≡ rows_from labels columns 0 (take (i + 1) keys)
found-more labels columns keys i d fields rows new row lt f so_far r n =
    let here : row ≡ row_of labels (get_or keys i d) (fields_at columns i) =
    r ∙ ap (row_of labels (get_or keys i d)) f in
    n ∙ ap (λ (l : List Numbered). l ++ row ∷ []) so_far
    ∙ ap (λ (x : Numbered). rows_from labels columns 0 (take i keys) ++ x ∷ []) here
    ∙ sym (rows-more labels columns keys i d lt)
