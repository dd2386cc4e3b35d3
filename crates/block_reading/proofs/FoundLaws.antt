-- The rows that columns say, where each column has a name of its own and a value in some row.
use Rattle.std.proofs.Common.{◌≡◌, ℕ, zero, suc, ◌+◌, ◌<◌, Bool, true, false, cond}
use Rattle.std.proofs.Common.{List, [], ◌∷◌, length, map, drop, get_or, refl, sym, ap, subst, ◌∙◌}
use Rattle.std.proofs.Common.{arith}
use Rattle.std.specs.Prelude.{◌||◌, bytes_eq}
use Rattle.std.specs.List.{AllByRecursion, flat_map, list_all, list_any}
use Rattle.std.specs.List.Sorted.{IsStrictlySortedBy}
use Rattle.std.specs.Map.{keys_of as names_in_order}
use Rattle.std.proofs.lemmas.Bool.{ltb-true}
use Rattle.std.proofs.lemmas.List.{drop_all, drop_more}
use Rattle.std.proofs.lemmas.List.Concat.{flat_map-cons}
use Rattle.std.proofs.lemmas.List.Folds.{list_any-append}
use Rattle.std.proofs.lemmas.Map.Keys.{sorted_head, sorted_tail}
use Rattle.std.proofs.lemmas.Slice.Eq.{bytes_eq-Decides}
use Rattle.block_model.specs.Distinct.{is_listed}
use Rattle.block_model.proofs.Distinct.{itself, right_true}
use Rattle.block_model.proofs.Rising.{distinct-rising}
use Rattle.block_model.proofs.Same.{distinct-listed, same-rising}
use Rattle.log_model.specs.Field.{Field, bytes_cmp, field_value, is_empty, is_filled, set_all}
use Rattle.log_model.specs.History.{Numbered}
use Rattle.block_model.specs.Columns.{Column, fields_at, names_in, names_of, row_of, rows_from, values_of}
use Rattle.block_model.specs.declared.keys.Key.{Key}
use Rattle.block_model.proofs.FieldLaws.{Above, AreListed, IsRising, no-value, set-again, value_named, values-behind}
use Rattle.block_model.proofs.RowLaws.{none-below}
use Rattle.block_reading.specs.ByColumns.{AreGoodNames, column_names, contents}
use Rattle.block_format.proofs.TestLaws.{both_from}

-- ---- the fields of one row

-- what the columns have at a place, without what is missing
abbrev pub filled_at : ℕ → List Column → List Field
filled_at i [] = []
filled_at i (column ∷ columns) =
    cond (is_empty (get_or column.1 i [])) (filled_at i columns) ((column.0, get_or column.1 i []) ∷ filled_at i columns)

abbrev said_at : ℕ → Column → Field
said_at i column = (column.0, get_or column.1 i [])

above-filled : (x : List ℕ) (i : ℕ) (columns : List Column) → Above x (column_names columns)
    → Above x (names_in_order (filled_at i columns))
above-filled x i [] a = tt
above-filled x i (c ∷ cs) a = by (is_empty (get_or c.1 i [])) (above-filled x i cs a.1)
  where
    by : (b : Bool) → Above x (names_in_order (filled_at i cs))
        → Above x (names_in_order (cond b (filled_at i cs) ((c.0, get_or c.1 i []) ∷ filled_at i cs)))
    by true h = h
    by false h = (a.0, h)

nothing : (text : List ℕ) → is_empty text ≡ true → [] ≡ text
nothing [] e = refl
nothing (x ∷ xs) e = absurd (omega (arith, ltb-true (length (x ∷ xs)) 1 e))

named-again : (i : ℕ) (columns : List Column) → IsRising (column_names columns)
    → map (value_named (filled_at i columns)) (column_names columns) ≡ map (said_at i) columns
named-again i [] s = refl
named-again i (c ∷ cs) s =
    by (is_empty (get_or c.1 i [])) refl (named-again i cs (sorted_tail bytes_cmp c.0 (column_names cs) s))
  where
    above : Above c.0 (column_names cs)
    above = sorted_head bytes_cmp c.0 (column_names cs) s

    value : List ℕ
    value = get_or c.1 i []

    by : (b : Bool) → is_empty (get_or c.1 i []) ≡ b
        → map (value_named (filled_at i cs)) (column_names cs) ≡ map (said_at i) cs
        → map (value_named (cond b (filled_at i cs) ((c.0, get_or c.1 i []) ∷ filled_at i cs))) (c.0 ∷ column_names cs)
        ≡ (c.0, get_or c.1 i []) ∷ map (said_at i) cs
    by true e h =
        let none : field_value (filled_at i cs) c.0 ≡ [] = no-value (filled_at i cs) c.0 (above-filled c.0 i cs above) in
        ap (λ (v : List ℕ). (c.0, v) ∷ map (value_named (filled_at i cs)) (column_names cs)) (none ∙ nothing
        (get_or c.1 i []) e)
        ∙ ap (λ (l : List Field). (c.0, get_or c.1 i []) ∷ l) h
    by false e h =
        let field : Field = (c.0, get_or c.1 i []) in
        let first : value_named ((c.0, get_or c.1 i []) ∷ filled_at i cs) c.0 ≡ (c.0, get_or c.1 i []) =
        (rw (itself c.0) refl) in
        ap (λ (f : Field). f ∷ map (value_named (field ∷ filled_at i cs)) (column_names cs)) first
        ∙ ap (λ (l : List Field). field ∷ l) (values-behind (c.0, get_or c.1 i []) (filled_at i cs) (column_names cs)
        above ∙ h)

pub filled-rising : (i : ℕ) (columns : List Column) → IsRising (column_names columns)
    → IsRising (names_in_order (filled_at i columns))
unfolding IsStrictlySortedBy
filled-rising i [] s = tt
filled-rising i (c ∷ cs) s =
    by (is_empty (get_or c.1 i [])) (filled-rising i cs (sorted_tail bytes_cmp c.0 (column_names cs) s))
  where
    by : (b : Bool) → IsRising (names_in_order (filled_at i cs))
        → IsRising (names_in_order (cond b (filled_at i cs) ((c.0, get_or c.1 i []) ∷ filled_at i cs)))
    by true h = h
    by false h = (above-filled c.0 i cs (sorted_head bytes_cmp c.0 (column_names cs) s), h)

pub filled-filled : (i : ℕ) (columns : List Column) → AreGoodNames columns → list_all is_filled (filled_at i columns) ≡ true
filled-filled i [] g = refl
filled-filled i (c ∷ cs) g = by (is_empty (get_or c.1 i [])) refl (filled-filled i cs g.1)
  where
    by : (b : Bool) → is_empty (get_or c.1 i []) ≡ b → list_all is_filled (filled_at i cs) ≡ true
        → list_all is_filled (cond b (filled_at i cs) ((c.0, get_or c.1 i []) ∷ filled_at i cs)) ≡ true
    by true e h = h
    by false e h = rw (g.0.some, e) h

-- what holds of the names holds of the names of the fields
pub filled-pass : (p : List ℕ → Bool) (i : ℕ) (columns : List Column)
    → AllByRecursion (λ (column : Column). p column.0 ≡ true) columns
    → list_all (λ (field : Field). p field.0) (filled_at i columns) ≡ true
filled-pass p i [] g = refl
filled-pass p i (c ∷ cs) g = by (is_empty (get_or c.1 i [])) (filled-pass p i cs g.1)
  where
    by : (b : Bool) → list_all (λ (field : Field). p field.0) (filled_at i cs) ≡ true
        → list_all (λ (field : Field). p field.0) (cond b (filled_at i cs) ((c.0, get_or c.1 i []) ∷ filled_at i cs))
        ≡ true
    by true h = h
    by false h = both_from (p c.0) (list_all (λ (field : Field). p field.0) (filled_at i cs)) g.0 h

listed-more : (name : List ℕ) (names : List (List ℕ)) (fields : List Field) → AreListed fields names
    → AreListed fields (name ∷ names)
listed-more name names [] h = tt
listed-more name names (f ∷ fs) h =
    (right_true (bytes_eq f.0 name) (list_any (bytes_eq f.0) names) h.0, listed-more name names fs h.1)

pub filled-listed : (i : ℕ) (columns : List Column) → AreListed (filled_at i columns) (column_names columns)
filled-listed i [] = tt
filled-listed i (c ∷ cs) =
    by (is_empty (get_or c.1 i [])) (listed-more c.0 (column_names cs) (filled_at i cs) (filled-listed i cs))
  where
    by : (b : Bool) → AreListed (filled_at i cs) (c.0 ∷ column_names cs)
        → AreListed (cond b (filled_at i cs) ((c.0, get_or c.1 i []) ∷ filled_at i cs)) (c.0 ∷ column_names cs)
    by true h = h
    by false h = ((rw (itself c.0) refl), h)

pub fields-are : (i : ℕ) (columns : List Column) → IsRising (column_names columns) → AreGoodNames columns
    → fields_at columns i ≡ filled_at i columns
fields-are i columns s g =
    ap (set_all []) (sym (named-again i columns s))
    ∙ set-again (column_names columns) [] (filled_at i columns) s (filled-rising i columns s) (filled-filled i columns g)
    (filled-listed i columns) (none-below (column_names columns))

-- ---- the values of the rows

cells-from : (fields : List Field) (i : ℕ) (columns : List Column)
    → map (value_named fields) (column_names columns) ≡ map (said_at i) columns
    → AllByRecursion (λ (column : Column). field_value fields column.0 ≡ get_or column.1 i []) columns
cells-from fields i [] e = tt
cells-from fields i (c ∷ cs) e =
    let pair : value_named fields c.0 ≡ said_at i c = cc in
    let first : field_value fields c.0 ≡ get_or c.1 i [] = ap (λ (f : Field). f.1) pair in
    let rest : map (value_named fields) (column_names cs) ≡ map (said_at i) cs = cc in
    (first, cells-from fields i cs rest)

each-place : (columns all : List Column)
    → ((i : ℕ) → AllByRecursion (λ (column : Column). field_value (fields_at all i) column.0 ≡ get_or column.1 i []) columns)
    → AllByRecursion (λ (column : Column). (i : ℕ) → field_value (fields_at all i) column.0 ≡ get_or column.1 i []) columns
each-place [] all h = tt
each-place (c ∷ cs) all h = (λ i. (h i).0, each-place cs all (λ i. (h i).1))

values-from : (labels : List Field) (columns : List Column) (i : ℕ) (keys : List Key) (name : List ℕ)
    (values : List (List ℕ)) → ((j : ℕ) → field_value (fields_at columns j) name ≡ get_or values j [])
    → i + length keys ≡ length values → values_of (rows_from labels columns i keys) name ≡ drop i values
values-from labels columns i [] name values each e = sym (drop_all i values (omega (arith, e)))
values-from labels columns i (key ∷ keys) name values each e =
    let next : suc i ≡ i + 1 = omega arith in
    ap (λ (v : List ℕ). v ∷ values_of (rows_from labels columns (suc i) keys) name) (each i)
    ∙ ap (λ (l : List (List ℕ)). get_or values i [] ∷ l) (values-from labels columns (suc i) keys name values each (omega
    (arith, e)))
    ∙ ap (λ (k : ℕ). get_or values i [] ∷ drop k values) next
    ∙ sym (drop_more values i [] (omega (arith, e)))

abbrev pub HaveLength : ℕ → List Column → Type 0
HaveLength n columns = AllByRecursion (λ (column : Column). length column.1 ≡ n) columns

all-values : (labels : List Field) (all : List Column) (keys : List Key) (columns : List Column)
    → AllByRecursion (λ (column : Column). (i : ℕ) → field_value (fields_at all i) column.0 ≡ get_or column.1 i []) columns
    → HaveLength (length keys) columns
    → map (values_of (rows_from labels all 0 keys)) (column_names columns) ≡ contents columns
all-values labels all keys [] h n = refl
all-values labels all keys (c ∷ cs) h n =
    let one : values_of (rows_from labels all 0 keys) c.0 ≡ c.1 = values-from labels all 0 keys c.0 c.1 h.0 (omega
    (arith, n.0)) in
    ap (λ (v : List (List ℕ)). v ∷ map (values_of (rows_from labels all 0 keys)) (column_names cs)) one
    ∙ ap (λ (l : List (List (List ℕ))). c.1 ∷ l) (all-values labels all keys cs h.1 n.1)

pub values-are : (labels : List Field) (columns : List Column) (keys : List Key) → IsRising (column_names columns)
    → AreGoodNames columns → HaveLength (length keys) columns
    → map (values_of (rows_from labels columns 0 keys)) (column_names columns) ≡ contents columns
values-are labels columns keys s g n =
    all-values labels columns keys columns (each-place columns columns (λ i. cells-from (fields_at columns i) i columns
    (ap (λ (l : List Field). map (value_named l) (column_names columns)) (fields-are i columns s g)
    ∙ named-again i columns s))) n

-- ---- the names of the rows

names-along : (fields : List Field) (names : List (List ℕ)) (text : List ℕ) → AreListed fields names
    → is_listed (names_in fields) text ≡ true → is_listed names text ≡ true
names-along [] names text l e = absurd cc
names-along (f ∷ fs) names text l e = by (bytes_eq text f.0) refl e (names-along fs names text l.1)
  where
    by : (b : Bool) → bytes_eq text f.0 ≡ b → (b || is_listed (names_in fs) text) ≡ true
        → (is_listed (names_in fs) text ≡ true → is_listed names text ≡ true) → is_listed names text ≡ true
    by true same h later = ap (is_listed names) ((bytes_eq-Decides text f.0).0 same) ∙ l.0
    by false same h later = later h

abbrev all_names : List Numbered → List (List ℕ)
all_names rows = flat_map (λ numbered. names_in numbered.row.fields) rows

first-names : (n : Numbered) (rows : List Numbered) (text : List ℕ)
    → is_listed (all_names (n ∷ rows)) text ≡ (is_listed (names_in n.row.fields) text || is_listed (all_names rows) text)
first-names n rows text =
    ap (λ (l : List (List ℕ)). is_listed l text) (flat_map-cons (λ (m : Numbered). names_in m.row.fields) n rows)
    ∙ list_any-append (bytes_eq text) (names_in n.row.fields) (all_names rows)

names-only : (labels : List Field) (columns : List Column) (i : ℕ) (keys : List Key) (text : List ℕ)
    → ((j : ℕ) → AreListed (fields_at columns j) (column_names columns))
    → is_listed (all_names (rows_from labels columns i keys)) text ≡ true → is_listed (column_names columns) text ≡ true
names-only labels columns i [] text l e = absurd cc
names-only labels columns i (key ∷ keys) text l e =
    by (is_listed (names_in (fields_at columns i)) text) refl (sym (first-names (row_of labels key (fields_at columns i))
    (rows_from labels columns (suc i) keys) text) ∙ e) (names-only labels columns (suc i) keys text l)
  where
    by : (b : Bool) → is_listed (names_in (fields_at columns i)) text ≡ b
        → (b || is_listed (all_names (rows_from labels columns (suc i) keys)) text) ≡ true
        → (is_listed (all_names (rows_from labels columns (suc i) keys)) text ≡ true
        → is_listed (column_names columns) text ≡ true) → is_listed (column_names columns) text ≡ true
    by true here h later = names-along (fields_at columns i) (column_names columns) text (l i) here
    by false here h later = later h

left_true : (a b : Bool) → a ≡ true → (a || b) ≡ true
left_true true b e = refl
left_true false b e = absurd cc

names-at : (labels : List Field) (columns : List Column) (i : ℕ) (keys : List Key) (text : List ℕ) (j : ℕ)
    → j < length keys → is_listed (names_in (fields_at columns (i + j))) text ≡ true
    → is_listed (all_names (rows_from labels columns i keys)) text ≡ true
names-at labels columns i [] text j lt e = absurd (omega (arith, lt))
names-at labels columns i (key ∷ keys) text zero lt e =
    let here : i + 0 ≡ i = omega arith in
    first-names (row_of labels key (fields_at columns i)) (rows_from labels columns (suc i) keys) text
    ∙ left_true (is_listed (names_in (fields_at columns i)) text) (is_listed (all_names (rows_from labels columns (suc i)
    keys)) text) (ap (λ (k : ℕ). is_listed (names_in (fields_at columns k)) text) (sym here) ∙ e)
names-at labels columns i (key ∷ keys) text (suc j) lt e =
    let next : suc i + j ≡ i + suc j = omega arith in
    first-names (row_of labels key (fields_at columns i)) (rows_from labels columns (suc i) keys) text
    ∙ right_true (is_listed (names_in (fields_at columns i)) text) (is_listed (all_names (rows_from labels columns (suc i)
    keys)) text) (names-at labels columns (suc i) keys text j (omega (arith, lt)) (ap (λ (k : ℕ). is_listed (names_in
    (fields_at columns k)) text) next ∙ e))

-- a value that is there, among this many
abbrev pub HasSome : ℕ → Column → Type 0
HasSome n column = (j : ℕ) × (j < n) × (is_empty (get_or column.1 j []) ≡ false)

abbrev Names : ℕ → List Column → List ℕ → Type 0
Names n columns text = (j : ℕ) × (j < n) × (is_listed (names_in (filled_at j columns)) text ≡ true)

names-first : (c : Column) (cs : List Column) (text : List ℕ) (j : ℕ) → bytes_eq text c.0 ≡ true
    → is_empty (get_or c.1 j []) ≡ false → is_listed (names_in (filled_at j (c ∷ cs))) text ≡ true
names-first c cs text j same some = rw (some, same) refl

names-behind : (c : Column) (cs : List Column) (text : List ℕ) (j : ℕ)
    → is_listed (names_in (filled_at j cs)) text ≡ true → is_listed (names_in (filled_at j (c ∷ cs))) text ≡ true
names-behind c cs text j e = by (is_empty (get_or c.1 j []))
  where
    by : (b : Bool) → is_listed (names_in (cond b (filled_at j cs) ((c.0, get_or c.1 j []) ∷ filled_at j cs))) text ≡ true
    by true = e
    by false = right_true (bytes_eq text c.0) (is_listed (names_in (filled_at j cs)) text) e

names-found : (n : ℕ) (columns : List Column) (text : List ℕ) → AllByRecursion (HasSome n) columns
    → is_listed (column_names columns) text ≡ true → Names n columns text
names-found n [] text h e = absurd cc
names-found n (c ∷ cs) text h e = by (bytes_eq text c.0) refl e (names-found n cs text h.1)
  where
    by : (b : Bool) → bytes_eq text c.0 ≡ b → (b || is_listed (column_names cs) text) ≡ true
        → (is_listed (column_names cs) text ≡ true → Names n cs text) → Names n (c ∷ cs) text
    by true same k later = (h.0.0, h.0.1, names-first c cs text h.0.0 same h.0.2)
    by false same k later =
        let found = later k in
        (found.0, found.1, names-behind c cs text found.0 found.2)

same-test : (a b : Bool) → (a ≡ true → b ≡ true) → (b ≡ true → a ≡ true) → a ≡ b
same-test true b f g = sym (f refl)
same-test false true f g = g refl
same-test false false f g = refl

pub names-are : (labels : List Field) (columns : List Column) (keys : List Key) → IsRising (column_names columns)
    → AreGoodNames columns → AllByRecursion (HasSome (length keys)) columns
    → names_of (rows_from labels columns 0 keys) ≡ column_names columns
names-are labels columns keys s g some =
    let rows : List Numbered = rows_from labels columns 0 keys in
    let listed : (j : ℕ) → AreListed (fields_at columns j) (column_names columns) =
    λ j. subst (λ (l : List Field). AreListed l (column_names columns)) (sym (fields-are j columns s g)) (filled-listed j
    columns) in
    same-rising (names_of rows) (column_names columns) (distinct-rising (all_names rows)) s (λ text.
    distinct-listed text (all_names rows)
    ∙ same-test (is_listed (all_names rows) text) (is_listed (column_names columns) text) (names-only labels columns 0 keys
    text listed) (λ e.
    let found = names-found (length keys) columns text some e in
    let from_start : 0 + found.0 ≡ found.0 = omega arith in
    names-at labels columns 0 keys text found.0 found.1 (ap (λ (k : ℕ). is_listed (names_in (fields_at columns k)) text)
    from_start ∙ ap (λ (l : List Field). is_listed (names_in l) text) (fields-are
    found.0 columns s g) ∙ found.2)))
