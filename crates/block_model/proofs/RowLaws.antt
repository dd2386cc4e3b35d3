-- A row is made of its labels, its key and its fields, and rows are made of their columns.
use Rattle.std.proofs.Common.{◌≡◌, ℕ, zero, suc, ◌+◌, ◌<◌, drop, Bool, true, List, [], ◌∷◌, length, filter, map, take}
use Rattle.std.proofs.Common.{get_or, refl, sym, ap, ◌∙◌}
use Rattle.std.specs.Prelude.{not}
use Rattle.std.specs.BTreeSet.{insert_key}
use Rattle.std.specs.List.{AllByRecursion, fold, list_all}
use Rattle.std.proofs.lemmas.List.{map_more}
use Rattle.std.proofs.lemmas.List.Sums.{fold_push}
use Rattle.block_model.proofs.Distinct.{map-put}
use Rattle.byte_format.proofs.Cases.{both_true}
use Rattle.log_model.specs.Field.{Field, bytes_cmp, field_value, is_reserved, set_all}
use Rattle.log_model.specs.History.{Numbered}
use Rattle.log_model.specs.Row.{IsRow, Row, has_field}
use Rattle.vl_row.specs.Faults.{labels_of, stored}
use Rattle.vl_row.specs.Names.{is_among}
use Rattle.block_model.specs.Columns.{Column, columns_of, fields_at, names_in, names_of, put_names, rows_from, values_of}
use Rattle.block_model.specs.Keys.{keys_of}
use Rattle.block_model.proofs.FieldLaws.{AreFields, AreListed, labels-again, set-again, value_named}
use Rattle.block_model.proofs.NameLaws.{AreNamed, are-named, names-rising}
use Rattle.vl_row.specs.Place.{AllBelow}

filter-all : {X : Type 0} (p : X → Bool) (xs : List X) → list_all p xs ≡ true → filter p xs ≡ xs
filter-all p [] e = refl
filter-all p (x ∷ xs) e =
    let both = both_true (p x) (list_all p xs) e in
    rw both.0 (ap (λ l. x ∷ l) (filter-all p xs both.1))

-- no field of a row is left out
pub stored-again : (row : Row) → IsRow row → stored row.fields ≡ row.fields
stored-again row h = filter-all (λ (field : Field). not (is_reserved field.0)) row.fields h.unreserved

are-fields : (fields labels : List Field) → list_all (has_field fields) labels ≡ true → AreFields fields labels
are-fields fields [] e = tt
are-fields fields (l ∷ ls) e =
    let both = both_true (has_field fields l) (list_all (has_field fields) ls) e in
    (both.0, are-fields fields ls both.1)

-- the labels are the fields that have their names
pub row-labels-again : (row : Row) → IsRow row → labels_of (names_in row.labels) row.fields ≡ row.labels
row-labels-again row h =
    ap (filter (λ (field : Field). is_among (names_in row.labels) field.0)) (stored-again row h)
    ∙ labels-again row.fields row.labels h.fields.ordered h.labels.ordered (are-fields row.fields row.labels
    h.labelled)

-- one more name is put
pub name-put : {X : Type 0} (f : X → List ℕ) (keys new : List X) (key : X) (names : List (List ℕ))
    (fields : List Field) (i : ℕ) (field : Field) → i < length fields
    → new ≡ insert_key (λ x y. bytes_cmp (f x) (f y)) keys key → f key ≡ (get_or fields i field).0
    → map f keys ≡ put_names names (take i fields) → map f new ≡ put_names names (take (i + 1) fields)
name-put f keys new key names fields i field lt put is so_far =
    ap (map f) put ∙ map-put f keys key
    ∙ ap (λ (l : List (List ℕ)). insert_key bytes_cmp l (f key)) so_far
    ∙ ap (insert_key bytes_cmp (put_names names (take i fields))) is
    ∙ sym (fold_push (insert_key bytes_cmp) names (names_in (take i fields)) (get_or fields i field).0)
    ∙ ap (fold (insert_key bytes_cmp) names) (sym (map_more (λ (x : Field). x.0) fields i field lt))

-- ---- rows and columns

get-behind : {X : Type 0} (xs : List X) (i : ℕ) (x : X) (rest : List X) → drop i xs ≡ x ∷ rest
    → (drop (suc i) xs ≡ rest) × ((f : X → List ℕ) → get_or (map f xs) i [] ≡ f x)
get-behind [] zero x rest e = absurd (let none : [] ≡ x ∷ rest = e in cc)
get-behind [] (suc i) x rest e = absurd (let none : [] ≡ x ∷ rest = e in cc)
get-behind (y ∷ ys) zero x rest e =
    let first : y ≡ x = cc in
    let last : ys ≡ rest = cc in
    (last, λ f. ap f first)
get-behind (y ∷ ys) (suc i) x rest e = get-behind ys i x rest e

-- the fields of a row, by the columns
fields-by-columns : (all : List Numbered) (names : List (List ℕ)) (i : ℕ) (n : Numbered)
    → ((name : List ℕ) → get_or (values_of all name) i [] ≡ field_value n.row.fields name)
    → map (λ (column : Column). (column.0, get_or column.1 i [])) (map (λ name. (name, values_of all name)) names)
    ≡ map (value_named n.row.fields) names
fields-by-columns all [] i n each = refl
fields-by-columns all (name ∷ names) i n each =
    ap (λ (v : List ℕ). (name, v) ∷ map (λ (column : Column). (column.0, get_or column.1 i [])) (map
    (λ name. (name, values_of all name)) names)) (each name)
    ∙ ap (λ (l : List Field). value_named n.row.fields name ∷ l) (fields-by-columns all names i n each)

pub none-below : (names : List (List ℕ)) → AllByRecursion (AllBelow []) names
none-below [] = tt
none-below (name ∷ names) = (tt, none-below names)

fields-again : (all : List Numbered) (i : ℕ) (n : Numbered) → IsRow n.row
    → AreListed n.row.fields (names_of all)
    → ((name : List ℕ) → get_or (values_of all name) i [] ≡ field_value n.row.fields name)
    → fields_at (columns_of all) i ≡ n.row.fields
fields-again all i n row listed each =
    ap (set_all []) (fields-by-columns all (names_of all) i n each)
    ∙ set-again (names_of all) [] n.row.fields (names-rising all) row.fields.ordered row.fields.filled listed
    (none-below (names_of all))

abbrev pub AreRows : List Numbered → Type 0
AreRows rows = AllByRecursion (λ (numbered : Numbered). IsRow numbered.row) rows

abbrev pub AreOf : List Field → List Numbered → Type 0
AreOf labels rows = AllByRecursion (λ (numbered : Numbered). numbered.row.labels ≡ labels) rows

from-again : (all : List Numbered) (labels : List Field) (i : ℕ) (rows : List Numbered) → drop i all ≡ rows
    → AreRows rows → AreOf labels rows → AreNamed (names_of all) rows
    → rows_from labels (columns_of all) i (keys_of rows) ≡ rows
from-again all labels i [] e rows of named = refl
from-again all labels i (n ∷ ns) e rows of named =
    let here = get-behind all i n ns e in
    let fields = fields-again all i n rows.0 named.0 (λ name. here.1 (λ (numbered : Numbered). field_value
    numbered.row.fields name)) in
    let more = from-again all labels (suc i) ns here.0 rows.1 of.1 named.1 in
    rw (fields, more, sym of.0) refl

-- The columns of rows of one stream, with the keys, are the rows again.
pub rows-again : (rows : List Numbered) (labels : List Field) → AreRows rows → AreOf labels rows
    → rows_from labels (columns_of rows) 0 (keys_of rows) ≡ rows
rows-again rows labels all of = from-again rows labels 0 rows refl all of (are-named rows)
