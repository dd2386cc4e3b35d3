-- The names of the fields of rows are in order, and each field has one of them.
use Rattle.std.proofs.Common.{◌≡◌, ℕ, ◌+◌, ◌<◌, true, List, [], ◌∷◌, ◌++◌, length, take, get_or, sym, ap, ◌∙◌}
use Rattle.std.specs.Prelude.{bytes_eq}
use Rattle.std.specs.BTreeSet.{insert_key}
use Rattle.std.specs.List.{AllByRecursion, flat_map, fold, list_any}
use Rattle.std.proofs.lemmas.List.{append-nil, map_more, take_more}
use Rattle.std.proofs.lemmas.List.Concat.{flat_map-append, flat_map-cons}
use Rattle.std.proofs.lemmas.List.Sums.{fold-append}
use Rattle.block_model.proofs.Distinct.{are_listed}
use Rattle.block_model.specs.Distinct.{distinct}
use Rattle.block_model.proofs.Rising.{IsRising, distinct-rising, put-twice}
use Rattle.log_model.specs.Field.{Field, bytes_cmp}
use Rattle.log_model.specs.History.{Numbered}
use Rattle.block_model.specs.Columns.{names_in, names_of, put_names}
use Rattle.block_model.proofs.FieldLaws.{AreListed}

-- ---- each field has one

abbrev all_names : List Numbered → List (List ℕ)
all_names rows = flat_map (λ numbered. names_in numbered.row.fields) rows

pub names-rising : (rows : List Numbered) → IsRising (names_of rows)
names-rising rows = distinct-rising (all_names rows)

-- what holds of all texts holds of the names of some fields
named : (p : List ℕ → Type 0) (fields : List Field) → AllByRecursion p (names_in fields)
    → AllByRecursion (λ (f : Field). p f.0) fields
named p [] h = tt
named p (f ∷ fs) h = (h.0, named p fs h.1)

front-all : (p : List ℕ → Type 0) (xs ys : List (List ℕ)) → AllByRecursion p (xs ++ ys) → AllByRecursion p xs
front-all p [] ys h = tt
front-all p (x ∷ xs) ys h = (h.0, front-all p xs ys h.1)

back-all : (p : List ℕ → Type 0) (xs ys : List (List ℕ)) → AllByRecursion p (xs ++ ys) → AllByRecursion p ys
back-all p [] ys h = h
back-all p (x ∷ xs) ys h = back-all p xs ys h.1

abbrev pub AreNamed : List (List ℕ) → List Numbered → Type 0
AreNamed names rows = AllByRecursion (λ (numbered : Numbered). AreListed numbered.row.fields names) rows

rows-named : (names : List (List ℕ)) (rows : List Numbered)
    → AllByRecursion (λ text. list_any (bytes_eq text) names ≡ true) (all_names rows) → AreNamed names rows
rows-named names [] h = tt
rows-named names (n ∷ ns) h =
    let parts : AllByRecursion (λ text. list_any (bytes_eq text) names ≡ true) (names_in n.row.fields ++ all_names ns) =
    rw (flat_map-cons (λ (numbered : Numbered). names_in numbered.row.fields) n ns) at h in (
      named (λ text. list_any (bytes_eq text) names ≡ true) n.row.fields (front-all (λ text. list_any (bytes_eq text)
          names ≡ true) (names_in n.row.fields) (all_names ns) parts),
      rows-named names ns (back-all (λ text. list_any (bytes_eq text) names ≡ true) (names_in n.row.fields)
          (all_names ns) parts),
    )

-- the fields of each row have names among those of all rows
pub are-named : (rows : List Numbered) → AreNamed (names_of rows) rows
are-named rows = rows-named (names_of rows) rows (are_listed (all_names rows))

-- ---- the names of one row more

pub same-more : (fields others : List Field) (i : ℕ) (field other : Field) → i < length fields → i < length others
    → field ≡ get_or fields i field → other ≡ get_or others i other
    → names_in (take i fields) ≡ names_in (take i others) → field.0 ≡ other.0
    → names_in (take (i + 1) fields) ≡ names_in (take (i + 1) others)
same-more fields others i field other lt also is is_other before same =
    let name : (get_or fields i field).0 ≡ (get_or others i other).0 = ap (λ (f : Field). f.0) (sym is) ∙ same
    ∙ ap (λ (f : Field). f.0) is_other in
    map_more (λ (f : Field). f.0) fields i field lt
    ∙ ap (λ (l : List (List ℕ)). l ++ (get_or fields i field).0 ∷ []) before
    ∙ ap (λ (n : List ℕ). names_in (take i others) ++ n ∷ []) name
    ∙ sym (map_more (λ (f : Field). f.0) others i other also)

pub names-more : (rows : List Numbered) (i : ℕ) (n : Numbered) → i < length rows → n ≡ get_or rows i n
    → names_of (take (i + 1) rows) ≡ put_names (names_of (take i rows)) n.row.fields
names-more rows i n lt is =
    let more : take (i + 1) rows ≡ take i rows ++ n ∷ [] = take_more rows i n lt
    ∙ ap (λ (x : Numbered). take i rows ++ x ∷ []) (sym is) in
    ap names_of more
    ∙ ap distinct (flat_map-append (λ (numbered : Numbered). names_in numbered.row.fields) (take i rows) (n ∷ []))
    ∙ fold-append (insert_key bytes_cmp) [] (all_names (take i rows)) (all_names (n ∷ []))
    ∙ ap (fold (insert_key bytes_cmp) (names_of (take i rows))) (append-nil (names_in n.row.fields))

-- names that were put change nothing when they are put once more
pub names-again : (names : List (List ℕ)) (fields : List Field) → IsRising names
    → put_names (put_names names fields) fields ≡ put_names names fields
names-again names fields rising = put-twice (names_in fields) names rising
