-- Names and labels are short enough to be written.
use Rattle.std.proofs.Common.{◌≡◌, ℕ, ◌+◌, ◌<◌, ◌≤◌, ◌^◌, Bool, true, false, cond, List, [], ◌∷◌, length, filter, map}
use Rattle.std.proofs.Common.{zero, suc, get_or, ltb, leb, refl, sym, ap, ◌∙◌, arith}
use Rattle.std.specs.Prelude.{◌||◌, not}
use Rattle.std.specs.List.{AllByRecursion, flat_map, list_all}
use Rattle.std.proofs.lemmas.Bool.{leb-true, ltb-false}
use Rattle.std.proofs.lemmas.List.Concat.{flat_map-cons}
use Rattle.std.proofs.lemmas.List.Folds.{list_all-append}
use Rattle.std.proofs.lemmas.List.Sums.{sum_by-cons}
use Rattle.block_model.proofs.Distinct.{distinct-pass}
use Rattle.block_format.specs.Labels.{IsShortLabel}
use Rattle.byte_format.proofs.Cases.{both_true}
use Rattle.log_model.specs.Field.{Field, is_empty, is_filled, weight}
use Rattle.log_model.specs.History.{Numbered}
use Rattle.log_model.specs.Row.{IsRow, Row}
use Rattle.vl_row.specs.Names.{is_among}
use Rattle.block_model.specs.Columns.{names_in, names_of}
use Rattle.block_model.specs.Keys.{IsNumbered}
use Rattle.block_format.specs.Rows.{labels_of}
use Rattle.block_model.proofs.RowLaws.{AreRows, row-labels-again, stored-again}

not-true : (a : Bool) → not a ≡ true → a ≡ false
not-true true e = absurd cc
not-true false e = refl

some-bytes : (n : ℕ) → ltb n 1 ≡ false → 0 < n
some-bytes n h = ltb-false n 1 h

pub are-rows : (rows : List Numbered) → AllByRecursion IsNumbered rows → AreRows rows
are-rows [] h = tt
are-rows (n ∷ ns) h = (h.0.row, are-rows ns h.1)

-- ---- names

abbrev pub is_short_name : List ℕ → Bool
is_short_name name = leb (length name) 128

abbrev pub is_some_name : List ℕ → Bool
is_some_name name = not (is_empty name)

short-names : (fields : List Field) → list_all (λ (f : Field). leb (length f.0) 128) fields ≡ true
    → list_all is_short_name (names_in fields) ≡ true
short-names [] e = refl
short-names (f ∷ fs) e =
    let p = both_true (leb (length f.0) 128) (list_all (λ (g : Field). leb (length g.0) 128) fs) e in
    rw p.0 (short-names fs p.1)

first-filled : (a b : Bool) → not (a || b) ≡ true → not a ≡ true
first-filled true b e = e
first-filled false b e = refl

some-names : (fields : List Field) → list_all is_filled fields ≡ true
    → list_all is_some_name (names_in fields) ≡ true
some-names [] e = refl
some-names (f ∷ fs) e =
    let p = both_true (is_filled f) (list_all is_filled fs) e in
    rw (first-filled (is_empty f.0) (is_empty f.1) p.0) (some-names fs p.1)

abbrev all_names : List Numbered → List (List ℕ)
all_names rows = flat_map (λ numbered. names_in numbered.row.fields) rows

all-pass : (p : List ℕ → Bool) (rows : List Numbered)
    → ((row : Row) → IsRow row → list_all p (names_in row.fields) ≡ true) → AreRows rows
    → list_all p (flat_map (λ numbered. names_in numbered.row.fields) rows) ≡ true
all-pass p [] each h = refl
all-pass p (n ∷ ns) each h =
    ap (list_all p) (flat_map-cons (λ (numbered : Numbered). names_in numbered.row.fields) n ns)
    ∙ list_all-append p (names_in n.row.fields) (flat_map (λ numbered. names_in numbered.row.fields) ns)
    ∙ rw (each n.row h.0, all-pass p ns each h.1) refl

pub names-short : (rows : List Numbered) → AreRows rows → list_all is_short_name (names_of rows) ≡ true
names-short rows h =
    distinct-pass is_short_name (all_names rows) (all-pass is_short_name rows (λ row r. short-names row.fields r.short) h)

pub names-some : (rows : List Numbered) → AreRows rows → list_all is_some_name (names_of rows) ≡ true
names-some rows h =
    distinct-pass is_some_name (all_names rows) (all-pass is_some_name rows (λ row r. some-names row.fields r.fields.filled) h)

-- ---- labels

short-fields : (fields : List Field) → list_all (λ (f : Field). leb (length f.0) 128) fields ≡ true
    → weight fields ≤ 262_144 → AllByRecursion IsShortLabel fields
short-fields [] e small = tt
short-fields (f ∷ fs) e small =
    let p = both_true (leb (length f.0) 128) (list_all (λ (g : Field). leb (length g.0) 128) fs) e in
    let all = sum_by-cons (λ (g : Field). length g.0 + length g.1) f fs in
    let name = leb-true (length f.0) 128 p.0 in (
      record { name = omega (arith, name); content = omega (arith, all, small) },
      short-fields fs p.1 (omega (arith, all, small)),
    )

kept-short : (p : Field → Bool) (fields : List Field) → AllByRecursion IsShortLabel fields
    → AllByRecursion IsShortLabel (filter p fields) × (length (filter p fields) ≤ length fields)
kept-short p [] h = (tt, omega arith)
kept-short p (f ∷ fs) h = by (p f) (kept-short p fs h.1)
  where
    by : (b : Bool) → AllByRecursion IsShortLabel (filter p fs) × (length (filter p fs) ≤ length fs)
        → AllByRecursion IsShortLabel (cond b (f ∷ filter p fs) (filter p fs))
        × (length (cond b (f ∷ filter p fs) (filter p fs)) ≤ length (f ∷ fs))
    by true more = ((h.0, more.0), omega (arith, more.1))
    by false more = (more.0, omega (arith, more.1))

-- the labels of a row are short and few
pub labels-short : (row : Row) → IsRow row → AllByRecursion IsShortLabel row.labels × (length row.labels < 2 ^ 16)
labels-short row h =
    let again = row-labels-again row h in
    let fields = stored-again row h in
    let kept = kept-short (λ (f : Field). is_among (names_in row.labels) f.0) row.fields (short-fields row.fields
    h.short h.light) in
    let same : filter (λ (f : Field). is_among (names_in row.labels) f.0) row.fields ≡ row.labels =
    ap (filter (λ (f : Field). is_among (names_in row.labels) f.0)) (sym fields) ∙ again in (
      rw same at kept.0,
      omega (arith, ap length same, kept.1, h.few),
    )

-- the labels of the stream
pub stream-short : (rows : List Numbered) → 0 < length rows → AreRows rows
    → AllByRecursion IsShortLabel (labels_of rows) × (length (labels_of rows) < 2 ^ 16)
stream-short [] some h = absurd (omega (arith, some))
stream-short (n ∷ ns) some h = labels-short n.row h.0

-- ---- names that are there

-- each name has a byte
pub name-some : (names : List (List ℕ)) (i : ℕ) → list_all is_some_name names ≡ true → i < length names
    → 0 < length (get_or names i [])
name-some [] i e lt = absurd (omega (arith, lt))
name-some (name ∷ names) zero e lt =
    let p = both_true (is_some_name name) (list_all is_some_name names) e in
    some-bytes (length name) (not-true (ltb (length name) 1) p.0)
name-some (name ∷ names) (suc i) e lt =
    let p = both_true (is_some_name name) (list_all is_some_name names) e in
    name-some names i p.1 (omega (arith, lt))
