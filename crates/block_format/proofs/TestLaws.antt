-- The tests of rows hold exactly where the rows keep the rules.
use Rattle.std.proofs.Common.{◌≡◌, ℕ, ◌*◌, ◌^◌, Bool, true, false, ltb, List, [], ◌∷◌, length, refl, ap, ◌∙◌}
use Rattle.std.specs.Prelude.{◌&&◌, bytes_eq}
use Rattle.std.specs.List.{AllByRecursion, list_all}
use Rattle.std.specs.List.Sorted.{IsStrictlySortedBy}
use Rattle.std.specs.Map.{keys_of}
use Rattle.std.specs.Ordering.{is_lt}
use Rattle.std.specs.declared.cmp.Ordering.{Ordering}
use Rattle.std.specs.declared.cmp.Ordering.TheVariants.{Less, Equal, Greater}
use Rattle.std.proofs.lemmas.Bool.{both_ways, le-leb, leb-true, lt-ltb, ltb-true}
use Rattle.std.proofs.lemmas.Slice.Eq.{bytes_eq-Decides}
use Rattle.block_model.proofs.Distinct.{itself}
use Rattle.byte_format.proofs.Cases.{both_true}
use Rattle.log_model.specs.Field.{Field, IsFieldList, bytes_cmp, is_filled, weight}
use Rattle.log_model.specs.History.{Numbered}
use Rattle.log_model.specs.Row.{IsRow, Row}
use Rattle.block_model.specs.Columns.{names_of}
use Rattle.block_model.specs.Keys.{IsNumbered}
use Rattle.block_model.specs.Texts.{is_text_row}
use Rattle.block_model.proofs.FieldLaws.{Above, IsRising}
use Rattle.block_format.specs.Rows.{labels_of}
use Rattle.block_format.specs.Reading.{all_hold, are_rising, block_tests, has_spelling, is_field_list, is_numbered}
use Rattle.block_format.specs.Reading.{is_row, numbered_tests, row_tests, same_fields}
use Rattle.block_format.specs.Rows.{IsBlock}

-- ---- tests

pub both_from : (a b : Bool) → a ≡ true → b ≡ true → (a && b) ≡ true
both_from true b p q = q
both_from false b p q = absurd cc

each : (tests : List Bool) → all_hold tests ≡ true → AllByRecursion (λ test. test ≡ true) tests
each [] e = tt
each (t ∷ ts) e = let p = both_true t (all_hold ts) e in (p.0, each ts p.1)

all : (tests : List Bool) → AllByRecursion (λ test. test ≡ true) tests → all_hold tests ≡ true
all [] h = refl
all (t ∷ ts) h = both_from t (all_hold ts) h.0 (all ts h.1)

-- ---- fields

less : (o : Ordering) → is_lt o ≡ true → o ≡ Less
less Less e = refl
less Equal e = absurd cc
less Greater e = absurd cc

above-holds : (name : List ℕ) (names : List (List ℕ)) → list_all (λ other. is_lt (bytes_cmp name other)) names ≡ true
    → Above name names
above-holds name [] e = tt
above-holds name (n ∷ ns) e =
    let p = both_true (is_lt (bytes_cmp name n)) (list_all (λ other. is_lt (bytes_cmp name other)) ns) e in
    (less (bytes_cmp name n) p.0, above-holds name ns p.1)

is-above : (name : List ℕ) (names : List (List ℕ)) → Above name names
    → list_all (λ other. is_lt (bytes_cmp name other)) names ≡ true
is-above name [] h = refl
is-above name (n ∷ ns) h = both_from (is_lt (bytes_cmp name n)) (list_all (λ other. is_lt (bytes_cmp name other)) ns)
    (ap is_lt h.0) (is-above name ns h.1)

rising-holds : (names : List (List ℕ)) → are_rising names ≡ true → IsRising names
unfolding IsStrictlySortedBy
rising-holds [] e = tt
rising-holds (n ∷ ns) e =
    let p = both_true (list_all (λ other. is_lt (bytes_cmp n other)) ns) (are_rising ns) e in
    (above-holds n ns p.0, rising-holds ns p.1)

is-rising : (names : List (List ℕ)) → IsRising names → are_rising names ≡ true
unfolding IsStrictlySortedBy
is-rising [] h = refl
is-rising (n ∷ ns) h = both_from (list_all (λ other. is_lt (bytes_cmp n other)) ns) (are_rising ns) (is-above n ns h.0)
    (is-rising ns h.1)

fields-hold : (fields : List Field) → is_field_list fields ≡ true → IsFieldList fields
fields-hold fields e =
    let p = both_true (are_rising (keys_of fields)) (list_all is_filled fields) e in
    record { ordered = rising-holds (keys_of fields) p.0; filled = p.1 }

are-fields : (fields : List Field) → IsFieldList fields → is_field_list fields ≡ true
are-fields fields h = both_from (are_rising (keys_of fields)) (list_all is_filled fields) (is-rising (keys_of fields)
    h.ordered) h.filled

-- ---- rows

row-holds : (row : Row) → is_row row ≡ true → IsRow row
unfolding is_row
row-holds row e =
    let h = each (row_tests row) e in
    record {
      moment = ltb-true row.moment (2 ^ 63) h.0;
      labels = fields-hold row.labels h.1.0;
      labelled = h.1.1.0;
      fields = fields-hold row.fields h.1.1.1.0;
      unreserved = h.1.1.1.1.0;
      some = ltb-true 0 (length row.fields) h.1.1.1.1.1.0;
      few = leb-true (length row.fields) 1000 h.1.1.1.1.1.1.0;
      short = h.1.1.1.1.1.1.1.0;
      light = leb-true (weight row.fields) 262_144 h.1.1.1.1.1.1.1.1.0;
    }

is-row : (row : Row) → IsRow row → is_row row ≡ true
unfolding is_row
is-row row h =
    all (row_tests row) (
      lt-ltb row.moment (2 ^ 63) h.moment,
      (
        are-fields row.labels h.labels,
        (
          h.labelled,
          (
            are-fields row.fields h.fields,
            (
              h.unreserved,
              (
                lt-ltb 0 (length row.fields) h.some,
                (
                  le-leb (length row.fields) 1000 h.few,
                  (h.short, (le-leb (weight row.fields) 262_144 h.light, tt)),
                ),
              ),
            ),
          ),
        ),
      ),
    )

pub row-refused : (row : Row) → (IsRow row → ⊥) → is_row row ≡ false
row-refused row h = by (is_row row) refl
  where
    by : (b : Bool) → is_row row ≡ b → is_row row ≡ false
    by true e = absurd (h (row-holds row e))
    by false e = e

-- a row with numbers that can be written, in UTF-8
pub record IsWrittenRow (row : Numbered) : Type 0 where
  pub numbered : IsNumbered row
  pub text : is_text_row row ≡ true

numbered-holds : (n : Numbered) → is_numbered n ≡ true → IsWrittenRow n
unfolding is_numbered
numbered-holds n e =
    let h = each (numbered_tests n) e in
    record {
      numbered = record {
        batch = ltb-true n.batch (2 ^ 64) h.0;
        place = ltb-true n.place (2 ^ 32) h.1.0;
        row = row-holds n.row h.1.1.0;
      };
      text = h.1.1.1.0;
    }

is-numbered : (n : Numbered) → IsNumbered n → is_text_row n ≡ true → is_numbered n ≡ true
unfolding is_numbered
is-numbered n h text =
    all (numbered_tests n) (
      lt-ltb n.batch (2 ^ 64) h.batch,
      (lt-ltb n.place (2 ^ 32) h.place, (is-row n.row h.row, (text, tt))),
    )

pub not-numbered : (n : Numbered) → is_row n.row ≡ false → is_numbered n ≡ false
unfolding is_numbered
not-numbered n e = rw e (by (ltb n.batch (2 ^ 64)) (ltb n.place (2 ^ 32)))
  where
    by : (a b : Bool) → (a && (b && false)) ≡ false
    by true true = refl
    by true false = refl
    by false b = refl

all-numbered : (rows : List Numbered) → list_all is_numbered rows ≡ true → AllByRecursion IsWrittenRow rows
all-numbered [] e = tt
all-numbered (n ∷ ns) e =
    let p = both_true (is_numbered n) (list_all is_numbered ns) e in
    (numbered-holds n p.0, all-numbered ns p.1)

are-numbered : (rows : List Numbered) → AllByRecursion IsNumbered rows → list_all is_text_row rows ≡ true
    → list_all is_numbered rows ≡ true
are-numbered [] h e = refl
are-numbered (n ∷ ns) h e =
    let p = both_true (is_text_row n) (list_all is_text_row ns) e in
    both_from (is_numbered n) (list_all is_numbered ns) (is-numbered n h.0 p.0) (are-numbered ns h.1 p.1)

pub each-numbered : (rows : List Numbered) → AllByRecursion IsWrittenRow rows → AllByRecursion IsNumbered rows
each-numbered [] h = tt
each-numbered (n ∷ ns) h = (h.0.numbered, each-numbered ns h.1)

pub each-text : (rows : List Numbered) → AllByRecursion IsWrittenRow rows → list_all is_text_row rows ≡ true
each-text [] h = refl
each-text (n ∷ ns) h = both_from (is_text_row n) (list_all is_text_row ns) h.0.text (each-text ns h.1)

-- ---- labels

same-holds : (xs ys : List Field) → same_fields xs ys ≡ true → xs ≡ ys
same-holds [] [] e = refl
same-holds [] (y ∷ ys) e = absurd cc
same-holds (x ∷ xs) [] e = absurd cc
same-holds (x ∷ xs) (y ∷ ys) e =
    let p = both_true (bytes_eq x.0 y.0 && bytes_eq x.1 y.1) (same_fields xs ys) e in
    let q = both_true (bytes_eq x.0 y.0) (bytes_eq x.1 y.1) p.0 in
    let name : x.0 ≡ y.0 = (bytes_eq-Decides x.0 y.0).0 q.0 in
    let content : x.1 ≡ y.1 = (bytes_eq-Decides x.1 y.1).0 q.1 in
    ap (λ (n : List ℕ). (n, x.1) ∷ xs) name ∙ ap (λ (v : List ℕ). (y.0, v) ∷ xs) content
    ∙ ap (λ (l : List Field). y ∷ l) (same-holds xs ys p.1)

is-same : (xs : List Field) → same_fields xs xs ≡ true
is-same [] = refl
is-same (x ∷ xs) =
    both_from (bytes_eq x.0 x.0 && bytes_eq x.1 x.1) (same_fields xs xs) (both_from (bytes_eq x.0 x.0) (bytes_eq x.1
    x.1) (itself x.0) (itself x.1)) (is-same xs)

streams-hold : (labels : List Field) (rows : List Numbered)
    → list_all (λ (n : Numbered). same_fields n.row.labels labels) rows ≡ true
    → AllByRecursion (λ (n : Numbered). n.row.labels ≡ labels) rows
streams-hold labels [] e = tt
streams-hold labels (n ∷ ns) e =
    let p = both_true (same_fields n.row.labels labels) (list_all (λ (m : Numbered). same_fields m.row.labels labels)
    ns) e in
    (same-holds n.row.labels labels p.0, streams-hold labels ns p.1)

are-streams : (labels : List Field) (rows : List Numbered)
    → AllByRecursion (λ (n : Numbered). n.row.labels ≡ labels) rows
    → list_all (λ (n : Numbered). same_fields n.row.labels labels) rows ≡ true
are-streams labels [] h = refl
are-streams labels (n ∷ ns) h =
    both_from (same_fields n.row.labels labels) (list_all (λ (m : Numbered). same_fields m.row.labels labels) ns)
    (ap (λ (l : List Field). same_fields l labels) h.0 ∙ is-same labels) (are-streams labels ns h.1)

-- ---- blocks

-- the rows of a block that can be written
pub record IsWrittenBlock (rows : List Numbered) : Type 0 where
  pub block : IsBlock rows
  pub each : AllByRecursion IsWrittenRow rows

pub block-holds : (rows : List Numbered) → has_spelling rows ≡ true → IsWrittenBlock rows
unfolding has_spelling
block-holds rows e =
    let h = each (block_tests rows) e in
    record {
      block = record {
        some = ltb-true 0 (length rows) h.0;
        few = leb-true (length rows) 4096 h.1.0;
        narrow = leb-true (length (names_of rows)) 2000 h.1.1.0;
        small = leb-true (length rows * length (names_of rows)) 1_048_576 h.1.1.1.0;
        stream = streams-hold (labels_of rows) rows h.1.1.1.1.0;
        ordered = h.1.1.1.1.1.0;
        apart = h.1.1.1.1.1.1.0;
      };
      each = all-numbered rows h.1.1.1.1.1.1.1.0;
    }

pub is-block : (rows : List Numbered) → IsBlock rows → AllByRecursion IsNumbered rows
    → list_all is_text_row rows ≡ true → has_spelling rows ≡ true
unfolding has_spelling
is-block rows h each text =
    all (block_tests rows) (
      lt-ltb 0 (length rows) h.some,
      (
        le-leb (length rows) 4096 h.few,
        (
          le-leb (length (names_of rows)) 2000 h.narrow,
          (
            le-leb (length rows * length (names_of rows)) 1_048_576 h.small,
            (
              are-streams (labels_of rows) rows h.stream,
              (h.ordered, (h.apart, (are-numbered rows each text, tt))),
            ),
          ),
        ),
      ),
    )

pub not-block : (rows : List Numbered) → (IsBlock rows → ⊥) → has_spelling rows ≡ false
not-block rows h = by (has_spelling rows) refl
  where
    by : (b : Bool) → has_spelling rows ≡ b → has_spelling rows ≡ false
    by true e = absurd (h (block-holds rows e).block)
    by false e = e

-- one that breaks a rule is enough
pub not-all : (rows : List Numbered) → list_all is_numbered rows ≡ false → has_spelling rows ≡ false
not-all rows e = by (has_spelling rows) refl
  where
    by : (b : Bool) → has_spelling rows ≡ b → has_spelling rows ≡ false
    by true t =
        let all = (block-holds rows t).each in
        let good = are-numbered rows (each-numbered rows all) (each-text rows all) in
        absurd (both_ways (list_all is_numbered rows) e good)
    by false t = t
