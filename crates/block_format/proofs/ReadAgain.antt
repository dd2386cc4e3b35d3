-- What is written of a block is read again.
use Rattle.std.proofs.Common.{◌≡◌, ℕ, pos, ◌*◌, ◌<◌, ◌≤◌, ◌^◌, Bool, true, false, cond, ltb, List, [], ◌∷◌, ◌++◌}
use Rattle.std.proofs.Common.{length, map, filter, Some, None, Result, Ok, FitsSigned, refl, sym, ap, ◌∙◌}
use Rattle.std.proofs.Common.{arith, w64}
use Rattle.std.specs.Prelude.{◌&&◌, ◌||◌, ◌==◌, bytes_eq, not, unwrap_or, sum_by}
use Rattle.std.specs.List.{AllByRecursion, flat_map, list_all}
use Rattle.std.specs.Map.{keys_of as names_in_order, lookup}
use Rattle.std.specs.Str.{is_utf8}
use Rattle.std.proofs.lemmas.Bool.{leb-true, le-ltb}
use Rattle.std.proofs.lemmas.Int.{ints}
use Rattle.std.proofs.lemmas.List.{append-nil, append_assoc, length-map}
use Rattle.std.proofs.lemmas.List.Concat.{flat_map-cons}
use Rattle.std.proofs.lemmas.List.Folds.{list_all-append}
use Rattle.std.proofs.lemmas.List.Sums.{sum_by-cons}
use Rattle.std.proofs.lemmas.Map.Keys.{sorted_head, sorted_tail}
use Rattle.std.proofs.lemmas.Slice.Eq.{bytes_eq-Decides}
use Rattle.std.proofs.lemmas.Str.{IsUtf8-from_is_utf8, IsUtf8-nil, is_utf8-from_IsUtf8}
use Rattle.block_model.proofs.Distinct.{distinct-pass}
use Rattle.block_format.specs.Found.{Found}
use Rattle.block_format.specs.Labels.{IsShortLabel}
use Rattle.block_format.specs.Parts.{parts}
use Rattle.block_format.proofs.Again.{IsColumn, IsKey, IsLabel, IsWritable, whole-again}
use Rattle.byte_format.specs.Format.{value, front, whole, ended, ◌>>=◌}
use Rattle.byte_format.specs.Spelling.{IsReadAgain, reading}
use Rattle.byte_format.proofs.Cases.{bind_assoc, bind_chosen, bind_same, both_true, some_from}
use Rattle.byte_format.proofs.Readings.{whole-followed}
use Rattle.byte_format.proofs.Spellings.{reading-only}
use Rattle.log_model.specs.Field.{Field, bytes_cmp, field_value, is_filled, set_all}
use Rattle.log_model.specs.History.{Numbered}
use Rattle.log_model.specs.Row.{has_field}
use Rattle.block_model.specs.Columns.{Column, columns_of, names_in, names_of, rows_from, values_of}
use Rattle.block_model.specs.Keys.{IsNumbered, key_of, keys_of}
use Rattle.block_model.specs.Texts.{is_text_field, is_text_row}
use Rattle.block_model.specs.declared.keys.Key.{Key}
use Rattle.block_model.proofs.FieldLaws.{IsRising, below-more, filled-value, set-last}
use Rattle.block_model.proofs.RowLaws.{none-below, rows-again}
use Rattle.block_model.proofs.Sizes.{value-size}
use Rattle.vl_row.specs.Place.{AllBelow}
use Rattle.block_format.specs.Rows.{labels_of}
use Rattle.block_format.specs.Reading.{are_said, block, block_writing, has_name, has_spelling, in_order, is_named}
use Rattle.block_format.specs.Reading.{is_since_1970, rows_said}
use Rattle.block_format.specs.Spelling.{block_bytes, parts_of}
use Rattle.block_format.proofs.LabelLaws.{are-rows, is_short_name, is_some_name, names-short, names-some, stream-short}
use Rattle.block_format.proofs.OrderLaws.{in-order-again}
use Rattle.block_format.proofs.TestLaws.{IsWrittenBlock, IsWrittenRow, block-holds, both_from, each-numbered, each-text}
use Rattle.block_format.proofs.TestLaws.{is-block}

-- ---- in UTF-8

utf8-value : (fields : List Field) (name : List ℕ) → list_all is_text_field fields ≡ true
    → is_utf8 (field_value fields name) ≡ true
utf8-value [] name e = is_utf8-from_IsUtf8 [] IsUtf8-nil
utf8-value (f ∷ fs) name e =
    let p = both_true (is_text_field f) (list_all is_text_field fs) e in
    by (bytes_eq name f.0) (both_true (is_utf8 f.0) (is_utf8 f.1) p.0).1 (utf8-value fs name p.1)
  where
    by : (b : Bool) → is_utf8 f.1 ≡ true → is_utf8 (field_value fs name) ≡ true
        → is_utf8 (unwrap_or (cond b (Some f.1) (lookup (bytes_eq name) fs)) []) ≡ true
    by true here later = here
    by false here later = later

utf8-values : (rows : List Numbered) (name : List ℕ) → list_all is_text_row rows ≡ true
    → list_all is_utf8 (values_of rows name) ≡ true
utf8-values [] name e = refl
utf8-values (n ∷ ns) name e =
    let p = both_true (is_text_row n) (list_all is_text_row ns) e in
    both_from (is_utf8 (field_value n.row.fields name)) (list_all is_utf8 (values_of ns name)) (utf8-value n.row.fields
    name p.0) (utf8-values ns name p.1)

utf8-fields : (fields : List Field) → list_all is_text_field fields ≡ true
    → list_all is_utf8 (names_in fields) ≡ true
utf8-fields [] e = refl
utf8-fields (f ∷ fs) e =
    let p = both_true (is_text_field f) (list_all is_text_field fs) e in
    both_from (is_utf8 f.0) (list_all is_utf8 (names_in fs)) (both_true (is_utf8 f.0) (is_utf8 f.1) p.0).0
    (utf8-fields fs p.1)

abbrev all_names : List Numbered → List (List ℕ)
all_names rows = flat_map (λ numbered. names_in numbered.row.fields) rows

utf8-all : (rows : List Numbered) → list_all is_text_row rows ≡ true
    → list_all is_utf8 (flat_map (λ (numbered : Numbered). names_in numbered.row.fields) rows) ≡ true
utf8-all [] e = refl
utf8-all (n ∷ ns) e =
    let p = both_true (is_text_row n) (list_all is_text_row ns) e in
    ap (list_all is_utf8) (flat_map-cons (λ (numbered : Numbered). names_in numbered.row.fields) n ns)
    ∙ list_all-append is_utf8 (names_in n.row.fields) (all_names ns)
    ∙ both_from (list_all is_utf8 (names_in n.row.fields)) (list_all is_utf8 (all_names ns)) (utf8-fields n.row.fields
    p.0) (utf8-all ns p.1)

utf8-names : (rows : List Numbered) → list_all is_text_row rows ≡ true → list_all is_utf8 (names_of rows) ≡ true
utf8-names rows e = distinct-pass is_utf8 (all_names rows) (utf8-all rows e)

-- a label is one of the fields
utf8-label : (fields : List Field) (label : Field) → list_all is_text_field fields ≡ true
    → has_field fields label ≡ true → (is_utf8 label.0 ≡ true) × (is_utf8 label.1 ≡ true)
utf8-label [] label e h = absurd cc
utf8-label (f ∷ fs) label e h =
    let p = both_true (is_text_field f) (list_all is_text_field fs) e in
    by (bytes_eq label.0 f.0 && bytes_eq label.1 f.1) refl (both_true (is_utf8 f.0) (is_utf8 f.1) p.0) h (utf8-label fs
    label p.1)
  where
    by : (b : Bool) → (bytes_eq label.0 f.0 && bytes_eq label.1 f.1) ≡ b
        → (is_utf8 f.0 ≡ true) × (is_utf8 f.1 ≡ true) → (b || has_field fs label) ≡ true
        → (has_field fs label ≡ true → (is_utf8 label.0 ≡ true) × (is_utf8 label.1 ≡ true))
        → (is_utf8 label.0 ≡ true) × (is_utf8 label.1 ≡ true)
    by true same texts k later =
        let q = both_true (bytes_eq label.0 f.0) (bytes_eq label.1 f.1) same in (
          ap is_utf8 ((bytes_eq-Decides label.0 f.0).0 q.0) ∙ texts.0,
          ap is_utf8 ((bytes_eq-Decides label.1 f.1).0 q.1) ∙ texts.1,
        )
    by false same texts k later = later k

are-labels : (fields labels : List Field) → list_all is_text_field fields ≡ true
    → list_all (has_field fields) labels ≡ true → AllByRecursion IsShortLabel labels → AllByRecursion IsLabel labels
are-labels fields [] e h short = tt
are-labels fields (l ∷ ls) e h short =
    let p = both_true (has_field fields l) (list_all (has_field fields) ls) h in
    let u = utf8-label fields l e p.0 in (
      record {
        short = short.0;
        name = IsUtf8-from_is_utf8 l.0 u.0;
        content = IsUtf8-from_is_utf8 l.1 u.1;
      },
      are-labels fields ls e p.1 short.1,
    )

stream-labels : (rows : List Numbered) → AllByRecursion IsWrittenRow rows → AllByRecursion IsShortLabel (labels_of rows)
    → AllByRecursion IsLabel (labels_of rows)
stream-labels [] h short = tt
stream-labels (n ∷ ns) h short = are-labels n.row.fields n.row.labels h.0.text h.0.numbered.row.labelled short

-- ---- keys and columns

moment-fits : (n : ℕ) → n < 2 ^ 63 → FitsSigned w64 (pos n)
moment-fits n lt = omega (arith, ints)

are-keys : (rows : List Numbered) → AllByRecursion IsNumbered rows → AllByRecursion IsKey (keys_of rows)
are-keys [] h = tt
are-keys (n ∷ ns) h = (
  record {
    time = moment-fits n.row.moment h.0.row.moment;
    batch = h.0.batch;
    place = h.0.place;
  },
  are-keys ns h.1,
)

small-values : (rows : List Numbered) (name : List ℕ) → AllByRecursion IsNumbered rows
    → sum_by length (values_of rows name) ≤ 262_144 * length rows
small-values [] name h = omega arith
small-values (n ∷ ns) name h =
    omega (
      arith,
      sum_by-cons length (field_value n.row.fields name) (values_of ns name),
      value-size n.row.fields name,
      h.0.row.light,
      small-values ns name h.1,
    )

are-columns : (rows : List Numbered) (names : List (List ℕ)) → AllByRecursion IsNumbered rows
    → length rows ≤ 4096 → list_all is_text_row rows ≡ true → list_all is_short_name names ≡ true
    → list_all is_utf8 names ≡ true
    → AllByRecursion (IsColumn (length (keys_of rows))) (map (λ name. (name, values_of rows name)) names)
are-columns rows [] h few e short utf8 = tt
are-columns rows (name ∷ names) h few e short utf8 =
    let p = both_true (is_short_name name) (list_all is_short_name names) short in
    let q = both_true (is_utf8 name) (list_all is_utf8 names) utf8 in
    let narrow = leb-true (length name) 128 p.0 in
    let count : length (values_of rows name) ≡ length (keys_of rows) = length-map rows (λ (n : Numbered). field_value
    n.row.fields name) ∙ sym (length-map rows key_of) in (
      record {
        name = omega (arith, narrow);
        name_utf8 = IsUtf8-from_is_utf8 name q.0;
        count = count;
        utf8 = utf8-values rows name e;
        small = omega (arith, small-values rows name h, few);
      },
      are-columns rows names h few e p.1 q.1,
    )

writable : (rows : List Numbered) → IsWrittenBlock rows → IsWritable (parts_of rows)
writable rows h =
    let each = each-numbered rows h.each in
    let texts = each-text rows h.each in
    let stream = stream-short rows h.block.some (are-rows rows each) in
    let count = length-map rows key_of in
    let few = h.block.few in
    let narrow = h.block.narrow in
    record {
      labels_few = stream.1;
      labels = stream-labels rows h.each stream.0;
      rows_few = omega (arith, count, few);
      keys = are-keys rows each;
      columns_few = omega (
        arith,
        length-map {B = Column} (names_of rows) (λ (name : List ℕ). (name, values_of rows name)),
        narrow,
      );
      columns = are-columns rows (names_of rows) each few texts (names-short rows (are-rows rows each)) (utf8-names rows
          texts);
    }

-- ---- the rows that they say

-- fields that are set in their order
set-rising : (acc fields : List Field) → IsRising (names_in_order fields) → list_all is_filled fields ≡ true
    → AllByRecursion (AllBelow acc) (names_in_order fields) → set_all acc fields ≡ acc ++ fields
set-rising acc [] s e b = sym (append-nil acc)
set-rising acc (f ∷ fs) s e b =
    let p = both_true (is_filled f) (list_all is_filled fs) e in
    ap (λ (old : List Field). set_all old fs) (set-last acc f.0 f.1 b.0 (filled-value f p.0))
    ∙ set-rising (acc ++ f ∷ []) fs (sorted_tail bytes_cmp f.0 (names_in_order fs) s) p.1 (below-more acc f
    (names_in_order fs) b.1 (sorted_head bytes_cmp f.0 (names_in_order fs) s))
    ∙ append_assoc acc (f ∷ []) fs

labels-again : (rows : List Numbered) → AllByRecursion IsWrittenRow rows
    → (set_all [] (labels_of rows) ≡ labels_of rows) × (list_all is_filled (labels_of rows) ≡ true)
labels-again [] h = (refl, refl)
labels-again (n ∷ ns) h =
    let labels = h.0.numbered.row.labels in (
      set-rising [] n.row.labels labels.ordered labels.filled (none-below (names_in_order n.row.labels)),
      labels.filled,
    )

since-1970 : (rows : List Numbered) → list_all is_since_1970 (keys_of rows) ≡ true
since-1970 [] = refl
since-1970 (n ∷ ns) =
    both_from (not (ltb n.row.moment 0)) (list_all is_since_1970 (keys_of ns)) (ap not (le-ltb n.row.moment 0
    (omega arith))) (since-1970 ns)

left_true : (a b : Bool) → a ≡ true → (a || b) ≡ true
left_true true b e = refl
left_true false b e = absurd cc

all-named : (rows : List Numbered) (names : List (List ℕ)) → list_all is_some_name names ≡ true
    → (list_all is_named (map (λ name. (name, values_of rows name)) names) ≡ true)
    × (filter has_name (map (λ name. (name, values_of rows name)) names)
    ≡ map (λ name. (name, values_of rows name)) names)
all-named rows [] e = (refl, refl)
all-named rows (name ∷ names) e =
    let p = both_true (is_some_name name) (list_all is_some_name names) e in
    let r = all-named rows names p.1 in
    let column : Column = (name, values_of rows name) in (
      both_from (is_named (name, values_of rows name)) (list_all is_named (map (λ name. (name, values_of rows name))
          names)) (left_true (is_some_name name) _ p.0) r.0,
      rw p.0 (ap (λ (l : List Column). column ∷ l) r.1),
    )

says-again : (rows : List Numbered) → IsWrittenBlock rows → rows_said (parts_of rows) ≡ rows
says-again rows h =
    let each = are-rows rows (each-numbered rows h.each) in
    let labels = labels-again rows h.each in
    let named = all-named rows (names_of rows) (names-some rows each) in
    let said : are_said (parts_of rows) ≡ true =
    both_from (list_all is_filled (labels_of rows)) (list_all is_since_1970 (keys_of rows)
    && list_all is_named (columns_of rows)) labels.1 (both_from (list_all is_since_1970 (keys_of rows)) (list_all
    is_named (columns_of rows)) (since-1970 rows) named.0) in
    let found : rows_from (set_all [] (labels_of rows)) (filter has_name (columns_of rows)) 0 (keys_of rows) ≡ rows =
    ap (λ (l : List Field). rows_from l (filter has_name (columns_of rows)) 0 (keys_of rows)) labels.0
    ∙ ap (λ (l : List Column). rows_from (labels_of rows) l 0 (keys_of rows)) named.1
    ∙ rows-again rows (labels_of rows) each h.block.stream in
    rw said (ap in_order found ∙ in-order-again rows h.block.ordered)

-- ---- both

abbrev said : Found → Result (List Numbered) ℕ
said found = Ok (rows_said found)

-- the rows of a block are those that its parts say
pub whole-block : (bytes : List ℕ) → whole block bytes ≡ whole parts bytes >>= λ found. Ok (rows_said found)
unfolding block
whole-block bytes =
    whole-followed parts (λ found. value (rows_said found)) bytes
    ∙ bind_same (front parts bytes) _ _ (λ x. sym (bind_chosen (length x.1 == 0) (Ok x.0) (length x.1) said))
    ∙ sym (bind_assoc (front parts bytes) ended said)

pub is_read_again : IsReadAgain block block_writing
is_read_again rows bytes e =
    let g = some_from (has_spelling rows) (block_bytes rows) bytes e in
    let h = block-holds rows g.0 in
    ap (whole block) (sym g.1) ∙ whole-block (block_bytes rows)
    ∙ ap (λ (r : Result Found ℕ). r >>= said) (whole-again (parts_of rows) (writable rows h))
    ∙ ap (λ (l : List Numbered). Ok l) (says-again rows h)

pub writing-is : (rows : List Numbered) (bytes : List ℕ) → block_writing rows ≡ Some bytes → bytes ≡ block_bytes rows
writing-is rows bytes e = sym (some_from (has_spelling rows) (block_bytes rows) bytes e).1

pub is-written : (rows : List Numbered) → has_spelling rows ≡ true → block_writing rows ≡ Some (block_bytes rows)
is-written rows e = rw e refl

pub written-again : (rows : List Numbered) (bytes : List ℕ) → block_writing rows ≡ Some bytes
    → reading block block_writing bytes ≡ Ok rows
written-again rows bytes e = reading-only block block_writing bytes rows is_read_again e

pub is-none : (rows : List Numbered) → has_spelling rows ≡ false → block_writing rows ≡ None
is-none rows e = rw e refl
