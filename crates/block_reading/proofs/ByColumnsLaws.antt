-- Keys and columns that keep the rules are held as the rows of a block.
use Rattle.std.proofs.Common.{◌≡◌, ℕ, ℤ, zero, suc, pos, negsuc, ◌+◌, ◌-◌, ◌<◌, ◌≤◌, ◌^◌, Bool, true, false, cond}
use Rattle.std.proofs.Common.{leb, List, [], ◌∷◌, ◌++◌, length, filter, map, take, get_or, FitsSigned, w64, refl, sym, ap, subst}
use Rattle.std.proofs.Common.{◌∙◌, arith}
use Rattle.std.specs.Prelude.{◌&&◌, ◌||◌, bytes_eq, int_lt, not, unsigned_abs}
use Rattle.std.specs.List.{All, AllByRecursion, list_all, list_any}
use Rattle.std.specs.List.Sorted.{IsStrictlySortedBy}
use Rattle.std.specs.Str.{is_utf8}
use Rattle.std.proofs.lemmas.Bool.{le-ltb, ltb-true}
use Rattle.std.proofs.lemmas.Int.{ints}
use Rattle.std.proofs.lemmas.List.{length-map, take_more}
use Rattle.std.proofs.lemmas.List.Sums.{fold_push, sum_by-cons}
use Rattle.std.proofs.lemmas.Slice.Eq.{bytes_eq-Decides}
use Rattle.std.proofs.lemmas.Str.{IsUtf8-nil, is_utf8-from_IsUtf8}
use Rattle.block_format.specs.Columns.{HasRows}
use Rattle.block_format.specs.Found.{Found}
use Rattle.block_format.specs.Reading.{are_said, has_name, in_order, rows_said}
use Rattle.block_format.specs.Rows.{IsBlock, are_numbered_apart, are_ordered, comes_before, has_other_number, labels_of}
use Rattle.block_format.specs.Rows.{number_of}
use Rattle.block_format.proofs.OrderLaws.{in-order-again}
use Rattle.block_format.proofs.SaidLaws.{rows-length}
use Rattle.block_format.proofs.TestLaws.{both_from}
use Rattle.block_model.specs.Columns.{Column, fields_at, names_of, row_of, rows_from, values_of}
use Rattle.block_model.specs.Keys.{IsNumbered, keys_of}
use Rattle.block_model.specs.Texts.{is_text_field, is_text_row}
use Rattle.block_model.specs.declared.keys.Key.{Key}
use Rattle.block_model.proofs.Distinct.{right_true}
use Rattle.block_model.proofs.FieldLaws.{IsRising}
use Rattle.byte_format.proofs.Cases.{both_true}
use Rattle.log_model.specs.Field.{Field, IsFieldList, bytes_cmp, is_empty, is_filled, is_reserved, set_all, weight}
use Rattle.log_model.specs.History.{Numbered}
use Rattle.log_model.specs.Row.{has_field}
use Rattle.vl_row.specs.Place.{IsInOrder}
use Rattle.word_filter.specs.Words.{filter_of}
use Rattle.block_reading.specs.ByColumns.{AreBlockKeys, AreFew, AreGoodNames, AreLight, IsFilled, IsFitKey, bare}
use Rattle.block_reading.specs.ByColumns.{column_names, contents, filter_for, has_label, head_by_keys, is_label, no_key}
use Rattle.block_reading.specs.ByColumns.{bytes_from, bytes_in, has_text, larger, nothing, number_in, size_at, size_from}
use Rattle.block_body.specs.Held.{IsHeld, rows_in}
use Rattle.block_body.specs.Outline.{NamedFilter, Outline}
use Rattle.block_body.specs.Outlines.{filter_named, first_moment, last_moment, outline_of, weight_of}
use Rattle.block_reading.specs.declared.sizes.RowSize.{RowSize}
use Rattle.block_reading.proofs.FoundLaws.{HasSome, HaveLength, fields-are, filled-filled, filled-pass, filled-rising}
use Rattle.block_reading.proofs.FoundLaws.{filled_at, names-are, values-are}
use Rattle.block_body.proofs.HeldLaws.{held}
use Rattle.block_body.proofs.OutlineLaws.{outline-is}

-- ---- keys

abs-is : (time : ℤ) → not (int_lt time (pos 0)) ≡ true → pos (unsigned_abs time) ≡ time
abs-is (pos n) h = refl
abs-is (negsuc n) h = absurd (let e : false ≡ true = h in cc)

keys-again : (labels : List Field) (columns : List Column) (i : ℕ) (keys : List Key) → AllByRecursion IsFitKey keys
    → keys_of (rows_from labels columns i keys) ≡ keys
keys-again labels columns i [] h = refl
keys-again labels columns i (key ∷ keys) h =
    ap (λ (t : ℤ). record { time = t; batch = key.batch; place = key.place } ∷ keys_of (rows_from labels columns (suc i)
    keys)) (abs-is key.time h.0.late)
    ∙ ap (λ (l : List Key). key ∷ l) (keys-again labels columns (suc i) keys h.1)

before-bare : (labels : List Field) (key : Key) (f g : List Field) (columns : List Column) (i j : ℕ) (keys : List Key)
    → list_all (comes_before (row_of labels key f)) (rows_from labels columns i keys)
    ≡ list_all (comes_before (row_of [] key g)) (rows_from [] [] j keys)
before-bare labels key f g columns i j [] = refl
before-bare labels key f g columns i j (k ∷ ks) =
    ap (λ (b : Bool). comes_before (row_of labels key f) (row_of labels k (fields_at columns i)) && b) (before-bare labels
    key f g columns (suc i) (suc j) ks)

ordered-bare : (labels : List Field) (columns : List Column) (i j : ℕ) (keys : List Key)
    → are_ordered (rows_from labels columns i keys) ≡ are_ordered (rows_from [] [] j keys)
ordered-bare labels columns i j [] = refl
ordered-bare labels columns i j (key ∷ keys) =
    ap (λ (b : Bool). b && are_ordered (rows_from labels columns (suc i) keys)) (before-bare labels key
    (fields_at columns i) (fields_at [] j) columns (suc i) (suc j) keys)
    ∙ ap (λ (b : Bool). list_all (comes_before (row_of [] key (fields_at [] j))) (rows_from [] [] (suc j) keys) && b)
    (ordered-bare labels columns (suc i) (suc j) keys)

other-bare : (labels : List Field) (key : Key) (f g : List Field) (columns : List Column) (i j : ℕ) (keys : List Key)
    → list_all (has_other_number (row_of labels key f)) (rows_from labels columns i keys)
    ≡ list_all (has_other_number (row_of [] key g)) (rows_from [] [] j keys)
other-bare labels key f g columns i j [] = refl
other-bare labels key f g columns i j (k ∷ ks) =
    ap (λ (b : Bool). has_other_number (row_of labels key f) (row_of labels k (fields_at columns i)) && b) (other-bare
    labels key f g columns (suc i) (suc j) ks)

apart-bare : (labels : List Field) (columns : List Column) (i j : ℕ) (keys : List Key)
    → are_numbered_apart (rows_from labels columns i keys) ≡ are_numbered_apart (rows_from [] [] j keys)
apart-bare labels columns i j [] = refl
apart-bare labels columns i j (key ∷ keys) =
    ap (λ (b : Bool). b && are_numbered_apart (rows_from labels columns (suc i) keys)) (other-bare labels key
    (fields_at columns i) (fields_at [] j) columns (suc i) (suc j) keys)
    ∙ ap (λ (b : Bool). list_all (has_other_number (row_of [] key (fields_at [] j))) (rows_from [] [] (suc j) keys) && b)
    (apart-bare labels columns (suc i) (suc j) keys)

pub numbers-bare : (i : ℕ) (keys : List Key) → map number_of (rows_from [] [] i keys) ≡ map number_in keys
numbers-bare i [] = refl
numbers-bare i (key ∷ keys) = ap (λ (l : List (ℕ × ℕ)). number_in key ∷ l) (numbers-bare (suc i) keys)

all-labels : (labels : List Field) (columns : List Column) (i : ℕ) (keys : List Key) → 0 < length keys
    → labels_of (rows_from labels columns i keys) ≡ labels
all-labels labels columns i [] some = absurd (omega (arith, some))
all-labels labels columns i (key ∷ keys) some = refl

one-stream : (labels : List Field) (columns : List Column) (i : ℕ) (keys : List Key)
    → AllByRecursion (λ (n : Numbered). n.row.labels ≡ labels) (rows_from labels columns i keys)
one-stream labels columns i [] = tt
one-stream labels columns i (key ∷ keys) = (refl, one-stream labels columns (suc i) keys)

-- ---- values

some-at : (values : List (List ℕ)) → list_any has_text values ≡ true
    → (j : ℕ) × (j < length values) × (is_empty (get_or values j []) ≡ false)
some-at [] e = absurd cc
some-at (v ∷ vs) e = by (has_text v) refl e (some-at vs)
  where
    by : (b : Bool) → has_text v ≡ b → (b || list_any has_text vs) ≡ true
        → (list_any has_text vs ≡ true → (j : ℕ) × (j < length vs) × (is_empty (get_or vs j []) ≡ false))
        → (j : ℕ) × (j < length (v ∷ vs)) × (is_empty (get_or (v ∷ vs) j []) ≡ false)
    by true here h later = (0, omega arith, le-ltb (length v) 1 (omega (arith, ltb-true 0 (length v) here)))
    by false here h later = let r = later h in (suc r.0, omega (arith, r.1), r.2)

each-at : (p : List ℕ → Bool) (values : List (List ℕ)) (i : ℕ) → i < length values → list_all p values ≡ true
    → p (get_or values i []) ≡ true
each-at p [] i lt e = absurd (omega (arith, lt))
each-at p (v ∷ vs) zero lt e = (both_true (p v) (list_all p vs) e).0
each-at p (v ∷ vs) (suc i) lt e = each-at p vs i (omega (arith, lt)) (both_true (p v) (list_all p vs) e).1

text-at : (values : List (List ℕ)) (i : ℕ) → list_all is_utf8 values ≡ true → is_utf8 (get_or values i []) ≡ true
text-at [] i e = is_utf8-from_IsUtf8 [] IsUtf8-nil
text-at (v ∷ vs) zero e = (both_true (is_utf8 v) (list_all is_utf8 vs) e).0
text-at (v ∷ vs) (suc i) e = text-at vs i (both_true (is_utf8 v) (list_all is_utf8 vs) e).1

-- ---- the fields of one row

-- the size of a row is that of what the columns have
abbrev grown_by : RowSize → List Field → RowSize
grown_by size fields = record { fields = size.fields + length fields; weight = size.weight + weight fields }

abbrev with_one : RowSize → List ℕ → List ℕ → RowSize
with_one size name value = record { fields = size.fields + 1; weight = size.weight + (length name + length value) }

same-size : (a b c d : ℕ) → a ≡ c → b ≡ d
    → (let x : RowSize = record { fields = a; weight = b } in x) ≡ (let y : RowSize = record { fields = c; weight = d } in y)
same-size a b c d p q = rw (p, q) refl

sizes-are : (i : ℕ) (columns : List Column) (size : RowSize)
    → size_from size columns i ≡ grown_by size (filled_at i columns)
sizes-are i [] size = same-size size.fields size.weight (size.fields + 0) (size.weight + 0) (omega arith) (omega arith)
sizes-are i (c ∷ cs) size = by (is_empty (get_or c.1 i [])) (λ s. sizes-are i cs s)
  where
    by : (b : Bool) → ((s : RowSize) → size_from s cs i ≡ grown_by s (filled_at i cs))
        → size_from (cond b size (with_one size c.0 (get_or c.1 i []))) cs i
        ≡ grown_by size (cond b (filled_at i cs) ((c.0, get_or c.1 i []) ∷ filled_at i cs))
    by true later = later size
    by false later =
        let sum = sum_by-cons (λ (field : Field). length field.0 + length field.1) (c.0, get_or c.1 i []) (filled_at i
        cs) in
        later (with_one size c.0 (get_or c.1 i []))
        ∙ same-size (size.fields + 1 + length (filled_at i cs)) (size.weight + (length c.0 + length (get_or c.1 i []))
        + weight (filled_at i cs)) (size.fields + length ((c.0, get_or c.1 i []) ∷ filled_at i cs)) (size.weight
        + weight ((c.0, get_or c.1 i []) ∷ filled_at i cs)) (omega arith) (omega (arith, sum))

-- ---- the bytes of all rows

bytes-at : (i : ℕ) (columns : List Column) → IsRising (column_names columns) → AreGoodNames columns
    → (size_at columns i).weight ≡ weight (fields_at columns i)
bytes-at i columns s g =
    let size : (size_at columns i).weight ≡ 0 + weight (filled_at i columns) =
    ap (λ (x : RowSize). x.weight) (sizes-are i columns nothing) in
    let fields : weight (fields_at columns i) ≡ weight (filled_at i columns) = ap weight (fields-are i columns s g) in
    omega (arith, size, fields)

bytes-are : (labels : List Field) (columns : List Column) (i : ℕ) (keys : List Key) → IsRising (column_names columns)
    → AreGoodNames columns → bytes_from columns i (length keys) ≡ weight_of (rows_from labels columns i keys)
bytes-are labels columns i [] s g = refl
bytes-are labels columns i (key ∷ keys) s g =
    ap (λ (k : ℕ). k + bytes_from columns (suc i) (length keys)) (bytes-at i columns s g)
    ∙ ap (λ (k : ℕ). weight (fields_at columns i) + k) (bytes-are labels columns (suc i) keys s g)
    ∙ sym (sum_by-cons (λ (n : Numbered). weight n.row.fields) (row_of labels key (fields_at columns i)) (rows_from labels
    columns (suc i) keys))

pub bytes-from-sizes : (columns : List Column) (i : ℕ) (sizes : List RowSize)
    → ((j : ℕ) → j < length sizes → get_or sizes j nothing ≡ size_at columns (i + j))
    → bytes_in sizes ≡ bytes_from columns i (length sizes)
bytes-from-sizes columns i [] h = refl
bytes-from-sizes columns i (size ∷ sizes) h =
    let here : i + 0 ≡ i = omega arith in
    let first : size.weight ≡ (size_at columns i).weight = ap (λ (x : RowSize). x.weight) (h 0 (omega arith)
    ∙ ap (size_at columns) here) in
    let rest = bytes-from-sizes columns (suc i) sizes (λ j lt.
    let there : i + suc j ≡ suc i + j = omega arith in
    h (suc j) (omega (arith, lt)) ∙ ap (size_at columns) there) in
    sum_by-cons (λ (x : RowSize). x.weight) size sizes
    ∙ ap (λ (k : ℕ). k + bytes_in sizes) first
    ∙ ap (λ (k : ℕ). (size_at columns i).weight + k) rest

-- a column more
pub size-more : (columns : List Column) (k i : ℕ) (column : Column) → k < length columns
    → column ≡ get_or columns k column
    → size_at (take (k + 1) columns) i
    ≡ larger (length column.0) (size_at (take k columns) i) (length (get_or column.1 i []))
size-more columns k i column lt e =
    ap (λ (l : List Column). size_at l i) (take_more columns k column lt ∙ ap (λ (c : Column). take k columns ++ c ∷ [])
    (sym e))
    ∙ fold_push (λ (size : RowSize) (c : Column). larger (length c.0) size (length (get_or c.1 i []))) nothing (take k
    columns) column

-- a label is among the fields of each row
label-there : (label : Field) (rows i : ℕ) (columns : List Column) → i < rows → HaveLength rows columns
    → is_empty label.1 ≡ false → has_label columns label ≡ true → has_field (filled_at i columns) label ≡ true
label-there label rows i [] lt l some e = absurd cc
label-there label rows i (c ∷ cs) lt l some e =
    by (is_label label c) refl e (label-there label rows i cs lt l.1 some)
  where
    later_too : (b : Bool) → has_field (filled_at i cs) label ≡ true
        → has_field (cond b (filled_at i cs) ((c.0, get_or c.1 i []) ∷ filled_at i cs)) label ≡ true
    later_too true h = h
    later_too false h =
        right_true (bytes_eq label.0 c.0 && bytes_eq label.1 (get_or c.1 i [])) (has_field (filled_at i cs) label) h

    by : (b : Bool) → is_label label c ≡ b → (b || has_label cs label) ≡ true
        → (has_label cs label ≡ true → has_field (filled_at i cs) label ≡ true)
        → has_field (cond (is_empty (get_or c.1 i [])) (filled_at i cs) ((c.0, get_or c.1 i []) ∷ filled_at i cs)) label
        ≡ true
    by true here k later =
        let p = both_true (bytes_eq label.0 c.0) (list_all (bytes_eq label.1) c.1) here in
        let value = each-at (bytes_eq label.1) c.1 i (omega (arith, lt, l.0)) p.1 in
        let filled : is_empty (get_or c.1 i []) ≡ false =
        ap is_empty (sym ((bytes_eq-Decides label.1 (get_or c.1 i [])).0 value)) ∙ some in
        rw (filled, p.0, value) refl
    by false here k later = later_too (is_empty (get_or c.1 i [])) (later k)

value-some : (a b : Bool) → not (a || b) ≡ true → b ≡ false
value-some true b e = absurd cc
value-some false true e = absurd cc
value-some false false e = refl

labels-there : (labels : List Field) (rows i : ℕ) (columns : List Column) → i < rows → HaveLength rows columns
    → list_all is_filled labels ≡ true → list_all (has_label columns) labels ≡ true
    → list_all (has_field (filled_at i columns)) labels ≡ true
labels-there [] rows i columns lt l f e = refl
labels-there (label ∷ labels) rows i columns lt l f e =
    let p = both_true (has_label columns label) (list_all (has_label columns) labels) e in
    let q = both_true (is_filled label) (list_all is_filled labels) f in
    both_from (has_field (filled_at i columns) label) (list_all (has_field (filled_at i columns)) labels) (label-there label
    rows i columns lt l (value-some (is_empty label.0) (is_empty label.1) q.0) p.0) (labels-there labels rows i columns lt
    l q.1 p.1)

text-filled : (i : ℕ) (columns : List Column) → AreGoodNames columns → AllByRecursion IsFilled columns
    → list_all is_text_field (filled_at i columns) ≡ true
text-filled i [] g f = refl
text-filled i (c ∷ cs) g f = by (is_empty (get_or c.1 i [])) (text-filled i cs g.1 f.1)
  where
    by : (b : Bool) → list_all is_text_field (filled_at i cs) ≡ true
        → list_all is_text_field (cond b (filled_at i cs) ((c.0, get_or c.1 i []) ∷ filled_at i cs)) ≡ true
    by true h = h
    by false h =
        both_from (is_text_field (c.0, get_or c.1 i [])) (list_all is_text_field (filled_at i cs)) (both_from
        (is_utf8 c.0) (is_utf8 (get_or c.1 i [])) g.0.text (text-at c.1 i f.0.texts)) h

free-names : (columns : List Column) → AreGoodNames columns
    → AllByRecursion (λ (column : Column). not (is_reserved column.0) ≡ true) columns
free-names [] g = tt
free-names (c ∷ cs) g = (ap not g.0.free, free-names cs g.1)

short-names : (columns : List Column) → AreGoodNames columns
    → AllByRecursion (λ (column : Column). leb (length column.0) 128 ≡ true) columns
short-names [] g = tt
short-names (c ∷ cs) g = (g.0.short, short-names cs g.1)

-- fields that keep the rules of rows
record AreGoodFields (labels fields : List Field) : Type 0 where
  listed : IsFieldList fields
  unreserved : list_all (λ (field : Field). not (is_reserved field.0)) fields ≡ true
  some : 0 < length fields
  few : length fields ≤ 1000
  short : list_all (λ (field : Field). leb (length field.0) 128) fields ≡ true
  light : weight fields ≤ 262_144
  text : list_all is_text_field fields ≡ true
  labelled : list_all (has_field fields) labels ≡ true

good-fields : (rows : ℕ) (columns : List Column) (labels : List Field) (i : ℕ) → i < rows
    → IsRising (column_names columns) → AreGoodNames columns → HaveLength rows columns
    → AllByRecursion IsFilled columns → AreLight rows columns → list_all is_filled labels ≡ true
    → list_all (has_label columns) labels ≡ true → AreGoodFields labels (fields_at columns i)
good-fields rows columns labels i lt s g l f light filled e =
    let size = sizes-are i columns nothing in
    let fields : (size_at columns i).fields ≡ 0 + length (filled_at i columns) = ap (λ (x : RowSize). x.fields) size in
    let bytes : (size_at columns i).weight ≡ 0 + weight (filled_at i columns) = ap (λ (x : RowSize). x.weight) size in
    let fit = light i lt in
    subst (AreGoodFields labels) (sym (fields-are i columns s g)) (record {
      listed = record { ordered = filled-rising i columns s; filled = filled-filled i columns g };
      unreserved = filled-pass (λ (name : List ℕ). not (is_reserved name)) i columns (free-names columns g);
      some = omega (arith, fields, fit.1.0);
      few = omega (arith, fields, fit.1.1);
      short = filled-pass (λ (name : List ℕ). leb (length name) 128) i columns (short-names columns g);
      light = omega (arith, bytes, fit.0.1);
      text = text-filled i columns g f;
      labelled = labels-there labels rows i columns lt l filled e;
    })

-- ---- all rows

each-numbered : (rows : ℕ) (labels : List Field) (columns : List Column) (i : ℕ) (keys : List Key)
    → ((j : ℕ) → j < rows → AreGoodFields labels (fields_at columns j)) → IsFieldList labels → i + length keys ≡ rows
    → AllByRecursion IsFitKey keys → AllByRecursion IsNumbered (rows_from labels columns i keys)
each-numbered rows labels columns i [] good listed e h = tt
each-numbered rows labels columns i (key ∷ keys) good listed e h =
    let fields = good i (omega (arith, e)) in (
      record {
        batch = h.0.batch;
        place = h.0.place;
        row = record {
          moment = h.0.time;
          labels = listed;
          labelled = fields.labelled;
          fields = fields.listed;
          unreserved = fields.unreserved;
          some = fields.some;
          few = fields.few;
          short = fields.short;
          light = fields.light;
        };
      },
      each-numbered rows labels columns (suc i) keys good listed (omega (arith, e)) h.1,
    )

each-text : (rows : ℕ) (labels : List Field) (columns : List Column) (i : ℕ) (keys : List Key)
    → ((j : ℕ) → j < rows → AreGoodFields labels (fields_at columns j)) → i + length keys ≡ rows
    → list_all is_text_row (rows_from labels columns i keys) ≡ true
each-text rows labels columns i [] good e = refl
each-text rows labels columns i (key ∷ keys) good e =
    both_from (list_all is_text_field (fields_at columns i)) (list_all is_text_row (rows_from labels columns (suc i) keys))
    (good i (omega (arith, e))).text (each-text rows labels columns (suc i) keys good (omega (arith, e)))

each-some : (rows : ℕ) (columns : List Column) → HaveLength rows columns → AllByRecursion IsFilled columns
    → AllByRecursion (HasSome rows) columns
each-some rows [] l f = tt
each-some rows (c ∷ cs) l f =
    let r = some-at c.1 f.0.some in
    ((r.0, omega (arith, r.1, l.0), r.2), each-some rows cs l.1 f.1)

-- ---- what is held

filters-are : (rows : List Numbered) (columns : List Column)
    → map (values_of rows) (column_names columns) ≡ contents columns
    → map (filter_named rows) (column_names columns) ≡ map filter_for columns
filters-are rows [] e = refl
filters-are rows (c ∷ cs) e =
    let first : values_of rows c.0 ≡ c.1 = cc in
    let rest : map (values_of rows) (column_names cs) ≡ contents cs = cc in
    ap (λ (v : List (List ℕ)). (c.0, filter_of v) ∷ map (filter_named rows) (column_names cs)) first
    ∙ ap (λ (l : List NamedFilter). (c.0, filter_of c.1) ∷ l) (filters-are rows cs rest)

first-time : (labels : List Field) (columns : List Column) (i : ℕ) (keys : List Key) (d : Key) → 0 < length keys
    → AllByRecursion IsFitKey keys → (get_or keys 0 d).time ≡ pos (first_moment (rows_from labels columns i keys))
first-time labels columns i [] d lt h = absurd (omega (arith, lt))
first-time labels columns i (key ∷ keys) d lt h = sym (abs-is key.time h.0.late)

last-time : (labels : List Field) (columns : List Column) (i : ℕ) (key : Key) (keys : List Key) (m : ℕ) (d : Key)
    → m ≡ length keys → AllByRecursion IsFitKey (key ∷ keys)
    → (get_or (key ∷ keys) m d).time ≡ pos (last_moment (rows_from labels columns i (key ∷ keys)))
last-time labels columns i key [] zero d e h = sym (abs-is key.time h.0.late)
last-time labels columns i key [] (suc m) d e h = absurd (omega (arith, e))
last-time labels columns i key (k ∷ ks) zero d e h = absurd (omega (arith, e))
last-time labels columns i key (k ∷ ks) (suc m) d e h =
    last-time labels columns (suc i) k ks m d (omega (arith, e)) h.1

last-of-all : (labels : List Field) (columns : List Column) (keys : List Key) (d : Key) → 0 < length keys
    → AllByRecursion IsFitKey keys
    → (get_or keys (length keys - 1) d).time ≡ pos (last_moment (rows_from labels columns 0 keys))
last-of-all labels columns [] d lt h = absurd (omega (arith, lt))
last-of-all labels columns (key ∷ keys) d lt h =
    last-time labels columns 0 key keys (length (key ∷ keys) - 1) d (omega arith) h

pub all-lengths : (n : ℕ) (columns : List Column) → All (HasRows n) columns → HaveLength n columns
all-lengths n [] h = tt
all-lengths n (c ∷ cs) h = (h 0 c (omega arith), all-lengths n cs (λ k d lt. h (suc k) d (omega (arith, lt))))

-- a time that fits
pub fit-time : (keys : List Key) (i : ℕ) (d : Key) → i < length keys → AllByRecursion IsFitKey keys
    → FitsSigned w64 (get_or keys i d).time
fit-time [] i d lt h = absurd (omega (arith, lt))
fit-time (key ∷ keys) zero d lt h = fits key.time h.0.late h.0.time
  where
    fits : (time : ℤ) → not (int_lt time (pos 0)) ≡ true → unsigned_abs time < 2 ^ 63 → FitsSigned w64 time
    fits (pos n) late small = omega (arith, ints, small)
    fits (negsuc n) late small = absurd (let e : false ≡ true = late in cc)
fit-time (key ∷ keys) (suc i) d lt h = fit-time keys i d (omega (arith, lt)) h.1

-- the rows that the columns say are those of a block, and are held so
pub held-by-columns : (labels : List Field) (columns : List Column) (keys : List Key) (values : List (List (List ℕ)))
    (head : Outline) → AreFew (length keys) (length columns) → AreBlockKeys keys → IsRising (column_names columns)
    → AreGoodNames columns → HaveLength (length keys) columns → AllByRecursion IsFilled columns
    → AreLight (length keys) columns → IsFieldList labels → list_all (has_label columns) labels ≡ true
    → head ≡ head_by_keys labels keys (bytes_from columns 0 (length keys)) (map filter_for columns) → values ≡ contents columns
    → (rows_in head keys values ≡ rows_from labels columns 0 keys) × IsHeld (rows_in head keys values) head keys values
held-by-columns labels columns keys values head few k s g l f light listed labelled h v =
    let first : Key = get_or keys 0 no_key in
    let last : Key = get_or keys (length keys - 1) no_key in
    let rows : List Numbered = rows_from labels columns 0 keys in
    let count : length (rows_from labels columns 0 keys) ≡ length keys = rows-length labels columns keys in
    let some : AllByRecursion (HasSome (length keys)) columns = each-some (length keys) columns l f in
    let names : names_of (rows_from labels columns 0 keys) ≡ column_names columns = names-are labels columns keys s g
    some in
    let each : map (values_of (rows_from labels columns 0 keys)) (column_names columns) ≡ contents columns =
    values-are labels columns keys s g l in
    let good : (j : ℕ) → j < length keys → AreGoodFields labels (fields_at columns j) =
    λ j lt. good-fields (length keys) columns labels j lt s g l f light listed.filled labelled in
    let width : length (names_of (rows_from labels columns 0 keys)) ≡ length columns = ap length names
    ∙ length-map columns (λ (column : Column). column.0) in
    let stream = all-labels labels columns 0 keys few.some in
    let block : IsBlock (rows_from labels columns 0 keys) = record {
      some = omega (arith, count, few.some);
      few = omega (arith, count, few.few);
      narrow = omega (arith, width, few.narrow);
      small = rw (count, width) few.small;
      stream = subst (λ (x : List Field). AllByRecursion (λ (n : Numbered). n.row.labels ≡ x) (rows_from labels columns 0
          keys)) (sym stream) (one-stream labels columns 0 keys);
      ordered = ordered-bare labels columns 0 0 keys ∙ k.ordered;
      apart = apart-bare labels columns 0 0 keys ∙ k.apart;
    } in
    let min = first-time labels columns 0 keys no_key few.some k.each in
    let last_one = last-of-all labels columns keys no_key few.some k.each in
    let filters : map filter_for columns ≡ map (filter_named rows) (names_of rows) = sym (ap (map (filter_named rows)) names
    ∙ filters-are rows columns each) in
    let outline : head ≡ outline_of (rows_from labels columns 0 keys) = h
    ∙ outline-is rows labels first.time last.time (length keys) (bytes_from columns 0 (length keys)) (map filter_for columns)
    (sym stream) min last_one (sym count) (bytes-are labels columns 0 keys s g) filters in
    held rows head keys values block (each-numbered (length keys) labels columns 0 keys good listed (omega arith) k.each)
    (each-text (length keys) labels columns 0 keys good (omega arith)) outline (sym (keys-again labels columns 0 keys
    k.each)) (v ∙ sym each ∙ ap (map (values_of rows)) (sym names))

-- ---- the rows that the items say

names-kept : (columns : List Column) → AreGoodNames columns → filter has_name columns ≡ columns
names-kept [] g = refl
names-kept (c ∷ cs) g =
    let named : has_name c ≡ true = ap not g.0.some in
    rw named (ap (λ (l : List Column). c ∷ l) (names-kept cs g.1))

pub said-by-columns : (found : Found) (labels : List Field) → are_said found ≡ true → labels ≡ set_all [] found.labels
    → AreGoodNames found.columns → are_ordered (bare found.keys) ≡ true
    → rows_from labels found.columns 0 found.keys ≡ rows_said found
said-by-columns found labels said same g ordered =
    let kept : filter has_name found.columns ≡ found.columns = names-kept found.columns g in
    let rows : rows_from (set_all [] found.labels) (filter has_name found.columns) 0 found.keys
    ≡ rows_from labels found.columns 0 found.keys =
    ap (λ (l : List Column). rows_from (set_all [] found.labels) l 0 found.keys) kept
    ∙ ap (λ (l : List Field). rows_from l found.columns 0 found.keys) (sym same) in
    sym (rw said (ap in_order rows ∙ in-order-again (rows_from labels found.columns 0 found.keys) (ordered-bare labels
    found.columns 0 0 found.keys ∙ ordered)))

-- ---- the order of the columns

filter-names : (columns : List Column)
    → map (λ (x : NamedFilter). x.0) (map filter_for columns) ≡ column_names columns
filter-names [] = refl
filter-names (c ∷ cs) = ap (λ (l : List (List ℕ)). c.0 ∷ l) (filter-names cs)

pub heads-in-order : (columns : List Column) (heads : List NamedFilter) → IsStrictlySortedBy bytes_cmp (column_names columns)
    → heads ≡ map filter_for columns → IsInOrder heads
heads-in-order columns heads rising e =
    subst IsInOrder (sym e) (subst (IsStrictlySortedBy bytes_cmp) (sym (filter-names columns)) rising)
