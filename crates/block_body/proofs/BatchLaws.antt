-- The rows of a block under another number of their batch.
use Rattle.std.proofs.Common.{◌≡◌, ℕ, suc, ℤ, ◌+◌, ◌<◌, ◌^◌, Bool, true, List, [], ◌∷◌, ◌++◌, length, map}
use Rattle.std.proofs.Common.{pos, get_or, refl, sym, ap, subst, ◌∙◌, arith}
use Rattle.std.specs.Prelude.{◌==◌, ◌&&◌, ◌||◌, nat_lt, not, replicate}
use Rattle.std.specs.List.{All, AllByRecursion, flat_map, list_all}
use Rattle.std.proofs.lemmas.Bool.{eq-eqb, eqb-true, le-ltb}
use Rattle.std.proofs.lemmas.List.{length-map}
use Rattle.std.proofs.lemmas.List.Concat.{flat_map-cons}
use Rattle.std.proofs.lemmas.List.Sums.{AllPass-from_list_all, sum_by-cons}
use Rattle.block_format.specs.Keys.{zipped}
use Rattle.block_format.specs.Rows.{IsBlock, are_numbered_apart, are_ordered, comes_before, has_other_number, labels_of}
use Rattle.block_model.specs.Columns.{Column, names_in, names_of, rows_from, values_of}
use Rattle.block_model.specs.Distinct.{distinct}
use Rattle.block_model.specs.Keys.{IsNumbered, keys_of}
use Rattle.block_model.specs.Texts.{is_text_row}
use Rattle.block_model.specs.declared.keys.Key.{Key}
use Rattle.log_model.specs.Field.{Field, weight}
use Rattle.log_model.specs.History.{AreOfOneBatch, Numbered, with_batch}
use Rattle.word_filter.specs.Words.{filter_of}
use Rattle.block_body.specs.Held.{IsHeld, IsStored, columns_in, keys_in, numbers_in, rows_held}
use Rattle.block_body.specs.Outline.{NamedFilter, Outline}
use Rattle.block_body.specs.Outlines.{filter_named, first_moment, last_moment, outline_of, weight_of}
use Rattle.block_body.specs.declared.body.Batches.{Batches}
use Rattle.block_body.specs.declared.body.Batches.TheVariants as batches
use Rattle.block_body.specs.declared.body.Body.{Body}
use Rattle.block_body.proofs.OutlineLaws.{outline-is}
use Rattle.block_body.proofs.StoreLaws.{numbers-wide}

abbrev under : ℕ → Key → Key
under number key = record { time = key.time; batch = number; place = key.place }

abbrev renumbered : ℕ → Numbered → Numbered
renumbered number row = record { batch = number; place = row.place; row = row.row }

abbrev IsOf : ℕ → Numbered → Type 0
IsOf batch row = row.batch ≡ batch

each-of : (batch : ℕ) (rows : List Numbered) → All (IsOf batch) rows → AllByRecursion (IsOf batch) rows
each-of batch [] h = tt
each-of batch (row ∷ rows) h = (h 0 row (omega arith), each-of batch rows (λ k d lt. h (suc k) d (omega (arith, lt))))

pub one-batch-from : (batch : ℕ) (rows : List Numbered) → list_all (λ (n : Numbered). n.batch == batch) rows ≡ true
    → AreOfOneBatch rows
one-batch-from batch rows e = (
  batch,
  λ k d lt. eqb-true (get_or rows k d).batch batch (AllPass-from_list_all (λ (n : Numbered). n.batch == batch) rows e k d
      lt),
)

-- ---- keys

keys-under : (number : ℕ) (times : List ℤ) (numbers places : List ℕ) → length numbers ≡ length times
    → length places ≡ length times
    → zipped times (replicate (length times) number) places ≡ map (under number) (zipped times numbers places)
keys-under number [] numbers places n p = refl
keys-under number (t ∷ ts) [] places n p = absurd (omega (arith, n))
keys-under number (t ∷ ts) (b ∷ bs) [] n p = absurd (omega (arith, p))
keys-under number (t ∷ ts) (b ∷ bs) (q ∷ qs) n p =
    ap (λ (l : List Key). record { time = t; batch = number; place = q } ∷ l) (keys-under number ts bs qs (omega (
      arith,
      n,
    )) (omega (arith, p)))

rows-under : (number : ℕ) (labels : List Field) (columns : List Column) (i : ℕ) (keys : List Key)
    → rows_from labels columns i (map (under number) keys) ≡ with_batch number (rows_from labels columns i keys)
rows-under number labels columns i [] = refl
rows-under number labels columns i (key ∷ keys) =
    ap (λ (l : List Numbered). rows_from labels columns i (under number key ∷ []) ++ l) (rows-under number labels columns
    (suc i) keys)

keys-of-under : (number : ℕ) (rows : List Numbered) → keys_of (with_batch number rows) ≡ map (under number) (keys_of rows)
keys-of-under number [] = refl
keys-of-under number (row ∷ rows) =
    ap (λ (l : List Key). keys_of (renumbered number row ∷ []) ++ l) (keys-of-under number rows)

-- ---- names and values

fields-under : (number : ℕ) (rows : List Numbered)
    → flat_map (λ (n : Numbered). names_in n.row.fields) (with_batch number rows)
    ≡ flat_map (λ (n : Numbered). names_in n.row.fields) rows
fields-under number [] = refl
fields-under number (row ∷ rows) =
    flat_map-cons (λ (n : Numbered). names_in n.row.fields) (renumbered number row) (with_batch number rows)
    ∙ ap (λ (l : List (List ℕ)). names_in row.row.fields ++ l) (fields-under number rows)
    ∙ sym (flat_map-cons (λ (n : Numbered). names_in n.row.fields) row rows)

names-under : (number : ℕ) (rows : List Numbered) → names_of (with_batch number rows) ≡ names_of rows
names-under number rows = ap distinct (fields-under number rows)

values-under : (number : ℕ) (name : List ℕ) (rows : List Numbered)
    → values_of (with_batch number rows) name ≡ values_of rows name
values-under number name [] = refl
values-under number name (row ∷ rows) =
    ap (λ (l : List (List ℕ)). values_of (row ∷ []) name ++ l) (values-under number name rows)

all-values-under : (number : ℕ) (rows : List Numbered) (names : List (List ℕ))
    → map (values_of (with_batch number rows)) names ≡ map (values_of rows) names
all-values-under number rows [] = refl
all-values-under number rows (name ∷ names) =
    ap (λ (v : List (List ℕ)). v ∷ map (values_of (with_batch number rows)) names) (values-under number name rows)
    ∙ ap (λ (l : List (List (List ℕ))). values_of rows name ∷ l) (all-values-under number rows names)

columns-under : (number : ℕ) (rows : List Numbered)
    → map (values_of (with_batch number rows)) (names_of (with_batch number rows)) ≡ map (values_of rows) (names_of rows)
columns-under number rows =
    ap (map (values_of (with_batch number rows))) (names-under number rows)
    ∙ all-values-under number rows (names_of rows)

-- ---- what is known of the rows

labels-under : (number : ℕ) (rows : List Numbered) → labels_of (with_batch number rows) ≡ labels_of rows
labels-under number [] = refl
labels-under number (row ∷ rows) = refl

first-under : (number : ℕ) (rows : List Numbered) → first_moment (with_batch number rows) ≡ first_moment rows
first-under number [] = refl
first-under number (row ∷ rows) = refl

last-under : (number : ℕ) (rows : List Numbered) → last_moment (with_batch number rows) ≡ last_moment rows
last-under number [] = refl
last-under number (row ∷ []) = refl
last-under number (row ∷ next ∷ rows) = last-under number (next ∷ rows)

filters-under : (number : ℕ) (rows : List Numbered) (names : List (List ℕ))
    → map (filter_named (with_batch number rows)) names ≡ map (filter_named rows) names
filters-under number rows [] = refl
filters-under number rows (name ∷ names) =
    ap (λ (v : List (List ℕ)). (name, filter_of v) ∷ map (filter_named (with_batch number rows)) names) (values-under
    number name rows)
    ∙ ap (λ (l : List NamedFilter). filter_named rows name ∷ l) (filters-under number rows names)

weight-under : (number : ℕ) (rows : List Numbered) → weight_of (with_batch number rows) ≡ weight_of rows
weight-under number [] = refl
weight-under number (row ∷ rows) =
    sum_by-cons (λ (n : Numbered). weight n.row.fields) (renumbered number row) (with_batch number rows)
    ∙ ap (λ (k : ℕ). weight row.row.fields + k) (weight-under number rows)
    ∙ sym (sum_by-cons (λ (n : Numbered). weight n.row.fields) row rows)

outline-under : (number : ℕ) (rows : List Numbered) → outline_of (with_batch number rows) ≡ outline_of rows
outline-under number rows =
    let filters : map (filter_named (with_batch number rows)) (names_of (with_batch number rows))
    ≡ map (filter_named rows) (names_of rows) =
    ap (map (filter_named (with_batch number rows))) (names-under number rows)
    ∙ filters-under number rows (names_of rows) in
    let new : List Numbered = with_batch number rows in
    outline-is rows (labels_of new) (pos (first_moment new)) (pos (last_moment new)) (length new) (weight_of new) (map
    (filter_named new) (names_of new)) (labels-under number rows) (ap pos (first-under number rows)) (ap pos (last-under
    number rows)) (length-map rows (renumbered number)) (weight-under number rows) filters

texts-under : (number : ℕ) (rows : List Numbered)
    → list_all is_text_row (with_batch number rows) ≡ list_all is_text_row rows
texts-under number [] = refl
texts-under number (row ∷ rows) = ap (λ (b : Bool). is_text_row row && b) (texts-under number rows)

-- ---- the rules

stream-under : (number : ℕ) (labels : List Field) (rows : List Numbered)
    → AllByRecursion (λ (n : Numbered). n.row.labels ≡ labels) rows
    → AllByRecursion (λ (n : Numbered). n.row.labels ≡ labels) (with_batch number rows)
stream-under number labels [] h = tt
stream-under number labels (row ∷ rows) h = (h.0, stream-under number labels rows h.1)

numbered-under : (number : ℕ) (rows : List Numbered) → number < 2 ^ 64 → AllByRecursion IsNumbered rows
    → AllByRecursion IsNumbered (with_batch number rows)
numbered-under number [] small h = tt
numbered-under number (row ∷ rows) small h =
    (record { batch = small; place = h.0.place; row = h.0.row }, numbered-under number rows small h.1)

-- within one batch
same-batch : (b ta tc pa pc : ℕ)
    → (nat_lt ta tc || ((ta == tc) && (nat_lt b b || ((b == b) && nat_lt pa pc))))
    ≡ (nat_lt ta tc || ((ta == tc) && nat_lt pa pc))
same-batch b ta tc pa pc =
    ap (λ (x : Bool). nat_lt ta tc || ((ta == tc) && (x || ((b == b) && nat_lt pa pc)))) (le-ltb b b (omega arith))
    ∙ ap (λ (x : Bool). nat_lt ta tc || ((ta == tc) && (x && nat_lt pa pc))) (eq-eqb b b refl)

same-before : (number b : ℕ) (a c : Numbered) → IsOf b a → IsOf b c
    → comes_before (renumbered number a) (renumbered number c) ≡ comes_before a c
same-before number b a c p q =
    same-batch number a.row.moment c.row.moment a.place c.place
    ∙ sym (ap (λ (x : ℕ). nat_lt a.row.moment c.row.moment || ((a.row.moment == c.row.moment) && (nat_lt x c.batch
    || ((x == c.batch) && nat_lt a.place c.place)))) p
    ∙ ap (λ (x : ℕ). nat_lt a.row.moment c.row.moment || ((a.row.moment == c.row.moment) && (nat_lt b x
    || ((b == x) && nat_lt a.place c.place)))) q
    ∙ same-batch b a.row.moment c.row.moment a.place c.place)

before-under : (number b : ℕ) (a : Numbered) (rows : List Numbered) → IsOf b a → AllByRecursion (IsOf b) rows
    → list_all (comes_before (renumbered number a)) (with_batch number rows) ≡ list_all (comes_before a) rows
before-under number b a [] p h = refl
before-under number b a (row ∷ rows) p h =
    ap (λ (t : Bool). t && list_all (comes_before (renumbered number a)) (with_batch number rows)) (same-before number b a
    row p h.0)
    ∙ ap (λ (t : Bool). comes_before a row && t) (before-under number b a rows p h.1)

ordered-under : (number b : ℕ) (rows : List Numbered) → AllByRecursion (IsOf b) rows
    → are_ordered (with_batch number rows) ≡ are_ordered rows
ordered-under number b [] h = refl
ordered-under number b (row ∷ rows) h =
    ap (λ (t : Bool). t && are_ordered (with_batch number rows)) (before-under number b row rows h.0 h.1)
    ∙ ap (λ (t : Bool). list_all (comes_before row) rows && t) (ordered-under number b rows h.1)

same-other : (number b : ℕ) (a c : Numbered) → IsOf b a → IsOf b c
    → has_other_number (renumbered number a) (renumbered number c) ≡ has_other_number a c
same-other number b a c p q =
    ap (λ (x : Bool). not (x && (a.place == c.place))) (eq-eqb number number refl)
    ∙ sym (ap (λ (x : Bool). not (x && (a.place == c.place))) (eq-eqb a.batch c.batch (p ∙ sym q)))

other-under : (number b : ℕ) (a : Numbered) (rows : List Numbered) → IsOf b a → AllByRecursion (IsOf b) rows
    → list_all (has_other_number (renumbered number a)) (with_batch number rows) ≡ list_all (has_other_number a) rows
other-under number b a [] p h = refl
other-under number b a (row ∷ rows) p h =
    ap (λ (t : Bool). t && list_all (has_other_number (renumbered number a)) (with_batch number rows)) (same-other number b
    a row p h.0)
    ∙ ap (λ (t : Bool). has_other_number a row && t) (other-under number b a rows p h.1)

apart-under : (number b : ℕ) (rows : List Numbered) → AllByRecursion (IsOf b) rows
    → are_numbered_apart (with_batch number rows) ≡ are_numbered_apart rows
apart-under number b [] h = refl
apart-under number b (row ∷ rows) h =
    ap (λ (t : Bool). t && are_numbered_apart (with_batch number rows)) (other-under number b row rows h.0 h.1)
    ∙ ap (λ (t : Bool). list_all (has_other_number row) rows && t) (apart-under number b rows h.1)

block-under : (number : ℕ) (rows : List Numbered) → AreOfOneBatch rows → IsBlock rows → IsBlock (with_batch number rows)
block-under number rows one h =
    let each = each-of one.0 rows one.1 in
    let count : length (with_batch number rows) ≡ length rows = length-map rows (renumbered number) in
    let width : length (names_of (with_batch number rows)) ≡ length (names_of rows) = ap length (names-under number rows) in
    record {
      some = omega (arith, count, h.some);
      few = omega (arith, count, h.few);
      narrow = omega (arith, width, h.narrow);
      small = rw (count, width) h.small;
      stream = subst (λ (l : List Field). AllByRecursion (λ (n : Numbered). n.row.labels ≡ l) (with_batch number rows)) (sym
          (labels-under number rows)) (stream-under number (labels_of rows) rows h.stream);
      ordered = ordered-under number one.0 rows each ∙ h.ordered;
      apart = apart-under number one.0 rows each ∙ h.apart;
    }

-- The same body and head hold the rows under another number.
pub stored-under : (head : Outline) (body : Body) (old : Batches) (number : ℕ) → number < 2 ^ 64
    → AreOfOneBatch (rows_held head body old) → IsStored (rows_held head body old) head body old
    → (rows_held head body (batches.One number) ≡ with_batch number (rows_held head body old))
    × IsStored (rows_held head body (batches.One number)) head body (batches.One number)
stored-under head body old number small one s =
    let rows : List Numbered = rows_held head body old in
    let columns : List Column = columns_in head.columns body.columns in
    let keys : keys_in body (batches.One number) ≡ map (under number) (keys_in body old) = keys-under number
    body.times.items (numbers_in (length body.times.items) old) body.places.items (numbers-wide (length body.times.items) old
    s.even.wide) s.even.places in
    let all : rows_held head body (batches.One number) ≡ with_batch number (rows_held head body old) =
    ap (λ (k : List Key). rows_from head.labels columns 0 k) keys
    ∙ rows-under number head.labels columns 0 (keys_in body old) in
    let held : IsHeld (with_batch number (rows_held head body old)) head (keys_in body (batches.One number))
    body.columns = record {
      block = block-under number rows one s.held.block;
      each = numbered-under number rows small s.held.each;
      texts = texts-under number rows ∙ s.held.texts;
      head_is = s.held.head_is ∙ sym (outline-under number rows);
      keys_are = keys ∙ ap (map (under number)) s.held.keys_are ∙ sym (keys-of-under number rows);
      columns_are = s.held.columns_are ∙ sym (columns-under number rows);
    } in (
      all,
      record {
        even = record { places = s.even.places; wide = tt };
        held = subst (λ (r : List Numbered). IsHeld r head (keys_in body (batches.One number)) body.columns) (sym
            all) held;
      },
    )
