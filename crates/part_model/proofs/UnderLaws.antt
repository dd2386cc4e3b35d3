-- The rows of a part under another number of their batch.
use Rattle.std.proofs.Common.{◌≡◌, ℕ, ◌+◌, ◌*◌, Bool, List, [], ◌∷◌, ◌++◌, length}
use Rattle.std.proofs.Common.{map, refl, sym, ap, subst, ◌∙◌, arith}
use Rattle.std.specs.Prelude.{◌==◌, ◌&&◌, ◌||◌, nat_le, nat_lt, not}
use Rattle.std.specs.List.{All, AllByRecursion, flat_map, list_all}
use Rattle.std.specs.Ordering.{is_lt, nat_cmp, ordering_then}
use Rattle.std.specs.declared.cmp.Ordering.{Ordering}
use Rattle.std.specs.declared.cmp.Ordering.TheVariants.{Equal}
use Rattle.std.proofs.lemmas.Bool.{eq-eqb, le-ltb}
use Rattle.std.proofs.lemmas.Cmp.{nat_cmp_total, tied_itself}
use Rattle.std.proofs.lemmas.List.{length-map, map-append}
use Rattle.std.proofs.lemmas.List.Elements.{All-from_recursion, recursion_from_All}
use Rattle.log_model.specs.Field.{Field}
use Rattle.log_model.specs.History.{AreOfOneBatch, Numbered, rows_in, with_batch}
use Rattle.log_model.specs.Row.{Row, batch_weight}
use Rattle.block_model.specs.Columns.{names_in, names_of}
use Rattle.block_model.specs.Distinct.{distinct}
use Rattle.block_format.specs.Reading.{same_fields}
use Rattle.block_format.specs.Rows.{IsBlock, are_numbered_apart, are_ordered, comes_before, has_other_number, labels_of}
use Rattle.part_model.specs.Filling.{AreFilled, AreFull, IsFull, has_room, is_within, rows_in_blocks}
use Rattle.part_model.specs.Order.{are_in_order, is_earlier, labels_cmp}
use Rattle.part_model.specs.Part.{IsPart}

abbrev renumbered : ℕ → Numbered → Numbered
renumbered number row = record { batch = number; place = row.place; row = row.row }

abbrev IsOf : ℕ → Numbered → Type 0
IsOf batch row = row.batch ≡ batch

-- ---- what the number of the batch does not change

names-under : (number : ℕ) (rows : List Numbered) → names_of (with_batch number rows) ≡ names_of rows
names-under number rows = ap distinct (each rows)
  where
    each : (rows : List Numbered) → flat_map (λ (n : Numbered). names_in n.row.fields) (with_batch number rows)
        ≡ flat_map (λ (n : Numbered). names_in n.row.fields) rows
    each [] = refl
    each (row ∷ rows) = ap (λ (l : List (List ℕ)). names_in row.row.fields ++ l) (each rows)

labels-under : (number : ℕ) (rows : List Numbered) → labels_of (with_batch number rows) ≡ labels_of rows
labels-under number [] = refl
labels-under number (row ∷ rows) = refl

pub rows-under : (number : ℕ) (rows : List Numbered) → rows_in (with_batch number rows) ≡ rows_in rows
rows-under number [] = refl
rows-under number (row ∷ rows) = ap (λ (l : List Row). row.row ∷ l) (rows-under number rows)

pub length-under : (number : ℕ) (rows : List Numbered) → length (with_batch number rows) ≡ length rows
length-under number rows = length-map rows (renumbered number)

within-under : (number : ℕ) (rows : List Numbered) → is_within (with_batch number rows) ≡ is_within rows
within-under number rows =
    ap (λ (n : ℕ). nat_le n 4096 && (nat_le (length (names_of (with_batch number rows))) 2000 && nat_le (n * length
    (names_of (with_batch number rows))) 1_048_576)) (length-under number rows)
    ∙ ap (λ (l : List (List ℕ)). nat_le (length rows) 4096 && (nat_le (length l) 2000 && nat_le (length rows * length l)
    1_048_576)) (names-under number rows)

room-under : (number : ℕ) (block : List Numbered) (row : Numbered)
    → has_room (with_batch number block) (renumbered number row) ≡ has_room block row
unfolding has_room
room-under number block row =
    let more : with_batch number block ++ renumbered number row ∷ [] ≡ with_batch number (block ++ row ∷ []) =
    sym (map-append (renumbered number) block (row ∷ [])) in
    ap (λ (l : List Field). same_fields row.row.labels l && is_within (with_batch number block ++ renumbered number row
    ∷ [])) (labels-under number block)
    ∙ ap (λ (t : Bool). same_fields row.row.labels (labels_of block) && t) (ap is_within more ∙ within-under number (block
    ++ row ∷ []))

stream-under : (number : ℕ) (labels : List Field) (rows : List Numbered)
    → AllByRecursion (λ (n : Numbered). n.row.labels ≡ labels) rows
    → AllByRecursion (λ (n : Numbered). n.row.labels ≡ labels) (with_batch number rows)
stream-under number labels [] h = tt
stream-under number labels (row ∷ rows) h = (h.0, stream-under number labels rows h.1)

-- ---- within one batch

-- a test of pairs that the number does not change, where both are of one batch
abbrev IsKept : (Numbered → Numbered → Bool) → ℕ → ℕ → Type 0
IsKept test number batch =
    (a c : Numbered) → IsOf batch a → IsOf batch c → test (renumbered number a) (renumbered number c) ≡ test a c

all-under : (test : Numbered → Numbered → Bool) (number batch : ℕ) → IsKept test number batch → (a : Numbered)
    (rows : List Numbered) → IsOf batch a → AllByRecursion (IsOf batch) rows
    → list_all (test (renumbered number a)) (with_batch number rows) ≡ list_all (test a) rows
all-under test number batch kept a [] p h = refl
all-under test number batch kept a (row ∷ rows) p h =
    ap (λ (t : Bool). t && list_all (test (renumbered number a)) (with_batch number rows)) (kept a row p h.0)
    ∙ ap (λ (t : Bool). test a row && t) (all-under test number batch kept a rows p h.1)

same-before : (number b : ℕ) → IsKept comes_before number b
same-before number b a c p q =
    subst (λ (x : ℕ). comes_before (renumbered number a) (renumbered number c) ≡ (nat_lt a.row.moment c.row.moment
    || ((a.row.moment == c.row.moment) && (nat_lt x c.batch || ((x == c.batch) && nat_lt a.place c.place))))) (sym p)
    (subst (λ (x : ℕ). comes_before (renumbered number a) (renumbered number c) ≡ (nat_lt a.row.moment c.row.moment
    || ((a.row.moment == c.row.moment) && (nat_lt b x || ((b == x) && nat_lt a.place c.place))))) (sym q)
    (same number b a.row.moment c.row.moment a.place c.place))
  where
    same : (m b s t x y : ℕ) → (nat_lt s t || ((s == t) && (nat_lt m m || ((m == m) && nat_lt x y))))
        ≡ (nat_lt s t || ((s == t) && (nat_lt b b || ((b == b) && nat_lt x y))))
    same m b s t x y =
        ap (λ (u : Bool). nat_lt s t || ((s == t) && (u || ((m == m) && nat_lt x y)))) (le-ltb m m (omega arith)
        ∙ sym (le-ltb b b (omega arith)))
        ∙ ap (λ (u : Bool). nat_lt s t || ((s == t) && (nat_lt b b || (u && nat_lt x y)))) (eq-eqb m m refl
        ∙ sym (eq-eqb b b refl))

same-other : (number b : ℕ) → IsKept has_other_number number b
same-other number b a c p q =
    ap (λ (x : Bool). not (x && (a.place == c.place))) (eq-eqb number number refl
    ∙ sym (eq-eqb a.batch c.batch (p ∙ sym q)))

same-earlier : (number b : ℕ) → IsKept is_earlier number b
same-earlier number b a c p q =
    ap (λ (o : Ordering). is_lt (ordering_then (labels_cmp a.row.labels c.row.labels) (ordering_then (nat_cmp a.row.moment
    c.row.moment) (ordering_then o (nat_cmp a.place c.place))))) (tied_itself nat_cmp_total number ∙ sym (same a.batch
    c.batch (p ∙ sym q)))
  where
    same : (m n : ℕ) → m ≡ n → nat_cmp m n ≡ Equal
    same m n e = subst (λ (k : ℕ). nat_cmp m k ≡ Equal) e (tied_itself nat_cmp_total m)

ordered-under : (number b : ℕ) (rows : List Numbered) → AllByRecursion (IsOf b) rows
    → are_ordered (with_batch number rows) ≡ are_ordered rows
ordered-under number b [] h = refl
ordered-under number b (row ∷ rows) h =
    ap (λ (t : Bool). t && are_ordered (with_batch number rows)) (all-under comes_before number b (same-before number b) row
    rows h.0 h.1)
    ∙ ap (λ (t : Bool). list_all (comes_before row) rows && t) (ordered-under number b rows h.1)

apart-under : (number b : ℕ) (rows : List Numbered) → AllByRecursion (IsOf b) rows
    → are_numbered_apart (with_batch number rows) ≡ are_numbered_apart rows
apart-under number b [] h = refl
apart-under number b (row ∷ rows) h =
    ap (λ (t : Bool). t && are_numbered_apart (with_batch number rows)) (all-under has_other_number number b (same-other
    number b) row rows h.0 h.1)
    ∙ ap (λ (t : Bool). list_all (has_other_number row) rows && t) (apart-under number b rows h.1)

order-under : (number b : ℕ) (rows : List Numbered) → AllByRecursion (IsOf b) rows
    → are_in_order (with_batch number rows) ≡ are_in_order rows
order-under number b [] h = refl
order-under number b (row ∷ rows) h =
    ap (λ (t : Bool). t && are_in_order (with_batch number rows)) (all-under is_earlier number b (same-earlier number b) row
    rows h.0 h.1)
    ∙ ap (λ (t : Bool). list_all (is_earlier row) rows && t) (order-under number b rows h.1)

-- ---- blocks

block-under : (number b : ℕ) (rows : List Numbered) → AllByRecursion (IsOf b) rows → IsBlock rows
    → IsBlock (with_batch number rows)
block-under number b rows each h =
    let count : length (with_batch number rows) ≡ length rows = length-under number rows in
    let width : length (names_of (with_batch number rows)) ≡ length (names_of rows) = ap length (names-under number rows) in
    record {
      some = omega (arith, count, h.some);
      few = omega (arith, count, h.few);
      narrow = omega (arith, width, h.narrow);
      small = rw (count, width) h.small;
      stream = subst (λ (l : List Field). AllByRecursion (λ (n : Numbered). n.row.labels ≡ l) (with_batch number rows)) (sym
          (labels-under number rows)) (stream-under number (labels_of rows) rows h.stream);
      ordered = ordered-under number b rows each ∙ h.ordered;
      apart = apart-under number b rows each ∙ h.apart;
    }

pub blocks-under : (number : ℕ) (blocks : List (List Numbered))
    → rows_in_blocks (map (with_batch number) blocks) ≡ with_batch number (rows_in_blocks blocks)
blocks-under number [] = refl
blocks-under number (block ∷ blocks) =
    ap (λ (l : List Numbered). with_batch number block ++ l) (blocks-under number blocks)
    ∙ sym (map-append (renumbered number) block (rows_in_blocks blocks))

all-front : {X : Type 0} (P : X → Type 0) (xs ys : List X) → AllByRecursion P (xs ++ ys) → AllByRecursion P xs
all-front P [] ys h = tt
all-front P (x ∷ xs) ys h = (h.0, all-front P xs ys h.1)

all-behind : {X : Type 0} (P : X → Type 0) (xs ys : List X) → AllByRecursion P (xs ++ ys) → AllByRecursion P ys
all-behind P [] ys h = h
all-behind P (x ∷ xs) ys h = all-behind P xs ys h.1

each-under : (number b : ℕ) (blocks : List (List Numbered)) → AllByRecursion (IsOf b) (rows_in_blocks blocks)
    → AllByRecursion IsBlock blocks → AllByRecursion IsBlock (map (with_batch number) blocks)
each-under number b [] of h = tt
each-under number b (block ∷ blocks) of h = (
  block-under number b block (all-front (IsOf b) block (rows_in_blocks blocks) of) h.0,
  each-under number b blocks (all-behind (IsOf b) block (rows_in_blocks blocks) of) h.1,
)

full-under : (number : ℕ) (block rows : List Numbered) → IsFull block rows
    → IsFull (with_batch number block) (with_batch number rows)
full-under number block [] h = tt
full-under number block (row ∷ rows) h = room-under number block row ∙ h

all-full-under : (number : ℕ) (blocks : List (List Numbered)) (rows : List Numbered) → AreFull blocks rows
    → AreFull (map (with_batch number) blocks) (with_batch number rows)
all-full-under number [] rows h = tt
all-full-under number (block ∷ blocks) rows h = (
  subst (IsFull (with_batch number block)) (map-append (renumbered number) (rows_in_blocks blocks) rows
      ∙ ap (λ (l : List Numbered). l ++ with_batch number rows) (sym (blocks-under number blocks))) (full-under number block
      (rows_in_blocks blocks ++ rows) h.0),
  all-full-under number blocks rows h.1,
)

of-one : (rows : List Numbered) (b : ℕ) → All (λ (row : Numbered). row.batch ≡ b) rows → AllByRecursion (IsOf b) rows
of-one rows b h = recursion_from_All (IsOf b) rows h

pub filled-under : (number : ℕ) (blocks : List (List Numbered)) (rows : List Numbered) → AreOfOneBatch rows
    → AreFilled blocks rows → AreFilled (map (with_batch number) blocks) (with_batch number rows)
filled-under number blocks rows one h = record {
  all = blocks-under number blocks ∙ ap (with_batch number) h.all;
  each = each-under number one.0 blocks (subst (AllByRecursion (IsOf one.0)) (sym h.all) (of-one rows one.0 one.1)) h.each;
  full = all-full-under number blocks [] h.full;
}

pub part-under : (number : ℕ) (rows : List Numbered) → AreOfOneBatch rows → IsPart rows → IsPart (with_batch number rows)
part-under number rows one h =
    let of = of-one rows one.0 one.1 in
    record {
      rules = record {
        some = omega (arith, length-under number rows, h.rules.some);
        apart = apart-under number one.0 rows of ∙ h.rules.apart;
        light = omega (arith, ap batch_weight (rows-under number rows), h.rules.light);
      };
      ordered = order-under number one.0 rows of ∙ h.ordered;
    }

-- each block of rows that are of one batch is of one
pub each-of-one : (blocks : List (List Numbered)) (rows : List Numbered) → rows_in_blocks blocks ≡ rows
    → AreOfOneBatch rows → All AreOfOneBatch blocks
each-of-one blocks rows all one =
    All-from_recursion AreOfOneBatch blocks (each blocks (subst (AllByRecursion (IsOf one.0)) (sym all) (of-one rows one.0
    one.1)))
  where
    each : (blocks : List (List Numbered)) → AllByRecursion (IsOf one.0) (rows_in_blocks blocks)
        → AllByRecursion AreOfOneBatch blocks
    each [] h = tt
    each (block ∷ blocks) h = (
      (one.0, All-from_recursion (IsOf one.0) block (all-front (IsOf one.0) block (rows_in_blocks blocks) h)),
      each blocks (all-behind (IsOf one.0) block (rows_in_blocks blocks) h),
    )
