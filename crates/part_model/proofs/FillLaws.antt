-- How rows in order are filled into blocks.
use Rattle.std.proofs.Common.{◌≡◌, ℕ, zero, suc, ◌+◌, ◌*◌, ◌<◌, ◌≤◌, Bool, true, false, cond, List, [], ◌∷◌, ◌++◌}
use Rattle.std.proofs.Common.{length, take, drop, refl, sym, ap, subst, ◌∙◌, arith}
use Rattle.std.specs.Prelude.{◌&&◌, bytes_eq, nat_le}
use Rattle.std.specs.List.{AllByRecursion, flat_map, fold}
use Rattle.std.specs.BTreeSet.{insert_key}
use Rattle.std.proofs.lemmas.Bool.{and_from, and_parts, leb-true, le-leb}
use Rattle.std.proofs.lemmas.List.{append-nil, append_assoc, length-append, length-take, take-append-drop}
use Rattle.std.proofs.lemmas.List.Concat.{flat_map-append}
use Rattle.std.proofs.lemmas.List.Sums.{fold-append}
use Rattle.std.proofs.lemmas.Nat.{mul-le}
use Rattle.std.proofs.lemmas.Slice.Eq.{bytes_eq-Decides}
use Rattle.log_model.specs.Field.{Field, bytes_cmp}
use Rattle.log_model.specs.History.{Numbered}
use Rattle.block_model.specs.Columns.{names_in, names_of}
use Rattle.block_model.proofs.Distinct.{fold-longer}
use Rattle.block_format.specs.Reading.{same_fields}
use Rattle.block_format.specs.Rows.{IsBlock, are_numbered_apart, labels_of}
use Rattle.part_model.specs.Ends.{EndsBlock}
use Rattle.part_model.specs.Filling.{AreFilled, AreFull, IsFull, blocks_of, filled_from, has_room, is_within}
use Rattle.part_model.specs.Filling.{rows_in_blocks}
use Rattle.part_model.specs.Order.{are_in_order}
use Rattle.part_model.proofs.OrderLaws.{apart-parts, order-parts, stream-order}

-- ---- limits

abbrev all_names : List Numbered → List (List ℕ)
all_names rows = flat_map (λ numbered. names_in numbered.row.fields) rows

-- the names of more rows are no fewer
names-grow : (xs ys : List Numbered) → length (names_of xs) ≤ length (names_of (xs ++ ys))
names-grow xs ys =
    let parts : names_of (xs ++ ys) ≡ fold (insert_key bytes_cmp) (names_of xs) (all_names ys) =
    ap (fold (insert_key bytes_cmp) []) (flat_map-append (λ numbered. names_in numbered.row.fields) xs ys)
    ∙ fold-append (insert_key bytes_cmp) [] (all_names xs) (all_names ys) in
    omega (arith, ap length parts, fold-longer (all_names ys) (names_of xs))

record AreWithin (rows : List Numbered) : Type 0 where
  few : length rows ≤ 4096
  narrow : length (names_of rows) ≤ 2000
  small : length rows * length (names_of rows) ≤ 1_048_576

within-holds : (rows : List Numbered) → is_within rows ≡ true → AreWithin rows
within-holds rows e =
    let p = and_parts (nat_le (length rows) 4096) (nat_le (length (names_of rows)) 2000 && nat_le (length rows * length
    (names_of rows)) 1_048_576) e in
    let q = and_parts (nat_le (length (names_of rows)) 2000) (nat_le (length rows * length (names_of rows)) 1_048_576)
    p.1 in
    record {
      few = leb-true (length rows) 4096 p.0;
      narrow = leb-true (length (names_of rows)) 2000 q.0;
      small = leb-true (length rows * length (names_of rows)) 1_048_576 q.1;
    }

holds-within : (rows : List Numbered) → AreWithin rows → is_within rows ≡ true
holds-within rows h =
    and_from (nat_le (length rows) 4096) (nat_le (length (names_of rows)) 2000 && nat_le (length rows * length (names_of
    rows)) 1_048_576) (le-leb (length rows) 4096 h.few)
    (and_from (nat_le (length (names_of rows)) 2000) (nat_le (length rows * length (names_of rows)) 1_048_576)
    (le-leb (length (names_of rows)) 2000 h.narrow) (le-leb (length rows * length (names_of rows)) 1_048_576 h.small))

-- so the first of some rows are within the limits where all are
within-front : (xs ys : List Numbered) → AreWithin (xs ++ ys) → AreWithin xs
within-front xs ys h =
    let rows : length xs ≤ length (xs ++ ys) = omega (arith, length-append xs ys) in
    record {
      few = omega (arith, rows, h.few);
      narrow = omega (arith, names-grow xs ys, h.narrow);
      small = omega (
        arith,
        h.small,
        mul-le (length xs) (length (names_of xs)) (length (xs ++ ys)) (length (names_of (xs
            ++ ys))) rows (names-grow xs ys),
      );
    }

block-within : (rows : List Numbered) → IsBlock rows → AreWithin rows
block-within rows h = record { few = h.few; narrow = h.narrow; small = h.small }

-- ---- streams

pub same-itself : (fields : List Field) → same_fields fields fields ≡ true
same-itself [] = refl
same-itself (f ∷ fs) =
    and_from (bytes_eq f.0 f.0 && bytes_eq f.1 f.1) (same_fields fs fs)
    (and_from (bytes_eq f.0 f.0) (bytes_eq f.1 f.1) ((bytes_eq-Decides f.0 f.0).1 refl)
    ((bytes_eq-Decides f.1 f.1).1 refl)) (same-itself fs)

pub same-are : (xs ys : List Field) → same_fields xs ys ≡ true → xs ≡ ys
same-are [] [] e = refl
same-are [] (y ∷ ys) e = absurd cc
same-are (x ∷ xs) [] e = absurd cc
same-are (x ∷ xs) (y ∷ ys) e =
    let p = and_parts (bytes_eq x.0 y.0 && bytes_eq x.1 y.1) (same_fields xs ys) e in
    let q = and_parts (bytes_eq x.0 y.0) (bytes_eq x.1 y.1) p.0 in
    let name : x.0 ≡ y.0 = (bytes_eq-Decides x.0 y.0).0 q.0 in
    let content : x.1 ≡ y.1 = (bytes_eq-Decides x.1 y.1).0 q.1 in
    let first : x ≡ y = ap (λ (n : List ℕ). (n, x.1)) name ∙ ap (λ (v : List ℕ). (y.0, v)) content in
    ap (λ (f : Field). f ∷ xs) first ∙ ap (λ (l : List Field). y ∷ l) (same-are xs ys p.1)

all-behind : {X : Type 0} (P : X → Type 0) (xs ys : List X) → AllByRecursion P (xs ++ ys) → AllByRecursion P ys
all-behind P [] ys h = h
all-behind P (x ∷ xs) ys h = all-behind P xs ys h.1

labels-front : (a : Numbered) (xs ys : List Numbered) → labels_of ((a ∷ xs) ++ ys) ≡ a.row.labels
labels-front a xs ys = refl

-- a row of a block fits behind those before it
fits-behind : (a : Numbered) (xs : List Numbered) (row : Numbered) (more : List Numbered)
    → IsBlock ((a ∷ xs) ++ row ∷ more) → has_room (a ∷ xs) row ≡ true
unfolding has_room
fits-behind a xs row more h =
    let split : ((a ∷ xs) ++ row ∷ []) ++ more ≡ (a ∷ xs) ++ row ∷ more = append_assoc (a ∷ xs) (row ∷ []) more in
    let same : row.row.labels ≡ a.row.labels = (all-behind (λ (n : Numbered). n.row.labels ≡ a.row.labels) (a ∷ xs) (row
    ∷ more) h.stream).0 in
    let whole : AreWithin (((a ∷ xs) ++ row ∷ []) ++ more) = subst AreWithin (sym split) (block-within ((a ∷ xs) ++ row
    ∷ more) h) in
    and_from (same_fields row.row.labels a.row.labels) (is_within ((a ∷ xs) ++ row ∷ []))
    (ap (λ (l : List Field). same_fields l a.row.labels) same ∙ same-itself a.row.labels)
    (holds-within ((a ∷ xs) ++ row ∷ []) (within-front ((a ∷ xs) ++ row ∷ []) more whole))

-- ---- the blocks of rows

fill-step : (t : Bool) (more other : List (List Numbered)) → t ≡ true → cond t more other ≡ more
fill-step true more other e = refl
fill-step false more other e = absurd cc

full-step : (t : Bool) (more other : List (List Numbered)) → t ≡ false → cond t more other ≡ other
full-step true more other e = absurd cc
full-step false more other e = refl

-- the rows of a block are filled into one
fill-block : (a : Numbered) (xs more rest : List Numbered) → IsBlock ((a ∷ xs) ++ more)
    → filled_from (a ∷ xs) (more ++ rest) ≡ filled_from ((a ∷ xs) ++ more) rest
fill-block a xs [] rest h = ap (λ (l : List Numbered). filled_from l rest) (sym (append-nil (a ∷ xs)))
fill-block a xs (row ∷ more) rest h =
    let split : (a ∷ (xs ++ row ∷ [])) ++ more ≡ (a ∷ xs) ++ row ∷ more = append_assoc (a ∷ xs) (row ∷ []) more in
    fill-step (has_room (a ∷ xs) row) (filled_from ((a ∷ xs) ++ row ∷ []) (more ++ rest)) ((a ∷ xs) ∷ filled_from (row
    ∷ []) (more ++ rest)) (fits-behind a xs row more h)
    ∙ fill-block a (xs ++ row ∷ []) more rest (subst IsBlock (sym split) h)
    ∙ ap (λ (l : List Numbered). filled_from l rest) split

-- and a full block is followed by the others
fill-others : (block : List Numbered) (blocks : List (List Numbered)) → AllByRecursion IsBlock blocks
    → AreFull (block ∷ blocks) [] → filled_from block (rows_in_blocks blocks) ≡ block ∷ blocks
fill-others block [] h full = refl
fill-others block ([] ∷ blocks) h full = absurd (omega (arith, h.0.some))
fill-others block ((row ∷ more) ∷ blocks) h full =
    full-step (has_room block row) (filled_from (block ++ row ∷ []) (more ++ rows_in_blocks blocks)) (block
    ∷ filled_from (row ∷ []) (more ++ rows_in_blocks blocks)) full.0
    ∙ ap (λ (l : List (List Numbered)). block ∷ l) (fill-block row [] more (rows_in_blocks blocks) h.0
    ∙ fill-others (row ∷ more) blocks h.1 full.1)

all-blocks : (blocks : List (List Numbered)) → AllByRecursion IsBlock blocks → AreFull blocks []
    → blocks ≡ blocks_of (rows_in_blocks blocks)
all-blocks [] h full = refl
all-blocks ([] ∷ blocks) h full = absurd (omega (arith, h.0.some))
all-blocks ((row ∷ more) ∷ blocks) h full =
    sym (fill-block row [] more (rows_in_blocks blocks) h.0 ∙ fill-others (row ∷ more) blocks h.1 full)

-- Rows are filled into blocks in one way.
pub filled-blocks : (blocks : List (List Numbered)) (rows : List Numbered) → AreFilled blocks rows → blocks ≡ blocks_of rows
filled-blocks blocks rows h = all-blocks blocks h.each h.full ∙ ap blocks_of h.all

-- ---- one block more

rows-push : (blocks : List (List Numbered)) (block rest : List Numbered)
    → rows_in_blocks (blocks ++ block ∷ []) ++ rest ≡ rows_in_blocks blocks ++ (block ++ rest)
rows-push blocks block rest =
    ap (λ (l : List Numbered). l ++ rest) (flat_map-append (λ (b : List Numbered). b) blocks (block ∷ [])
    ∙ ap (λ (l : List Numbered). rows_in_blocks blocks ++ l) (append-nil block))
    ∙ append_assoc (rows_in_blocks blocks) block rest

full-push : (blocks : List (List Numbered)) (block rest : List Numbered) → AreFull blocks (block ++ rest)
    → IsFull block rest → AreFull (blocks ++ block ∷ []) rest
full-push [] block rest h full = (full, tt)
full-push (b ∷ blocks) block rest h full =
    (subst (IsFull b) (sym (rows-push blocks block rest)) h.0, full-push blocks block rest h.1 full)

pub all-push : {X : Type 0} (P : X → Type 0) (xs : List X) (x : X) → AllByRecursion P xs → P x → AllByRecursion P (xs ++ x ∷ [])
all-push P [] x h one = (one, tt)
all-push P (y ∷ xs) x h one = (h.0, all-push P xs x h.1 one)

-- The blocks are filled with the first of the rows, and these are left.
pub record FillUpTo (blocks : List (List Numbered)) (rest rows : List Numbered) : Type 0 where
  pub all : rows_in_blocks blocks ++ rest ≡ rows
  pub each : AllByRecursion IsBlock blocks
  pub full : AreFull blocks rest

pub fill-start : (rows : List Numbered) → FillUpTo [] rows rows
fill-start rows = record { all = refl; each = tt; full = tt }

pub fill-more : (blocks : List (List Numbered)) (block rest old rows : List Numbered) → old ≡ block ++ rest
    → IsBlock block → IsFull block rest → FillUpTo blocks old rows → FillUpTo (blocks ++ block ∷ []) rest rows
fill-more blocks block rest old rows parts one full h = record {
  all = rows-push blocks block rest ∙ ap (λ (l : List Numbered). rows_in_blocks blocks ++ l) (sym parts) ∙ h.all;
  each = all-push IsBlock blocks block h.each one;
  full = full-push blocks block rest (subst (AreFull blocks) parts h.full) full;
}

pub fill-done : (blocks : List (List Numbered)) (rest rows : List Numbered) → length rest ≡ 0 → FillUpTo blocks rest rows
    → AreFilled blocks rows
fill-done blocks [] rows none h = record {
  all = sym (append-nil (rows_in_blocks blocks)) ∙ h.all;
  each = h.each;
  full = h.full;
}
fill-done blocks (row ∷ rest) rows none h = absurd (omega (arith, none))

-- ---- the first block

pub record AreOrdered (rows : List Numbered) : Type 0 where
  pub ordered : are_in_order rows ≡ true
  pub apart : are_numbered_apart rows ≡ true

pub ordered-behind : (xs ys : List Numbered) → AreOrdered (xs ++ ys) → AreOrdered ys
ordered-behind xs ys h =
    record { ordered = (order-parts xs ys h.ordered).1; apart = (apart-parts xs ys h.apart).1 }

pub first-labels : (rows : List Numbered) (count : ℕ) → 0 < count → labels_of (take count rows) ≡ labels_of rows
first-labels rows zero some = absurd (omega (arith, some))
first-labels [] (suc count) some = refl
first-labels (row ∷ rows) (suc count) some = refl

pub first-block : (rows : List Numbered) (count : ℕ) → AreOrdered rows → EndsBlock rows count → IsBlock (take count rows)
first-block rows count h ends =
    let block : List Numbered = take count rows in
    let parts : take count rows ++ drop count rows ≡ rows = take-append-drop count rows in
    let order = order-parts (take count rows) (drop count rows) (ap are_in_order parts ∙ h.ordered) in
    let apart = apart-parts (take count rows) (drop count rows) (ap are_numbered_apart parts ∙ h.apart) in
    let within = within-holds (take count rows) ends.within in
    record {
      some = omega (arith, length-take count rows, ends.some, ends.there);
      few = within.few;
      narrow = within.narrow;
      small = within.small;
      stream = subst (λ (l : List Field). AllByRecursion (λ (n : Numbered). n.row.labels ≡ l) (take count rows))
          (sym (first-labels rows count ends.some)) ends.stream;
      ordered = stream-order (labels_of rows) (take count rows) ends.stream order.0;
      apart = apart.0;
    }
