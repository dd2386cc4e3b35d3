-- Rows whose sorted numbers are counted are those of whole batches, and only these.
use Rattle.std.proofs.Common.{◌≡◌, ◌∙◌, ℕ, suc, ◌<◌, ◌≤◌, Bool, true, List, [], ◌∷◌, length, map}
use Rattle.std.proofs.Common.{ap, arith, subst, sym}
use Rattle.std.specs.Prelude.{◌↔◌, IsTrue}
use Rattle.std.specs.List.{AllByRecursion}
use Rattle.std.specs.List.Sorted.{IsPermutation, IsSorted, IsStrictlySortedBy}
use Rattle.std.proofs.lemmas.List.{length-append}
use Rattle.std.proofs.lemmas.List.Sorted.{IsPermutation-map, IsPermutation-refl, IsPermutation-sym, IsPermutation-trans}
use Rattle.std.proofs.lemmas.List.Sorted.{length_permutation}
use Rattle.log_model.specs.Batches.{batch_rows, batch_rows_after}
use Rattle.log_model.specs.History.{Numbered, numbered_in}
use Rattle.log_model.specs.Row.{Batch}
use Rattle.log_model.proofs.Numbering.{length_numbered}
use Rattle.block_format.specs.Rows.{number_cmp, number_of}
use Rattle.block_format.proofs.NumberLaws.{apart, apart-rises}
use Rattle.part_model.specs.Filling.{rows_in_blocks}
use Rattle.part_batches.specs.Counted.{are_counted}
use Rattle.part_batches.specs.Whole.{HoldBatches}
use Rattle.part_batches.proofs.CountLaws.{counted-rise, counted-rows, rows-counted}
use Rattle.part_batches.proofs.SameLaws.{one-order-of, ordered-by}

-- ---- counted rows hold batches

counted-hold : (front : ℕ) (parts : List (List Numbered)) (numbers : List (ℕ × ℕ))
    → IsPermutation (map number_of (rows_in_blocks parts)) numbers → are_counted front 0 0 numbers ≡ true
    → HoldBatches front parts
counted-hold front parts numbers same e =
    let o = ordered-by number_of (rows_in_blocks parts) numbers same in
    let r = counted-rows front o.ordered (ap (are_counted front 0 0) o.images ∙ e) in
    record {
      batches = r.batches;
      count = r.count;
      some = r.some;
      rows = subst (IsPermutation (rows_in_blocks parts)) r.is o.same;
    }

-- ---- and those that hold batches are counted

hold-counted : (front : ℕ) (parts : List (List Numbered)) (numbers : List (ℕ × ℕ))
    → IsPermutation (map number_of (rows_in_blocks parts)) numbers → IsSorted number_cmp numbers
    → HoldBatches front parts → are_counted front 0 0 numbers ≡ true
hold-counted front parts numbers same sorted h =
    let rows = batch_rows h.batches in
    let named = map number_of rows in
    let counted : are_counted (length h.batches) 0 0 named ≡ true = rows-counted h.batches h.some in
    let rise : IsStrictlySortedBy number_cmp named = counted-rise (length h.batches) named counted in
    let shuffled : IsPermutation named numbers =
    IsPermutation-trans named (map number_of (rows_in_blocks parts)) numbers
    (IsPermutation-sym (map number_of (rows_in_blocks parts)) named (IsPermutation-map number_of (rows_in_blocks parts)
    rows h.rows)) same in
    let strict : IsStrictlySortedBy number_cmp numbers =
    apart-rises rows numbers shuffled sorted (apart rows named (IsPermutation-refl named) rise) in
    subst (λ (l : List (ℕ × ℕ)). are_counted front 0 0 l ≡ true) (one-order-of named numbers shuffled rise strict)
    (subst (λ n. are_counted n 0 0 named ≡ true) h.count counted)

-- The test on the sorted numbers of the rows is whether the parts hold whole batches.
pub counted-is : (front : ℕ) (parts : List (List Numbered)) (all numbers : List (ℕ × ℕ))
    → all ≡ map number_of (rows_in_blocks parts) → IsPermutation all numbers → IsSorted number_cmp numbers
    → (b : Bool) → b ≡ are_counted front 0 0 numbers → IsTrue b ↔ HoldBatches front parts
counted-is front parts all numbers is same sorted b e =
    let same : IsPermutation (map number_of (rows_in_blocks parts)) numbers =
    subst (λ (l : List (ℕ × ℕ)). IsPermutation l numbers) is same in (
      λ t. counted-hold front parts numbers same (sym e ∙ t),
      λ h. e ∙ hold-counted front parts numbers same sorted h,
    )

-- ---- too few rows

rows-after : (count : ℕ) (batches : List Batch) → AllByRecursion (λ (b : Batch). 0 < length b) batches
    → length batches ≤ length (batch_rows_after count batches)
rows-after count [] some = omega arith
rows-after count (batch ∷ batches) some =
    let here = some.0 in
    let rest = rows-after (suc count) batches some.1 in
    let long = length-append (numbered_in (suc count) batch) (batch_rows_after (suc count) batches) in
    let first = length_numbered (suc count) 0 batch in
    omega (arith, here, rest, long, first)

-- Each batch has a row, so there are no more batches than rows.
pub few-rows : (front : ℕ) (parts : List (List Numbered)) → length (rows_in_blocks parts) < front
    → HoldBatches front parts → ⊥
few-rows front parts few h =
    let enough = rows-after 0 h.batches h.some in
    let long = length_permutation (rows_in_blocks parts) (batch_rows h.batches) h.rows in
    let count = h.count in
    omega (arith, few, enough, long, count)
