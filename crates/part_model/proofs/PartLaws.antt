-- The rows of a part in order, and in any order.
use Rattle.std.proofs.Common.{◌≡◌, ◌<◌, List, length, arith}
use Rattle.std.specs.List.Sorted.{IsPermutation, IsSorted}
use Rattle.std.proofs.lemmas.List.Sorted.{IsPermutation-map, IsPermutation-sym, IsPermutation-trans, length_permutation}
use Rattle.std.proofs.lemmas.List.Sorted.{sum_by-IsPermutation}
use Rattle.log_model.specs.Field.{weight}
use Rattle.log_model.specs.History.{AreBatch, Numbered, numbered_in, rows_in}
use Rattle.log_model.specs.Row.{Batch, Row}
use Rattle.part_model.specs.Order.{in_order, row_cmp}
use Rattle.part_model.specs.Part.{ArePartRows, IsPart, rows_weight}
use Rattle.part_model.proofs.OrderLaws.{apart-same, one-order, order-in-order, permutation-in-order, sorted-order}

weight-same : (xs ys : List Numbered) → IsPermutation xs ys → rows_weight ys ≡ rows_weight xs
weight-same xs ys same =
    sum_by-IsPermutation (λ (row : Row). weight row.fields) (rows_in xs) (rows_in ys) (IsPermutation-map (λ (n : Numbered).
    n.row) xs ys same)

pub rows-same : (xs ys : List Numbered) → IsPermutation xs ys → ArePartRows xs → ArePartRows ys
rows-same xs ys same h = record {
  some = omega (arith, length_permutation xs ys same, h.some);
  apart = apart-same xs ys same h.apart;
  light = omega (arith, weight-same xs ys same, h.light);
}

-- rows that were sorted
pub part-sorted : (xs ys : List Numbered) → ArePartRows xs → IsPermutation xs ys → IsSorted row_cmp ys → IsPart ys
part-sorted xs ys h same sorted =
    let rules = rows-same xs ys same h in
    record { rules = rules; ordered = sorted-order ys sorted rules.apart }

-- A part of these rows has them in order.
pub part-is : (rows part : List Numbered) → ArePartRows rows → IsPart part → IsPermutation part rows → part ≡ in_order rows
part-is rows part h is same =
    one-order part (in_order rows) (IsPermutation-trans part rows (in_order rows) same (permutation-in-order rows)) is.ordered
    (order-in-order rows h.apart)

-- rows that are put in order are as good
pub rows-back : (rows : List Numbered) → ArePartRows (in_order rows) → ArePartRows rows
rows-back rows h =
    rows-same (in_order rows) rows (IsPermutation-sym rows (in_order rows) (permutation-in-order rows)) h

pub batch-is : (part : List Numbered) (batch : Batch) → 0 < length batch → IsPermutation part (numbered_in 0 batch)
    → AreBatch part
batch-is part batch some same = (batch, some, (0, same))
