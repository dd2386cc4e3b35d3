-- Parts that together hold whole batches.
use Rattle.std.specs.Prelude.{◌≡◌, ℕ, ◌<◌, List, length}
use Rattle.std.specs.List.{AllByRecursion}
use Rattle.log_model.specs.Batches.{AreOf}
use Rattle.log_model.specs.History.{Numbered}
use Rattle.log_model.specs.Row.{Batch}

-- Together the parts hold the rows of exactly `front` batches, each row once and in any order. The batches have the
-- numbers 1 to `front`. Each has a row at least, and its places go from 0 without a gap.
pub record HoldBatches (front : ℕ) (parts : List (List Numbered)) : Type 0 where
  pub batches : List Batch
  pub count : length batches ≡ front
  pub some : AllByRecursion (λ batch. 0 < length batch) batches
  pub rows : AreOf (λ part. part) parts batches
