-- Writing two pieces in sequence.
use Rattle.std.proofs.Common.{ℕ, ◌+◌, ◌<◌, List, ◌++◌, length, take, Ok, Err, arith, length-append}
use Rattle.std.proofs.Math.Seq.{take-append-add}
use Rattle.std.specs.Prelude.{Option, OnErr, Result}
use Rattle.vl_io.specs.Bytes.{Appends}
use Rattle.vl_io.proofs.Laws.{Appends-trans}

-- a prefix of the second piece was written after the first
pub second_cut : {T E : Type 0} (result : Result T E) (old mid new : Option (List ℕ)) (a b : List ℕ)
    → Appends old mid a → OnErr result ((n : ℕ) × (n < length b) × Appends mid new (take n b))
    → OnErr result ((n : ℕ) × (n < length (a ++ b)) × Appends old new (take n (a ++ b)))
second_cut (Ok x) old mid new a b first e = tt
second_cut (Err x) old mid new a b first e = (
  length a + e.0,
  omega (arith, length-append a b, e.1),
  rw (take-append-add a b e.0) (Appends-trans old mid new a (take e.0 b) first e.2),
)
