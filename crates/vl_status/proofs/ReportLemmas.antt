-- Messages on the error stream.
use Rattle.std.proofs.Common.{ℕ, ◌<◌, List, length, take, Result, Ok, Err, OnOk, OnErr, inl, inr, []}
use Rattle.vl_io.specs.Change.{Change, IsTold, Took}
use Rattle.vl_io.specs.Faults.{HasCause}

pub told : {E : Type 0} (result : Result (Unit {0}) E) (sink : Change) (text : List ℕ)
    → OnOk result (Took sink text) → OnErr result ((n : ℕ) × (n < length text) × Took sink (take n text))
    → HasCause sink.faults_before sink.faults_after result → IsTold sink [] text
told (Ok u) sink text ok err cause = inl ok
told (Err e) sink text ok err cause = inr (record { len = err.0; proper = err.1; took = err.2; failed = cause.failed })
