use Rattle.std.proofs.Common.{◌≡◌, ℕ, ◌≤◌, ◌+◌, List, length, drop, not, bytes_eq, unwrap_or}
use Rattle.std.specs.BTreeMap.{get_by_text}
use Rattle.ingest_row.specs.Prepared.{place_in}
use Rattle.ingest_row.proofs.prepared.places_of.Given as goal

abbrev pub invariant-loop-at : goal.invariant-loop-at
invariant-loop-at l = record {
  within : l.at ≤ length l.names;
  found : (q : List ℕ) → unwrap_or (get_by_text l.places q) (length l.names) ≡ l.at + place_in (drop l.at l.names) q;
}

abbrev pub decreases-loop-at : goal.decreases-loop-at
decreases-loop-at l = l.at
