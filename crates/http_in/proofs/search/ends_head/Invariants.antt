use Rattle.std.proofs.Common.{◌≡◌, ◌<◌, ◌≤◌, ℕ, true, false, take}
use Rattle.std.specs.Prelude.{IsTrue}
use Rattle.http_in.specs.Lacks.{EndsHead}
use Rattle.http_in.specs.Lines.{begun_after, lines_in}
use Rattle.http_in.proofs.search.ends_head.Given as goal

abbrev pub invariant-loop-i : goal.invariant-loop-i
invariant-loop-i l = record {
  begun : l.begun ≡ begun_after false (take l.i l.bytes);
  ended : 0 < lines_in (take l.i l.bytes) → l.ended ≡ true;
  found : (at : ℕ) → l.fn.search.searched ≤ at → at < l.i → EndsHead l.bytes at → IsTrue l.found;
}
