use Rattle.std.proofs.Common.{◌≤◌, length}
use Rattle.vl_vault.proofs.files.read_all_at.Given as goal

abbrev pub invariant-loop : goal.invariant-loop
invariant-loop l = l.done ≤ length l.buf
