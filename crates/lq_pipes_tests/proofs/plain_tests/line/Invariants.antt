use Rattle.std.proofs.Common.{◌≡◌, ◌++◌, nat_lt, drop, string_bytes}
use Rattle.log_model.specs.Print.{object_text}
use Rattle.lq_pipes.proofs.Printed.{rest_text}
use Rattle.lq_pipes_tests.proofs.plain_tests.line.Given as goal

abbrev pub invariant-loop-place : goal.invariant-loop-place
invariant-loop-place l =
    string_bytes l.line ++ rest_text (nat_lt 0 l.place) (drop l.place l.fields) ≡ object_text l.fields
