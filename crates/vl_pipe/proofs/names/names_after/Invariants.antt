use Rattle.std.proofs.Common.{◌≡◌, ◌+◌, ◌<◌, ◌^◌, ◌++◌, drop, string_bytes}
use Rattle.std.specs.List.{AllByRecursion}
use Rattle.vl_pipe.specs.Groups.{names_after}
use Rattle.vl_pipe.proofs.names.names_after.Given as goal

abbrev pub invariant-loop-fault : goal.invariant-loop-fault
invariant-loop-fault l =
    (string_bytes l.text ++ names_after l.lines_before (drop l.fault-index l.refused)
    ≡ names_after l.lines_before l.refused)
    × AllByRecursion (λ fault. l.lines_before + fault.line < 2 ^ 64) (drop l.fault-index l.refused)
