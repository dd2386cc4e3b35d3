use Rattle.std.proofs.Common.{◌≡◌, drop}
use Rattle.std.specs.Prelude.{is_some}
use Rattle.std.specs.List.{find}
use Rattle.ingest_row.specs.Asked.{argument}
use Rattle.http_route.specs.Refusal.{argument_name}
use Rattle.http_route.proofs.arguments.first_there.Given as goal

abbrev pub invariant-loop-name : goal.invariant-loop-name
invariant-loop-name l =
    find (λ name. is_some (argument l.args (argument_name name))) (drop l.name-index l.wanted)
    ≡ find (λ name. is_some (argument l.args (argument_name name))) l.wanted
