use Rattle.std.proofs.Common.{arith}
use Rattle.std.proofs.lemmas.List.Sums.{prefix_len-le-length}
use Rattle.log_model.specs.Json.{is_plain}
use Rattle.jsonline_in.proofs.Runs.{run_stops, run_through}
use Rattle.jsonline_in.proofs.run.plain_len.Goals as goal

pub returns-then-found-ne0 : goal.returns-then-found-ne0
returns-then-found-ne0 c =
    let run = run_stops c.args.bytes.now c.loop-at.at c.stops-found.result (omega arith) c.stops-found.ensures
    (omega arith) in
    record { value = omega (arith, run); bound = omega (arith, run, prefix_len-le-length is_plain c.args.bytes.now) }

pub loop-at-preserved : goal.loop-at-preserved
loop-at-preserved c =
    let run = run_through c.args.bytes.now c.loop-at.at c.stops-found.result (omega arith) c.stops-found.ensures
    (omega arith) in
    (omega arith, omega (arith, run))

pub returns-clause-bound : goal.returns-clause-bound
returns-clause-bound c = omega (arith, prefix_len-le-length is_plain c.args.bytes.now)
