use Rattle.std.proofs.Common.{subst, arith}
use Rattle.vl_vault.specs.Disk.{Past}
use Rattle.vl_vault.specs.Replay.{Covers}
use Rattle.vl_vault.specs.Record.{past_of}
use Rattle.vl_vault.proofs.Records.{past_of-all}
use Rattle.vl_vault.proofs.Covering.{covers_all, covers_durable}
use Rattle.vl_vault.proofs.image.crash_contents.Goals as goal

pub returns-clause-contents : goal.returns-clause-contents
returns-clause-contents c =
    let base = past_of c.args.calls.now in
    let begun = past_of c.loop-i.begun.items in
    let all = past_of-all c.args.calls.now _ (omega arith) in
    covers_all base begun (λ f. subst (λ (p : Past). Covers base p begun f) all (c.loop-i.invariant f))

pub returns-clause-durable : goal.returns-clause-durable
returns-clause-durable c =
    let base = past_of c.args.calls.now in
    let begun = past_of c.loop-i.begun.items in
    let all = past_of-all c.args.calls.now _ (omega arith) in
    covers_durable base begun (λ f. subst (λ (p : Past). Covers base p begun f) all (c.loop-i.invariant f))
