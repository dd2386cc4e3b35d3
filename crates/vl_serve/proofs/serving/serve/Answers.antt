use Rattle.std.proofs.Common.{◌∙◌, ◌≡◌, ap, length, subst, arith}
use Rattle.std.specs.List.{AllZip}
use Rattle.log_desk.specs.Seen.{Caller}
use Rattle.vl_serve.specs.Doors.{door_change}
use Rattle.vl_serve.specs.Keeping.{HaveRounds, kept_then}
use Rattle.vl_serve.specs.Workers.{HasWorked}
use Rattle.vl_serve.proofs.Ends.{all_worked, are_served, as_many, ends_doors}
use Rattle.vl_serve.proofs.Keeps.{cause_by, goes_on_split, keeps_served, rounds_after, rounds_before, rounds_far}
use Rattle.vl_serve.proofs.serving.serve.Goals as goal

pub returns-in_default-clause-ends : goal.returns-in_default-clause-ends
returns-in_default-clause-ends g c = ends_doors _ _ c.serve_in_turn-door_faults.ensures.served

pub keep_last-requires : goal.keep_last-requires
keep_last-requires g c =
    let put = c.put_back-door_faults.ensures in
    keeps_served c.args.desk.now c.work_beside-kept.new.keeper c.work_beside-kept.new.pass c.put_back-door_faults.new.pass
    c.work_beside-kept.ensures.keeps put.pass put.caller put.mark put.goes_on

pub returns-clause-doors : goal.returns-clause-doors
returns-clause-doors g c =
    let change = door_change g.D.Doors.left g.D.Doors.faults in
    let worked = c.work_beside-kept.new.workers in
    let same_len : c.assign_workers-workers.result.len ≡ length worked = omega (arith, c.as_mut_slice.ensures.len, c.work_beside-kept.auto.workers) in
    as_many change c.args.doors.now.items c.put_back-door_faults.new.doors.items c.assign_workers-workers.result.items worked
    c.put_back-door_faults.result.0
    (c.assign_workers-workers.ensures.doors ∙ ap (λ doors. doors.items) c.replace.ensures.value)
    (subst (λ hired. AllZip (HasWorked change) hired worked) c.as_mut_slice.ensures.value c.work_beside-kept.ensures.worked)
    (all_worked change c.assign_workers-workers.result.len worked c.assign_workers-workers.result.items
    c.put_back-door_faults.new.doors.items c.put_back-door_faults.result.0 same_len c.put_back-door_faults.ensures.ended)

pub returns-clause-ends : goal.returns-clause-ends
returns-clause-ends g c =
    let change = door_change g.D.Doors.left g.D.Doors.faults in
    let worked = c.work_beside-kept.new.workers in
    let same_len : c.assign_workers-workers.result.len ≡ length worked = omega (arith, c.as_mut_slice.ensures.len, c.work_beside-kept.auto.workers) in
    ends_doors _ _ (are_served change c.args.doors.now.items c.put_back-door_faults.new.doors.items
    c.assign_workers-workers.result.items worked c.put_back-door_faults.result.0
    (c.assign_workers-workers.ensures.doors ∙ ap (λ doors. doors.items) c.replace.ensures.value)
    (subst (λ hired. AllZip (HasWorked change) hired worked) c.as_mut_slice.ensures.value c.work_beside-kept.ensures.worked)
    (all_worked change c.assign_workers-workers.result.len worked c.assign_workers-workers.result.items
    c.put_back-door_faults.new.doors.items c.put_back-door_faults.result.0 same_len c.put_back-door_faults.ensures.ended))

-- All rounds of the keeper, from the pass as it was lent to the pass at the end.
have : (g : _) (c : goal.After-then-kept g) → HaveRounds g.V.Vault.is_told g.V.Vault.past g.V.Vault.faults
    c.args.keeper.now c.keep_last.new.keeper c.args.pass.now c.keep_last.new.pass
    (kept_then c.work_beside-kept.result c.keep_last.result)
have g c =
    let told = g.V.Vault.is_told in
    let past = g.V.Vault.past in
    let risen = g.V.Vault.faults in
    let lock = c.args.desk.now in
    let store = c.args.keeper.now in
    let pass = c.args.pass.now in
    let split = c.assign_workers-workers.new.pass in
    let beside = c.work_beside-kept in
    let put = c.put_back-door_faults in
    let stays = c.assign_workers-workers.ensures.stays in
    let caller = put.ensures.caller in
    rounds_far told past risen lock store beside.new.keeper c.keep_last.new.keeper pass put.new.pass c.keep_last.new.pass
    beside.result c.keep_last.result c.requires.keeps
    (rounds_after told past risen store beside.new.keeper pass beside.new.pass put.new.pass beside.result
    (rounds_before told past risen lock store beside.new.keeper pass split beside.new.pass beside.result c.requires.keeps
    stays.numbers stays.may_settle (goes_on_split pass split stays) beside.ensures.rounds)
    (ap (λ (c : Caller). c.numbers) caller) (ap (λ (c : Caller). c.may_settle) caller) put.ensures.goes_on)
    c.keep_last.ensures.rounds

pub returns-clause-keeping : goal.returns-clause-keeping
returns-clause-keeping g c = let all = have g c in all.keeping

pub returns-clause-kept : goal.returns-clause-kept
returns-clause-kept g c =
    let all = have g c in
    cause_by g.V.Vault.faults c.args.keeper.now c.keep_last.new.keeper c.then-kept.result
    (kept_then c.work_beside-kept.result c.keep_last.result) c.then-kept.ensures all.cause
