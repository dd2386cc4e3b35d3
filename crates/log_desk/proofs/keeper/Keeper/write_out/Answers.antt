use Rattle.std.proofs.Common.{map, refl, sym, ap, ◌∙◌, Ok, Err}
use Rattle.part_store.specs.State.{StoreState, day_part_of}
use Rattle.part_store.specs.declared.fault.StoreFault.TheVariants as stores
use Rattle.log_desk.specs.declared.fault.KeepFault.TheVariants as faults
use Rattle.log_desk.proofs.KeepLaws.{ok_is_no_err, out_apart, out_err, out_none, out_ok, plan_as, same_err}
use Rattle.log_desk.proofs.keeper.Keeper.write_out.Goals as goal

pub plan_of-requires-clause-apart : goal.plan_of-requires-clause-apart
plan_of-requires-clause-apart g c =
    let same = c.self.view_is in
    out_apart c.args.look.now c.args.self.now _ _
    (c.parts.ensures.value ∙ ap (λ (s : StoreState g.row.V.Denot). s.parts) same)
    (c.front-front.ensures.value ∙ ap (λ (s : StoreState g.row.V.Denot). s.front) same) c.requires.front.0
    c.requires.stands

pub replace-requires-clause-front : goal.replace-requires-clause-front
replace-requires-clause-front g c = c.front-2.ensures.small

pub replace-requires-clause-listed : goal.replace-requires-clause-listed
replace-requires-clause-listed g c =
    let plan = plan_as _ c.self.inside.store.parts c.args.look.now _ c.self.inside.store.front _ c.deref.result.now _
    (map day_part_of c.deref-2.result.now) c.parts.ensures.value c.front-front.ensures.value (sym c.deref.ensures.value)
    (ap (map day_part_of) (sym c.deref-2.ensures.value)) c.in-Ok.ensures in
    plan.listed.each

pub returns-then-front-clause-written : goal.returns-then-front-clause-written
returns-then-front-clause-written g c = λ history stands holds.
    out_none g.V.Vault.is_told g.V.Vault.past g.V.Vault.faults history c.args.look.now c.self.inside.store
    c.args.self.now
    c.self.view_is stands holds c.requires.front.0 c.requires.on (Ok tt)
    (sym c.front-front.ensures.value ∙ c.if-front.true ∙ c.front.ensures.value) tt c.finds_law.ensures

pub returns-in_default-clause-written : goal.returns-in_default-clause-written
returns-in_default-clause-written g c = λ history stands holds.
    out_none g.V.Vault.is_told g.V.Vault.past g.V.Vault.faults history c.args.look.now c.self.inside.store
    c.args.self.now
    c.self.view_is stands holds c.requires.front.0 c.requires.on (Err faults.Memory) tt refl c.finds_law.ensures

pub returns-in-Ok-replace-clause-written : goal.returns-in-Ok-replace-clause-written
returns-in-Ok-replace-clause-written g c = λ history stands holds.
    let files = c.deref.result.now in
    let news = map day_part_of c.deref-2.result.now in
    let store : StoreState g.row.V.Denot = c.self.inside.store in
    let plan = plan_as _ store.parts c.args.look.now _ store.front _ files _ news c.parts.ensures.value
    c.front-front.ensures.value (sym c.deref.ensures.value) (ap (map day_part_of) (sym c.deref-2.ensures.value))
    c.in-Ok.ensures in
    out_ok g.V.Vault.is_told g.V.Vault.past g.V.Vault.faults history c.args.look.now store c.args.self.now
    c.self.view_is stands holds c.requires.front.0 c.requires.on files news plan c.front-2.result
    c.front-2.ensures.value
    c.replace.new.self c.replace.ensures.moments c.in-Ok-replace.ensures.ok
    (λ on spent. ok_is_no_err _ _ (c.in-Ok-replace.ensures.spent on spent))

pub returns-clause-written : goal.returns-clause-written
returns-clause-written g c = λ history stands holds.
    let files = c.deref.result.now in
    let news = map day_part_of c.deref-2.result.now in
    let store : StoreState g.row.V.Denot = c.self.inside.store in
    let plan = plan_as _ store.parts c.args.look.now _ store.front _ files _ news c.parts.ensures.value
    c.front-front.ensures.value (sym c.deref.ensures.value) (ap (map day_part_of) (sym c.deref-2.ensures.value))
    c.in-Ok.ensures in
    let ensures = c.in-Err.ensures in
    out_err g.V.Vault.is_told g.V.Vault.past g.V.Vault.faults history c.args.look.now store c.args.self.now
    c.self.view_is stands holds c.requires.front.0 c.requires.on files news plan c.front-2.result
    c.front-2.ensures.value
    c.replace.new.self c.replace.ensures.moments c.in-Err.fault c.from.result c.from.ensures ensures.err
    (λ n is. ensures.halted_only n (ap (λ f. Err f) is)) (λ is. ensures.spent_only (ap (λ f. Err f) is))
    (λ on spent. same_err c.in-Err.fault stores.Spent (ensures.spent on spent))
    (λ is. ensures.fault (ap (λ f. Err f) is)) ensures.untouched
