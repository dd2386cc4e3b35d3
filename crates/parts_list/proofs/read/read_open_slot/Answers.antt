use Rattle.std.proofs.Common.{◌≡◌, ◌∙◌, subst}
use Rattle.std.proofs.lemmas.Result.{err_from_is_err_and}
use Rattle.vl_vault.specs.Disk.{content}
use Rattle.parts_list.specs.Reading.{slot_with, IsFaultIn}
use Rattle.parts_list.specs.Slots.{slot_of}
use Rattle.parts_list.proofs.ReadLemmas.{outside_fault}
use Rattle.parts_list.proofs.read.read_open_slot.Goals as goal

pub returns-in_err-bytes-clause-damaged : goal.returns-in_err-bytes-clause-damaged
returns-in_err-bytes-clause-damaged g c = λ told.
    let p = err_from_is_err_and c.from_residual.result c.from_residual.ensures.1 in
    rw (p.1, p.2) (outside_fault c.args.slot (content (g.V.Vault.past c.args.vault.now) c.args.slot)
    c.in_err-bytes.field-0.0 c.in_err-bytes.ensures.only)

pub returns-in_err-list-clause-damaged : goal.returns-in_err-list-clause-damaged
returns-in_err-list-clause-damaged g c = λ told.
    let p = err_from_is_err_and c.from_residual-in_err-list.result c.from_residual-in_err-list.ensures.1 in
    let same = c.deref.ensures.value ∙ c.in_ok-bytes.ensures.bytes told in
    rw (p.1, p.2) (subst (λ b. IsFaultIn c.in_err-list.field-0.0 c.args.slot b) same c.in_err-list.ensures.damaged)

pub returns-clause-found : goal.returns-clause-found
returns-clause-found g c = λ told.
    let same = c.deref.ensures.value ∙ c.in_ok-bytes.ensures.bytes told in
    subst (λ b. slot_of c.args.slot b ≡ slot_with c.in_ok-list.list) same c.in_ok-list.ensures.found
