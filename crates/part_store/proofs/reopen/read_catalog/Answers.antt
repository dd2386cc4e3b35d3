use Rattle.std.proofs.Common.{◌≡◌, ◌∙◌, ap, inl, inr, map, refl, subst, sym}
use Rattle.std.specs.Prelude.{None, Some}
use Rattle.std.specs.List.{AllZip}
use Rattle.std.proofs.lemmas.Result.{err_from_is_err_and}
use Rattle.vl_vault.specs.Disk.{content}
use Rattle.vl_vault.proofs.Runs.{last}
use Rattle.parts_list.specs.declared.list.List.{List as Listing}
use Rattle.parts_list.specs.Reading.{IsFaultOf, KeepsRules}
use Rattle.parts_list.specs.Slots.{found_in}
use Rattle.part_store.specs.declared.fault.ReopenFault.{ReopenFault}
use Rattle.part_store.specs.Finds.{HasPart, IsOnVault}
use Rattle.part_store.specs.Preparing.{parts_of, state_of}
use Rattle.part_store.specs.Reopening.{IsOutside, IsPartsFault, IsReopenFault}
use Rattle.part_store.specs.State.{listed_of}
use Rattle.part_store.proofs.Reopening.{durable_on, finds_list, list_outside, no_batches, none_on_vault, read_on_vault}
use Rattle.part_store.proofs.Reopening.{err_so, ok_both, same_contents, slot_fault, then_unchanged}
use Rattle.part_store.proofs.reopen.read_catalog.Goals as goal

-- ---- the slots were not synced

pub returns-in_err-sync_slots-clause-damaged : goal.returns-in_err-sync_slots-clause-damaged
returns-in_err-sync_slots-clause-damaged g c = λ told.
    let p = err_from_is_err_and c.from_residual.result c.from_residual.ensures.1 in rw (p.1, p.2) (inl tt)

pub returns-in_err-sync_slots-clause-only : goal.returns-in_err-sync_slots-clause-only
returns-in_err-sync_slots-clause-only g c = λ told finds.
    let p = err_from_is_err_and c.from_residual.result c.from_residual.ensures.1 in rw (p.1, p.2) (inl refl)

-- ---- the list was not read

pub returns-in-Err-clause-moments : goal.returns-in-Err-clause-moments
returns-in-Err-clause-moments g c = λ told.
    then_unchanged (g.V.Vault.past c.args.vault.now) (c.sync_slots.ensures.moments told)
    (c.read_list.ensures.moments told)

pub returns-in-Err-clause-only : goal.returns-in-Err-clause-only
returns-in-Err-clause-only g c = λ told finds.
    let old = g.V.Vault.past c.args.vault.now in
    let mid = g.V.Vault.past c.sync_slots.new.vault in
    let same = same_contents old mid (last (c.sync_slots.ensures.moments told)).read in
    subst IsOutside (sym c.list_fault.ensures)
    (list_outside (content old) c.in-Err.fault (subst (λ im. IsFaultOf c.in-Err.fault im) same
    (c.in-Err.ensures.damaged told)) finds)

pub returns-in-Err-clause-damaged : goal.returns-in-Err-clause-damaged
returns-in-Err-clause-damaged g c = λ told.
    let old = g.V.Vault.past c.args.vault.now in
    let mid = g.V.Vault.past c.sync_slots.new.vault in
    subst (λ (f : ReopenFault). IsReopenFault f (content old)) (sym c.list_fault.ensures)
    (inl (slot_fault old mid c.in-Err.fault (last (c.sync_slots.ensures.moments told)).read
    (c.in-Err.ensures.damaged told)))

-- ---- there is no list

pub returns-in-Ok-None-clause-batches : goal.returns-in-Ok-None-clause-batches
returns-in-Ok-None-clause-batches g c =
    no_batches (state_of c.empty.result) c.empty.ensures.numbers.1 (ap (map listed_of) c.empty.ensures.parts)

pub returns-in-Ok-None-clause-moments : goal.returns-in-Ok-None-clause-moments
returns-in-Ok-None-clause-moments g c = λ told.
    then_unchanged (g.V.Vault.past c.args.vault.now) (c.sync_slots.ensures.moments told)
    (c.read_list.ensures.moments told)

pub returns-in-Ok-None-clause-on : goal.returns-in-Ok-None-clause-on
returns-in-Ok-None-clause-on g c = λ told.
    let old = g.V.Vault.past c.args.vault.now in
    let mid = g.V.Vault.past c.sync_slots.new.vault in
    let new = g.V.Vault.past c.read_list.new.vault in
    let synced = c.sync_slots.ensures.moments told in
    let reads = c.read_list.ensures.moments told in
    let found : found_in (content old) ≡ Some None =
    ap found_in (sym (same_contents old mid (last synced).read)) ∙ c.in-Ok-None.ensures.found told
    ∙ ap Some c.in-Ok-None.field-0-is in
    subst (λ xs. IsOnVault c.empty.result.list (map listed_of xs) new) (sym c.empty.ensures.parts)
    (none_on_vault c.empty.result.list old new c.empty.ensures.numbers.0 (last (then_unchanged old synced reads))
    (durable_on mid new (last reads) (c.in_ok-sync_slots.ensures.durable told)) found)

-- ---- there is one

pub returns-in-Ok-Some-clause-moments : goal.returns-in-Ok-Some-clause-moments
returns-in-Ok-Some-clause-moments g c = λ told.
    let old = g.V.Vault.past c.args.vault.now in
    then_unchanged old (then_unchanged old (c.sync_slots.ensures.moments told) (c.read_list.ensures.moments told))
    (c.read_listed.ensures.moments told)

pub returns-in-Ok-Some-clause-only : goal.returns-in-Ok-Some-clause-only
returns-in-Ok-Some-clause-only g c = λ told finds.
    let old = g.V.Vault.past c.args.vault.now in
    let mid = g.V.Vault.past c.sync_slots.new.vault in
    let two = g.V.Vault.past c.read_list.new.vault in
    let list = c.in-Ok-Some.list in
    let synced = c.sync_slots.ensures.moments told in
    let reads = c.read_list.ensures.moments told in
    let found : found_in (content old) ≡ Some (Some list) =
    ap found_in (sym (same_contents old mid (last synced).read)) ∙ c.in-Ok-Some.ensures.found told
    ∙ ap Some c.in-Ok-Some.field-0-is in
    let has = finds_list (content old) list found finds in
    let each = subst (λ im. AllZip (HasPart im) list.entries has.parts)
    (sym (same_contents old two (last (then_unchanged old synced reads)).read)) has.each in
    c.read_listed.ensures.only told has.parts each has.held

pub returns-in-Ok-Some-clause-damaged : goal.returns-in-Ok-Some-clause-damaged
returns-in-Ok-Some-clause-damaged g c = λ told.
    let old = g.V.Vault.past c.args.vault.now in
    let mid = g.V.Vault.past c.sync_slots.new.vault in
    let two = g.V.Vault.past c.read_list.new.vault in
    let list = c.in-Ok-Some.list in
    let synced = c.sync_slots.ensures.moments told in
    let reads = c.read_list.ensures.moments told in
    let found : found_in (content old) ≡ Some (Some list) =
    ap found_in (sym (same_contents old mid (last synced).read)) ∙ c.in-Ok-Some.ensures.found told
    ∙ ap Some c.in-Ok-Some.field-0-is in
    let same = same_contents old two (last (then_unchanged old synced reads)).read in
    err_so c.read_listed.result (λ fault is. inr (list, found, subst (λ im. IsPartsFault fault list im) same is))
    (c.read_listed.ensures.damaged told)

pub returns-in-Ok-Some-clause-on : goal.returns-in-Ok-Some-clause-on
returns-in-Ok-Some-clause-on g c = λ told.
    let old = g.V.Vault.past c.args.vault.now in
    let mid = g.V.Vault.past c.sync_slots.new.vault in
    let two = g.V.Vault.past c.read_list.new.vault in
    let new = g.V.Vault.past c.read_listed.new.vault in
    let list = c.in-Ok-Some.list in
    let synced = c.sync_slots.ensures.moments told in
    let reads = c.read_list.ensures.moments told in
    let rest = c.read_listed.ensures.moments told in
    let first = then_unchanged old synced reads in
    let found : found_in (content old) ≡ Some (Some list) =
    ap found_in (sym (same_contents old mid (last synced).read)) ∙ c.in-Ok-Some.ensures.found told
    ∙ ap Some c.in-Ok-Some.field-0-is in
    let slots = durable_on two new (last rest) (durable_on mid two (last reads)
    (c.in_ok-sync_slots.ensures.durable told)) in
    let good = subst KeepsRules c.in-Ok-Some.field-0-is c.in-Ok-Some.ensures.rules in
    ok_both c.read_listed.result (λ catalog is each. subst (λ (l : Listing). IsOnVault l (parts_of catalog) new)
    (sym is)
    (read_on_vault list (parts_of catalog) old new good (c.requires.durable told) (last
    (then_unchanged old first rest)) slots found
    (subst (λ im. AllZip (HasPart im) list.entries (parts_of catalog)) (same_contents old two (last first).read) each)))
    c.read_listed.ensures.list (c.read_listed.ensures.found told)
