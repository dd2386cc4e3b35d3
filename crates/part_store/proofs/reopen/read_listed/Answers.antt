use Rattle.std.proofs.Common.{◌≡◌, ◌∙◌, ap, inl, inr, length, map, refl, subst, sym}
use Rattle.std.specs.Prelude.{◌⊎◌}
use Rattle.std.specs.Arc.{arc_value}
use Rattle.std.specs.List.{AllZip}
use Rattle.std.proofs.lemmas.Bool.{iff_false}
use Rattle.std.proofs.lemmas.List.{length-map}
use Rattle.std.proofs.lemmas.Result.{err_from_is_err_and}
use Rattle.vl_vault.specs.Disk.{Image, content}
use Rattle.part_batches.specs.Whole.{HoldBatches}
use Rattle.parts_list.specs.declared.list.List.{List as Listing}
use Rattle.part_store.specs.declared.fault.ReopenFault.{ReopenFault}
use Rattle.part_store.specs.declared.fault.ReopenFault.TheVariants.{Memory}
use Rattle.part_store.specs.Preparing.{state_of}
use Rattle.part_store.specs.Reopening.{IsFirstFault, IsPartOf, IsPartsFault, IsStoredAt, RowLists, listed_with}
use Rattle.part_store.specs.State.{Listed, listed_of}
use Rattle.part_store.proofs.Entries.{zip_long}
use Rattle.part_store.proofs.Rereading.{zip_stored}
use Rattle.part_store.proofs.Reopening.{batches_of, found_of, other_front, same_batches, whole_of}
use Rattle.part_store.proofs.reopen.read_listed.Goals as goal

parts_fault : (fault : ReopenFault) (list : Listing) (image : Image)
    → (fault ≡ Memory) ⊎ IsFirstFault fault list.entries image → IsPartsFault fault list image
parts_fault fault list image (inl is) = inl is
parts_fault fault list image (inr first) = inr (inl first)

pub returns-in_err-parts-clause-only : goal.returns-in_err-parts-clause-only
returns-in_err-parts-clause-only g c = λ told parts zip held.
    let image = content (g.V.Vault.past c.args.vault.now) in
    let stored = subst (λ es. AllZip (IsStoredAt image) es (map (λ (part : Listed). part.rows) parts))
    (sym c.as_slice.ensures)
    (zip_stored image c.args.list.entries parts zip) in
    let p = err_from_is_err_and c.from_residual.result c.from_residual.ensures.1 in
    rw (p.1, p.2) (c.in_err-parts.ensures.only told (map (λ (part : Listed). part.rows) parts) stored)

pub returns-in_err-parts-clause-damaged : goal.returns-in_err-parts-clause-damaged
returns-in_err-parts-clause-damaged g c = λ told.
    let image = content (g.V.Vault.past c.args.vault.now) in
    let fault = c.in_err-parts.field-0.0 in
    let p = err_from_is_err_and c.from_residual.result c.from_residual.ensures.1 in
    rw (p.1, p.2) (parts_fault fault c.args.list image
    (subst (λ es. (fault ≡ Memory) ⊎ IsFirstFault fault es image) c.as_slice.ensures
    (c.in_err-parts.ensures.damaged told)))

pub returns-then-not-branch-clause-only : goal.returns-then-not-branch-clause-only
returns-then-not-branch-clause-only g c = λ told parts zip held.
    let image = content (g.V.Vault.past c.args.vault.now) in
    let rows : RowLists = map arc_value c.in_ok-parts.parts.items in
    let stored = subst (λ es. AllZip (IsStoredAt image) es rows) c.as_slice.ensures
    (c.in_ok-parts.ensures.found told) in
    let here = subst (λ xs. HoldBatches c.args.list.front (map arc_value xs)) (sym c.deref.ensures.value)
    (same_batches c.args.list rows image stored parts zip held) in
    absurd (iff_false c.in_ok-are_batches.ensures c.if-not-branch.true here)

pub returns-then-not-branch-clause-damaged : goal.returns-then-not-branch-clause-damaged
returns-then-not-branch-clause-damaged g c = λ told.
    let image = content (g.V.Vault.past c.args.vault.now) in
    let rows : RowLists = map arc_value c.in_ok-parts.parts.items in
    let stored = subst (λ es. AllZip (IsStoredAt image) es rows) c.as_slice.ensures
    (c.in_ok-parts.ensures.found told) in
    inr (inr (other_front c.args.list rows image stored (λ held. iff_false c.in_ok-are_batches.ensures
    c.if-not-branch.true
    (subst (λ xs. HoldBatches c.args.list.front (map arc_value xs)) (sym c.deref.ensures.value) held))))

pub with_entries-requires : goal.with_entries-requires
with_entries-requires g c =
    let parts = c.in_ok-parts.parts.items in
    ap length c.deref-2.ensures.value ∙ sym (length-map parts arc_value)
    ∙ sym (zip_long IsPartOf c.as_slice.result.now (map arc_value parts) c.in_ok-parts.ensures.parts)
    ∙ ap length (c.as_slice.ensures ∙ sym c.as_slice-2.ensures)

pub returns-clause-whole : goal.returns-clause-whole
returns-clause-whole g c =
    let rows : RowLists = map arc_value c.in_ok-parts.parts.items in
    let all = subst (λ es. AllZip IsPartOf es rows) c.as_slice.ensures c.in_ok-parts.ensures.parts in
    let are : map listed_of c.in_ok-parts-2.parts.items ≡ listed_with c.args.list.entries rows =
    c.in_ok-parts-2.ensures ∙ (λ i. listed_with (c.as_slice-2.ensures i) (map arc_value (c.deref-2.ensures.value i))) in
    whole_of c.args.list rows all c.requires (map listed_of c.in_ok-parts-2.parts.items) are

pub returns-clause-batches : goal.returns-clause-batches
returns-clause-batches g c =
    let rows : RowLists = map arc_value c.in_ok-parts.parts.items in
    let all = subst (λ es. AllZip IsPartOf es rows) c.as_slice.ensures c.in_ok-parts.ensures.parts in
    let are : map listed_of c.in_ok-parts-2.parts.items ≡ listed_with c.args.list.entries rows =
    c.in_ok-parts-2.ensures ∙ (λ i. listed_with (c.as_slice-2.ensures i) (map arc_value (c.deref-2.ensures.value i))) in
    let held = subst (λ xs. HoldBatches c.args.list.front (map arc_value xs)) c.deref.ensures.value
    (c.in_ok-are_batches.ensures.0 c.if-not-branch.false) in
    batches_of c.args.list rows all (state_of (record { parts = c.in_ok-parts-2.parts; list = c.args.list })) refl are
    held

pub returns-clause-found : goal.returns-clause-found
returns-clause-found g c = λ told.
    let image = content (g.V.Vault.past c.args.vault.now) in
    let rows : RowLists = map arc_value c.in_ok-parts.parts.items in
    let stored = subst (λ es. AllZip (IsStoredAt image) es rows) c.as_slice.ensures
    (c.in_ok-parts.ensures.found told) in
    let are : map listed_of c.in_ok-parts-2.parts.items ≡ listed_with c.args.list.entries rows =
    c.in_ok-parts-2.ensures ∙ (λ i. listed_with (c.as_slice-2.ensures i) (map arc_value (c.deref-2.ensures.value i))) in
    found_of c.args.list rows image stored (map listed_of c.in_ok-parts-2.parts.items) are
