use Rattle.std.proofs.Common.{inl, inr, ℕ, ◌≡◌, ◌%◌, ◌∙◌, ap, ◌∷◌, drop, List}
use Rattle.vl_vault.specs.Disk.{content, Past}
use Rattle.vl_vault.specs.Moments.{Always, ChangesFile}
use Rattle.parts_list.specs.Format.{body_of}
use Rattle.parts_list.specs.Slots.{IsClosedOrNew, IsClosedOrOld, IsOldOrNew}
use Rattle.vl_vault.proofs.Runs.{last, widen, followed}
use Rattle.parts_list.proofs.Live.{list_moments, list_written, list_durable}
use Rattle.parts_list.proofs.write.write_spelled.Goals as goal

new_counts : (old body staged c : List ℕ) → staged ≡ body → IsClosedOrNew staged c → IsOldOrNew old body c
new_counts old body staged c is (inl closed) = inl (inl closed)
new_counts old body staged c is (inr new) = inr (new ∙ ap (λ b. 1 ∷ b) is)

-- the gate is opened after the body was written
joined : (slot : ℕ) (body : List ℕ) (old mid new : Past)
    → Always (ChangesFile slot (IsClosedOrOld (content old slot)) old) old mid
    → drop 1 (content mid slot) ≡ body → Always (ChangesFile slot (IsClosedOrNew (drop 1 (content mid slot))) mid)
    mid new
    → Always (ChangesFile slot (IsOldOrNew (content old slot) body) old) old new
joined slot body old mid new first is run =
    followed slot (IsOldOrNew (content old slot) body) old (widen (λ e was. inl was) first) (widen (λ e now.
    new_counts (content old slot) body (drop 1 (content mid slot)) e is now) run)

pub returns-in_err-stage_list-clause-moments : goal.returns-in_err-stage_list-clause-moments
returns-in_err-stage_list-clause-moments g c = λ told.
    list_moments c.args.list.now c.requires.rules (g.V.Vault.past c.args.vault.now) (c.requires.durable told) _
    (c.requires.next told)
    (widen (λ e was. inl was) (c.stage_list.ensures.moments told))

pub returns-in_err-open_gate-clause-moments : goal.returns-in_err-open_gate-clause-moments
returns-in_err-open_gate-clause-moments g c = λ told.
    let old = g.V.Vault.past c.args.vault.now in
    let l = c.args.list.now in
    let is = c.in_ok-stage_list.ensures.written told ∙ c.requires.spelled in
    list_moments l c.requires.rules old (c.requires.durable told) _ (c.requires.next told)
    (joined (l.generation % 2) (body_of l) old _ _ (c.stage_list.ensures.moments told) is
    (c.open_gate.ensures.moments told))

pub returns-clause-moments : goal.returns-clause-moments
returns-clause-moments g c = λ told.
    let old = g.V.Vault.past c.args.vault.now in
    let l = c.args.list.now in
    let is = c.in_ok-stage_list.ensures.written told ∙ c.requires.spelled in
    list_moments l c.requires.rules old (c.requires.durable told) _ (c.requires.next told)
    (joined (l.generation % 2) (body_of l) old _ _ (c.stage_list.ensures.moments told) is
    (c.open_gate.ensures.moments told))

pub returns-clause-written : goal.returns-clause-written
returns-clause-written g c = λ told.
    let old = g.V.Vault.past c.args.vault.now in
    let l = c.args.list.now in
    let is = c.in_ok-stage_list.ensures.written told ∙ c.requires.spelled in
    let run = joined (l.generation % 2) (body_of l) old _ _ (c.stage_list.ensures.moments told) is
    (c.open_gate.ensures.moments told) in
    list_written l c.requires.rules old (c.requires.durable told) _ (c.requires.next told) (last run)
    (c.in_ok-open_gate.ensures.written told ∙ ap (λ b. 1 ∷ b) is)

pub returns-clause-durable : goal.returns-clause-durable
returns-clause-durable g c = λ told.
    let old = g.V.Vault.past c.args.vault.now in
    let l = c.args.list.now in
    let is = c.in_ok-stage_list.ensures.written told ∙ c.requires.spelled in
    let run = joined (l.generation % 2) (body_of l) old _ _ (c.stage_list.ensures.moments told) is
    (c.open_gate.ensures.moments told) in
    list_durable l c.requires.rules old (c.requires.durable told) _ (last run) (c.in_ok-open_gate.ensures.durable told)
