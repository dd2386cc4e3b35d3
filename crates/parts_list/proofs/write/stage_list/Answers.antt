use Rattle.std.proofs.Common.{inl, ◌%◌, ℕ}
use Rattle.vl_vault.specs.Disk.{content, Past}
use Rattle.vl_vault.specs.Moments.{Always, ChangesFile}
use Rattle.parts_list.specs.Slots.{IsClosedOrOld, IsShut}
use Rattle.vl_vault.proofs.Runs.{widen, followed}
use Rattle.parts_list.proofs.Tearing.{shut-closed}
use Rattle.parts_list.proofs.Live.{old_moments}
use Rattle.parts_list.proofs.write.stage_list.Goals as goal

-- a gate that is shut is closed
joined : (slot : ℕ) (old mid new : Past) → Always (ChangesFile slot (IsClosedOrOld (content old slot)) old) old mid
    → Always (ChangesFile slot IsShut mid) mid new → Always (ChangesFile slot (IsClosedOrOld (content old slot)) old)
    old new
joined slot old mid new first run =
    followed slot (IsClosedOrOld (content old slot)) old first (widen (λ e shut. inl (shut-closed e shut)) run)

pub returns-in_err-close_gate-clause-old : goal.returns-in_err-close_gate-clause-old
returns-in_err-close_gate-clause-old g c = λ told.
    old_moments c.args.list.now c.requires.rules (g.V.Vault.past c.args.vault.now) (c.requires.durable told) _
    (c.requires.next told)
    (c.close_gate.ensures.moments told)

pub returns-clause-moments : goal.returns-clause-moments
returns-clause-moments g c = λ told.
    joined (c.args.list.now.generation % 2) (g.V.Vault.past c.args.vault.now) _ _ (c.close_gate.ensures.moments told)
    (c.write_body.ensures.moments told)

pub returns-clause-old : goal.returns-clause-old
returns-clause-old g c = λ told.
    old_moments c.args.list.now c.requires.rules (g.V.Vault.past c.args.vault.now) (c.requires.durable told) _
    (c.requires.next told)
    (joined (c.args.list.now.generation % 2) (g.V.Vault.past c.args.vault.now) _ _ (c.close_gate.ensures.moments
    told) (c.write_body.ensures.moments told))
