use Rattle.std.proofs.Common.{◌≡◌, ◌≤◌, ◌∙◌, ◌-◌, ap, subst, sym, arith, drop, length, vec_len, List}
use Rattle.vl_vault.specs.Disk.{IsCrashImage, content}
use Rattle.vl_vault.specs.Record.{past_of}
use Rattle.vl_vault.specs.Memory.{VaultState, moment}
use Rattle.vl_vault.proofs.Records.{past_of-moment}
use Rattle.vl_vault.specs.declared.call.Call.{Call}
use Rattle.vl_vault.proofs.memory.MemoryVault.image.Goals as goal

pub returns-clause-contents : goal.returns-clause-contents
returns-clause-contents c =
    let inside = c.self.inside in
    let all = vec_len inside.entries in
    let long : length c.deref.result.now ≡ all = c.deref.ensures.len in
    let few : c.args.call ≤ all - inside.initial = subst (λ (v : VaultState). c.args.call ≤ v.calls) (sym
    c.self.view_is) c.requires in
    let here = ap (λ (v : VaultState). moment v c.args.call) (sym c.self.view_is)
    ∙ ap (λ (cs : List Call). drop ((all - inside.initial) - c.args.call) (past_of cs)) (sym c.deref.ensures.value)
    ∙ past_of-moment c.deref.result.now all inside.initial c.args.call long (omega (arith, few, c.self.invariant)) in
    subst (λ p. IsCrashImage p (content (past_of c.in_ok-entries.entries.items))) (sym here)
    c.in_ok-entries.ensures.contents
