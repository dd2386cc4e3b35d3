use Rattle.std.proofs.Common.{◌≡◌, ◌∙◌, ap, sym, arith, length, take}
use Rattle.std.proofs.lemmas.Bool.{ne_eqb}
use Rattle.std.proofs.lemmas.List.{length-take}
use Rattle.vl_vault.specs.Disk.{content}
use Rattle.parts_list.proofs.SlotLemmas.{short-closed}
use Rattle.parts_list.proofs.gate.has_open_gate.Goals as goal

pub returns-else-count-eq2-clause-open : goal.returns-else-count-eq2-clause-open
returns-else-count-eq2-clause-open g c = λ told.
    let count = c.in_ok-count.count in
    let front = take count c.read.new.buf in
    let bound = c.in_ok-count.ensures.bound in
    let whole : count ≡ length front = omega (arith, length-take count c.read.new.buf, bound) in
    let bytes = content (g.V.Vault.past c.args.vault.now) c.args.slot in
    ne_eqb count 2 c.if-count-eq2.false ∙ sym (short-closed count bytes (whole ∙ ap length (c.in_ok-count.ensures.bytes told))
    c.if-count-eq2.false)
