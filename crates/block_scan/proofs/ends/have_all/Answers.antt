use Rattle.std.proofs.Common.{◌≡◌, ◌∙◌, ◌-◌, ◌&&◌, FitsSigned, ap, get_or, length, pos, rules, sym, w64}
use Rattle.std.proofs.lemmas.Int.{to_z-of_z}
use Rattle.lq_ast.specs.Holds.{is_within}
use Rattle.block_scan.proofs.Spans.{all_within}
use Rattle.block_scan.proofs.ends.have_all.Goals as goal

pub returns : goal.returns
returns c = λ all.
    let low = c.args.ends.now.low in
    let high = c.args.ends.now.high in
    let times = c.args.times.now in
    let first = get_or times 0 (pos 0) in
    let last = get_or times (length times - 1) (pos 0) in
    let first_fits : FitsSigned w64 first = search rules in
    let last_fits : FitsSigned w64 last = search rules in
    let first_is : c.has-first.result ≡ is_within low high first = simp to_z-of_z at c.has-first.ensures in
    let last_is : c.has-last.result ≡ is_within low high last = simp to_z-of_z at c.has-last.ensures in
    all_within low high times (pos 0) c.requires
    (sym (ap (λ b. b && c.has-last.result) first_is ∙ ap (λ b. is_within low high first && b) last_is) ∙ all)
