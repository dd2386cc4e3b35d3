use Rattle.std.proofs.Common.{◌≡◌, ◌∙◌, ◌&&◌, ap, map, sym, true, rules}
use Rattle.block_scan.proofs.Staying.{all_stay}
use Rattle.block_scan.proofs.marks.settle.Goals as goal

pub returns-else-not-stay : goal.returns-else-not-stay
returns-else-not-stay c =
    let stays : c.args.stay ≡ true = search rules in
    all_stay c.args.marks.now ∙ ap (λ b. map (λ mark. mark && b) c.args.marks.now) (sym stays)
