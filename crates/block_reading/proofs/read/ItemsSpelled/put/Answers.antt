use Rattle.std.proofs.Common.{◌∙◌, ◌++◌, List, ap, sym, ℕ}
use Rattle.block_format.proofs.ReadAgain.{writing-is}
use Rattle.block_reading.proofs.read.ItemsSpelled.put.Goals as goal

pub returns : goal.returns
returns c bytes written =
    c.in_ok-put.ensures.bytes ∙ ap (λ (l : List ℕ). c.args.out.now.items ++ l)
    (sym (writing-is c.args.stored.now bytes written))
