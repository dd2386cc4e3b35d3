use Rattle.std.proofs.Common.{◌∙◌, ◌++◌, List, ap, sym, ℕ}
use Rattle.part_file.specs.TestLaws.{written-is}
use Rattle.part_file.proofs.read.PartItemsSpelled.put.Goals as goal

pub returns : goal.returns
returns c bytes written =
    c.in_ok-put.ensures.bytes ∙ ap (λ (l : List ℕ). c.args.out.now.items ++ l)
    (sym (written-is c.args.part.now bytes written))
