use Rattle.std.proofs.Common.{◌∙◌, ◌++◌, List, ap, sym, ℕ}
use Rattle.col_codec.specs.Again.{writing-is}
use Rattle.col_codec.proofs.int_column.IntColumnSpelled.put.Goals as goal

pub returns : goal.returns
returns c bytes written =
    c.in_ok-put.ensures ∙ ap (λ (l : List ℕ). c.args.out.now.items ++ l)
    (sym (writing-is c.args._rows c.args.column.now bytes written).1)
