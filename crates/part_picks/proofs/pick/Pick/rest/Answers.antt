use Rattle.std.proofs.Common.{◌<◌, ◌∙◌, List, ap, drop, length, subst, sym}
use Rattle.log_model.specs.History.{Numbered}
use Rattle.part_picks.proofs.RangeLaws.{rest-is}
use Rattle.part_picks.proofs.pick.Pick.rest.Goals as goal

pub returns : goal.returns
returns c =
    rest-is c.self.inside.block.now c.self.inside.from c.self.inside.to c.args.count c.self.invariant (subst (λ (rows : List
    Numbered). c.args.count < length rows) (sym c.self.view_is) c.requires)
    ∙ ap (drop c.args.count) c.self.view_is
