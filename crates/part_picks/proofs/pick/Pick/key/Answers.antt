use Rattle.std.proofs.Common.{◌+◌, ◌<◌, ◌∙◌, List, ap, length, map, slice_get, subst, sym}
use Rattle.log_model.specs.History.{Numbered}
use Rattle.block_format.specs.Rows.{key_in}
use Rattle.part_picks.proofs.RangeLaws.{key-at}
use Rattle.part_picks.proofs.pick.Pick.key.Goals as goal

pub returns : goal.returns
returns c =
    ap (λ (rows : List Numbered). slice_get (map key_in rows) c.args.i) (sym c.self.view_is)
    ∙ key-at key_in c.self.inside.block.now c.self.inside.from c.self.inside.to c.args.i c.self.invariant (subst (λ (rows
    : List Numbered). c.args.i < length rows) (sym c.self.view_is) c.requires)
    ∙ ap (λ (rows : List Numbered). slice_get (map key_in rows) (c.self.inside.from + c.args.i)) (sym
    c.open-opened.ensures.rows)
    ∙ c.key.ensures
