use Rattle.std.proofs.Common.{◌∙◌, List, ap, map, subst, sym}
use Rattle.std.specs.Arc.{arc_value}
use Rattle.block_format.specs.Rows.{IsBlock}
use Rattle.log_model.specs.History.{Numbered}
use Rattle.block_body.specs.Held.{rows_held}
use Rattle.block_body.specs.Outlines.{DoNotFall, time_of}
use Rattle.block_body.specs.declared.body.Body.{Body}
use Rattle.block_body.proofs.TimeLaws.{times-held, times-ordered}
use Rattle.block_body.proofs.stored.StoredRows.times.Goals as goal

pub returns-clause-times : goal.returns-clause-times
returns-clause-times c =
    let body : Body = arc_value c.self.inside.body in
    let rows : List Numbered = rows_held c.self.inside.head (arc_value c.self.inside.body) c.self.inside.batches in
    c.as_slice.ensures.value ∙ ap (λ (b : Body). b.times.items) c.deref.ensures
    ∙ times-held rows body c.self.inside.batches c.self.invariant.even c.self.invariant.held.keys_are
    ∙ ap (map time_of) c.self.view_is

pub returns-clause-order : goal.returns-clause-order
returns-clause-order c =
    let block : IsBlock c.args.self.now = subst IsBlock c.self.view_is c.self.invariant.held.block in
    subst DoNotFall (sym (returns-clause-times c)) (times-ordered c.args.self.now block.ordered)
