use Rattle.std.proofs.Common.{◌∙◌, ap, subst, sym}
use Rattle.std.specs.Arc.{arc_value}
use Rattle.log_model.specs.History.{AreOfOneBatch, with_batch}
use Rattle.block_body.proofs.BatchLaws.{stored-under}
use Rattle.block_body.proofs.stored.StoredRows.set_batch.Goals as goal

pub invariant_of-self : goal.invariant_of-self
invariant_of-self c =
    (stored-under c.self.inside.head (arc_value c.self.inside.body) c.self.inside.batches c.args.number c.ranges.number.fits
    (subst AreOfOneBatch (sym c.self.view_is) c.requires) c.self.invariant).1

pub returns : goal.returns
returns c =
    (stored-under c.self.inside.head (arc_value c.self.inside.body) c.self.inside.batches c.args.number c.ranges.number.fits
    (subst AreOfOneBatch (sym c.self.view_is) c.requires) c.self.invariant).0
    ∙ ap (with_batch c.args.number) c.self.view_is
