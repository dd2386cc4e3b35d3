use Rattle.std.proofs.Common.{subst, sym}
use Rattle.vl_row.specs.Place.{IsInOrder}
use Rattle.block_body.specs.declared.head.Known.{Known}
use Rattle.block_body.proofs.head.Head.share.Goals as goal

pub invariant_of-result : goal.invariant_of-result
invariant_of-result c = subst (λ (k : Known). IsInOrder k.columns.items) (sym c.in_ok-known.ensures) c.self.invariant
