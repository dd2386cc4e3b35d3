use Rattle.std.proofs.Common.{ap, subst, sym}
use Rattle.vl_row.specs.Place.{IsInOrder}
use Rattle.block_body.specs.Outline.{Outline}
use Rattle.block_body.specs.declared.head.Known.{Known}
use Rattle.block_body.proofs.head.Head.new.Goals as goal

pub invariant_of-result : goal.invariant_of-result
invariant_of-result c = subst (λ (k : Known). IsInOrder k.columns.items) (sym c.in_ok-shared.ensures.ok) c.requires

pub returns : goal.returns
returns c =
    ap (λ (k : Known). let o : Outline = record {
      labels = k.stream;
      min = k.extent.min;
      max = k.extent.max;
      rows = k.extent.rows;
      weight = k.extent.weight;
      columns = k.columns.items;
    } in o) c.in_ok-shared.ensures.ok
