use Rattle.vl_row.proofs.Listed.{among_moved}
use Rattle.vl_row.proofs.names.Names.try_of.Goals as goal

pub invariant_of-result : goal.invariant_of-result
invariant_of-result c = c.in_ok-names.ensures.order

pub returns : goal.returns
returns c = λ name.
    among_moved c.args.names.now c.in_ok-copies.copies.items c.in_ok-names.names.items name c.in_ok-copies.ensures
    c.in_ok-names.ensures.moved
