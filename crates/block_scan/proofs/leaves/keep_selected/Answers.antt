use Rattle.std.proofs.Common.{◌∙◌, ap, sym}
use Rattle.log_model.specs.History.{Numbered}
use Rattle.lq_ast.specs.Holds.{selects}
use Rattle.lq_filter.specs.Labels.{groups_of}
use Rattle.block_scan.proofs.Staying.{kept-constant}
use Rattle.block_scan.proofs.leaves.keep_selected.Goals as goal

pub returns : goal.returns
returns c =
    let groups = groups_of c.args.selector.now in
    c.settle.ensures
    ∙ kept-constant (λ (numbered : Numbered). selects groups numbered.row.labels) c.in_ok-stay.stay c.args.rows.now
    c.args.marks.now
    (λ k d within. ap (selects groups) (c.stream.ensures k d within) ∙ sym c.in_ok-stay.ensures) c.requires
