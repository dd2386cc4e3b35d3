use Rattle.std.proofs.Common.{◌∙◌, arith, refl, sym}
use Rattle.std.specs.declared.cmp.Ordering.TheVariants.{Greater, Less}
use Rattle.part_model.proofs.LabelLaws.{ends, step-equal, step-other}
use Rattle.part_model.proofs.order.labels_cmp.Goals as goal

pub loop-i-preserved : goal.loop-i-preserved
loop-i-preserved c =
    c.loop-i.invariant ∙ step-equal c.args.labels.now c.args.others.now c.loop-i.i c.index-labels-i.result
    c.index-others-i.result c.label_cmp.result (omega arith) (omega arith) c.index-labels-i.is c.index-others-i.is
    c.label_cmp.ensures c.in-Equal.is

pub returns-in-Less : goal.returns-in-Less
returns-in-Less c =
    sym (c.loop-i.invariant ∙ step-other c.args.labels.now c.args.others.now c.loop-i.i c.index-labels-i.result
    c.index-others-i.result c.label_cmp.result Less (omega arith) (omega arith) c.index-labels-i.is c.index-others-i.is
    c.label_cmp.ensures c.in-Less.is (λ rest. refl))

pub returns-in-Greater : goal.returns-in-Greater
returns-in-Greater c =
    sym (c.loop-i.invariant ∙ step-other c.args.labels.now c.args.others.now c.loop-i.i c.index-labels-i.result
    c.index-others-i.result c.label_cmp.result Greater (omega arith) (omega arith) c.index-labels-i.is
    c.index-others-i.is c.label_cmp.ensures c.in-Greater.is (λ rest. refl))

pub returns : goal.returns
returns c =
    c.cmp.ensures ∙ ends c.args.labels.now c.args.others.now c.loop-i.i (omega arith) (omega arith) (omega arith)
    ∙ sym c.loop-i.invariant
