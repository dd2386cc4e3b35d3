use Rattle.std.proofs.Common.{map, ap, ◌∙◌, arith}
use Rattle.std.proofs.lemmas.Grind.{common_steps}
use Rattle.lq_ast.specs.PipeView.{sort_by}
use Rattle.lq_ast.specs.declared.pipe.SortKey.{SortKey}
use Rattle.lq_grammar.specs.Stages.{turned}
use Rattle.std.proofs.Common.{true}
use Rattle.lq_parse.proofs.Turned.{one_turned, all_mixed}
use Rattle.lq_parse.proofs.sort.all_turned.Goals as goal

pub loop-i-preserved : goal.loop-i-preserved
loop-i-preserved c = (
  one_turned c.loop-i.keys.items (map sort_by c.args.keys.items) c.loop-i.i c.index_mut-key.result.now _
      c.loop-i.invariant.0 (grind (arith, common_steps, c.loop-i-test.true, c.len-i-end.ensures, c.loop-i.invariant.1))
      (ap (λ (key : SortKey). turned true (sort_by key)) c.index_mut-key.ensures.value),
  grind (arith, common_steps, c.loop-i.invariant.1),
)

pub returns : goal.returns
returns c =
    c.loop-i.invariant.0
    ∙ all_mixed (map sort_by c.args.keys.items) c.loop-i.i
    (grind (arith, common_steps, c.loop-i-test.false, c.len-i-end.ensures))
