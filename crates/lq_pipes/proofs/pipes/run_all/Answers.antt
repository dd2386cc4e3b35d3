use Rattle.std.proofs.Common.{◌-◌, ◌^◌, ap, drop, length, lit<, map, subst, sym, take, ◌∙◌}
use Rattle.std.specs.List.{AllByRecursion}
use Rattle.lq_ast.specs.Pipes.{all_piped}
use Rattle.lq_pipes.specs.Steps.{IsPlanned, stage_of}
use Rattle.lq_pipes.proofs.Fewer.{fewer}
use Rattle.lq_pipes.proofs.Piping.{piped_first}
use Rattle.lq_pipes.proofs.Rowwise.{head_split}
use Rattle.lq_pipes.proofs.pipes.run_all.Goals as goal

pub run-requires-clause-planned : goal.run-requires-clause-planned
run-requires-clause-planned c =
    let split = head_split c.loop-left.left.now c.step-item.result c.in-len1-up.len_at_least c.step-item.is in
    (subst (AllByRecursion IsPlanned) split c.loop-left.invariant.planned).0

pub loop-left-preserved : goal.loop-left-preserved
loop-left-preserved c =
    let left = c.loop-left.left.now in
    let step = c.step-item.result in
    let later = take (length left - 1) (drop 1 left) in
    let split = head_split left step c.in-len1-up.len_at_least c.step-item.is in
    record {
      same = sym (piped_first (stage_of step) (map stage_of later) c.loop-left.records c.in_ok-records.records
          c.in_ok-records.ensures.ok)
          ∙ ap (λ steps. all_piped (map stage_of steps) c.loop-left.records) (sym split) ∙ c.loop-left.invariant.same;
      planned = (subst (AllByRecursion IsPlanned) split c.loop-left.invariant.planned).1;
      few = fewer (stage_of step) c.loop-left.records c.in_ok-records.records (2 ^ 32) (lit< tt)
          c.loop-left.invariant.few c.in_ok-records.ensures.ok;
    }
