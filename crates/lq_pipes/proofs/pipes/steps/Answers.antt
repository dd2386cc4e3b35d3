use Rattle.std.proofs.Common.{List, [], ◌∷◌, map, refl, subst, sym}
use Rattle.std.specs.List.{AllByRecursion}
use Rattle.lq_ast.specs.Patterns.{patterns_of_stage}
use Rattle.lq_ast.specs.PipeView.{stage}
use Rattle.lq_ast.specs.declared.pipe.Pipe.{Pipe}
use Rattle.lq_filter.proofs.Refusals.{all_made, all_readable, left_behind, map_one_more, readable_mapped, refused_here}
use Rattle.lq_filter.proofs.Refusals.{refused_mapped}
use Rattle.lq_pipes.proofs.Refusing.{handed_on, refused_as}
use Rattle.lq_pipes.proofs.Walked.{all_more}
use Rattle.lq_pipes.specs.Steps.{IsPlanned, stage_of}
use Rattle.lq_pipes.specs.declared.step.Step.{Step}
use Rattle.lq_pipes.proofs.pipes.steps.Goals as goal

pub returns-in_err-of-clause-refused : goal.returns-in_err-of-clause-refused
returns-in_err-of-clause-refused c =
    let pipes = c.args.pipes.now in
    let patterns = λ (pipe : Pipe). patterns_of_stage (stage pipe) in
    let fault = c.in_err-of.field-0.0 in
    let here = refused_here stage patterns pipes 0 c.loop-pipe.pipe-index (map stage_of c.loop-pipe.steps.items)
    c.loop-pipe.nth c.loop-pipe.invariant.left c.pipe-item.result c.loop-pipe-test.true c.pipe-item.is fault
    c.in_err-of.ensures.refused in
    handed_on c.from_residual-in_err-of.result _ _ c.from_residual-in_err-of.ensures.1
    (refused_as _ fault (refused_mapped patterns_of_stage stage pipes pipes refl 0 fault here))

pub loop-pipe-preserved : goal.loop-pipe-preserved
loop-pipe-preserved c =
    let pipes = c.args.pipes.now in
    let patterns = λ (pipe : Pipe). patterns_of_stage (stage pipe) in
    let made = map stage_of c.loop-pipe.steps.items in
    let behind = left_behind stage patterns pipes 0 c.loop-pipe.pipe-index made c.loop-pipe.nth
    c.loop-pipe.invariant.left c.pipe-item.result c.loop-pipe-test.true c.pipe-item.is (stage_of c.in_ok-of.field-0)
    c.of.new.nth c.in_ok-of.ensures.same (c.in_ok-of.ensures.counted refl) c.in_ok-of.ensures.readable in
    record {
      planned = subst (AllByRecursion IsPlanned) (sym {A = List Step} c.in_ok-push.ensures.items)
          (all_more IsPlanned c.loop-pipe.steps.items (c.in_ok-of.field-0 ∷ []) c.loop-pipe.invariant.planned
          (c.in_ok-of.ensures.planned, tt));
      left = rw (map_one_more stage_of c.loop-pipe.steps.items c.push.new.self.items c.in_ok-of.field-0
          c.in_ok-push.ensures.items) behind;
    }

pub returns-clause-same : goal.returns-clause-same
returns-clause-same c =
    let patterns = λ (pipe : Pipe). patterns_of_stage (stage pipe) in
    all_made stage patterns c.args.pipes.now 0 c.loop-pipe.pipe-index (map stage_of c.loop-pipe.steps.items)
    c.loop-pipe.nth c.loop-pipe.invariant.left c.loop-pipe-test.false

pub returns-clause-readable : goal.returns-clause-readable
returns-clause-readable c =
    let pipes = c.args.pipes.now in
    let patterns = λ (pipe : Pipe). patterns_of_stage (stage pipe) in
    readable_mapped patterns_of_stage stage pipes pipes refl
    (all_readable stage patterns pipes 0 c.loop-pipe.pipe-index (map stage_of c.loop-pipe.steps.items)
    c.loop-pipe.nth c.loop-pipe.invariant.left c.loop-pipe-test.false)
