use Rattle.std.proofs.Common.{flat_map, map, refl, subst}
use Rattle.lq_ast.specs.Patterns.{patterns_of, patterns_of_stage}
use Rattle.lq_ast.specs.PipeView.{stage}
use Rattle.lq_ast.specs.View.{condition}
use Rattle.lq_filter.specs.Refusal.{IsRefusal}
use Rattle.lq_filter.proofs.Refusals.{handed_on, refusal_behind}
use Rattle.lq_filter.proofs.prepared.prepare.Goals as goal

pub returns-in_err-read_pipes-clause-refused : goal.returns-in_err-read_pipes-clause-refused
returns-in_err-read_pipes-clause-refused c =
    let query = c.args.q.now in
    let patterns = flat_map patterns_of_stage (map stage query.pipes) in
    let fault = c.in_err-read_pipes.field-0.0 in
    let refused = subst (λ pipes. IsRefusal c.new.new.nth (flat_map patterns_of_stage (map stage pipes)) fault)
    c.as_slice.ensures c.in_err-read_pipes.ensures.refused in
    let behind = subst (λ first. IsRefusal first patterns fault) (c.in_ok-filter.ensures.counted refl) refused in
    handed_on c.from_residual-in_err-read_pipes.result _ _ c.from_residual-in_err-read_pipes.ensures.1
    (refusal_behind 0 (patterns_of (condition query.filter)) patterns fault c.in_ok-filter.ensures.readable behind)
