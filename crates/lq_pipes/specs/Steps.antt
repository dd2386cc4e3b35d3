-- Pipes whose regular expressions are read.
use Rattle.std.specs.Prelude.{◌≡◌, Bool, true, false}
use Rattle.lq_ast.specs.PipeView.{grouping, stage}
use Rattle.lq_ast.specs.Stage.{Stage}
use Rattle.lq_ast.specs.Stage as is
use Rattle.lq_filter.specs.Inner.{inner_condition}
use Rattle.lq_pipes.specs.declared.step.Step.{Step}
use Rattle.lq_pipes.specs.declared.step.Step.TheVariants as step
use Rattle.lq_stats.specs.Plan.{IsPlanOf}

-- what it does
abbrev pub stage_of : Step → Stage
stage_of (step.Plain pipe) = stage pipe.now
stage_of (step.Stats pipe plan) = is.stats (grouping pipe.now)
stage_of (step.Keep asked) = is.keep (inner_condition asked)

-- The pipe has no regular expressions.
abbrev pub is_plain : Stage → Bool
is_plain (is.stats grouping) = false
is_plain (is.keep condition) = false
is_plain _ = true

-- A plain step is of a pipe without regular expressions. The plan of statistics is that of the pipe.
abbrev pub IsPlanned : Step → Type 0
IsPlanned (step.Plain pipe) = is_plain (stage pipe.now) ≡ true
IsPlanned (step.Stats pipe plan) = IsPlanOf plan (grouping pipe.now)
IsPlanned (step.Keep asked) = Unit {0}
