use Rattle.std.proofs.Common.{◌≡◌, ◌<◌, ◌^◌, length, map}
use Rattle.std.specs.List.{AllByRecursion}
use Rattle.lq_ast.specs.Pipes.{all_piped}
use Rattle.lq_pipes.specs.Steps.{IsPlanned, stage_of}
use Rattle.lq_pipes.proofs.pipes.run_all.Given as goal

abbrev pub invariant-loop-left : goal.invariant-loop-left
invariant-loop-left l = record {
  same : all_piped (map stage_of l.left) l.records ≡ all_piped (map stage_of l.initial.left) l.initial.records;
  planned : AllByRecursion IsPlanned l.left;
  few : length l.records < 2 ^ 32;
}

abbrev pub decreases-loop-left : goal.decreases-loop-left
decreases-loop-left l = length l.left
