use Rattle.std.proofs.Common.{◌≡◌, ◌++◌, drop, map, take}
use Rattle.std.specs.List.{AllByRecursion}
use Rattle.lq_ast.specs.MakingView.{making}
use Rattle.lq_pipes.proofs.MadeOnes.{IsMade, made_of}
use Rattle.lq_pipes.proofs.making.make_all.Given as goal

abbrev pub invariant-loop-record : goal.invariant-loop-record
invariant-loop-record l = record {
  written : l.record-items
      ≡ map (made_of (making l.pipe)) (take l.record-index l.initial.record-items)
      ++ drop l.record-index l.initial.record-items;
  each : AllByRecursion (IsMade (making l.pipe)) (take l.record-index l.initial.record-items);
}
