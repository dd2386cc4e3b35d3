use Rattle.std.proofs.Common.{List, map, take}
use Rattle.log_model.specs.History.{Numbered}
use Rattle.part_picks.specs.Names.{AreNamed}
use Rattle.part_picks.proofs.NameLaws.{AreAmong}
use Rattle.part_picks.proofs.ends.put_names.Given as goal

abbrev pub invariant-loop-c : goal.invariant-loop-c
invariant-loop-c l = record {
  kept : (rows : List Numbered) → AreNamed (map (λ t. t.now) l.initial.names.keys) rows
      → AreNamed (map (λ t. t.now) l.names.keys) rows;
  among : AreAmong (take l.c (map (λ column. column.0) l.head.columns)) (map (λ t. t.now) l.names.keys);
}
