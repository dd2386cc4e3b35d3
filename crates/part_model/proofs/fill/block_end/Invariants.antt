use Rattle.std.proofs.Common.{◌≡◌, ◌≤◌, map, take}
use Rattle.block_model.specs.Columns.{names_of, put_names}
use Rattle.part_model.proofs.EndLaws.{AreOne}
use Rattle.part_model.proofs.fill.block_end.Given as goal

abbrev pub invariant-loop-i : goal.invariant-loop-i
invariant-loop-i l = record {
  few : l.i ≤ 4096;
  names : map (λ t. t.now) l.names.keys ≡ names_of (take l.i l.rows);
  last : put_names (map (λ t. t.now) l.names.keys) l.last ≡ map (λ t. t.now) l.names.keys;
  one : AreOne l.rows l.i;
}
