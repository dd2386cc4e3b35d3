use Rattle.std.proofs.Common.{◌≡◌, ◌≤◌, ◌*◌, length, map, take}
use Rattle.std.specs.Prelude.{sum_by}
use Rattle.block_model.specs.Columns.{values_of}
use Rattle.block_model.proofs.columns.column_values.Given as goal

abbrev pub invariant-loop-numbered : goal.invariant-loop-numbered
invariant-loop-numbered l = record {
  values : map (λ t. t.now) l.values.items ≡ values_of (take l.numbered-index l.rows) l.name;
  size : sum_by (λ t. length t.now) l.values.items ≤ 262_144 * l.numbered-index;
}
