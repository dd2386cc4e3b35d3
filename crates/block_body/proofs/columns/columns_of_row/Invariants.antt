use Rattle.std.proofs.Common.{◌≡◌, ◌≤◌, ◌*◌, ◌∷◌, [], length, map, take}
use Rattle.std.specs.Prelude.{sum_by}
use Rattle.block_model.specs.Columns.{values_of}
use Rattle.block_body.specs.Outlines.{filter_named}
use Rattle.block_body.proofs.columns.columns_of_row.Given as goal

abbrev pub invariant-loop-name : goal.invariant-loop-name
invariant-loop-name l = record {
  heads : l.heads.items ≡ map (filter_named (l.numbered ∷ [])) (take l.name-index l.names);
  values : map (λ t. t.now ∷ []) l.values.items ≡ map (values_of (l.numbered ∷ [])) (take l.name-index l.names);
  size : sum_by (λ t. length t.now) l.values.items ≤ 262_144 * l.name-index;
}
