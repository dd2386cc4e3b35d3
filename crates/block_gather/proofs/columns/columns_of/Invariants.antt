use Rattle.std.proofs.Common.{◌≡◌, filter, map, take}
use Rattle.std.specs.Prelude.{sum_by}
use Rattle.block_body.specs.Outlines.{filter_named}
use Rattle.block_model.specs.Columns.{values_of}
use Rattle.block_gather.specs.Gathered.{is_used, name_weight, names_in}
use Rattle.block_gather.specs.Picked.{rows_picked}
use Rattle.block_gather.proofs.columns.columns_of.Given as goal

abbrev pub invariant-loop-c : goal.invariant-loop-c
invariant-loop-c l = record {
  heads : l.heads.items
      ≡ map (filter_named (rows_picked l.picks)) (filter (is_used (rows_picked l.picks)) (take l.c (names_in l.picks)));
  values : l.values.items
      ≡ map (values_of (rows_picked l.picks)) (filter (is_used (rows_picked l.picks)) (take l.c (names_in l.picks)));
  weight : l.weight ≡ sum_by (name_weight (rows_picked l.picks)) (take l.c (names_in l.picks));
}
