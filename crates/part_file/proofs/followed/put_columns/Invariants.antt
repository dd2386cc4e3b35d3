use Rattle.std.proofs.Common.{◌≡◌, map, take}
use Rattle.std.specs.BTreeSet.{insert_key}
use Rattle.std.specs.List.{fold}
use Rattle.log_model.specs.Field.{bytes_cmp}
use Rattle.part_file.proofs.followed.put_columns.Given as goal

abbrev pub invariant-loop-c : goal.invariant-loop-c
invariant-loop-c l =
    map (λ t. t.now) l.names.keys
    ≡ fold (insert_key bytes_cmp) (map (λ t. t.now) l.initial.names.keys) (take l.c (map (λ column. column.0) l.head.columns))
