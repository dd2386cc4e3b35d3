use Rattle.std.proofs.Common.{◌≡◌, map, take}
use Rattle.std.specs.BTreeSet.{insert_key}
use Rattle.std.specs.List.{fold}
use Rattle.log_model.specs.Field.{bytes_cmp}
use Rattle.block_model.specs.Columns.{names_of}
use Rattle.block_gather.proofs.names.put_names.Given as goal

abbrev pub invariant-loop-c : goal.invariant-loop-c
invariant-loop-c l =
    map (λ t. t.now) l.names.keys
    ≡ fold (insert_key bytes_cmp) (map (λ t. t.now) l.initial.names.keys) (take l.c (names_of l.pick.block))
