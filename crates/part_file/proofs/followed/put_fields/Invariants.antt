use Rattle.std.proofs.Common.{◌≡◌, map, take}
use Rattle.block_model.specs.Columns.{put_names}
use Rattle.part_file.proofs.followed.put_fields.Given as goal

abbrev pub invariant-loop-field : goal.invariant-loop-field
invariant-loop-field l =
    map (λ t. t.now) l.names.keys ≡ put_names (map (λ t. t.now) l.initial.names.keys) (take l.field-index l.fields)
