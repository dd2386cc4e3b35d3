use Rattle.std.proofs.Common.{◌≡◌, reverse, vec_len, false}
use Rattle.std.specs.List.{list_any}
use Rattle.log_model.specs.Field.{set_all}
use Rattle.vl_row.specs.Names.{is_unnamed}
use Rattle.ingest_row.proofs.merge.move_all.Given as goal

abbrev pub invariant-loop-field : goal.invariant-loop-field
invariant-loop-field l = record {
  target : set_all l.all (reverse l.left.items) ≡ set_all l.fn.all (reverse l.fn.left.items);
  named : list_any is_unnamed l.left.items ≡ false;
}

abbrev pub decreases-loop-field : goal.decreases-loop-field
decreases-loop-field l = vec_len l.left
