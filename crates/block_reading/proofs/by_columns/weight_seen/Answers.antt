use Rattle.std.proofs.Common.{◌∙◌, ap, sym}
use Rattle.std.specs.List.{list_all}
use Rattle.block_reading.specs.ByColumns.{has_label}
use Rattle.block_reading.proofs.by_columns.weight_seen.Goals as goal

pub returns : goal.returns
returns c =
    let weight = (rw c.in-Some.is at c.in_ok-weight.ensures.weight) in
    let filled = (rw c.in-Some.is at c.in_ok-weight.ensures.filled) in
    let light = (rw c.in-Some.is at c.in_ok-weight.ensures.light) in
    record {
      few = c.requires.few;
      ordered = c.in_ok-are_block_keys.ensures c.if-not-branch.false;
      rising = c.requires.names.0;
      named = c.requires.names.1;
      filled = filled;
      light = light;
      listed = c.as_slice.ensures.rules;
      labelled = ap (list_all (has_label c.args.columns.now)) (sym c.as_slice.ensures.value)
          ∙ c.have_labels.ensures c.if-not-have_labels.false;
      sum = weight;
    }
