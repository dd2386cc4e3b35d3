use Rattle.std.proofs.Common.{◌∙◌, ℕ, List, ap}
use Rattle.vl_row.specs.Names.{is_among}
use Rattle.ingest_row.proofs.prepared.Prepared.of.Goals as goal

pub returns : goal.returns
returns c = record {
  labels = c.in_ok-labels.ensures;
  ignored = c.in_ok-ignored.ensures;
  places = c.in_ok-places.ensures;
  replaced = λ name. c.in_ok-replaced.ensures name
      ∙ ap (λ (list : List (List ℕ)). is_among list name) (c.as_slice.ensures.value ∙ c.in_ok-names.ensures);
  added = c.in_ok-added.ensures;
}
