use Rattle.std.proofs.Common.{◌≡◌, ◌∙◌, List, ap, length, subst, sym}
use Rattle.std.specs.List.{All}
use Rattle.block_format.specs.Columns.{HasRows}
use Rattle.block_format.specs.Found.{Found}
use Rattle.block_model.specs.Columns.{Column}
use Rattle.block_model.specs.declared.keys.Key.{Key}
use Rattle.block_reading.specs.Seen.{AreGood}
use Rattle.block_reading.proofs.by_columns.seen_of.Goals as goal

pub weight_seen-requires-clause-rows : goal.weight_seen-requires-clause-rows
weight_seen-requires-clause-rows c =
    let keys : c.as_slice-keys.result.now ≡ c.args.parts.now.keys = c.as_slice-keys.ensures.value
    ∙ ap (λ (f : Found). f.keys) c.parts.view_is in
    let columns : c.as_slice-columns.result.now ≡ c.args.parts.now.columns = c.as_slice-columns.ensures.value
    ∙ ap (λ (f : Found). f.columns) c.parts.view_is in
    subst (λ (l : List Column). All (HasRows (length c.as_slice-keys.result.now)) l) (sym columns) (subst (λ (k : List Key).
    All (HasRows (length k)) c.args.parts.now.columns) (sym keys) c.requires)

pub returns : goal.returns
returns c =
    let keys : c.as_slice-keys.result.now ≡ c.args.parts.now.keys = c.as_slice-keys.ensures.value
    ∙ ap (λ (f : Found). f.keys) c.parts.view_is in
    let columns : c.as_slice-columns.result.now ≡ c.args.parts.now.columns = c.as_slice-columns.ensures.value
    ∙ ap (λ (f : Found). f.columns) c.parts.view_is in
    let said = (rw c.in-Some.is at c.in_ok-stream.ensures.said) in
    let labels = (rw c.in-Some.is at c.in_ok-stream.ensures.labels) in
    let good = (rw c.in-Some-2.is at c.in_ok-weight.ensures) in
    record {
      said = said;
      labels = labels;
      good = subst (AreGood c.in-Some.stream c.in-Some-2.weight c.args.parts.now.keys) columns (subst (λ (k : List Key).
          AreGood c.in-Some.stream c.in-Some-2.weight k c.as_slice-columns.result.now) keys good);
    }
