use Rattle.std.proofs.Common.{◌≡◌, ◌∙◌, List, ap, length, subst, sym}
use Rattle.std.specs.List.{All}
use Rattle.block_format.specs.Columns.{HasRows}
use Rattle.block_format.specs.Found.{Found}
use Rattle.block_model.specs.Columns.{Column, rows_from}
use Rattle.block_model.specs.declared.keys.Key.{Key}
use Rattle.log_model.specs.Field.{Field}
use Rattle.block_reading.specs.Seen.{AreGood}
use Rattle.block_reading.proofs.ByColumnsLaws.{said-by-columns}
use Rattle.block_reading.proofs.by_columns.block_of.Goals as goal

pub made_of-requires-clause-rows : goal.made_of-requires-clause-rows
made_of-requires-clause-rows c =
    let keys : c.as_slice.result.now ≡ c.args.parts.keys = c.as_slice.ensures.value
    ∙ ap (λ (f : Found). f.keys) c.parts.view_is in
    let columns : c.parts.inside.columns.items ≡ c.args.parts.columns = ap (λ (f : Found). f.columns) c.parts.view_is in
    subst (λ (l : List Column). All (HasRows (length c.as_slice.result.now)) l) (sym columns) (subst (λ (k : List Key).
    All (HasRows (length k)) c.args.parts.columns) (sym keys) c.requires.rows)

pub made_of-requires-clause-good : goal.made_of-requires-clause-good
made_of-requires-clause-good c =
    let keys : c.as_slice.result.now ≡ c.args.parts.keys = c.as_slice.ensures.value
    ∙ ap (λ (f : Found). f.keys) c.parts.view_is in
    let columns : c.parts.inside.columns.items ≡ c.args.parts.columns = ap (λ (f : Found). f.columns) c.parts.view_is in
    subst (AreGood c.args.seen.stream c.args.seen.weight c.as_slice.result.now) (sym columns) (subst (λ (k : List Key).
    AreGood c.args.seen.stream c.args.seen.weight k c.args.parts.columns) (sym keys) c.requires.seen.good)

pub returns : goal.returns
returns c =
    let found : Found = c.args.parts in
    let stream : List Field = c.args.seen.stream in
    let keys : c.as_slice.result.now ≡ c.args.parts.keys = c.as_slice.ensures.value
    ∙ ap (λ (f : Found). f.keys) c.parts.view_is in
    let columns : c.parts.inside.columns.items ≡ c.args.parts.columns = ap (λ (f : Found). f.columns) c.parts.view_is in
    c.in_ok-made.ensures
    ∙ ap (λ (l : List Column). rows_from stream l 0 c.as_slice.result.now) columns
    ∙ ap (λ (k : List Key). rows_from stream found.columns 0 k) keys
    ∙ said-by-columns c.args.parts c.args.seen.stream c.requires.seen.said c.requires.seen.labels
    c.requires.seen.good.named c.requires.seen.good.ordered.ordered
