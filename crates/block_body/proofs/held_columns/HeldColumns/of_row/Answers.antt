use Rattle.std.proofs.Common.{◌∙◌, ◌∷◌, [], ℕ, List, ap, map}
use Rattle.block_body.proofs.ColumnLaws.{each-alone}
use Rattle.block_body.proofs.held_columns.HeldColumns.of_row.Goals as goal

pub returns : goal.returns
returns c =
    ap (map (λ (value : List ℕ). value ∷ [])) c.in_ok-texts.ensures ∙ each-alone c.args.values.now
