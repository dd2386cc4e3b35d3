use Rattle.std.proofs.Common.{◌≡◌, ◌∙◌, ◌<◌, ◌^◌, ℕ, List, Bor, ap, arith, length, map, subst, sym}
use Rattle.std.specs.Prelude.{sum_by}
use Rattle.lent_row.specs.Cells.{value_text}
use Rattle.block_model.specs.Columns.{values_of}
use Rattle.block_gather.specs.Gathered.{column_weight}
use Rattle.block_gather.specs.Picked.{rows_picked}
use Rattle.block_gather.proofs.WeightLaws.{name-within, values-within}
use Rattle.block_gather.proofs.column.column_of.Goals as goal

pub column_of_texts-requires-clause-fields : goal.column_of_texts-requires-clause-fields
column_of_texts-requires-clause-fields c =
    let same : map (λ (t : Bor (List ℕ)). t.now) c.as_slice-4.result.now
    ≡ values_of (rows_picked c.args.picks.now) c.args.name.now =
    ap (λ (l : List (Bor (List ℕ))). map (λ (t : Bor (List ℕ)). t.now) l) c.as_slice-4.ensures.value
    ∙ c.in_ok-texts.ensures ∙ ap (λ l. map value_text l) c.as_slice-2.ensures.value ∙ c.in_ok-values.ensures in
    subst (λ (l : List (List ℕ)). column_weight (length c.args.name.now) l < 2 ^ 32) (sym same) (omega (
      arith,
      name-within (rows_picked c.args.picks.now) c.args.name.now c.requires.each,
      c.requires.few,
    ))

pub column_of_texts-requires-clause-values : goal.column_of_texts-requires-clause-values
column_of_texts-requires-clause-values c =
    let same : map (λ (t : Bor (List ℕ)). t.now) c.as_slice-4.result.now
    ≡ values_of (rows_picked c.args.picks.now) c.args.name.now =
    ap (λ (l : List (Bor (List ℕ))). map (λ (t : Bor (List ℕ)). t.now) l) c.as_slice-4.ensures.value
    ∙ c.in_ok-texts.ensures ∙ ap (λ l. map value_text l) c.as_slice-2.ensures.value ∙ c.in_ok-values.ensures in
    subst (λ (l : List (List ℕ)). sum_by length l < 2 ^ 32) (sym same) (omega (
      arith,
      values-within (rows_picked c.args.picks.now) c.args.name.now c.requires.each,
      c.requires.few,
    ))
