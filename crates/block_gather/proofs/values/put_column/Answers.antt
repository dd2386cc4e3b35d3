use Rattle.std.proofs.Common.{◌++◌, ◌∙◌, ◌∷◌, ℕ, List, [], ap, append_assoc, arith, get_or, map, sym}
use Rattle.std.specs.List.{slice_range}
use Rattle.std.proofs.lemmas.List.{map-append}
use Rattle.lent_row.specs.Cells.{value_text}
use Rattle.log_model.specs.Field.{field_value}
use Rattle.log_model.specs.History.{Numbered}
use Rattle.block_model.specs.Columns.{names_of, values_of}
use Rattle.block_gather.proofs.SliceLaws.{slice-more}
use Rattle.block_gather.proofs.values.put_column.Goals as goal

pub loop-i-preserved : goal.loop-i-preserved
loop-i-preserved c =
    let block : List Numbered = c.args.pick.now.block in
    let name : List ℕ = get_or (names_of c.args.pick.now.block) c.args.c [] in
    let text : List ℕ = value_text c.value.result in
    let before : List (List ℕ) = values_of (slice_range block c.args.pick.now.from c.loop-i.i) name in
    let out : List (List ℕ) = map value_text c.args.out.now.items in
    record {
      values = ap (map value_text) c.in_ok-push.ensures.items
          ∙ map-append value_text c.loop-i.out.items (c.value.result ∷ [])
          ∙ ap (λ (l : List (List ℕ)). l ++ text ∷ []) c.loop-i.invariant.values
          ∙ append_assoc out before (text ∷ [])
          ∙ ap (λ (l : List (List ℕ)). out ++ l) (sym (slice-more (λ (n : Numbered). field_value n.row.fields name) block
          c.args.pick.now.from c.loop-i.i text c.loop-i.invariant.start c.value.ensures));
      start = omega (arith, c.loop-i.invariant.start);
    }
