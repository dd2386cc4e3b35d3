use Rattle.std.proofs.Common.{◌∙◌, ◌++◌, ◌∷◌, ℕ, List, [], Bor, get_or, map, take, sym, ap}
use Rattle.std.proofs.lemmas.List.{map_more, map-append}
use Rattle.block_model.specs.Distinct.{code_of}
use Rattle.block_column.proofs.codes.codes_of.Goals as goal

pub loop-value-preserved : goal.loop-value-preserved
loop-value-preserved c =
    let none : Bor (List ℕ) = record { ref_ptr = (0, 0); now = [] } in
    let one = (get_or c.args.values.now c.loop-value.value-index none).now in
    let before = map (λ t. t.now) (take c.loop-value.value-index c.args.values.now) in
    record {
      codes = c.in_ok-push.ensures.items ∙ ap (λ (l : List ℕ). l ++ c.code_near.result ∷ []) c.loop-value.invariant.codes
          ∙ ap (λ (n : ℕ). map (code_of c.args.sorted.now) before ++ n ∷ []) c.code_near.ensures.code
          ∙ sym (map-append (code_of c.args.sorted.now) before (one ∷ []))
          ∙ ap (map (code_of c.args.sorted.now)) (sym (map_more (λ t. t.now) c.args.values.now c.loop-value.value-index
          none c.loop-value-test.true));
      slots = c.code_near.ensures.slots;
    }
