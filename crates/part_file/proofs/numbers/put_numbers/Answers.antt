use Rattle.std.proofs.Common.{◌≡◌, ◌∙◌, ◌++◌, ◌∷◌, [], ℕ, List, Some, ap, map, subst, sym, take}
use Rattle.std.specs.Prelude.{slice_get}
use Rattle.std.proofs.lemmas.List.{append_assoc}
use Rattle.log_model.specs.History.{Numbered}
use Rattle.block_format.specs.Rows.{key_in, number_of}
use Rattle.part_file.proofs.FollowedLaws.{number-more}
use Rattle.part_file.proofs.numbers.put_numbers.Goals as goal

pub loop-i-preserved : goal.loop-i-preserved
loop-i-preserved c =
    let key = c.key-batch.result in
    let there : slice_get (map key_in c.args.block.now) c.loop-i.i ≡ Some key = subst (λ (rows : List Numbered).
    slice_get (map key_in rows) c.loop-i.i ≡ Some key) c.open-opened.ensures.rows c.key-batch.ensures in
    c.in_ok-push.ensures.items
    ∙ ap (λ (l : List (ℕ × ℕ)). l ++ (key.1, key.2) ∷ []) c.loop-i.invariant
    ∙ append_assoc c.args.numbers.now.items (map number_of (take c.loop-i.i c.args.block.now)) ((key.1, key.2) ∷ [])
    ∙ ap (λ (l : List (ℕ × ℕ)). c.args.numbers.now.items ++ l) (sym (number-more c.args.block.now c.loop-i.i key there))
