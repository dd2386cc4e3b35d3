use Rattle.std.proofs.Common.{◌++◌, ◌∷◌, ◌∙◌, [], ℕ, List, FitsSigned, ap, get_or, pos, rules, sym, w64}
use Rattle.std.proofs.lemmas.Int.{to_z-of_z}
use Rattle.std.proofs.lemmas.List.{map_more}
use Rattle.block_model.specs.declared.keys.Key.{Key}
use Rattle.block_body.proofs.body.body_of.Goals as goal

abbrev no_key : Key
no_key = record { time = pos 0; batch = 0; place = 0 }

pub loop-key-preserved : goal.loop-key-preserved
loop-key-preserved c =
    let key : Key = get_or c.args.keys.now c.loop-key.key-index no_key in
    let small : FitsSigned w64 (get_or c.args.keys.now c.loop-key.key-index no_key).time = search rules in
    let pushed = (simp (to_z-of_z w64 (get_or c.args.keys.now c.loop-key.key-index no_key).time small) at
    c.in_ok-push.ensures.items) in
    record {
      times = pushed ∙ ap (λ l. l ++ key.time ∷ []) c.loop-key.invariant.times
          ∙ sym (map_more (λ (k : Key). k.time) c.args.keys.now c.loop-key.key-index no_key c.loop-key-test.true);
      places = c.in_ok-push-2.ensures.items ∙ ap (λ (l : List ℕ). l ++ key.place ∷ []) c.loop-key.invariant.places
          ∙ sym (map_more (λ (k : Key). k.place) c.args.keys.now c.loop-key.key-index no_key c.loop-key-test.true);
    }
