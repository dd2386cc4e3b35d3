use Rattle.std.proofs.Common.{◌++◌, ◌∷◌, ◌∙◌, [], List, FitsSigned, ap, rules, sym, get_or, pos}
use Rattle.std.specs.Int.{w64}
use Rattle.std.proofs.lemmas.Int.{to_z-of_z}
use Rattle.block_model.specs.declared.keys.Key.{Key}
use Rattle.block_format.proofs.KeyLaws.{zipped-more}
use Rattle.block_format.proofs.keys.zipped.Goals as goal

pub loop-i-preserved : goal.loop-i-preserved
loop-i-preserved c =
    let small : FitsSigned w64 (get_or c.args.times.now c.loop-i.i (pos 0)) = search rules in
    let items = (simp (to_z-of_z w64 (get_or c.args.times.now c.loop-i.i (pos 0)) small) at c.in_ok-push.ensures.items) in
    let key : Key = record {
      time = get_or c.args.times.now c.loop-i.i (pos 0);
      batch = get_or c.args.batches.now c.loop-i.i 0;
      place = get_or c.args.places.now c.loop-i.i 0;
    } in
    items ∙ ap (λ (l : List Key). l ++ key ∷ []) c.loop-i.invariant
    ∙ sym (zipped-more c.args.times.now c.args.batches.now c.args.places.now c.loop-i.i c.requires.batches
    c.requires.places c.loop-i-test.true)
