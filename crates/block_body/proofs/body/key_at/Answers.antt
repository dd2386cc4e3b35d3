use Rattle.std.proofs.Common.{ℤ, FitsSigned, ap, get_or, pos, rules, w64}
use Rattle.std.proofs.lemmas.Int.{to_z-of_z}
use Rattle.block_model.specs.declared.keys.Key.{Key}
use Rattle.block_body.proofs.body.key_at.Goals as goal

pub returns : goal.returns
returns c =
    let small : FitsSigned w64 (get_or c.args.times.now c.args.i (pos 0)) = search rules in
    ap (λ (t : ℤ). let key : Key = record {
      time = t;
      batch = c.args.batch;
      place = get_or c.args.places.now c.args.i 0;
    } in key) (to_z-of_z w64 (get_or c.args.times.now c.args.i (pos 0)) small)
