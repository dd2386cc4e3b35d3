use Rattle.std.specs.Result.{OnOk}
use Rattle.std.proofs.Common.{Result, Ok, Err}
use Rattle.lq_tuple.proofs.Uniting.{held_united}
use Rattle.lq_tuple.specs.declared.texts.Texts.{Texts}
use Rattle.lq_tuple.proofs.texts.Texts.merge.Goals as goal

on_ok_both : {T E P Q R : Type 0} (r : Result T E) → (P → Q → R) → OnOk r P → OnOk r Q → OnOk r R
on_ok_both (Ok v) f p q = f p q
on_ok_both (Err e) f p q = tt

pub returns : goal.returns
returns c =
    let old = c.args.self.now in
    let new : Texts = record { short = c.unite.new.keys; long = c.unite-2.new.keys } in
    on_ok_both c.unite-2.result
    (λ union apart texts others h k.
    held_united old c.args.other new (record {
      short = c.in_ok-unite.ensures.union;
      long = union;
      short_apart = c.in_ok-unite.ensures.unique;
      long_apart = apart;
    }) texts others h k) c.unite-2.ensures.union c.unite-2.ensures.unique
