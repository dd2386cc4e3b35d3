use Rattle.std.proofs.Common.{ℕ, ◌≡◌, ◌++◌, ◌∷◌, [], List, length, subst, arith, IfOk}
use Rattle.turn_lock.specs.declared.view.Entry.{Entry}
use Rattle.turn_lock.specs.Entries.{made, maker_of}
use Rattle.turn_lock.specs.Passes.{mine}
use Rattle.turn_lock_tests.proofs.TurnLemmas.{stands_on, times_last}
use Rattle.turn_lock_tests.proofs.callers.both_insert.Goals as goal

pub returns-in-Ok-Ok-clause-first : goal.returns-in-Ok-Ok-clause-first
returns-in-Ok-Ok-clause-first g c =
    let old = c.split.new.pass in
    let new = c.insert-first.new.pass in
    let i = c.insert-first.ensures in
    let n : ℕ = maker_of old.numbers in
    let grew = subst (λ r. IfOk r (λ place. mine new ≡ mine old ++ place ∷ [])) c.in-Ok-Ok.is-0 i.mine in
    let last =
    subst (λ r. IfOk r (λ place. (length new.seen ≡ place)
    × ((before : List (Entry ℕ)) × (new.seen ≡ before ++ made n 10 ∷ []))))
    c.in-Ok-Ok.is-0 i.last in
    let own = times_last (mine new) (mine old) c.in-Ok-Ok.first grew in
    let kept = c.join.ensures.joins.mine.first c.in-Ok-Ok.first in (
      stands_on 10 c.in-Ok-Ok.first c.args.lock.now.passes n new.numbers last.1.0 new.seen c.join.new.pass.seen last.0
          last.1.1 c.join.ensures.joins.knows_first,
      omega arith,
    )
