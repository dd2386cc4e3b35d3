use Rattle.std.proofs.Common.{◌≡◌, ◌+◌, ◌<◌, ◌≤◌, ◌++◌, ◌∷◌, [], IfOk, ap, sym, subst, ◌∙◌, arith}
use Rattle.turn_lock.specs.Entries.{places}
use Rattle.turn_lock.specs.Passes.{mine}
use Rattle.turn_lock.specs.Totals.{times}
use Rattle.log_desk.specs.Calls.{Inserted}
use Rattle.log_desk.proofs.SeenLaws.{mine_inserted, mine_looked}
use Rattle.log_desk_tests.proofs.Last.{times_last}
use Rattle.log_desk_tests.proofs.callers_tests.insert_by_two.Goals as goal

pub returns-clause-first : goal.returns-clause-first
returns-clause-first g c =
    let first = c.in-Ok.first in
    let inserted = c.insert.new.pass in
    let origin = c.split.new.pass in
    let grew : 0 < times first (mine inserted) =
    times_last (mine inserted) (mine c.args.pass.now) first
    (mine_inserted c.args.desk.now c.args.batches.0 first c.args.pass.now inserted c.requires c.in-Ok.ensures.inserted) in
    let same : mine origin ≡ mine inserted = ap (λ ns. places 1 ns origin.seen) c.split.ensures.stays.numbers
    ∙ ap (places 1 inserted.numbers) c.split.ensures.stays.seen.0 in
    let there : 0 < times first (mine origin) = subst (λ l. 0 < times first l) (sym same) grew in
    let kept = c.join.ensures.joins.mine.first first in
    omega arith

pub returns-clause-no_other : goal.returns-clause-no_other
returns-clause-no_other g c = λ k.
    let inserted = c.insert.new.pass in
    let origin = c.split.new.pass in
    let both = c.insert-second.new.pass in
    let old = mine c.args.pass.now ++ c.in-Ok.first ∷ [] in
    let first : mine origin ≡ old = ap (λ ns. places 1 ns origin.seen) c.split.ensures.stays.numbers
    ∙ ap (places 1 inserted.numbers) c.split.ensures.stays.seen.0
    ∙ mine_inserted c.args.desk.now c.args.batches.0 c.in-Ok.first c.args.pass.now inserted c.requires
    c.in-Ok.ensures.inserted in
    let grew : mine both ≡ mine c.look-look.new.pass ++ c.in-Ok-Ok.second ∷ [] =
    mine_inserted c.args.desk.now c.args.batches.1 c.in-Ok-Ok.second c.look-look.new.pass both c.look-look.ensures.pass
    (subst (λ r. IfOk r (λ n. Inserted c.args.batches.1 n c.look-look.new.pass both)) c.in-Ok-Ok.is-1
    c.insert-second.ensures.inserted) in
    let second : mine both ≡ c.in-Ok-Ok.second ∷ [] =
    grew ∙ ap (λ l. l ++ c.in-Ok-Ok.second ∷ []) (mine_looked c.args.desk.now c.in-Ok-split.other c.look-look.new.pass c.look-look.ensures.looked
    ∙ c.in-Ok-split.ensures.new.mine) in
    subst (λ l. times k (mine c.join.new.pass) ≤ times k old + times k l) second
    (subst (λ l. times k (mine c.join.new.pass) ≤ times k l + times k (mine both)) first
    (c.join.ensures.joins.mine.no_other k))

pub returns-clause-second : goal.returns-clause-second
returns-clause-second g c =
    let second = c.in-Ok-Ok.second in
    let before = c.look-look.new.pass in
    let both = c.insert-second.new.pass in
    let grew : mine both ≡ mine before ++ second ∷ [] =
    mine_inserted c.args.desk.now c.args.batches.1 second before both c.look-look.ensures.pass
    (subst (λ r. IfOk r (λ n. Inserted c.args.batches.1 n before both)) c.in-Ok-Ok.is-1
    c.insert-second.ensures.inserted) in
    let own : 0 < times second (mine both) = times_last (mine both) (mine before) second grew in
    let kept = c.join.ensures.joins.mine.second second in
    omega arith
