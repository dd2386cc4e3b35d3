use Rattle.std.proofs.Common.{rules, ◌≡◌, length, arith, vec_len, sym, ap, subst, ◌∙◌}
use Rattle.turn_lock.specs.Entries.{whats}
use Rattle.turn_lock.specs.Passes.{after_turn}
use Rattle.turn_lock.proofs.Laws.{length-whats, whats-committed, mine-left}
use Rattle.turn_lock_tests.specs.Log.{newest, stands}
use Rattle.turn_lock_tests.specs.Refusal.{Refuses}
use Rattle.turn_lock_tests.proofs.Last.{last_added}
use Rattle.turn_lock_tests.proofs.TurnLemmas.{inserted, goes_on-found}
use Rattle.turn_lock_tests.proofs.turns.insert.Goals as goal

pub commit-requires : goal.commit-requires
commit-requires g c =
    let e = c.enter-turn.ensures in
    let l =
    last_added c.push.new.self.items.items c.value.result.now.items.items
    (whats c.enter-turn.result.pass.now.seen) c.args.number c.in-Ok.ensures.ok.0
    (ap (λ s. s.items.items) c.value.ensures.value ∙ e.value.0) in
    record { turn = search rules; fresh = search rules; value = l.0 }

pub leave-requires-clause-value : goal.leave-requires-clause-value
leave-requires-clause-value g c =
    let e = c.enter-turn.ensures in
    let l =
    last_added c.push.new.self.items.items c.value.result.now.items.items
    (whats c.enter-turn.result.pass.now.seen) c.args.number c.in-Ok.ensures.ok.0
    (ap (λ s. s.items.items) c.value.ensures.value ∙ e.value.0) in
    ap (λ s. s.items.items) (c.value-in-Ok.ensures.value ∙ c.commit.ensures.same.2) ∙ l.0 ∙ sym
    (whats-committed (newest c.push.new.self) c.enter-turn.result.pass.now) ∙ sym
    (ap (λ q. whats q.seen) c.commit.ensures.pass)

pub returns-in-Ok-clause-adds : goal.returns-in-Ok-clause-adds
returns-in-Ok-clause-adds g c =
    let e = c.enter-turn.ensures in
    let l =
    last_added c.push.new.self.items.items c.value.result.now.items.items
    (whats c.enter-turn.result.pass.now.seen) c.args.number c.in-Ok.ensures.ok.0
    (ap (λ s. s.items.items) c.value.ensures.value ∙ e.value.0) in
    let same = ap (λ s. s.items.items) (c.value-in-Ok.ensures.value ∙ c.commit.ensures.same.2) in
    let whole : stands c.value-in-Ok.result.now c.push.new.self.items.items = same in
    let count = c.count-place.ensures c.push.new.self.items.items whole in
    let i =
    inserted c.args.lock.now c.args.number c.count-place.result c.push.new.self.items.items c.args.pass.now
    c.enter-turn.result.pass.now c.pass-1.given.0 c.requires e.finds (search rules) l count in
    i.adds

pub returns-in-Ok-clause-last : goal.returns-in-Ok-clause-last
returns-in-Ok-clause-last g c =
    let e = c.enter-turn.ensures in
    let l =
    last_added c.push.new.self.items.items c.value.result.now.items.items
    (whats c.enter-turn.result.pass.now.seen) c.args.number c.in-Ok.ensures.ok.0
    (ap (λ s. s.items.items) c.value.ensures.value ∙ e.value.0) in
    let same = ap (λ s. s.items.items) (c.value-in-Ok.ensures.value ∙ c.commit.ensures.same.2) in
    let whole : stands c.value-in-Ok.result.now c.push.new.self.items.items = same in
    let count = c.count-place.ensures c.push.new.self.items.items whole in
    let i =
    inserted c.args.lock.now c.args.number c.count-place.result c.push.new.self.items.items c.args.pass.now
    c.enter-turn.result.pass.now c.pass-1.given.0 c.requires e.finds (search rules) l count in
    (i.counted, (c.enter-turn.result.pass.now.seen, i.last))

pub returns-in-Ok-clause-mine : goal.returns-in-Ok-clause-mine
returns-in-Ok-clause-mine g c =
    let e = c.enter-turn.ensures in
    let l =
    last_added c.push.new.self.items.items c.value.result.now.items.items
    (whats c.enter-turn.result.pass.now.seen) c.args.number c.in-Ok.ensures.ok.0
    (ap (λ s. s.items.items) c.value.ensures.value ∙ e.value.0) in
    let same = ap (λ s. s.items.items) (c.value-in-Ok.ensures.value ∙ c.commit.ensures.same.2) in
    let whole : stands c.value-in-Ok.result.now c.push.new.self.items.items = same in
    let count = c.count-place.ensures c.push.new.self.items.items whole in
    let i =
    inserted c.args.lock.now c.args.number c.count-place.result c.push.new.self.items.items c.args.pass.now
    c.enter-turn.result.pass.now c.pass-1.given.0 c.requires e.finds (search rules) l count in
    i.mine_grew

pub returns-in-Err-clause-adds : goal.returns-in-Err-clause-adds
returns-in-Err-clause-adds g c =
    goes_on-found _ c.args.pass.now c.enter-turn.result.pass.now c.pass-in-Err-1.given.0 c.enter-turn.ensures.finds
    (search rules)

pub returns-in-Err-clause-refused : goal.returns-in-Err-clause-refused
returns-in-Err-clause-refused g c =
    let e = c.enter-turn.ensures in
    let left : c.pass-in-Err-1.given.0 ≡ after_turn c.enter-turn.result.pass.now = search rules in
    let items : length c.value.result.now.items.items ≡ length c.pass-in-Err-1.given.0.seen =
    ap (λ s. length s.items.items) c.value.ensures.value ∙ ap length e.value.0 ∙ length-whats
    c.enter-turn.result.pass.now.seen ∙ sym (ap (λ p. length p.seen) left) in
    let count : vec_len c.value.result.now.items ≡ length c.pass-in-Err-1.given.0.seen = omega arith in
    let mark : c.value.result.now.settled ≡ c.pass-in-Err-1.given.0.mark = ap (λ s. s.settled) c.value.ensures.value ∙
    e.value.1 ∙ sym (ap (λ p. p.mark) left) in (
      subst (λ n. Refuses c.in-Err.fault n c.pass-in-Err-1.given.0.mark) count
          (subst (λ m. Refuses c.in-Err.fault (vec_len c.value.result.now.items) m) mark c.in-Err.ensures.err.1),
      mine-left c.args.pass.now c.enter-turn.result.pass.now c.pass-in-Err-1.given.0 e.finds left,
    )
