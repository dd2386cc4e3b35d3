-- A reply that tells of what is held is of a turn of its own, so one of an earlier turn is refused.
use Rattle.std.proofs.Common.{◌≡◌, ◌+◌, List, [], ◌∷◌, ◌++◌, length, length-append, ap, subst, ◌∙◌, arith}
use Rattle.log_desk.specs.Seen.{Seen, TakesTurn, turn_of}
use Rattle.log_desk.specs.TurnEnd.{TurnEnd}
use Rattle.vl_session.specs.Laws.{AreEnds, EndOf}
use Rattle.vl_session.specs.Seen.{looks}
use Rattle.vl_session.specs.Turns.{Turn}

-- The next turn of the caller's is the one in which it saw what the reply tells of.
pub own_turn : (turn : Turn) (turns : List Turn) (ends : List TurnEnd) → turn.effect ≡ looks
    → AreEnds (turn ∷ turns) ends → (later : List TurnEnd) × (ends ≡ turn_of turn.seen ∷ later)
own_turn turn turns ends is (own, later, both, end, rest) =
    let one : own ≡ turn_of turn.seen ∷ [] = subst (λ effect. EndOf effect turn.seen own) is end in
    (later, both ∙ ap (λ (first : List TurnEnd). first ++ later) one)

-- A look takes one turn: two turns are not one.
pub one_turn : (old between new : Seen) → TakesTurn old between → TakesTurn between new → TakesTurn old new → ⊥
one_turn old between new first second both =
    let a : length between.turns ≡ length old.turns + 1 =
    ap length first ∙ length-append old.turns (turn_of between ∷ []) in
    let b : length new.turns ≡ length between.turns + 1 =
    ap length second ∙ length-append between.turns (turn_of new ∷ []) in
    let c : length new.turns ≡ length old.turns + 1 = ap length both ∙ length-append old.turns (turn_of new ∷ []) in
    absurd (omega (arith, a, b, c))
