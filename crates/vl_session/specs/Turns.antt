-- The turns of a session: its requests, one after another, and what became of each.
use Rattle.std.specs.Prelude.{◌≡◌, ℕ, suc, ◌+◌, ◌==◌, Bool, ◌||◌, List, [], ◌∷◌, ◌++◌, length, map, flat_map, pos}
use Rattle.std.specs.Prelude.{Option, None, Some}
use Rattle.log_model.specs.Row.{Batch}
use Rattle.http_in.specs.Message.{Asked}
use Rattle.vl_session.specs.Reply.{IsServed}
use Rattle.log_desk.specs.Seen.{Caller, Seen}
use Rattle.vl_session.specs.Seen.{Effect, added, desk_turns}
use Rattle.vl_session.specs.declared.report.Done.{Done}

-- the most requests of one connection
abbrev pub turn_limit : ℕ
turn_limit = 1000

pub record Turn : Type 0 where
  pub asked : Asked
  -- the moment at which it was whole
  pub now : ℕ
  pub effect : Effect
  -- what had been seen once it was served
  pub seen : Seen
  pub reply : List ℕ

-- The connection ends after the reply to a request before which this many were served.
abbrev pub closes_after : ℕ → Asked → Bool
closes_after before asked = asked.last || (before + 1 == turn_limit)

-- This turn came after this many others.
abbrev pub IsTurn : Caller → ℕ → Seen → Turn → Type 0
IsTurn caller before old turn =
    IsServed caller turn.asked (closes_after before turn.asked) turn.now old turn.seen turn.effect turn.reply

-- These turns came one after another, where this many came before. What had been seen was `old`, and is `new` then.
abbrev pub AreTurns : Caller → ℕ → Seen → List Turn → Seen → Type 0
AreTurns caller before old [] new = new ≡ old
AreTurns caller before old (turn ∷ turns) new =
    IsTurn caller before old turn × AreTurns caller (suc before) turn.seen turns new

abbrev pub asked_in : List Turn → List Asked
asked_in turns = map (λ turn. turn.asked) turns

-- the batches of the inserts that were accepted
abbrev pub accepted_in : List Turn → List Batch
accepted_in turns = flat_map (λ turn. added turn.effect) turns

-- how many turns at the desk they took at least
abbrev pub desk_turns_of : List Turn → ℕ
desk_turns_of [] = 0
desk_turns_of (turn ∷ turns) = desk_turns turn.effect + desk_turns_of turns

abbrev pub moments_of : List Turn → List ℕ
moments_of turns = map (λ turn. turn.now) turns

abbrev pub replies_of : List Turn → List ℕ
replies_of turns = flat_map (λ turn. turn.reply) turns

-- what the report says of a turn
pub record IsDone (turn : Turn) (done : Done) : Type 0 where
  pub now : done.now ≡ pos turn.now
  pub front : done.front ≡ length turn.seen.history
  pub settled : done.settled ≡ turn.seen.settled

-- The clock gave these moments, one after another, where it tells.
abbrev pub GaveMoments : Option (List ℕ) → Option (List ℕ) → List ℕ → Type 0
GaveMoments old None moments = Unit {0}
GaveMoments None (Some new) moments = ⊥
GaveMoments (Some old) (Some new) moments = new ≡ old ++ moments
