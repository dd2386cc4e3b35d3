-- What one turn does to a pass.
use Rattle.std.specs.Prelude.{◌≡◌, ℕ, ◌+◌, ◌<◌, ◌≤◌, List, ◌∷◌, ◌++◌, length, All, ◌⊎◌}
use Rattle.turn_lock.specs.declared.view.Entry.{Entry}
use Rattle.turn_lock.specs.Passes.{LeftTurn, PassState}
use Rattle.turn_lock.specs.Entries.{IsStranger}

-- What is seen begins with what was seen before. Each further entry is this one, or another caller's.
pub record GoesOn (own : Entry ℕ) (old new : PassState ℕ) : Type 0 where
  pub rest : List (Entry ℕ)
  pub begins : new.seen ≡ old.seen ++ rest
  pub added : All (λ e. (e ≡ own) ⊎ IsStranger old.lock.passes old.numbers e) rest

-- One turn more was left. The numbers, the draws and whether the pass may settle are as before.
pub record TakesOneTurn (old new : PassState ℕ) : Type 0 where
  pub turns : LeftTurn old new
  pub numbers : new.numbers ≡ old.numbers
  pub seen_drawn : new.seen_drawn ≡ old.seen_drawn
  pub draws : new.draws ≡ old.draws
  pub may_settle : new.may_settle ≡ old.may_settle

-- The mark is not lower, and that of a pass that may settle is as before.
pub record KeepsMark (old new : PassState ℕ) : Type 0 where
  pub rises : old.mark ≤ new.mark
  pub stays : 0 < old.may_settle → new.mark ≡ old.mark

-- The k-th of these entries, counted from 1, is the number x.
pub record StandsAt (x k : ℕ) (seen : List (Entry ℕ)) : Type 0 where
  pub before : List (Entry ℕ)
  pub entry : Entry ℕ
  pub after : List (Entry ℕ)
  pub is : seen ≡ before ++ entry ∷ after
  pub number : entry.what ≡ x
  pub place : k ≡ length before + 1
