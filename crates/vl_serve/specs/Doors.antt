-- What is done with doors, and what is seen of the history meanwhile.
use Rattle.std.specs.Prelude.{◌≡◌, ◌⊎◌, ℕ, ◌+◌, ◌-◌, ◌^◌, ◌≤◌, ◌==◌, nat_le, min, not, Bool, true, false}
use Rattle.std.specs.Prelude.{List, ◌++◌, map, zip, count_by, Option, None, Some}
use Rattle.std.specs.List.{AllByRecursion, AllZip}
use Rattle.vl_io.specs.Faults.{Rose}
use Rattle.vl_io.specs.Visits.{HasNoVisit}
use Rattle.log_model.specs.History.{History}
use Rattle.log_desk.specs.Seen.{Seen}

-- What became of a door: how many visits are left then, where it tells it, and how often it had failed before and then.
pub record DoorChange : Type 0 where
  pub left : Option ℕ
  pub faults_before : ℕ
  pub faults_after : ℕ

module _ {D : Type 0} (left : D → Option ℕ) (faults : D → ℕ) where
  abbrev pub door_change : D → D → DoorChange
  door_change old new = record { left = left new; faults_before = faults old; faults_after = faults new }

  -- what became of each, in order
  abbrev pub door_changes : List D → List D → List DoorChange
  door_changes olds news = map (λ pair. door_change pair.0 pair.1) (zip olds news)

-- the door failed
abbrev pub IsFailed : DoorChange → Type 0
IsFailed change = Rose change.faults_before change.faults_after

-- No more of it is served: it failed, or no visit is left.
abbrev pub IsOver : DoorChange → Type 0
IsOver change = IsFailed change ⊎ HasNoVisit change.left

-- Its visits were served to the end, and that was a fault or not.
abbrev pub IsServed : DoorChange → Bool → Type 0
IsServed change true = IsFailed change
IsServed change false = HasNoVisit change.left

abbrev pub is_failed : DoorChange → Bool
is_failed change = nat_le (min (change.faults_before + 1) (2 ^ 64 - 1)) change.faults_after

abbrev pub are_left : Option ℕ → Bool
are_left None = false
are_left (Some count) = not (count == 0)

-- the door tells that visits are left
abbrev pub has_visits : DoorChange → Bool
has_visits change = are_left change.left

-- Each door was served to its end, and this many of them ended at a fault.
pub record AreServed (changes : List DoorChange) (door_faults : ℕ) : Type 0 where
  pub ends : List Bool
  pub each : AllZip IsServed changes ends
  pub counted : door_faults ≡ count_by (λ is_fault. is_fault) ends

-- What serving comes to: each door failed, or, where it tells, has no visit left. Doors that failed are counted, and
-- all are that have visits left.
pub record EndDoors (changes : List DoorChange) (door_faults : ℕ) : Type 0 where
  pub served : AreServed changes door_faults
  pub over : AllByRecursion IsOver changes
  pub most : door_faults ≤ count_by is_failed changes
  pub least : count_by has_visits changes ≤ door_faults

-- What is seen begins with what had been seen.
abbrev pub GoesOn : Seen → Seen → Type 0
GoesOn old new = (later : History) × (new.history ≡ old.history ++ later)
