-- The workers of doors.
use Rattle.std.specs.Prelude.{◌≡◌, ℕ, Bool, ⊤, List, map, count_by, MatchOption, is_some}
use Rattle.std.specs.List.{AllZip}
use Rattle.log_desk.specs.Passes.{IsPassOf, LockId}
use Rattle.vl_serve.specs.Doors.{DoorChange, IsServed}
use Rattle.vl_serve.specs.declared.worker.Worker.{Worker}

module _ {D : Type 0} where
  -- the worker has a pass of this desk, or none
  abbrev pub IsOfDesk : LockId → Worker D → Type 0
  IsOfDesk lock worker = MatchOption worker.pass ⊤ (λ pass. IsPassOf lock pass)

  -- A worker with a pass has served its door. One without has done nothing.
  pub record HasWorked (change : D → D → DoorChange) (old new : Worker D) : Type 0 where
    pub same_pass : is_some new.pass ≡ is_some old.pass
    pub served : MatchOption old.pass ((new.door ≡ old.door) × (new.is_fault ≡ old.is_fault))
        (λ _. IsServed (change old.door new.door) new.is_fault)

  -- So its door ends, and at a fault or not. The door of one without a pass was served then.
  abbrev pub EndsAs : (D → D → DoorChange) → Worker D → D × Bool → Type 0
  EndsAs change worker (door, is_fault) =
      MatchOption worker.pass (IsServed (change worker.door door) is_fault)
      (λ _. (door ≡ worker.door) × (is_fault ≡ worker.is_fault))

  -- These doors are those of the workers at the end, and this many of them ended at a fault.
  pub record HaveEnded (change : D → D → DoorChange) (workers : List (Worker D)) (doors : List D) (door_faults : ℕ)
      : Type 0 where
    pub ends : List (D × Bool)
    pub each : AllZip (EndsAs change) workers ends
    pub doors_are : doors ≡ map (λ end. end.0) ends
    pub counted : door_faults ≡ count_by (λ end. end.1) ends
