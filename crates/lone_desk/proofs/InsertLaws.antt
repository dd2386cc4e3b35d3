-- The result of lines with a single caller.
use Rattle.std.proofs.Common.{◌≡◌, ℕ, List, Result, Ok, Err, ap, sym, subst, length, arith}
use Rattle.std.specs.Prelude.{IfErr}
use Rattle.ingest_row.specs.Ingest.{Options}
use Rattle.log_desk.specs.Seen.{Caller, Follows, Seen}
use Rattle.vl_session.specs.Insertion.{RefusesLines}
use Rattle.vl_session.specs.Seen.{HasRoom}
use Rattle.vl_session.specs.declared.insert.Insertion.{Insertion}
use Rattle.vl_session.specs.declared.insert.InsertionFault.{InsertionFault}
use Rattle.vl_session.specs.declared.insert.InsertionFault.TheVariants.{Large, Full, Spent, Memory}
use Rattle.lone_desk.specs.Alone.{IsAlone}
use Rattle.lone_desk.proofs.Laws.{same_history, same_settled}

module _ (caller : Caller) (alone : IsAlone caller) (old new : Seen) where
  room_behind : Follows caller old new → HasRoom old → HasRoom new
  room_behind follows room =
      let same = same_history caller alone old new follows in
      let settled = same_settled caller alone old new follows in
      (omega (arith, room.0, ap length same, settled), omega (arith, room.1, ap length same))

  -- Where lines are refused there is as much room as before.
  room_stays : (options : Options) (now : ℕ) (body : List ℕ) (fault : InsertionFault)
      → RefusesLines caller options now body old new fault → HasRoom old → HasRoom new
  room_stays options now body (Large weight) why room = subst HasRoom (sym why.0) room
  room_stays options now body (Full held) why room = room_behind why.1.0.0 room
  room_stays options now body Spent why room = room_behind why.0.0 room
  room_stays options now body Memory why room = room_behind why room

  pub only_memory : (options : Options) (now : ℕ) (body : List ℕ) (result : Result Insertion InsertionFault)
      → IfErr result (RefusesLines caller options now body old new)
      → (HasRoom new → IfErr result (λ fault. fault ≡ Memory)) → HasRoom old → IfErr result (λ fault. fault ≡ Memory)
  only_memory options now body (Ok insertion) why complete room = tt
  only_memory options now body (Err fault) why complete room =
      complete (room_stays options now body fault why room)
