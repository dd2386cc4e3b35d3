-- Lines that were inserted, or not, by what has been seen then.
use Rattle.std.proofs.Common.{◌≡◌, ◌≢◌, ℕ, pos, List, [], ◌∷◌, length, Option, Some, None, refl, sym, ap, subst, ◌∙◌, arith}
use Rattle.log_model.specs.Row.{Batch, Row}
use Rattle.ingest_row.specs.Ingest.{Options}
use Rattle.ingest_row.specs.Intake.{IsIntake, Outcome, rows_read}
use Rattle.log_desk.specs.Seen.{Caller, Gains, Seen}
use Rattle.log_desk.specs.declared.fault.InsertFault.{InsertFault}
use Rattle.log_desk.specs.declared.fault.InsertFault.TheVariants as desk
use Rattle.vl_session.specs.Incoming.{Commits, HoldsRows, InsertsBatch, IsIncoming, IsUncommitted, IsNoBatch, fault_of}
use Rattle.vl_session.specs.Insert.{CanBeBatch, HasInsertOutcome, insert_effect}
use Rattle.vl_session.specs.Insertion.{IsInsertion, IsOfLines, RefusesLines, accepted, batch_number}
use Rattle.vl_session.specs.Seen.{Has, HasLastNumber, HasRoom, IsFull, IsRefused}
use Rattle.vl_session.specs.declared.insert.Incoming.{Incoming}
use Rattle.vl_session.specs.declared.insert.Insertion.{Insertion}
use Rattle.vl_session.specs.declared.insert.InsertionFault.{InsertionFault}
use Rattle.vl_session.specs.declared.insert.InsertionFault.TheVariants.{Large, Full, Spent, Memory}
use Rattle.vl_session.proofs.SeenLemmas.{follows_none}

-- Rows that are held can be a batch.
pub can_be : (options : Options) (now : ℕ) (body : List ℕ) (outcomes : List Outcome) (batch : Batch)
    → IsIntake options (pos now) body outcomes → HoldsRows (Some batch) (rows_read outcomes)
    → CanBeBatch options now body outcomes
can_be options now body outcomes batch given holds =
    record { given = given; some = holds.0; light = holds.1 }

module _ (caller : Caller) (options : Options) (now : ℕ) (body : List ℕ) (outcomes : List Outcome) (old new : Seen)
    (given : IsIntake options (pos now) body outcomes) where
  abbrev ComesTo : List Row → Option ℕ → Type 0
  ComesTo rows number = HasInsertOutcome options now body new (accepted rows outcomes)
      × Has caller old new (insert_effect (accepted rows outcomes)) × (number ≡ batch_number rows new.history)

  comes_to : (rows : List Row) (batch : Option Batch) (number : Option ℕ) → rows_read outcomes ≡ rows
      → HoldsRows batch (rows_read outcomes) → InsertsBatch caller batch old new number → ComesTo rows number
  comes_to [] None number are holds made = ((given, are), made.0, made.1)
  comes_to [] (Some batch) number are holds made = absurd (omega (arith, holds.0, ap length are))
  comes_to (row ∷ rows) None number are holds made =
      absurd (let no : [] ≡ row ∷ rows = sym holds ∙ are in cc)
  comes_to (row ∷ rows) (Some batch) number are holds made = (
    (can_be options now body outcomes batch given holds, made.0.room),
    subst (Gains caller old new) holds.2 made.0.gains,
    made.1,
  )

  pub inserts : (incoming : Incoming) (insertion : Insertion) → IsIncoming options (pos now) body outcomes incoming
      → Commits caller incoming old new insertion → IsInsertion caller options now body old new insertion
  inserts incoming insertion is commits =
      let comes = comes_to (rows_read outcomes) incoming.batch insertion.batch refl is.holds commits.inserts in
      record {
        outcomes = outcomes;
        given = given;
        has_outcome = comes.0;
        has = comes.1;
        accepted_are = commits.accepted ∙ is.accepted;
        batch = comes.2;
        refused = commits.refused ∙ is.refused;
      }

  pub can_insert : (incoming : Incoming) (batch : Option Batch) → incoming.batch ≡ batch → incoming.batch ≢ None
      → HoldsRows batch (rows_read outcomes) → CanBeBatch options now body outcomes
  can_insert incoming None is some holds = absurd (some is)
  can_insert incoming (Some batch) is some holds = can_be options now body outcomes batch given holds

  refuses_for : (why : InsertFault) → CanBeBatch options now body outcomes → IsRefused caller old new why
      → RefusesLines caller options now body old new (fault_of why)
  refuses_for (desk.Full held) can is = (is.1.1, (is.0, (outcomes, can, is.1.0)))
  refuses_for desk.Spent can is = (is.0, (outcomes, can, is.1.0, is.1.1))
  refuses_for desk.Memory can is = is

  -- why rows are not inserted
  pub refuses_rows : (incoming : Incoming) (fault : InsertionFault)
      → IsIncoming options (pos now) body outcomes incoming → IsUncommitted caller incoming old new fault
      → RefusesLines caller options now body old new fault
  refuses_rows incoming fault is (some, (why, same, refused)) =
      subst (RefusesLines caller options now body old new) (sym same)
      (refuses_for why (can_insert incoming incoming.batch refl some is.holds) refused)

-- Where there is room it is for the lines, or memory ran out.
pub refuses_with_room : (caller : Caller) (options : Options) (now : ℕ) (body : List ℕ) (old new : Seen)
    (fault : InsertionFault) → HasRoom new → RefusesLines caller options now body old new fault → IsOfLines fault
refuses_with_room caller options now body old new (Large weight) room why = tt
refuses_with_room caller options now body old new (Full limit) room why =
    let full : IsFull new = why.1.1.2 in absurd (omega (arith, room.0, full))
refuses_with_room caller options now body old new Spent room why =
    let last : HasLastNumber new = why.1.3 in absurd (omega (arith, room.1, last))
refuses_with_room caller options now body old new Memory room why = tt

-- why lines make no batch
pub refuses_lines : (caller : Caller) (options : Options) (now : ℕ) (body : List ℕ) (seen : Seen)
    (fault : InsertionFault) → IsNoBatch options (pos now) body fault
    → RefusesLines caller options now body seen seen fault
refuses_lines caller options now body seen (Large weight) unread = (refl, unread)
refuses_lines caller options now body seen (Full limit) unread = absurd unread
refuses_lines caller options now body seen Spent unread = absurd unread
refuses_lines caller options now body seen Memory unread = follows_none caller seen
