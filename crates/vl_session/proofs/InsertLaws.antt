-- Lines have one outcome.
use Rattle.std.proofs.Common.{◌≡◌, ◌⊎◌, inl, inr, ℕ, ℤ, ◌<◌, pos, List, [], ◌∷◌, length, Result, Some, refl, sym}
use Rattle.std.proofs.Common.{ap, subst, ◌∙◌, arith}
use Rattle.log_model.specs.History.{History}
use Rattle.log_model.specs.Row.{Row, batch_limit, batch_weight}
use Rattle.http_reply.specs.Reply.{reply_bytes}
use Rattle.http_route.specs.Route.{Wanted, delivery_of, wanted_of}
use Rattle.http_route.specs.declared.refusal.Refusal.{Refusal}
use Rattle.ingest_row.specs.Ingest.{Options}
use Rattle.ingest_row.specs.Intake.{IsIntake, Outcome, rows_read}
use Rattle.log_desk.specs.Seen.{Caller, Seen}
use Rattle.vl_session.specs.Insert.{CanBeBatch, HasInsertOutcome, InsertOutcome, full, insert_content, insert_effect}
use Rattle.vl_session.specs.Insert.{insert_status, large, no_row, spent, taken}
use Rattle.vl_session.specs.InsertRequest.{InsertRequest, IsInsertAnswered, IsInsertServed}
use Rattle.vl_session.specs.Insertion.{IsInsertion, RefusesLines, batch_number}
use Rattle.vl_session.specs.Reply.{Answers, AnswersInsert, AnswersNothing}
use Rattle.vl_session.specs.Seen.{Has, HasLastNumber, HasRoom, IsFull}
use Rattle.vl_session.specs.declared.insert.Insertion.{Insertion}
use Rattle.vl_session.specs.declared.insert.InsertionFault.{InsertionFault}
use Rattle.vl_session.specs.declared.insert.InsertionFault.TheVariants as faults

-- the lines of a body have one list of outcomes
abbrev pub HasOneIntake : Type 0
HasOneIntake = (options : Options) (now : ℤ) (body : List ℕ) (one other : List Outcome) → IsIntake options now body one
    → IsIntake options now body other → one ≡ other

number_of : (rows : List Row) (history : History) → 0 < length rows
    → batch_number rows history ≡ Some (length history)
number_of [] history some = absurd (omega (arith, some))
number_of (row ∷ rows) history some = refl

module _ (only : HasOneIntake) (options : Options) (now : ℕ) (body : List ℕ) (outcomes : List Outcome)
    (can : CanBeBatch options now body outcomes) where
  same : (others : List Outcome) → IsIntake options (pos now) body others → others ≡ outcomes
  same others given = only options (pos now) body others outcomes given can.given

  some_rows : (others : List Outcome) → IsIntake options (pos now) body others → rows_read others ≡ [] → ⊥
  some_rows others given none =
      let none_too : rows_read outcomes ≡ [] =
      subst (λ (read : List Outcome). rows_read read ≡ []) (same others given) none in
      omega (arith, can.some, ap length none_too)

  not_large : (others : List Outcome) → IsIntake options (pos now) body others
      → batch_limit < batch_weight (rows_read others) → ⊥
  not_large others given heavy =
      let heavy_too : batch_limit < batch_weight (rows_read outcomes) =
      subst (λ (read : List Outcome). batch_limit < batch_weight (rows_read read)) (same others given) heavy in
      omega (arith, can.light, heavy_too)

  not_full : (seen : Seen) → HasRoom seen → IsFull seen → ⊥
  not_full seen room is = omega (arith, room.0, is)

  not_last : (seen : Seen) → HasRoom seen → HasLastNumber seen → ⊥
  not_last seen room is = omega (arith, room.1, is)

  -- Where there is room, their batch is the only outcome.
  pub only_taken : (seen : Seen) → HasRoom seen → (other : InsertOutcome)
      → HasInsertOutcome options now body seen other → other ≡ taken outcomes
  only_taken seen room (no_row others) is = absurd (some_rows others is.0 is.1)
  only_taken seen room (taken others) is = ap taken (same others is.0.given)
  only_taken seen room (large weight) is = absurd (not_large is.0 is.1 is.3)
  only_taken seen room full is = absurd (not_full seen room is.2)
  only_taken seen room spent is = absurd (not_last seen room is.3)

  -- They are refused only because memory ran out.
  pub only_for_memory : (caller : Caller) (old new : Seen) → HasRoom new → (fault : InsertionFault)
      → RefusesLines caller options now body old new fault → fault ≡ faults.Memory
  only_for_memory caller old new room (faults.Large weight) why = absurd (not_large why.1.0 why.1.1 why.1.3)
  only_for_memory caller old new room (faults.Full limit) why = absurd (not_full new room why.1.1.2)
  only_for_memory caller old new room faults.Spent why = absurd (not_last new room why.1.3)
  only_for_memory caller old new room faults.Memory why = refl

  -- Where they are inserted, they are a batch.
  pub is_batch : (caller : Caller) (old new : Seen) (insertion : Insertion)
      → IsInsertion caller options now body old new insertion → insertion.batch ≡ Some (length new.history)
  is_batch caller old new insertion is =
      is.batch
      ∙ number_of (rows_read is.outcomes) new.history
      (subst (λ (read : List Outcome). 0 < length (rows_read read)) (sym (same is.outcomes is.given)) can.some)

-- An insert whose rows can be a batch is accepted where there is room, or memory ran out.
pub insert_accepted : HasOneIntake → (caller : Caller) (request : InsertRequest) → IsInsertServed caller request
    → IsInsertAnswered caller request
insert_accepted only caller request is = said is.served.answers
  where
    said : Answers (wanted_of request.asked) request.asked.body request.now request.new
        (delivery_of request.asked request.closes) request.effect request.reply
        ⊎ AnswersNothing (delivery_of request.asked request.closes) request.effect request.reply
        → IsInsertAnswered caller request
    said (inr nothing) = inr nothing
    said (inl answers) =
        let insert : AnswersInsert request.options request.now request.asked.body request.new
        (delivery_of request.asked request.closes) request.effect request.reply =
        subst
        (λ (wanted : Result Wanted Refusal). Answers wanted request.asked.body request.now request.new
        (delivery_of request.asked request.closes) request.effect request.reply) is.wanted answers in
        let same : insert.outcome ≡ taken request.outcomes =
        only_taken only request.options request.now request.asked.body request.outcomes is.can_be_batch request.new
        is.room insert.outcome insert.has_outcome in
        inl (
          subst (Has caller request.old request.new) (insert.effect_is ∙ ap insert_effect same) is.served.has,
          insert.said
              ∙ ap (λ (outcome : InsertOutcome). reply_bytes (insert_status outcome)
              (insert_content request.new outcome) (delivery_of request.asked request.closes)) same,
        )
