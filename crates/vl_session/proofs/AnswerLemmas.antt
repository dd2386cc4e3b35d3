-- Replies to requests, and what the caller has seen by then.
use Rattle.std.proofs.Common.{◌≡◌, inl, inr, ℕ, ◌^◌, ◌<◌, List, [], ◌∷◌, length, codes, decimal, pos, Option, Some, None}
use Rattle.std.proofs.Common.{Ok, Err, Result, refl, sym, ap, subst, ◌∙◌, arith}
use Rattle.std.specs.Prelude.{IfOk, IfSome, IsOkAnd, is_some}
use Rattle.log_model.specs.Print.{line_text}
use Rattle.log_model.specs.Row.{Batch}
use Rattle.log_desk.specs.Seen.{Caller, Follows, Gains, Seen}
use Rattle.log_desk.specs.declared.fault.InsertFault.{InsertFault}
use Rattle.log_desk.specs.declared.fault.InsertFault.TheVariants as desk
use Rattle.http_reply.specs.Reply.{reply_bytes}
use Rattle.http_reply.specs.declared.status.Delivery.{Delivery}
use Rattle.http_reply.specs.declared.status.Kind.TheVariants as kinds
use Rattle.http_reply.specs.declared.status.Status.TheVariants as statuses
use Rattle.http_route.specs.Route.{insert, query, status}
use Rattle.ingest_row.specs.Ingest.{Options}
use Rattle.ingest_row.specs.Intake.{Outcome, rows_read}
use Rattle.vl_session.specs.Answer.{fault_effect}
use Rattle.vl_session.specs.Answer as answering
use Rattle.vl_session.specs.Answering.{Answered, IsAccepted, IsTurnedAway, SaysOutcome, TakesIn}
use Rattle.vl_session.specs.Incoming.{HoldsRows, IsIncoming, IsNoBatch, batch_text, fault_of, fields_said}
use Rattle.vl_session.specs.Incoming.{InsertsBatch, filled, insert_outcome_of}
use Rattle.vl_session.specs.Insert.{CanBeBatch, HasInsertOutcome, InsertOutcome, insert_fields, insert_status, refusal_text}
use Rattle.vl_session.specs.Insert as inserts
use Rattle.vl_session.specs.Query.{QueryOutcome, many_rows, overflows, query_effect, unreadable, unspelled}
use Rattle.vl_session.specs.Reply.{status_text}
use Rattle.vl_session.specs.Seen.{Has, IsRefused, Looks, adds, looks, nothing}
use Rattle.vl_session.proofs.InsertLemmas.{filled_number}
use Rattle.vl_session.proofs.InsertionLemmas.{can_be, can_insert}
use Rattle.vl_session.proofs.SeenLemmas.{follows_none}
use Rattle.vl_session.specs.declared.answer.AnswerFault.{AnswerFault}
use Rattle.vl_session.specs.declared.answer.AnswerFault.TheVariants.{Query, RegexRefused, ManyRows, Overflow}
use Rattle.vl_session.specs.declared.answer.AnswerFault.TheVariants as answers
use Rattle.vl_session.specs.declared.insert.Incoming.{Incoming}
use Rattle.vl_session.specs.declared.insert.InsertionFault.{InsertionFault}
use Rattle.vl_session.specs.declared.insert.InsertionFault.TheVariants.{Large, Full, Spent, Memory}

said_of : (incoming : Incoming) (outcomes : List Outcome) (options : Options) (now : ℕ) (body : List ℕ) (number : ℕ)
    → IsIncoming options (pos now) body outcomes incoming
    → fields_said incoming number
    ≡ insert_fields outcomes (filled (codes "batch") (batch_text (is_some incoming.batch) number))
said_of incoming outcomes options now body number is = rw is.accepted (rw is.refused refl)

-- what comes of a fault of the desk
desk_outcome : InsertFault → Option InsertOutcome
desk_outcome (desk.Full held) = Some inserts.full
desk_outcome desk.Spent = Some inserts.spent
desk_outcome desk.Memory = None

module _ (caller : Caller) (options : Options) (now : ℕ) (body : List ℕ) (incoming : Incoming) (old new : Seen)
    (delivery : Delivery) (reply : List ℕ) (outcomes : List Outcome)
    (is : IsIncoming options (pos now) body outcomes incoming) where
  abbrev IsAnswered : Type 0
  IsAnswered = Answered caller (Ok (insert options)) body now old new delivery reply

  fields_are : (batch : Option Batch) (number : ℕ) → incoming.batch ≡ batch
      → fields_said incoming number ≡ insert_fields outcomes (filled (codes "batch") (batch_text (is_some batch) number))
  fields_are batch number are =
      said_of incoming outcomes options now body number is
      ∙ ap (λ (b : Option Batch). insert_fields outcomes (filled (codes "batch") (batch_text (is_some b) number))) are

  taken_none : (batch : Option Batch) → incoming.batch ≡ batch → HoldsRows batch (rows_read outcomes)
      → (taken : IsAccepted caller incoming old new delivery reply)
      → InsertsBatch caller batch old new taken.insertion.batch → IsAnswered
  taken_none None none holds taken made = record {
    effect = nothing;
    has = made.0;
    answers = record {
      outcome = inserts.no_row outcomes;
      has_outcome = (is.given, holds);
      effect_is = refl;
      said = taken.said
          ∙ ap (λ fields. reply_bytes (statuses.Served kinds.Json) (line_text fields) delivery)
          (fields_are None taken.number none);
    };
  }
  taken_none (Some batch) some holds taken made =
      let last : taken.number ≡ length new.history =
      subst (λ (number : Option ℕ). IfSome number (λ n. taken.number ≡ n)) made.1 taken.numbered in
      let small : taken.number < 2 ^ 64 = omega (arith, last, made.0.room.numbered) in
      let fields : fields_said incoming taken.number
      ≡ insert_fields outcomes ((codes "batch", decimal (length new.history)) ∷ []) =
      fields_are (Some batch) taken.number some ∙ ap (insert_fields outcomes) (filled_number taken.number small)
      ∙ ap (λ n. insert_fields outcomes ((codes "batch", decimal n) ∷ [])) last in
      record {
        effect = adds (rows_read outcomes);
        has = subst (Gains caller old new) holds.2 made.0.gains;
        answers = record {
          outcome = inserts.taken outcomes;
          has_outcome = (can_be options now body outcomes batch is.given holds, made.0.room);
          effect_is = refl;
          said = taken.said
              ∙ ap (λ fields. reply_bytes (statuses.Served kinds.Json) (line_text fields) delivery) fields;
        };
      }

  looked : (outcome : InsertOutcome) → Looks caller old new → HasInsertOutcome options now body new outcome
      → inserts.insert_effect outcome ≡ looks
      → reply ≡ reply_bytes (insert_status outcome) (refusal_text outcome) delivery
      → inserts.insert_content new outcome ≡ refusal_text outcome → IsAnswered
  looked outcome has has_outcome effect said content = record {
    effect = looks;
    has = has;
    answers = record {
      outcome = outcome;
      has_outcome = has_outcome;
      effect_is = sym effect;
      said = said ∙ ap (λ text. reply_bytes (insert_status outcome) text delivery) (sym content);
    };
  }

  -- the desk refused
  refused_for : (why : InsertFault) (outcome : InsertOutcome) → insert_outcome_of (fault_of why) ≡ Some outcome
      → CanBeBatch options now body outcomes → IsRefused caller old new why
      → reply ≡ reply_bytes (insert_status outcome) (refusal_text outcome) delivery → IsAnswered
  refused_for (desk.Full held) outcome is_outcome can refused said =
      let same : inserts.full ≡ outcome = cc in
      looked inserts.full refused.0 (outcomes, can, refused.1.0) refl
      (said ∙ ap (λ o. reply_bytes (insert_status o) (refusal_text o) delivery) (sym same)) refl
  refused_for desk.Spent outcome is_outcome can refused said =
      let same : inserts.spent ≡ outcome = cc in
      looked inserts.spent refused.0 (outcomes, can, refused.1.0, refused.1.1) refl
      (said ∙ ap (λ o. reply_bytes (insert_status o) (refusal_text o) delivery) (sym same)) refl
  refused_for desk.Memory outcome is_outcome can refused said = absurd cc

  refused_so : IsTurnedAway caller incoming old new delivery reply → IsAnswered
  refused_so away =
      let (some, (why, same, refused)) = away.why in
      refused_for why away.outcome (ap insert_outcome_of (sym same) ∙ away.is_outcome)
      (can_insert caller options now body outcomes old new is.given incoming incoming.batch refl some is.holds) refused
      away.said

  -- the lines of an insert were inserted, or not
  pub insert_answered : TakesIn caller incoming old new delivery reply → IsAnswered
  insert_answered (inl taken) = taken_none incoming.batch refl is.holds taken taken.commits.inserts
  insert_answered (inr refused) = refused_so refused

-- its rows are too heavy for a batch
pub insert_unread : (caller : Caller) (options : Options) (now : ℕ) (body : List ℕ) (seen : Seen)
    (delivery : Delivery) (reply : List ℕ) (fault : InsertionFault) (outcome : InsertOutcome)
    → IsNoBatch options (pos now) body fault → insert_outcome_of fault ≡ Some outcome
    → reply ≡ reply_bytes (insert_status outcome) (refusal_text outcome) delivery
    → Answered caller (Ok (insert options)) body now seen seen delivery reply
insert_unread caller options now body seen delivery reply (Large weight) outcome unread is_outcome said =
    let same : inserts.large weight ≡ outcome = cc in
    record {
      effect = nothing;
      has = refl;
      answers = record {
        outcome = inserts.large weight;
        has_outcome = unread;
        effect_is = refl;
        said = said ∙ ap (λ o. reply_bytes (insert_status o) (refusal_text o) delivery) (sym same);
      };
    }
insert_unread caller options now body seen delivery reply (Full limit) outcome unread is_outcome said = absurd unread
insert_unread caller options now body seen delivery reply Spent outcome unread is_outcome said = absurd unread
insert_unread caller options now body seen delivery reply Memory outcome unread is_outcome said = absurd cc

-- The same for a reply that is made of the refusal's text, where memory does not run out.
pub insert_unread_reply : {R S E F : Type 0} (whole : Result R E) (text : Result S F) (reply_of : R → List ℕ)
    (text_of : S → List ℕ) (caller : Caller) (options : Options) (now : ℕ) (body : List ℕ) (seen : Seen)
    (delivery : Delivery) (fault : InsertionFault) → IsNoBatch options (pos now) body fault
    → IfOk whole (λ reply. IsOkAnd text (λ t. reply_of reply ≡ text_of t))
    → IfOk text (λ t. (outcome : InsertOutcome) × (insert_outcome_of fault ≡ Some outcome)
    × (text_of t ≡ reply_bytes (insert_status outcome) (refusal_text outcome) delivery))
    → IfOk whole (λ reply. Answered caller (Ok (insert options)) body now seen seen delivery (reply_of reply))
insert_unread_reply (Ok reply) (Ok t) reply_of text_of caller options now body seen delivery fault unread same said =
    insert_unread caller options now body seen delivery (reply_of reply) fault said.0 unread said.1 (same ∙ said.2)
insert_unread_reply (Ok reply) (Err e) reply_of text_of caller options now body seen delivery fault unread same said =
    absurd same
insert_unread_reply (Err e) text reply_of text_of caller options now body seen delivery fault unread same said = tt

-- Why rows are not inserted, nothing was added.
pub refused_follows : (caller : Caller) (old new : Seen) (why : InsertFault) → IsRefused caller old new why
    → Follows caller old new
refused_follows caller old new (desk.Full held) is = is.0.0
refused_follows caller old new desk.Spent is = is.0.0
refused_follows caller old new desk.Memory is = is

-- how much there is
pub status_answered : (caller : Caller) (old new : Seen) (body : List ℕ) (now : ℕ) (delivery : Delivery)
    (reply : List ℕ) (count settled : ℕ) → Looks caller old new → count ≡ length new.history → settled ≡ new.settled
    → reply ≡ reply_bytes (statuses.Served kinds.Json) (status_text count settled) delivery
    → Answered caller (Ok status) body now old new delivery reply
status_answered caller old new body now delivery reply count settled has counted marked said = record {
  effect = looks;
  has = has;
  answers = (
    refl,
    said ∙ ap (λ n. reply_bytes (statuses.Served kinds.Json) (status_text n settled) delivery) counted
        ∙ ap (λ n. reply_bytes (statuses.Served kinds.Json) (status_text (length new.history) n) delivery) marked,
  );
}

-- a query that has this outcome
pub query_answered : (caller : Caller) (text : List ℕ) (now : ℕ) (body : List ℕ) (old new : Seen) (delivery : Delivery)
    (reply : List ℕ) → SaysOutcome caller text now old new delivery reply
    → Answered caller (Ok (query text)) body now old new delivery reply
query_answered caller text now body old new delivery reply says = record {
  effect = query_effect says.outcome;
  has = says.has;
  answers = record {
    outcome = says.outcome;
    has_outcome = says.has_outcome;
    effect_is = refl;
    said = says.said;
  };
}

-- A query without an answer has the effect of what comes of it.
pub fault_has : (caller : Caller) (old new : Seen) (fault : AnswerFault) (outcome : QueryOutcome)
    → Has caller old new (fault_effect fault) → answering.query_outcome_of fault ≡ Some outcome
    → Has caller old new (query_effect outcome)
fault_has caller old new (Query fault) outcome has is =
    let same : unspelled fault ≡ outcome = cc in subst (λ o. Has caller old new (query_effect o)) same has
fault_has caller old new (RegexRefused nth) outcome has is =
    let same : unreadable nth ≡ outcome = cc in subst (λ o. Has caller old new (query_effect o)) same has
fault_has caller old new ManyRows outcome has is =
    let same : many_rows ≡ outcome = cc in subst (λ o. Has caller old new (query_effect o)) same has
fault_has caller old new (Overflow name) outcome has is =
    let same : overflows name ≡ outcome = cc in subst (λ o. Has caller old new (query_effect o)) same has
fault_has caller old new answers.Memory outcome has is = absurd cc

same_follows : (caller : Caller) (old new : Seen) → new ≡ old → Follows caller old new
same_follows caller old new same = subst (Follows caller old) (sym same) (follows_none caller old)

-- It adds nothing.
pub fault_follows : (caller : Caller) (old new : Seen) (fault : AnswerFault) → Has caller old new (fault_effect fault)
    → Follows caller old new
fault_follows caller old new (Query fault) has = same_follows caller old new has
fault_follows caller old new (RegexRefused nth) has = same_follows caller old new has
fault_follows caller old new ManyRows has = has.0
fault_follows caller old new (Overflow name) has = has.0
fault_follows caller old new answers.Memory has = has
