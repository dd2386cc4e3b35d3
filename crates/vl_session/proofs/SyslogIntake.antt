-- Messages that are taken up one after another, and a batch after another.
use Rattle.std.proofs.Common.{◌≡◌, ℕ, ◌<◌, ◌+◌, ◌-◌, ◌*◌, ◌≤◌, List, [], ◌∷◌, ◌++◌, length, drop}
use Rattle.std.proofs.Common.{Option, None, Some}
use Rattle.std.proofs.Common.{refl, sym, ap, subst, ◌∙◌, arith, append-nil}
use Rattle.std.proofs.lemmas.List.{length-append}
use Rattle.log_model.specs.Row.{Batch, Row}
use Rattle.vl_row.specs.declared.row.RowFault.{RowFault}
use Rattle.syslog_in.specs.declared.fault.MessageFault.{MessageFault}
use Rattle.ingest_row.specs.declared.syslog.SyslogKind.TheVariants as kinds
use Rattle.log_desk.specs.Seen.{Caller, Seen}
use Rattle.log_desk.specs.declared.fault.InsertFault.{InsertFault}
use Rattle.log_desk.specs.declared.fault.InsertFault.TheVariants as desk
use Rattle.vl_session.specs.Seen.{Has, IsRefused, Takes, batches_of_rows}
use Rattle.vl_session.specs.SyslogSession.{AreBatches, IsMessageOutcome, TakesAll, end_effect, message_rows}
use Rattle.vl_session.specs.SyslogTaking.{BeginWith, HoldsUp, TakesSome, TakesUp, end_of_insert}
use Rattle.vl_session.specs.declared.syslog_intake.Counts.{Counts}
use Rattle.vl_session.specs.declared.syslog_report.SyslogEnd.{SyslogEnd}
use Rattle.vl_session.proofs.SyslogLists.{batches_append, none_append, one_batch, one_full, rows_append, rows_or_none}
use Rattle.vl_session.proofs.SyslogLists.{takes_append, zip_append}

-- ---- one message

pub message_is_no_memory : (fault : MessageFault) → kinds.Message fault ≡ kinds.Memory → ⊥
message_is_no_memory fault same = absurd cc

pub row_is_no_memory : (fault : RowFault) → kinds.Row fault ≡ kinds.Memory → ⊥
row_is_no_memory fault same = absurd cc

-- it has a row
pub rows_more : (rows new : List Row) (outcomes : List (Option Row)) (outcome : Option Row) (row : Row)
    → rows ≡ message_rows outcomes → outcome ≡ Some row → new ≡ rows ++ row ∷ []
    → new ≡ message_rows (outcomes ++ outcome ∷ [])
rows_more rows new outcomes outcome row are is grown =
    grown ∙ ap (λ l. l ++ row ∷ []) are ∙ sym (rows_append outcomes (Some row ∷ []))
    ∙ ap (λ o. message_rows (outcomes ++ o ∷ [])) (sym is)

-- it has none
pub rows_same : (rows : List Row) (outcomes : List (Option Row)) (outcome : Option Row) → rows ≡ message_rows outcomes
    → outcome ≡ None → rows ≡ message_rows (outcomes ++ outcome ∷ [])
rows_same rows outcomes outcome are is =
    are ∙ sym (rows_append outcomes (None ∷ []) ∙ append-nil (message_rows outcomes))
    ∙ ap (λ o. message_rows (outcomes ++ o ∷ [])) (sym is)

-- ---- one batch

-- the rows are one batch
pub takes_one : (caller : Caller) (old new : Seen) (rows : List Row) → 0 < length rows → Takes caller old new rows
    → TakesAll caller old (batches_of_rows rows) new
takes_one caller old new [] some takes = absurd (omega (arith, some))
takes_one caller old new (row ∷ rows) some takes = (new, takes, refl)

-- why they are not
pub held_up : (caller : Caller) (rows : List Row) (old new : Seen) (fault : InsertFault) → 0 < length rows
    → IsRefused caller old new fault → HoldsUp rows new (end_of_insert fault)
held_up caller rows old new (desk.Full held) some is = (some, is.1.1, is.1.0)
held_up caller rows old new desk.Spent some is = (some, is.1.0, is.1.1)
held_up caller rows old new desk.Memory some is = tt

-- what the refusal did
pub refused_has : (caller : Caller) (old new : Seen) (fault : InsertFault) → IsRefused caller old new fault
    → Has caller old new (end_effect (end_of_insert fault))
refused_has caller old new (desk.Full held) is = is.0
refused_has caller old new desk.Spent is = is.0
refused_has caller old new desk.Memory is = is

pub takes_first : (caller : Caller) (now : ℕ) (messages : List (List ℕ)) (seen : Seen) (counts : Counts)
    → TakesUp caller now messages seen seen counts counts [] []
takes_first caller now messages seen counts = record {
  given = tt;
  cut = refl;
  full = λ less. omega arith;
  taken = refl;
  accepted = omega arith;
  refused = omega arith;
}

full_more : (outcomes more : List (Option Row)) (batches : List Batch) (rows : List Row) → rows ≡ message_rows more
    → length rows ≡ 256 → length (message_rows outcomes) ≡ 256 * length batches
    → length (message_rows (outcomes ++ more)) ≡ 256 * length (batches ++ batches_of_rows rows)
full_more outcomes more batches rows are one full = omega (
  arith,
  full,
  one,
  ap length are,
  one_full rows one,
  ap length (rows_append outcomes more),
  length-append (message_rows outcomes) (message_rows more),
  length-append batches (batches_of_rows rows),
)

pub takes_more : (caller : Caller) (now at : ℕ) (messages : List (List ℕ)) (old mid new : Seen) (before counts after : Counts)
    (outcomes more : List (Option Row)) (batches : List Batch) (rows : List Row)
    → TakesUp caller now messages old mid before counts outcomes batches → at ≡ length outcomes
    → BeginWith now (drop at messages) more → rows ≡ message_rows more → length rows ≤ 256
    → at < length messages → (at + length more < length messages → length rows ≡ 256)
    → TakesAll caller mid (batches_of_rows rows) new → after.accepted ≡ counts.accepted + length rows
    → after.refused ≡ counts.refused + (length more - length rows)
    → TakesUp caller now messages old new before after (outcomes ++ more) (batches ++ batches_of_rows rows)
takes_more caller now at messages old mid new before counts after outcomes more batches rows t at_is given are few below last
    taken accepted refused =
    let full : length (message_rows outcomes) ≡ 256 * length batches = t.full (omega (arith, at_is, below)) in
    let behind : BeginWith now (drop (length outcomes) messages) more =
    subst (λ n. BeginWith now (drop n messages) more) at_is given in
    record {
      given = zip_append (IsMessageOutcome now) messages outcomes more t.given behind;
      cut = subst (λ l. AreBatches l (batches ++ batches_of_rows rows))
          (ap (λ l. message_rows outcomes ++ l) are ∙ sym (rows_append outcomes more))
          (batches_append (message_rows outcomes) rows batches (batches_of_rows rows) t.cut full (one_batch rows few));
      full = λ less. full_more outcomes more batches rows are
          (last (omega (arith, at_is, less, length-append outcomes more))) full;
      taken = takes_append caller old mid new batches (batches_of_rows rows) t.taken taken;
      accepted = omega (
        arith,
        t.accepted,
        accepted,
        ap length are,
        ap length (rows_append outcomes more),
        length-append (message_rows outcomes) (message_rows more),
      );
      refused = omega (
        arith,
        t.refused,
        refused,
        ap length are,
        rows_or_none more,
        none_append outcomes more,
      );
    }

-- there are at most as many rows as messages
pub few_rows : (more : List (Option Row)) (rows : List Row) → rows ≡ message_rows more → length rows ≤ length more
few_rows more rows are = omega (arith, ap length are, rows_or_none more)

-- so the counts go no further than the messages
pub few_counted : (caller : Caller) (now : ℕ) (messages : List (List ℕ)) (old new : Seen) (before after : Counts)
    (outcomes : List (Option Row)) (batches : List Batch) → TakesUp caller now messages old new before after outcomes batches
    → after.accepted + after.refused ≡ before.accepted + before.refused + length outcomes
few_counted caller now messages old new before after outcomes batches t =
    omega (arith, t.accepted, t.refused, rows_or_none outcomes)

-- No more could be taken up.
pub takes_some : (caller : Caller) (now : ℕ) (messages : List (List ℕ)) (old mid new : Seen) (before after : Counts)
    (outcomes later : List (Option Row)) (batches : List Batch) (end : SyslogEnd)
    → TakesUp caller now messages old mid before after outcomes batches → Has caller mid new (end_effect end)
    → BeginWith now (drop (length outcomes) messages) later → HoldsUp (message_rows later) new end
    → length outcomes < length messages
    → TakesSome caller now messages old new before after outcomes batches end
takes_some caller now messages old mid new before after outcomes later batches end t has given held fewer = record {
  mid = mid;
  takes = t;
  has = has;
  stops = (later, given, held);
  fewer = fewer;
}
