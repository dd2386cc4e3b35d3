-- What the calls of the desk do to what has been seen.
use Rattle.std.proofs.Common.{◌≡◌, ◌≢◌, inl, inr, ℕ, [], refl, sym, ap, subst, ◌∙◌, arith, append-nil}
use Rattle.log_model.specs.Row.{Batch}
use Rattle.log_core.specs.declared.entries.EntryRows.{EntryRows}
use Rattle.log_desk.specs.Calls.{Inserted, IsRefused as IsRefusedByDesk, Looked}
use Rattle.log_desk.specs.Passes.{IsPassOf, LockId, PassState}
use Rattle.log_desk.specs.Seen.{Caller, Follows, Seen, caller_of, seen_of}
use Rattle.log_desk.specs.declared.fault.InsertFault.{InsertFault}
use Rattle.log_desk.specs.declared.fault.InsertFault.TheVariants.{Full, Spent, Memory}
use Rattle.log_desk.proofs.SeenLaws.{follows, gains, length-seen, takes_turn}
use Rattle.vl_session.specs.Seen.{IsRefused, Looks, Takes}

-- the same is seen
pub follows_none : (caller : Caller) (seen : Seen) → Follows caller seen seen
follows_none caller seen = record {
  others = [];
  longer = sym (append-nil seen.history);
  strange = tt;
  settled = omega arith;
  stays = λ may. refl;
  more_turns = [];
  turns = sym (append-nil seen.turns);
}

-- A caller that looks takes a turn.
pub looks : (l : LockId) (p r : PassState EntryRows) → IsPassOf l p → Looked l p r
    → Looks (caller_of p) (seen_of p) (seen_of r)
looks l p r is looked = (follows l p r is looked, takes_turn p r looked.took)

-- One that inserts a batch takes a turn in which there was room for it.
pub takes : (l : LockId) (batch : Batch) (number : ℕ) (p r : PassState EntryRows) → IsPassOf l p
    → Inserted batch number p r → Takes (caller_of p) (seen_of p) (seen_of r) batch
takes l batch number p r is inserted = record {
  gains = gains l batch number p r is inserted;
  room = record {
    few = omega (arith, length-seen r.seen, inserted.counted, inserted.few);
    numbered = omega (arith, length-seen r.seen, inserted.counted, inserted.numbered);
  };
}

full_is_no_memory : (held : ℕ) → Full held ≢ Memory
full_is_no_memory held same = absurd cc

spent_is_no_memory : Spent ≢ Memory
spent_is_no_memory same = absurd cc

-- why the desk refuses a batch
pub refused : (l : LockId) (p r : PassState EntryRows) (fault : InsertFault) → IsPassOf l p
    → IsRefusedByDesk l fault p r → IsRefused (caller_of p) (seen_of p) (seen_of r) fault
refused l p r (Full held) is (inl (looked, refuses)) =
    (looks l p r is looked, (length-seen r.seen ∙ refuses.0, refuses.1))
refused l p r (Full held) is (inr (memory, same)) = absurd (full_is_no_memory held memory)
refused l p r Spent is (inl (looked, refuses)) = (
  looks l p r is looked,
  ((λ full. refuses.0 (sym (length-seen r.seen) ∙ full)), length-seen r.seen ∙ refuses.1),
)
refused l p r Spent is (inr (memory, same)) = absurd (spent_is_no_memory memory)
refused l p r Memory is (inl (looked, refuses)) = follows l p r is looked
refused l p r Memory is (inr (memory, same)) =
    subst (λ s. Follows (caller_of p) (seen_of p) (seen_of s)) (sym same) (follows_none (caller_of p) (seen_of p))

-- After a refusal the caller is the same.
pub refused_caller : (l : LockId) (p r : PassState EntryRows) (fault : InsertFault) → IsRefusedByDesk l fault p r
    → caller_of r ≡ caller_of p
refused_caller l p r fault (inl (looked, refuses)) = looked.took.caller
refused_caller l p r fault (inr (memory, same)) = ap caller_of same
