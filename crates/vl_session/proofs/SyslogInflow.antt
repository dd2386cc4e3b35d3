-- The result of a read.
use Rattle.std.proofs.Common.{◌≡◌, ℕ, ◌+◌, ◌<◌, ◌≤◌, List, [], ◌++◌, length, None, Some}
use Rattle.std.proofs.Common.{sym, ap, subst, ◌∙◌, arith, length-append}
use Rattle.std.proofs.lemmas.List.{append-nil}
use Rattle.vl_io.specs.Change.{Change, Gave, IsSpent}
use Rattle.syslog_in.specs.Framer.{Completes, Framing, HasTaken, IsCut, IsFeedFault, place_in}
use Rattle.syslog_in.specs.declared.fault.FrameFault.{FrameFault}
use Rattle.syslog_in.specs.declared.fault.FrameFault.TheVariants as faults
use Rattle.vl_session.specs.SyslogSession.{read_limit, session_limit}
use Rattle.vl_session.specs.SyslogTaking.{Comes, Feeds, end_of_frame}

-- A piece came, and may be taken.
pub record IsPiece (fed piece : List ℕ) (taken : ℕ) (source : Change) : Type 0 where
  pub gave : Gave source piece
  pub some : 0 < length piece
  pub few : length piece ≤ read_limit
  pub counted : length (fed ++ piece) ≡ taken + length piece
  pub within : length (fed ++ piece) ≤ session_limit

pub is_piece : (fed piece : List ℕ) (taken : ℕ) (source : Change) → Gave source piece → 0 < length piece
    → length piece ≤ read_limit → length fed ≡ taken → taken + length piece ≤ session_limit
    → IsPiece fed piece taken source
is_piece fed piece taken source gave some few is within = record {
  gave = gave;
  some = some;
  few = few;
  counted = omega (arith, is, length-append fed piece);
  within = omega (arith, is, within, length-append fed piece);
}

pub feeds : (fed piece : List ℕ) (taken : ℕ) (source : Change) (old messages : List (List ℕ)) (rest : List ℕ)
    → IsPiece fed piece taken source → old ≡ [] → Completes fed piece old messages rest
    → Feeds fed piece source messages rest
feeds fed piece taken source old messages rest p empty c = record {
  gave = p.gave;
  some = p.some;
  few = p.few;
  within = p.within;
  completes = subst (λ l. Completes fed piece l messages rest) empty c;
}

-- the piece ends in a fault
pub feed_fault : (fed piece : List ℕ) (taken is : ℕ) (source : Change) (framer new : Framing)
    (old messages : List (List ℕ)) (fault : FrameFault) → IsPiece fed piece taken source → old ≡ []
    → IsFeedFault fault fed piece old messages
    → Comes fed source framer new messages is (Some (end_of_frame fault))
feed_fault fed piece taken is source framer new old messages (faults.BadLength at) p empty f =
    (piece, f.0, feeds fed piece taken source old messages f.0 p empty f.2, (f.1, f.3, f.4))
feed_fault fed piece taken is source framer new old messages (faults.TooLong at) p empty f =
    (piece, f.0, feeds fed piece taken source old messages f.0 p empty f.1, (f.2, f.3))
feed_fault fed piece taken is source framer new old messages (faults.Cut at) p empty f = absurd f
feed_fault fed piece taken is source framer new old messages (faults.Ended first at) p empty f = absurd f
feed_fault fed piece taken is source framer new old messages faults.Memory p empty f =
    (piece, p.gave, p.few, p.within, f ∙ empty)

-- the input ends in one
pub cut_fault : (fed : List ℕ) (taken : ℕ) (source : Change) (framer new : Framing) (old messages : List (List ℕ))
    (fault : FrameFault) → HasTaken framer fed → length fed ≡ taken → taken < session_limit → old ≡ []
    → Gave source [] → IsSpent source → IsCut fault framer new old messages
    → Comes fed source framer new messages taken (Some (end_of_frame fault))
cut_fault fed taken source framer new old messages (faults.BadLength at) h is within empty gave spent f = absurd f
cut_fault fed taken source framer new old messages (faults.TooLong at) h is within empty gave spent f = absurd f
cut_fault fed taken source framer new old messages (faults.Cut at) h is within empty gave spent f =
    (gave, (spent, h.goes_on, f.1, at_is, omega (arith, is, within)), f.3 ∙ empty)
  where
    at_is : at ≡ place_in fed framer.rest 0
    at_is = omega (arith, f.2, h.start)
cut_fault fed taken source framer new old messages (faults.Ended first at) h is within empty gave spent f =
    absurd (let no : None ≡ Some (first, at) = sym h.running ∙ f in cc)
cut_fault fed taken source framer new old messages faults.Memory h is within empty gave spent f =
    ([], gave, omega arith, omega (arith, ap length (append-nil fed), is, within), f.1 ∙ empty)
