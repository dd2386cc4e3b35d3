-- Where a session ends by its input, every request of it has its turn.
use Rattle.std.proofs.Common.{◌≡◌, ℕ, Bool, true, false, List, ◌++◌, length, refl, inr, Some, None}
use Rattle.vl_io.specs.Change.{Change, IsSpent}
use Rattle.http_in.specs.Message.{Asked}
use Rattle.http_in.specs.Reading.{lasting}
use Rattle.http_in.specs.Requests.{AreRequests, EndsSo, RequestsEnd, closed_by_request, ended_inside}
use Rattle.http_in.specs.Requests.{asked_to_close, ended_whole, has_fault, may_go_on}
use Rattle.http_in.specs.declared.fault.RequestFault.{RequestFault}
use Rattle.http_in.specs.declared.fault.RequestFault.TheVariants as faults
use Rattle.http_in.proofs.RequestsLemmas.{all_requests_first}
use Rattle.vl_session.specs.Laws.{IsByInput}
use Rattle.vl_session.specs.Session.{Ends, StopsReading}
use Rattle.vl_session.specs.Turns.{Turn, asked_in}
use Rattle.vl_session.specs.declared.report.End.{End}
use Rattle.vl_session.specs.declared.report.End.TheVariants as ends

-- how the list of requests ends, and whether the input has ended
pub record EndsList (list : List Asked) (start : ℕ) (rest : List ℕ) : Type 0 where
  pub ended : Bool
  pub end : RequestsEnd
  pub ends : EndsSo list start rest ended end

no_such : (fault : RequestFault) → lasting fault ≡ None → lasting fault ≡ Some fault → ⊥
no_such fault none some = cc

stops_list : (list : List Asked) (start : ℕ) (rest : List ℕ) (ended : Type 0) (fault : RequestFault)
    → asked_to_close list ≡ false → StopsReading start rest ended fault → EndsList list start rest
stops_list list start rest ended faults.SourceFault stays s = absurd (no_such faults.SourceFault refl s.lasts)
stops_list list start rest ended (faults.BadHead at) stays s =
    record { ended = true; end = has_fault (faults.BadHead at); ends = (stays, s.explained) }
stops_list list start rest ended (faults.Cut at) stays s = record {
  ended = true;
  end = ended_inside at;
  ends = (stays, s.explained.0, s.explained.1, s.explained.2, refl);
}
stops_list list start rest ended faults.HeadLarge stays s =
    record { ended = true; end = has_fault faults.HeadLarge; ends = (stays, s.explained) }
stops_list list start rest ended faults.BodyLarge stays s =
    record { ended = true; end = has_fault faults.BodyLarge; ends = (stays, s.explained) }
stops_list list start rest ended faults.BadLength stays s =
    record { ended = true; end = has_fault faults.BadLength; ends = (stays, s.explained) }
stops_list list start rest ended (faults.BadChunk at) stays s =
    record { ended = true; end = has_fault (faults.BadChunk at); ends = (stays, s.explained) }
stops_list list start rest ended faults.Coding stays s =
    record { ended = true; end = has_fault faults.Coding; ends = (stays, s.explained) }
stops_list list start rest ended faults.Memory stays s = absurd (no_such faults.Memory refl s.lasts)

ends_list : (source sink : Change) (turns : List Turn) (start : ℕ) (rest : List ℕ) (end : End) → IsByInput end
    → Ends source sink turns start rest end → EndsList (asked_in turns) start rest
ends_list source sink turns start rest ends.Closed by e =
    record { ended = true; end = ended_whole; ends = (e.2.0, e.0, refl) }
ends_list source sink turns start rest ends.AskedClose by e =
    record { ended = false; end = closed_by_request; ends = e.0 }
ends_list source sink turns start rest ends.Limit by e = absurd by
ends_list source sink turns start rest ends.SourceFault by e =
    record { ended = false; end = may_go_on; ends = (e.2.0, inr e.1, refl) }
ends_list source sink turns start rest ends.SinkFault by e = absurd by
ends_list source sink turns start rest (ends.BadInput fault) by e =
    stops_list (asked_in turns) start rest (IsSpent source) fault e.1.0 e.0
ends_list source sink turns start rest ends.Memory by e = absurd by

-- any requests that the bytes begin with are the first of those that had their turns
pub all_served : (source sink : Change) (turns : List Turn) (used rest other : List ℕ) (end : End)
    (list : List Asked)
    → IsByInput end → Ends source sink turns (length used) rest end → AreRequests (used ++ rest) (asked_in turns) rest
    → AreRequests (used ++ rest) list other → (more : List Asked) × (asked_in turns ≡ list ++ more)
all_served source sink turns used rest other end list by e served asked =
    let l = ends_list source sink turns (length used) rest end by e in
    all_requests_first (used ++ rest) other l.ended (asked_in turns) list l.end
    (record { used = used; rest = rest; whole = refl; requests = served; ends = l.ends }) asked
