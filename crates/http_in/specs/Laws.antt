-- Laws: what bytes are is one thing. Places and requests are then a function of the bytes, with one exception.
use Rattle.std.specs.Prelude.{◌≡◌, ◌⊎◌, ℕ, List, Bool, take}
use Rattle.httparse.specs.Grammar.{EndsInTarget}
use Rattle.http_in.specs.Faults.{HasFault, IsInside}
use Rattle.http_in.specs.Limits.{head_limit}
use Rattle.http_in.specs.Message.{Asked, Begins}
use Rattle.http_in.specs.Requests.{AreAllRequests, RequestsEnd}
use Rattle.http_in.specs.declared.fault.RequestFault.{RequestFault}

-- Bytes have one fault. Only where the first bytes of a head, as many as it may have, end inside a target may it be
-- BadHead or HeadLarge, since a parser may leave the test for UTF-8 to the target's end.
abbrev pub FaultsAreOne : Type 0
FaultsAreOne =
    (start : ℕ) (bytes : List ℕ) (one other : RequestFault) → HasFault start bytes one → HasFault start bytes other
    → (one ≡ other) ⊎ EndsInTarget (take head_limit bytes)

-- Bytes that have a fault are not the front of a request. Only where they end inside a target may they be both.
abbrev pub FaultsEnd : Type 0
FaultsEnd =
    (start : ℕ) (bytes : List ℕ) (fault : RequestFault) → HasFault start bytes fault → IsInside bytes
    → EndsInTarget bytes

-- A whole request has no fault, and nothing is missing.
abbrev pub RequestsAreWhole : Type 0
RequestsAreWhole =
    (start : ℕ) (bytes rest : List ℕ) (asked : Asked) (fault : RequestFault) → Begins bytes asked rest
    → ¬ (HasFault start bytes fault) × ¬ (IsInside bytes)

-- The requests that bytes begin with are one list, whether more bytes may come or not.
abbrev pub RequestsAreOne : Type 0
RequestsAreOne =
    (bytes : List ℕ) (ended over : Bool) (one other : List Asked) (end last : RequestsEnd)
    → AreAllRequests bytes ended one end → AreAllRequests bytes over other last → one ≡ other
