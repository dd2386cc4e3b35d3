-- The requests that the bytes of a connection begin with, up to one that asks to close, and how they end there.
use Rattle.std.specs.Prelude.{◌≡◌, ◌⊎◌, ℕ, ◌<◌, Bool, true, false, List, [], ◌∷◌, ◌++◌, length}
use Rattle.http_in.specs.Faults.{HasFault, IsInside}
use Rattle.http_in.specs.Limits.{place}
use Rattle.http_in.specs.Message.{Asked, Begins}
use Rattle.http_in.specs.declared.fault.RequestFault.{RequestFault}

-- the bytes begin with these requests, one after another, and only the last may ask to close
abbrev pub AreRequests : List ℕ → List Asked → List ℕ → Type 0
AreRequests bytes [] rest = bytes ≡ rest
AreRequests bytes (asked ∷ later) rest =
    (after : List ℕ) × Begins bytes asked after × (asked.last ≡ true → later ≡ []) × AreRequests after later rest

-- the last one asked to close
abbrev pub asked_to_close : List Asked → Bool
asked_to_close [] = false
asked_to_close (asked ∷ []) = asked.last
asked_to_close (asked ∷ next ∷ later) = asked_to_close (next ∷ later)

-- how a list of requests ends
pub data RequestsEnd : Type 0 where
  -- the last request asked to close
  closed_by_request : RequestsEnd
  -- what follows has this fault
  has_fault : RequestFault → RequestsEnd
  -- nothing follows, and the input has ended
  ended_whole : RequestsEnd
  -- the input has ended inside a request that begins at this place
  ended_inside : ℕ → RequestsEnd
  -- more may come
  may_go_on : RequestsEnd

-- So the list ends, where `rest` follows it and begins at this place, and `ended` says whether the input has ended.
abbrev pub EndsSo : List Asked → ℕ → List ℕ → Bool → RequestsEnd → Type 0
EndsSo list start rest ended closed_by_request = asked_to_close list ≡ true
EndsSo list start rest ended (has_fault fault) = (asked_to_close list ≡ false) × HasFault start rest fault
EndsSo list start rest ended ended_whole = (asked_to_close list ≡ false) × (rest ≡ []) × (ended ≡ true)
EndsSo list start rest ended (ended_inside at) =
    (asked_to_close list ≡ false) × (at ≡ place start) × (0 < length rest) × IsInside rest × (ended ≡ true)
EndsSo list start rest ended may_go_on =
    (asked_to_close list ≡ false) × ((rest ≡ []) ⊎ IsInside rest) × (ended ≡ false)

-- `requests(bytes)`: the list, and how it ends
pub record AreAllRequests (bytes : List ℕ) (ended : Bool) (list : List Asked) (end : RequestsEnd) : Type 0 where
  pub used : List ℕ
  pub rest : List ℕ
  pub whole : bytes ≡ used ++ rest
  pub requests : AreRequests bytes list rest
  pub ends : EndsSo list (length used) rest ended end
