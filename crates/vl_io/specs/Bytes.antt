-- What reads and writes do to the bytes that are left in a source and written to a sink.
-- `None` stands for an object that does not tell them: it says nothing, and does not begin to tell.
use Rattle.std.specs.Prelude.{◌≡◌, ℕ, ◌<◌, ◌≤◌, List, [], ◌++◌, length, take, Option, None, Some, Result, IfOk}
use Rattle.std.specs.Prelude.{MatchResult, ⊤}

-- what was left begins with these bytes, and what is left now comes after them
abbrev pub Consumes : Option (List ℕ) → Option (List ℕ) → List ℕ → Type 0
Consumes None None bytes = ⊤
Consumes None (Some new) bytes = ⊥
Consumes (Some old) None bytes = ⊥
Consumes (Some old) (Some new) bytes = old ≡ bytes ++ new

-- nothing is left
abbrev pub IsAtEnd : Option (List ℕ) → Type 0
IsAtEnd None = ⊤
IsAtEnd (Some left) = left ≡ []

-- what was written grew by these bytes
abbrev pub Appends : Option (List ℕ) → Option (List ℕ) → List ℕ → Type 0
Appends None None bytes = ⊤
Appends None (Some new) bytes = ⊥
Appends (Some old) None bytes = ⊥
Appends (Some old) (Some new) bytes = new ≡ old ++ bytes

-- `Ok n` gave the next n bytes, at the front of the buffer, and 0 in a buffer with room only at the end. An error took
-- none.
abbrev pub ReadConsumes : {E : Type 0} → Option (List ℕ) → Option (List ℕ) → Result ℕ E → List ℕ → Type 0
ReadConsumes old new result buffer =
    MatchResult result (λ n. Consumes old new (take n buffer) × (n ≡ 0 → 0 < length buffer → IsAtEnd new))
    (λ _. new ≡ old)

-- `Ok n` wrote the first n bytes of the piece, and an error none
abbrev pub WriteAppends : {E : Type 0} → Option (List ℕ) → Option (List ℕ) → Result ℕ E → List ℕ → Type 0
WriteAppends old new result piece = MatchResult result (λ n. Appends old new (take n piece)) (λ _. new ≡ old)

-- `Ok n` took no more than there is, and something where there is something
abbrev pub TakesSome : {E : Type 0} → Result ℕ E → List ℕ → Type 0
TakesSome result piece = IfOk result (λ n. (n ≤ length piece) × (0 < length piece → 0 < n))

-- a list of bytes grew by those that were taken
abbrev pub AddsPiece : Option (List ℕ) → Option (List ℕ) → List ℕ → List ℕ → Type 0
AddsPiece old new before now = (piece : List ℕ) × Consumes old new piece × (now ≡ before ++ piece)
