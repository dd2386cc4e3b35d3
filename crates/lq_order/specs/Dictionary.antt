-- Texts as places in a list of words.
use Rattle.std.specs.Prelude.{◌≡◌, ℕ, ◌<◌, ◌≤◌, List, [], length, slice_index_or, bytes_eq, IfSome, Option}
use Rattle.std.specs.Borrow.{Bor}
use Rattle.std.specs.HashMap.{HashMap, get_by}

-- the number that a text has
abbrev pub get_by_str : {S : Type 0} → HashMap (Bor (List ℕ)) ℕ S → List ℕ → Option ℕ
get_by_str numbers text = get_by (λ key. bytes_eq text key.now) numbers

-- Each text that a map has stands at its place among the words.
abbrev pub AreAtWords : {S : Type 0} → HashMap (Bor (List ℕ)) ℕ S → List (List ℕ) → Type 0
AreAtWords places words =
    (text : List ℕ) → IfSome (get_by_str places text)
    (λ place. (place < length words) × (slice_index_or words place [] ≡ text))

-- The words stay where they are, and a text stands at this place.
pub record IsAtWord (words more : List (List ℕ)) (text : List ℕ) (place : ℕ) : Type 0 where
  pub inside : place < length more
  pub is : slice_index_or more place [] ≡ text
  pub grows : length words ≤ length more
  pub stay : (k : ℕ) → k < length words → slice_index_or more k [] ≡ slice_index_or words k []

-- Each text stands at its place among the words.
pub record IsDictionary (texts words : List (List ℕ)) (ids : List ℕ) : Type 0 where
  pub long : length ids ≡ length texts
  pub inside : (k : ℕ) → k < length texts → slice_index_or ids k 0 < length words
  pub is : (k : ℕ) → k < length texts → slice_index_or words (slice_index_or ids k 0) [] ≡ slice_index_or texts k []
