-- What the bytes of a slot say.
use Rattle.std.proofs.Common.{◌≡◌, ℕ, ◌∙◌, Bool, true, false, List, [], ◌∷◌, Result, Ok, Err, refl, ap}
use Rattle.std.proofs.Common.{length, take}
use Rattle.std.specs.Prelude.{◌==◌, ◌%◌, Some, None, if◌then◌else◌}
use Rattle.std.proofs.lemmas.Bool.{eq-eqb, eqb-true}
use Rattle.byte_format.proofs.Cases.{both_true, some_from}
use Rattle.byte_format.proofs.Spellings.{reading-only, reading-found}
use Rattle.parts_list.specs.declared.list.List.{List as Listing}
use Rattle.parts_list.specs.Listing.{is_list, is_list_of}
use Rattle.parts_list.specs.Format.{slot_format, head_bytes, body_of, slot_writing, slot_reading}
use Rattle.parts_list.specs.ReadAgain.{list-again}
use Rattle.parts_list.specs.Slots.{is_open, Slot, Closed, Broken, Open, opened, slot_of}

-- a closed slot, and one that has a list
pub slot_of-closed : (slot : ℕ) (bytes : List ℕ) → is_open bytes ≡ false → slot_of slot bytes ≡ Closed
slot_of-closed slot bytes closed = ap (λ t. if t then opened (slot_reading slot bytes) else Closed) closed

is_open-body : (l : Listing) → is_open (1 ∷ body_of l) ≡ true
unfolding body_of head_bytes
is_open-body l = refl

pub slot_of-written : (slot : ℕ) (l : Listing) → is_list l ≡ true → l.generation % 2 ≡ slot
    → slot_of slot (1 ∷ body_of l) ≡ Open l
slot_of-written slot l good parity =
    let here : is_list_of slot l ≡ true = rw (eq-eqb (l.generation % 2) slot parity, good) refl in
    let written : slot_writing slot l ≡ Some (1 ∷ body_of l) = ap (λ t. if t then Some (1 ∷ body_of l) else None)
    here in
    ap (λ t. if t then opened (slot_reading slot (1 ∷ body_of l)) else Closed) (is_open-body l)
    ∙ ap opened (reading-only slot_format (slot_writing slot) (1 ∷ body_of l) l (list-again slot) written)

-- the parity of the list in a slot
abbrev pub HasParity : ℕ → Slot → Type 0
HasParity slot Closed = Unit {0}
HasParity slot Broken = Unit {0}
HasParity slot (Open l) = l.generation % 2 ≡ slot

opened-parity : (slot : ℕ) (bytes : List ℕ) (r : Result Listing ℕ) → slot_reading slot bytes ≡ r
    → HasParity slot (opened r)
opened-parity slot bytes (Err left) is = tt
opened-parity slot bytes (Ok l) is =
    let p = some_from (is_list_of slot l) (1 ∷ body_of l) bytes (reading-found slot_format (slot_writing slot) bytes
    l (list-again slot) is) in
    eqb-true (l.generation % 2) slot (both_true (l.generation % 2 == slot) (is_list l) p.0).0

pub slot_of-parity : (slot : ℕ) (bytes : List ℕ) → HasParity slot (slot_of slot bytes)
slot_of-parity slot bytes = by_test (is_open bytes)
  where
    by_test : (t : Bool) → HasParity slot (if t then opened (slot_reading slot bytes) else Closed)
    by_test true = opened-parity slot bytes (slot_reading slot bytes) refl
    by_test false = tt

-- the slot is closed where it has fewer than two bytes
pub short-closed : (count : ℕ) (bytes : List ℕ) → count ≡ length (take 2 bytes) → (count ≡ 2 → ⊥)
    → is_open bytes ≡ false
short-closed count [] is other = refl
short-closed count (gate ∷ []) is other = refl
short-closed count (gate ∷ b ∷ body) is other = absurd (other is)
