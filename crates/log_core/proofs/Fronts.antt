-- The parts that hold the first batches of a history.
use Rattle.std.proofs.Common.{◌≡◌, ◌≤◌, ◌+◌, ◌-◌, zero, suc, ℕ, List, [], ◌∷◌, ◌++◌, length, take, drop, arith, sym, ap}
use Rattle.std.proofs.Common.{refl, subst, ◌∙◌, length-append}
use Rattle.std.specs.List.{flat_map}
use Rattle.std.specs.List.Sorted.{IsPermutation}
use Rattle.std.proofs.lemmas.List.{drop-take, length-map, length-take-le, take-map, take-take}
use Rattle.log_model.specs.Batches.{AreOf}
use Rattle.log_model.specs.Core.{Contents, HoldsEach, Stands, count_of, held_limit, parts_of}
use Rattle.log_model.specs.History.{History, Numbered, batches_in, entry_rows, numbered}
use Rattle.log_model.proofs.Joining.{parts_are_of}
use Rattle.log_model.specs.Core.{AreFront}
use Rattle.log_core.specs.Settled.{AreWhole}
use Rattle.log_core.proofs.Standing.{have_rows}

HoldsEach-take : {P : Type 0} (rows : P → List Numbered) (k n : ℕ) (parts : List P) (entries : History)
    → HoldsEach rows n parts entries → HoldsEach rows n (take k parts) (take k entries)
HoldsEach-take rows zero n parts entries each = tt
HoldsEach-take rows (suc k) n [] [] each = tt
HoldsEach-take rows (suc k) n (p ∷ ps) (x ∷ xs) each = (each.0, HoldsEach-take rows k (suc n) ps xs each.1)
HoldsEach-take rows (suc k) n [] (x ∷ xs) each = absurd each
HoldsEach-take rows (suc k) n (p ∷ ps) [] each = absurd each

-- What is held of the first batches alone.
abbrev first_held : {P : Type 0} → Contents P → ℕ → Contents P
first_held held k = record { settled = held.settled; days = held.days; unsettled = take k held.unsettled }

stands_first : {P : Type 0} (rows : P → List Numbered) (held : Contents P) (front k : ℕ) (history : History)
    → Stands rows held history → front ≡ held.settled + k → front ≤ length history
    → Stands rows (first_held held k) (take front history)
stands_first rows held front k history stands is within =
    let counted = stands.counted in
    let few = stands.few in
    let short : k ≤ length held.unsettled = omega arith in
    let taken : length (take k held.unsettled) ≡ k = length-take-le k held.unsettled short in
    let long : length (take front history) ≡ front = length-take-le front history within in
    record {
      counted = omega arith;
      few = omega arith;
      days = subst (λ entries. IsPermutation (flat_map rows held.days) (numbered entries))
          (sym (take-take held.settled front history (omega arith))) stands.days;
      unsettled = subst (HoldsEach rows held.settled (take k held.unsettled))
          (sym (drop-take held.settled k history) ∙ ap (λ n. drop held.settled (take n history)) (sym is))
          (HoldsEach-take rows k held.settled held.unsettled (drop held.settled history) stands.unsettled);
    }

-- The day parts and the first of the others are the parts of a front.
pub front_parts : {P : Type 0} (rows : P → List Numbered) (held : Contents P) (front k : ℕ) (history : History)
    → Stands rows held history → front ≡ held.settled + k → front ≤ length history
    → AreFront rows held front (held.days ++ take k held.unsettled)
front_parts rows held front k history stands is within = (
  history,
  stands,
  within,
  subst (AreOf rows (held.days ++ take k held.unsettled)) (sym (take-map entry_rows front history))
      (parts_are_of rows (first_held held k) (take front history)
      (stands_first rows held front k history stands is within)),
)

take-right : {X : Type 0} (xs ys : List X) (n k : ℕ) → n ≡ length xs + k → take n (xs ++ ys) ≡ xs ++ take k ys
take-right [] ys n k is = ap (λ m. take m ys) (omega arith)
take-right (x ∷ xs) ys zero k is = absurd (omega arith)
take-right (x ∷ xs) ys (suc n) k is = ap (λ rest. x ∷ rest) (take-right xs ys n k (omega arith))

-- So are the first parts of a look, as long as all day parts are among them.
pub are_front : {P : Type 0} (rows : P → List Numbered) (held : Contents P) (front n : ℕ) (days : List P)
    (history : History) → Stands rows held history → held.settled ≤ front → front ≤ length history
    → n + (count_of held - front) ≡ length (parts_of held) → days ≡ take n (parts_of held)
    → AreFront rows held front days
are_front rows held front n days history stands up within long same =
    let counted = stands.counted in
    let both = length-append held.days held.unsettled in
    let k = front - held.settled in
    let at : n ≡ length held.days + k = omega arith in
    subst (AreFront rows held front) (sym (same ∙ take-right held.days held.unsettled n k at))
    (front_parts rows held front k history stands (omega arith) within)

-- All parts together are the parts of all batches.
pub are_whole : {P : Type 0} (rows : P → List Numbered) (held : Contents P) (days : List P) (history : History)
    → Stands rows held history → days ≡ parts_of held → AreWhole rows (count_of held) days
are_whole rows held days history stands same = (
  batches_in history,
  length-map history entry_rows ∙ sym stands.counted,
  have_rows history,
  subst (λ parts. AreOf rows parts (batches_in history)) (sym same) (parts_are_of rows held history stands),
)
