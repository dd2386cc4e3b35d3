-- A format within a window of bytes.
use Rattle.std.proofs.Common.{◌≡◌, ℕ, zero, suc, ◌+◌, ◌-◌, ◌<◌, ◌≤◌, Bool, true, false, eqb, leb, List}
use Rattle.std.proofs.Common.{◌++◌, length, take, drop, Result, Ok, Err, refl, sym, ap, ◌∙◌, arith, inl, inr}
use Rattle.std.specs.Prelude.{◌&&◌}
use Rattle.std.proofs.lemmas.Bool.{cases_lt, cases_Bool, and_cases, and_from, and_left, and_right, le-leb, lt-leb}
use Rattle.std.proofs.lemmas.Bool.{both_ways, eqb-true, false_from_ne_true}
use Rattle.std.proofs.lemmas.List.{length-take, length-drop, length-append, drop-drop, take_at, drop_at, take-take}
use Rattle.byte_format.specs.Format.{Format, value, item, Size, exactly, size_in, item_in, behind, is_good}
use Rattle.byte_format.specs.Format.{front, whole}
use Rattle.byte_format.specs.Windows.{inside}
use Rattle.byte_format.specs.Gives.{Stops}
use Rattle.byte_format.specs.declared.Stop.{Stop}
use Rattle.byte_format.specs.declared.Stop.TheVariants as stops
use Rattle.byte_format.proofs.Readings.{good-parts, good-made, bad-short, bad-form, whole-good, whole-bad}
use Rattle.byte_format.proofs.Cuts.{cut-item, size-short, size-cut}

-- What reading a window gives of all bytes, of which k and these are after it.
abbrev pub with_rest : {A : Type 0} → ℕ → List ℕ → Result A ℕ → Result (A × List ℕ) ℕ
with_rest k rest (Ok x) = Ok (x, rest)
with_rest k rest (Err left) = Err (left + k)

-- What reading all bytes gives, if the window is longer.
abbrev pub cut_off : {A : Type 0} → Result A ℕ → Result (A × List ℕ) ℕ
cut_off (Ok x) = Err 0
cut_off (Err left) = Err left

abbrev pub fits : ℕ → (List ℕ → Bool) → List ℕ → Bool
fits n form bytes = leb (length bytes) n && form bytes

pub front-good : {A : Type 0} (size : Size) (form : List ℕ → Bool) (next : List ℕ → Format A) (b : List ℕ)
    → is_good size form b ≡ true → front (item size form next) b ≡ front (next (item_in size b)) (behind size b)
front-good size form next b good = rw good refl

pub front-bad : {A : Type 0} (size : Size) (form : List ℕ → Bool) (next : List ℕ → Format A) (b : List ℕ)
    → is_good size form b ≡ false → front (item size form next) b ≡ Err (length b)
front-bad size form next b bad = rw bad refl

length-item : (size : Size) (b : List ℕ) → size_in size b ≤ length b → length (item_in size b) ≡ size_in size b
length-item size b le = omega (arith, length-take (size_in size b) b)

-- the item is whole and has its form, in the window too
inner-good : (size : Size) (form : List ℕ → Bool) (n : ℕ) (b : List ℕ) → is_good size form b ≡ true
    → size_in size b ≤ n → is_good size (fits n form) b ≡ true
inner-good size form n b good le =
    let p = good-parts size form b good in
    good-made size (fits n form) b p.0 (and_from (leb (length (item_in size b)) n) (form (item_in size b))
    (le-leb (length (item_in size b)) n (omega (arith, length-item size b p.0, le))) p.1)

-- ---- a window within the bytes

value-window : {A : Type 0} (x : A) (n : ℕ) (b : List ℕ) → n ≤ length b
    → front (inside n (value x)) b ≡ with_rest (length b - n) (drop n b) (whole (value x) (take n b))
value-window x zero b le = refl
value-window {A = A} x (suc n) b le =
    let some : eqb (suc n) 0 ≡ false = false_from_ne_true (eqb (suc n) 0) (λ e. omega (arith, eqb-true (suc n) 0 e)) in
    let long : length (take (suc n) b) ≡ suc n = omega (arith, length-take (suc n) b) in
    let none : eqb (length (take (suc n) b)) 0 ≡ false = false_from_ne_true (eqb (length (take (suc n) b)) 0) (λ e.
    omega (arith, eqb-true (length (take (suc n) b)) 0 e, long)) in
    let all : length (take (suc n) b) + (length b - suc n) ≡ length b = omega (arith, long) in
    let stop : with_rest (length b - suc n) (drop (suc n) b) (whole (value x) (take (suc n) b)) ≡ Err (length b) =
    rw (none, all) refl in
    let bad = bad-form (exactly 0) (λ bytes. false) b refl in
    rw some (front-bad (exactly 0) (λ bytes. false) (λ bytes. value x) b bad) ∙ sym stop

both-bad : {A : Type 0} (size : Size) (form : List ℕ → Bool) (next : List ℕ → Format A) (n : ℕ) (b : List ℕ)
    → n ≤ length b → is_good size (fits n form) b ≡ false → is_good size form (take n b) ≡ false
    → front (inside n (item size form next)) b
    ≡ with_rest (length b - n) (drop n b) (whole (item size form next) (take n b))
both-bad {A = A} size form next n b le outer inner =
    let all : length (take n b) + (length b - n) ≡ length b = omega (arith, length-take n b) in
    front-bad size (fits n form) (λ bytes. inside (n - length bytes) (next bytes)) b outer
    ∙ sym (ap (with_rest (length b - n) (drop n b)) (whole-bad size form next (take n b) inner)
    ∙ ap (λ (k : ℕ). Err k) all)

-- an item that does not fit the window
outer-long : (size : Size) (form : List ℕ → Bool) (n : ℕ) (b : List ℕ) → n < size_in size b
    → is_good size (fits n form) b ≡ false
outer-long size form n b lt =
    elim (cases_lt (length b) (size_in size b)) [
      | inl short ↦ bad-short size (fits n form) b short
      | inr le ↦
          bad-form size (fits n form) b (and_left (leb (length (item_in size b)) n) (form (item_in size b))
          (lt-leb (length (item_in size b)) n (omega (arith, length-item size b le, lt))))
    ]

outer-bad : (size : Size) (form : List ℕ → Bool) (n : ℕ) (b : List ℕ) → is_good size form b ≡ false
    → is_good size (fits n form) b ≡ false
outer-bad size form n b bad =
    elim (and_cases (leb (size_in size b) (length b)) (form (item_in size b)) bad) [
      | inl short ↦ and_left (leb (size_in size b) (length b)) (fits n form (item_in size b)) short
      | inr unfit ↦
          bad-form size (fits n form) b (and_right (leb (length (item_in size b)) n) (form (item_in size b)) unfit)
    ]

inner-bad : (size : Size) (form : List ℕ → Bool) (n : ℕ) (b : List ℕ) → size_in size b ≤ n → n ≤ length b
    → is_good size form b ≡ false → is_good size form (take n b) ≡ false
inner-bad size form n b small le bad =
    elim (and_cases (leb (size_in size b) (length b)) (form (item_in size b)) bad) [
      | inl short ↦
          absurd (both_ways (leb (size_in size b) (length b)) short (le-leb (size_in size b) (length b)
          (omega (arith, small, le))))
      | inr unfit ↦
          let head : item_in size (take n b) ≡ item_in size b = ap (λ (k : ℕ). take k (take n b))
          (size-cut size b n small) ∙ take-take (size_in size b) n b small in
          bad-form size form (take n b) (ap form head ∙ unfit)
    ]

-- Reading a format in a window of n bytes is reading all of the next n bytes.
pub window : {A : Type 0} (f : Format A) (n : ℕ) (b : List ℕ) → n ≤ length b
    → front (inside n f) b ≡ with_rest (length b - n) (drop n b) (whole f (take n b))
window (value x) n b le = value-window x n b le
window (item size form next) n b le =
    elim (cases_lt n (size_in size b)) [
      | inl long ↦
          both-bad size form next n b le (outer-long size form n b long)
          (bad-short size form (take n b) (size-short size b n long))
      | inr small ↦
          elim (cases_Bool (is_good size form b)) [
            | inl good ↦
                let len = length-item size b (good-parts size form b good).0 in
                let tail = behind size b in
                let inner = next (item_in size b) in
                let long = length-drop (size_in size b) b in
                let sum : size_in size b + (n - size_in size b) ≡ n = omega (arith, small) in
                let ends : drop (n - size_in size b) (behind size b) ≡ drop n b =
                drop-drop (n - size_in size b) (size_in size b) b ∙ ap (λ (k : ℕ). drop k b) sum in
                front-good size (fits n form) (λ bytes. inside (n - length bytes) (next bytes)) b
                (inner-good size form n b good small)
                ∙ ap (λ (k : ℕ). front (inside (n - k) (next (item_in size b))) (behind size b)) len
                ∙ window (next (item_in size b)) (n - size_in size b) (behind size b) (omega (arith, long, le, small))
                ∙ ap (λ (k : ℕ). with_rest k (drop (n - size_in size b) (behind size b)) (whole (next (item_in size b))
                (take (n - size_in size b) (behind size b))))
                (omega (arith, long, le, small))
                ∙ ap (λ (l : List ℕ). with_rest (length b - n) l (whole (next (item_in size b))
                (take (n - size_in size b) (behind size b)))) ends
                ∙ ap (with_rest (length b - n) (drop n b)) (sym (cut-item size form next b n small le good))
            | inr bad ↦
                both-bad size form next n b le (outer-bad size form n b bad) (inner-bad size form n b small le bad)
          ]
    ]

-- what stands in a window is read, whatever comes after it
pub window-again : {A : Type 0} (f : Format A) (bytes rest : List ℕ) (x : A) → whole f bytes ≡ Ok x
    → front (inside (length bytes) f) (bytes ++ rest) ≡ Ok (x, rest)
window-again f bytes rest x read =
    let first : take (length bytes) (bytes ++ rest) ≡ bytes = take_at bytes rest (length bytes) refl in
    let last : drop (length bytes) (bytes ++ rest) ≡ rest = drop_at bytes rest (length bytes) refl in
    let le : length bytes ≤ length (bytes ++ rest) = omega (arith, length-append bytes rest) in
    window f (length bytes) (bytes ++ rest) le
    ∙ ap (λ (l : List ℕ). with_rest (length (bytes ++ rest) - length bytes) (drop (length bytes) (bytes ++ rest))
    (whole f l)) first
    ∙ ap (with_rest (length (bytes ++ rest) - length bytes) (drop (length bytes) (bytes ++ rest))) read
    ∙ ap (λ (l : List ℕ). Ok (x, l)) last

-- ---- a window that is longer than the bytes

value-short : {A : Type 0} (x : A) (n : ℕ) (b : List ℕ) → length b < n
    → front (inside n (value x)) b ≡ cut_off (whole (value x) b)
value-short {A = A} x n b lt =
    let some : eqb n 0 ≡ false = false_from_ne_true (eqb n 0) (λ e. omega (arith, eqb-true n 0 e, lt)) in
    let bad = bad-form (exactly 0) (λ bytes. false) b refl in
    let l : front (inside n (value x)) b ≡ Err (length b) = rw some (front-bad (exactly 0) (λ bytes. false)
    (λ bytes. value x) b bad) in
    let r : cut_off (whole (value x) b) ≡ Err (length b) =
    elim (cases_Bool (eqb (length b) 0)) [
      | inl nil ↦ let z = eqb-true (length b) 0 nil in rw nil (ap (λ (k : ℕ). Err k) (sym z))
      | inr more ↦ rw more refl
    ] in
    l ∙ sym r

pub short-window : {A : Type 0} (f : Format A) (n : ℕ) (b : List ℕ) → length b < n
    → front (inside n f) b ≡ cut_off (whole f b)
short-window (value x) n b lt = value-short x n b lt
short-window {A = A} (item size form next) n b lt =
    elim (cases_Bool (is_good size form b)) [
      | inl good ↦
          let le = (good-parts size form b good).0 in
          let len = length-item size b le in
          front-good size (fits n form) (λ bytes. inside (n - length bytes) (next bytes)) b
          (inner-good size form n b good (omega (arith, le, lt)))
          ∙ ap (λ (k : ℕ). front (inside (n - k) (next (item_in size b))) (behind size b)) len
          ∙ short-window (next (item_in size b)) (n - size_in size b) (behind size b)
          (omega (arith, length-drop (size_in size b) b, le, lt))
          ∙ ap cut_off (sym (whole-good size form next b good))
      | inr bad ↦
          front-bad size (fits n form) (λ bytes. inside (n - length bytes) (next bytes)) b (outer-bad size form n b bad)
          ∙ sym (ap cut_off (whole-bad size form next b bad))
    ]

-- ---- the cases of a reader of a window

pub read-window : {A : Type 0} (f : Format A) (n : ℕ) (b inner rest : List ℕ) (x : A) → n ≤ length b
    → inner ≡ take n b → rest ≡ drop n b → whole f inner ≡ Ok x → front (inside n f) b ≡ Ok (x, rest)
read-window f n b inner rest x le first last read =
    window f n b le ∙ ap (with_rest (length b - n) (drop n b)) (ap (whole f) (sym first) ∙ read)
    ∙ ap (λ (l : List ℕ). Ok (x, l)) (sym last)

pub stopped-window : {A : Type 0} (f : Format A) (n : ℕ) (b inner rest : List ℕ) (left : ℕ) → n ≤ length b
    → inner ≡ take n b → rest ≡ drop n b → whole f inner ≡ Err left
    → front (inside n f) b ≡ Err (left + length rest)
stopped-window {A = A} f n b inner rest left le first last stop =
    let count : length b - n ≡ length rest = omega (arith, length-drop n b, ap length last) in
    window f n b le ∙ ap (with_rest (length b - n) (drop n b)) (ap (whole f) (sym first) ∙ stop)
    ∙ ap (λ (k : ℕ). Err (left + k)) count

pub stops-short : {A : Type 0} (e : Stop) (f : Format A) (n : ℕ) (b : List ℕ) → length b < n → Stops e (whole f b)
    → Stops e (front (inside n f) b)
stops-short stops.Memory f n b lt s = tt
stops-short (stops.Left left) f n b lt s = short-window f n b lt ∙ ap cut_off s

pub cut-window : {A : Type 0} (f : Format A) (n : ℕ) (b : List ℕ) (x : A) → length b < n → whole f b ≡ Ok x
    → front (inside n f) b ≡ Err 0
cut-window f n b x lt read = short-window f n b lt ∙ ap cut_off read
