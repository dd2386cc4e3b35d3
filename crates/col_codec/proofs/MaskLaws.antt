-- Marks of the integers between two bounds.
use Rattle.std.proofs.Common.{◌≡◌, ℕ, suc, ◌+◌, ◌<◌, ◌≤◌, min, true, false, leb, List, [], ◌∷◌, ◌++◌, Bool}
use Rattle.std.proofs.Common.{length, map, take, drop, get_or, set, replicate, refl, sym, ap, ◌∙◌, append_assoc, arith}
use Rattle.std.proofs.Common.{ℤ, ◌≤ℤ◌, ◌<ℤ◌, int_le}
use Rattle.std.proofs.lemmas.Bool.Decides.{nat_tests}
use Rattle.std.proofs.lemmas.Int.{ints}
use Rattle.std.proofs.lemmas.List.{drop_more, length-map, length-take, map_more, set_at}
use Rattle.col_codec.specs.Between.{above, is_between, is_number_between}
use Rattle.col_codec.specs.Lanes.{sum_of}

-- ---- one mark more

pub marked-more : (f : ℕ → Bool) (ns : List ℕ) (old now : List Bool) (i : ℕ) (mark : Bool) → i < length ns
    → length old ≡ length ns → now ≡ map f (take i ns) ++ drop i old → mark ≡ f (get_or ns i 0)
    → set now i mark ≡ map f (take (i + 1) ns) ++ drop (i + 1) old
marked-more f ns old now i mark lt len so_far is =
    let front = map f (take i ns) in
    let long : length front ≡ i = length-map (take i ns) f ∙ omega (arith, length-take i ns) in
    let parts : now ≡ front ++ get_or old i mark ∷ drop (i + 1) old = so_far
    ∙ ap (λ l. front ++ l) (drop_more old i mark (omega (arith, len, lt))) in
    ap (λ l. set l i mark) parts ∙ set_at front _ _ mark i long ∙ sym (append_assoc front (mark ∷ []) _)
    ∙ ap (λ l. l ++ drop (i + 1) old) (ap (λ b. front ++ b ∷ []) is ∙ sym (map_more f ns i 0 lt))

-- ---- tests that agree

pub same-marks : (f g : ℕ → Bool) (ns : List ℕ) → ((k : ℕ) → k < length ns → f (get_or ns k 0) ≡ g (get_or ns k 0))
    → map f ns ≡ map g ns
same-marks f g [] h = refl
same-marks f g (n ∷ ns) h =
    ap (λ b. b ∷ map f ns) (h 0 (omega arith))
    ∙ ap (λ l. g n ∷ l) (same-marks f g ns (λ k lt. h (suc k) (omega (arith, lt))))

pub no-marks : (f : ℕ → Bool) (ns : List ℕ) → ((k : ℕ) → k < length ns → f (get_or ns k 0) ≡ false)
    → map f ns ≡ replicate (length ns) false
no-marks f [] h = refl
no-marks f (n ∷ ns) h =
    ap (λ b. b ∷ map f ns) (h 0 (omega arith))
    ∙ ap (λ l. false ∷ l) (no-marks f ns (λ k lt. h (suc k) (omega (arith, lt))))

-- ---- bounds that are cut to a width

pub too-low : (low high n : ℕ) → n < low → is_number_between low high n ≡ false
too-low low high n lt = grind (arith, nat_tests)

pub capped : (low high most n : ℕ) → n ≤ most
    → is_number_between low (min high most) n ≡ is_number_between low high n
capped low high most n le = grind (arith, nat_tests)

-- ---- bounds that are moved

yes : (a b : ℤ) → a ≤ℤ b → int_le a b ≡ true
yes a b le = grind (arith, ints)

no : (a b : ℤ) → b <ℤ a → int_le a b ≡ false
no a b lt = grind (arith, ints)

low-moved : (least low : ℤ) (n : ℕ) → int_le low (sum_of least n) ≡ leb (above least low) n
low-moved least low n = grind (arith, ints, nat_tests)

high-moved : (least high : ℤ) (n : ℕ) → least ≤ℤ high → int_le (sum_of least n) high ≡ leb n (above least high)
high-moved least high n le = grind (arith, ints, nat_tests)

pub moved : (low high least : ℤ) (ns : List ℕ) → least ≤ℤ high
    → map (is_between low high) (map (sum_of least) ns)
    ≡ map (is_number_between (above least low) (above least high)) ns
moved low high least [] le = refl
moved low high least (n ∷ ns) le =
    rw (low-moved least low n, high-moved least high n le, moved low high least ns le) refl

pub none-between : (low high least : ℤ) (ns : List ℕ) → high <ℤ least
    → map (is_between low high) (map (sum_of least) ns) ≡ replicate (length ns) false
none-between low high least [] lt = refl
none-between low high least (n ∷ ns) lt =
    let one : is_between low high (sum_of least n) ≡ false = grind (arith, ints) in
    rw (one, none-between low high least ns lt) refl
