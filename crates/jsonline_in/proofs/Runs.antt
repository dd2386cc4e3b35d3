-- A run of plain bytes, seen sixteen bytes at a time through the mask of those that end it.
use Rattle.std.proofs.Common.{◌≡◌, ℕ, suc, ◌+◌, ◌*◌, ◌%◌, ◌^◌, ◌<◌, ◌≤◌, Bool, true, false, not, cond, eqb, ltb, List}
use Rattle.std.proofs.Common.{[], ◌∷◌, map, length, drop, replicate, bit_or, Fits, w8, refl, sym, ap, ap₂, ◌∙◌, arith}
use Rattle.std.specs.List.{prefix_len}
use Rattle.std.proofs.lemmas.Bool.{agree_below_at, eq-eqb, ne_eqb, cond-true, cond-false}
use Rattle.std.proofs.lemmas.List.{length-map}
use Rattle.std.proofs.lemmas.List.Folds.{prefix_len-append}
use Rattle.std.proofs.lemmas.Simd.{chunk-drop, length-chunk, zip2_splat, zip2_of_maps, mask_l-mod, first_set_mask_l}
use lib.Lanes.{chunk, mask_l, zip2, top, Each1}
use lib.Count.{count_trailing_zeros}
use Rattle.log_model.specs.Json.{is_plain}
use Rattle.jsonline_in.specs.Reading.{is_stop}

-- ---- the mask

abbrev hit : ℕ → ℕ → ℕ
hit a b = cond (eqb a b) 255 0

abbrev below : ℕ → ℕ → ℕ
below a b = cond (ltb a b) 255 0

abbrev lane : ℕ → ℕ
lane x = bit_or (bit_or (hit x 34) (hit x 92)) (below x 32)

each_stop : (v : List ℕ) → Each1 (Fits w8) v → map (top 7) (map lane v) ≡ map is_stop v
each_stop [] fits = refl
each_stop (x ∷ xs) fits = ap₂ (λ a b. a ∷ b) (agree_below_at (λ y. top 7 (lane y)) is_stop 256 x refl fits.0.fits)
    (each_stop xs fits.1)

pub stops_mask : (v : List ℕ) → length v ≡ 16 → Each1 (Fits w8) v
    → mask_l (map (top 7) (zip2 bit_or (zip2 bit_or (zip2 hit v (replicate 16 34)) (zip2 hit v (replicate 16 92)))
    (zip2 below v (replicate 16 32)))) % 2 ^ 64 ≡ mask_l (map is_stop v)
stops_mask v long fits =
    let quotes = zip2_of_maps bit_or (λ x. hit x 34) (λ x. hit x 92) v (zip2_splat hit v 16 34 long)
    (zip2_splat hit v 16 92 long) in
    let all = zip2_of_maps bit_or (λ x. bit_or (hit x 34) (hit x 92)) (λ x. below x 32) v quotes
    (zip2_splat below v 16 32 long) in
    ap (λ z. mask_l (map (top 7) z) % 2 ^ 64) all ∙ ap (λ ms. mask_l ms % 2 ^ 64) (each_stop v fits)
    ∙ mask_l-mod (map is_stop v) 64 (omega (arith, length-map v is_stop))

-- ---- a step of sixteen bytes

same_run : (xs : List ℕ) → prefix_len (λ x. not (is_stop x)) xs ≡ prefix_len is_plain xs
same_run [] = refl
same_run (x ∷ xs) = ap₂ (λ b n. cond b (1 + n) 0) (twice (is_plain x)) (same_run xs)
  where
    twice : (b : Bool) → not (not b) ≡ b
    twice true = refl
    twice false = refl

step : (d : List ℕ) (i : ℕ) → i + 16 ≤ length d → prefix_len is_plain (drop i d) ≡ cond
    (eqb (prefix_len is_plain (chunk i 16 d)) 16) (16 + prefix_len is_plain (drop (i + 16) d))
    (prefix_len is_plain (chunk i 16 d))
step d i room =
    ap (prefix_len is_plain) (chunk-drop i 16 d) ∙ prefix_len-append is_plain (chunk i 16 d) (drop (i + 16) d)
    ∙ ap (λ n. cond (eqb (prefix_len is_plain (chunk i 16 d)) n) (n + prefix_len is_plain (drop (i + 16) d))
    (prefix_len is_plain (chunk i 16 d))) (length-chunk i 16 d room)

counted : (d : List ℕ) (i : ℕ) → i + 16 ≤ length d → cond (eqb (mask_l (map is_stop (chunk i 16 d))) 0) 16
    (count_trailing_zeros 64 (mask_l (map is_stop (chunk i 16 d)))) ≡ prefix_len is_plain (chunk i 16 d)
counted d i room = first_set_mask_l is_stop (chunk i 16 d) 16 (length-chunk i 16 d room) (omega arith)
    ∙ same_run (chunk i 16 d)

pub run_through : (d : List ℕ) (i found : ℕ) → i + 16 ≤ length d → found ≡ mask_l (map is_stop (chunk i 16 d))
    → found ≡ 0 → prefix_len is_plain (drop i d) ≡ 16 + prefix_len is_plain (drop (i + 16) d)
run_through d i found room is none =
    let all : prefix_len is_plain (chunk i 16 d) ≡ 16 = sym (counted d i room)
    ∙ cond-true _ _ _ (eq-eqb _ _ (sym is ∙ none)) in
    step d i room ∙ cond-true _ _ _ (eq-eqb _ _ all)

no_stop : (plain : Bool) (n l m : ℕ) → cond plain (1 + n) 0 ≡ suc l → (n ≡ l → m ≡ 0) → cond (not plain) 1 0 + 2 * m ≡ 0
no_stop true n l m e others = let none = others (omega arith) in omega arith
no_stop false n l m e others = absurd (omega arith)

all_pass : (xs : List ℕ) → prefix_len is_plain xs ≡ length xs → mask_l (map is_stop xs) ≡ 0
all_pass [] e = refl
all_pass (x ∷ xs) e = no_stop (is_plain x) (prefix_len is_plain xs) (length xs) (mask_l (map is_stop xs)) e
    (all_pass xs)

pub run_stops : (d : List ℕ) (i found : ℕ) → i + 16 ≤ length d → found ≡ mask_l (map is_stop (chunk i 16 d))
    → 0 < found → prefix_len is_plain (drop i d) ≡ count_trailing_zeros 64 found
run_stops d i found room is some =
    let n : prefix_len is_plain (chunk i 16 d) ≡ count_trailing_zeros 64 found = sym (counted d i room)
    ∙ cond-false _ _ _ (ne_eqb _ _ (λ (e : mask_l (map is_stop (chunk i 16 d)) ≡ 0). omega arith))
    ∙ ap (count_trailing_zeros 64) (sym is) in
    let early : eqb (prefix_len is_plain (chunk i 16 d)) 16 ≡ false = ne_eqb _ _
    (λ (e : prefix_len is_plain (chunk i 16 d) ≡ 16). omega
    (arith, all_pass (chunk i 16 d) (e ∙ sym (length-chunk i 16 d room)))) in
    step d i room ∙ cond-false _ _ _ early ∙ n
