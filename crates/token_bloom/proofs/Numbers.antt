-- Filters as bytes.
use Rattle.std.proofs.Common.{◌≡◌, ℕ, ◌+◌, ◌*◌, ◌<◌, List, [], ◌∷◌, ◌++◌, length, get_or}
use Rattle.std.proofs.Common.{take, drop, Ok, refl, sym, ap, subst, ◌∙◌, arith, inl, inr}
use Rattle.std.specs.Int.{w64, to_le_bytes}
use Rattle.std.specs.List.{flat_map}
use Rattle.std.proofs.lemmas.Bool.{cases_lt}
use Rattle.std.proofs.lemmas.List.{append-nil, nil_from_length, length-append, length-take, take-append-drop}
use Rattle.std.proofs.lemmas.List.{get_or-drop, get_or-take, get_or_past}
use Rattle.std.proofs.lemmas.List.Concat.{flat_map-cons}
use Rattle.std.proofs.lemmas.Nat.{le_bytes_8}
use Rattle.byte_format.specs.Format.{front, many}
use Rattle.byte_format.specs.Items.{number}
use Rattle.byte_format.proofs.Texts.{number-read}
use Rattle.byte_format.proofs.Turns.{many-spelled, many-length}
use Rattle.token_bloom.specs.Filter.{filter_bytes}

abbrev AreBytes : List ℕ → Type 0
AreBytes b = (i : ℕ) → get_or b i 0 < 256

small-take : (n : ℕ) (b : List ℕ) → AreBytes b → AreBytes (take n b)
small-take n b small i =
    elim (cases_lt i n) [
      | inl lt ↦ subst (λ (k : ℕ). k < 256) (sym (get_or-take n b i 0 lt)) (small i)
      | inr le ↦ subst (λ (k : ℕ). k < 256) (sym (get_or_past (take n b) i 0 (omega (arith, length-take n b))))
          (omega arith)
    ]

small-drop : (n : ℕ) (b : List ℕ) → AreBytes b → AreBytes (drop n b)
small-drop n b small i = subst (λ (k : ℕ). k < 256) (sym (get_or-drop n b i 0)) (small (n + i))

one-spelled : (b r : List ℕ) (n : ℕ) → AreBytes b → front (number w64) b ≡ Ok (n, r)
    → (b ≡ to_le_bytes w64 n ++ r) × AreBytes r
one-spelled b r n small e =
    let p = number-read w64 n b r e in
    let bytes : to_le_bytes w64 n ≡ take 8 b = le_bytes_8 (take 8 b) n (omega (arith, length-take 8 b, p.0))
    (small-take 8 b small) (sym p.1) in (
      sym (take-append-drop 8 b) ∙ ap (λ (l : List ℕ). l ++ drop 8 b) (sym bytes)
          ∙ ap (λ (l : List ℕ). to_le_bytes w64 n ++ l) p.2,
      subst AreBytes p.2 (small-drop 8 b small),
    )

words-length : (ws : List ℕ) → length (flat_map (to_le_bytes w64) ws) ≡ 8 * length ws
words-length [] = refl
words-length (w ∷ ws) =
    omega (
      arith,
      ap length (flat_map-cons (to_le_bytes w64) w ws),
      length-append (to_le_bytes w64 w) (flat_map
          (to_le_bytes w64) ws),
      words-length ws,
    )

pub filter-read : (n : ℕ) (b filter rest : List ℕ) → AreBytes b → length b ≡ 8 * n
    → front (many n (number w64)) b ≡ Ok (filter, rest)
    → (length filter ≡ n) × (b ≡ filter_bytes filter)
filter-read n b filter rest small len e =
    let count = many-length (number w64) n b (filter, rest) e in
    let all = many-spelled (number w64) (to_le_bytes w64) AreBytes one-spelled n b (filter, rest) small e in
    let none : rest ≡ [] = nil_from_length rest (omega (
      arith,
      len,
      count,
      ap length all,
      length-append
          (filter_bytes filter) rest,
      words-length filter,
    )) in
    (count, all ∙ ap (λ (l : List ℕ). filter_bytes filter ++ l) none ∙ append-nil (filter_bytes filter))
