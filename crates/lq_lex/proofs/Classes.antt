-- The character classes are disjoint.
use Rattle.std.proofs.Common.{◌≡◌, ℕ, zero, suc, ◌+◌, ◌<◌, ◌≤◌, Bool, true, false, not, ◌&&◌, ◌==◌, eqb, nat_lt, List, [], ◌∷◌, refl, sym, subst, ◌⊎◌, inl, inr, arith}
use Rattle.std.specs.Char.{is_whitespace}
use Rattle.std.specs.List.{list_any}
use Rattle.std.proofs.lemmas.Bool.{or_cases, and_parts, eqb-true, ltb-true}
use Rattle.std.specs.Prelude.{codes}
use Rattle.vl_row.specs.Words.{is_word_char}
use Rattle.lq_lex.specs.Lexing.{begins_bare, is_quote, is_mark}
use Rattle.ucd_category.proofs.Computing.{ucd_category}

not_true : (b : Bool) → not b ≡ true → b ≡ false
not_true true e = absurd cc
not_true false e = refl

-- a character of a list whose characters all fail a test
abbrev none_of : (ℕ → Bool) → List ℕ → Bool
none_of test [] = true
none_of test (c ∷ cs) = not (test c) && none_of test cs

fails_of : (test : ℕ → Bool) (c : ℕ) (cs : List ℕ) → none_of test cs ≡ true → list_any (λ d. d == c) cs ≡ true → test c ≡ false
fails_of test c [] none is = absurd cc
fails_of test c (d ∷ ds) none is = by_case (or_cases (eqb d c) (list_any (λ d. d == c) ds) is) (fails_of test c ds (and_parts (not (test d)) (none_of test ds) none).1)
  where
    by_case : (eqb d c ≡ true) ⊎ (list_any (λ d. d == c) ds ≡ true) → (list_any (λ d. d == c) ds ≡ true → test c ≡ false) → test c ≡ false
    by_case (inl h) ih = subst (λ (x : ℕ). test x ≡ false) (eqb-true d c h) (not_true (test d) (and_parts (not (test d)) (none_of test ds) none).0)
    by_case (inr h) ih = ih h

-- a character of a range whose characters all fail a test
abbrev none_from : (ℕ → Bool) → ℕ → ℕ → Bool
none_from test low zero = true
none_from test low (suc n) = not (test low) && none_from test (low + 1) n

fails_from : (test : ℕ → Bool) (c low n : ℕ) → none_from test low n ≡ true → low ≤ c → c < low + n → test c ≡ false
fails_from test c low zero none above below = absurd (omega arith)
fails_from test c low (suc n) none above below = by_case (eqb low c) refl (fails_from test c (low + 1) n (and_parts (not (test low)) (none_from test (low + 1) n) none).1)
  where
    by_case : (b : Bool) → eqb low c ≡ b → (low + 1 ≤ c → c < low + 1 + n → test c ≡ false) → test c ≡ false
    by_case true is ih = subst (λ (x : ℕ). test x ≡ false) (eqb-true low c is) (not_true (test low) (and_parts (not (test low)) (none_from test (low + 1) n) none).0)
    by_case false is ih = grind (arith, eqb-true, ih)

fails_at : (test : ℕ → Bool) (c d : ℕ) → test d ≡ false → eqb c d ≡ true → test c ≡ false
fails_at test c d none is = subst (λ (x : ℕ). test x ≡ false) (sym (eqb-true c d is)) none

fails_between : (test : ℕ → Bool) (c below n above : ℕ) → none_from test (below + 1) n ≡ true → below + 1 + n ≡ above → (nat_lt below c && nat_lt c above) ≡ true → test c ≡ false
fails_between test c below n above none e is =
    let p = and_parts (nat_lt below c) (nat_lt c above) is in
    fails_from test c (below + 1) n none (omega (arith, ltb-true below c p.0)) (omega (arith, ltb-true c above p.1, e))

-- ---- white space

pub space_not_bare : (c : ℕ) → is_whitespace c ≡ true → begins_bare c ≡ false
unfolding is_word_char ucd_category
space_not_bare c is =
    elim (or_cases _ _ is) [
      | inr h ↦ fails_at begins_bare c 12288 refl h
      | inl is ↦
          elim (or_cases _ _ is) [
            | inr h ↦ fails_at begins_bare c 8287 refl h
            | inl is ↦
                elim (or_cases _ _ is) [
                  | inr h ↦ fails_at begins_bare c 8239 refl h
                  | inl is ↦
                      elim (or_cases _ _ is) [
                        | inr h ↦ fails_at begins_bare c 8233 refl h
                        | inl is ↦
                            elim (or_cases _ _ is) [
                              | inr h ↦ fails_at begins_bare c 8232 refl h
                              | inl is ↦
                                  elim (or_cases _ _ is) [
                                    | inr h ↦ fails_between begins_bare c 8191 11 8203 refl refl h
                                    | inl is ↦
                                        elim (or_cases _ _ is) [
                                          | inr h ↦ fails_at begins_bare c 5760 refl h
                                          | inl is ↦
                                              elim (or_cases _ _ is) [
                                                | inr h ↦ fails_at begins_bare c 160 refl h
                                                | inl is ↦
                                                    elim (or_cases _ _ is) [
                                                      | inr h ↦ fails_at begins_bare c 133 refl h
                                                      | inl is ↦
                                                          elim (or_cases _ _ is) [
                                                            | inr h ↦ fails_at begins_bare c 32 refl h
                                                            | inl h ↦ fails_between begins_bare c 8 5 14 refl refl h
                                                          ]
                                                    ]
                                              ]
                                        ]
                                  ]
                            ]
                      ]
                ]
          ]
    ]

-- ---- punctuation marks and quotes

pub mark_not_bare : (c : ℕ) → is_mark c ≡ true → begins_bare c ≡ false
unfolding is_word_char ucd_category
mark_not_bare c is = fails_of begins_bare c (codes "|()[]{},:=!~*<>-+") refl is

pub mark_not_quote : (c : ℕ) → is_mark c ≡ true → is_quote c ≡ false
mark_not_quote c is = fails_of is_quote c (codes "|()[]{},:=!~*<>-+") refl is

pub mark_not_space : (c : ℕ) → is_mark c ≡ true → is_whitespace c ≡ false
mark_not_space c is = fails_of is_whitespace c (codes "|()[]{},:=!~*<>-+") refl is

by_quote : (test : ℕ → Bool) (c : ℕ) → test 34 ≡ false → test 39 ≡ false → test 96 ≡ false → is_quote c ≡ true → test c ≡ false
by_quote test c one two three is =
    elim (or_cases _ _ is) [
      | inl h ↦ fails_at test c 34 one h
      | inr is ↦ elim (or_cases _ _ is) [ inl h ↦ fails_at test c 39 two h | inr h ↦ fails_at test c 96 three h ]
    ]

pub quote_not_bare : (c : ℕ) → is_quote c ≡ true → begins_bare c ≡ false
unfolding is_word_char ucd_category
quote_not_bare c is = by_quote begins_bare c refl refl refl is

pub quote_not_space : (c : ℕ) → is_quote c ≡ true → is_whitespace c ≡ false
quote_not_space c is = by_quote is_whitespace c refl refl refl is

pub quote_not_backslash : (c : ℕ) → is_quote c ≡ true → eqb 92 c ≡ false
quote_not_backslash c is = by_quote (λ (x : ℕ). eqb 92 x) c refl refl refl is

pub bare_not_space : (c : ℕ) → begins_bare c ≡ true → is_whitespace c ≡ false
bare_not_space c is = by_case (is_whitespace c) refl
  where
    clash : begins_bare c ≡ false → ⊥
    clash e = absurd cc

    by_case : (b : Bool) → is_whitespace c ≡ b → is_whitespace c ≡ false
    by_case true e = absurd (clash (space_not_bare c e))
    by_case false e = e
