-- Phrases in order.
use Rattle.std.proofs.Common.{◌≡◌, ◌<◌, ◌≤◌, ℕ, suc, ◌+◌, ◌-◌, Bool, true, false, ◌&&◌, cond, List, [], ◌∷◌, length, drop, get_or}
use Rattle.std.proofs.Common.{refl, sym, ap, ◌∙◌, arith, take}
use Rattle.std.proofs.lemmas.Bool.{false_from_ne_true}
use Rattle.std.proofs.lemmas.List.{take_all}
use Rattle.std.specs.Bool.{◌==◌}
use Rattle.std.specs.List.{list_any, range_with_len}
use Rattle.log_model.specs.Field.{is_empty}
use Rattle.log_model.specs.Words.{stands_at}
use Rattle.lq_ast.specs.Phrases.{in_order}
use Rattle.word_tokens.proofs.FirstPlace.{any_at, none_in}

-- what follows the first item
pub rest_after_first : {A : Type 0} (xs : List A) → take (length xs - 1) (drop 1 xs) ≡ drop 1 xs
rest_after_first [] = take_all 0 [] (omega arith)
rest_after_first (x ∷ xs) = take_all (length (x ∷ xs) - 1) xs (omega arith)

filled : (text : List ℕ) → (length text == 0) ≡ false → is_empty text ≡ false
filled [] e = absurd (let bad : ⊥ = cc in bad)
filled (b ∷ bs) e = false_from_ne_true _ (λ h. let bad : ⊥ = grind arith in bad)

both : (a b : Bool) → a ≡ true → b ≡ true → (a && b) ≡ true
both a b p q = rw (p, q) refl

-- a phrase at a position, and the others in order after it
abbrev goes_on : List ℕ → List ℕ → List (List ℕ) → ℕ → Bool
goes_on value text rest k = stands_at value text k && in_order value (k + length text) rest

module _ (value : List ℕ) (phrases rest : List (List ℕ)) (item text : List ℕ) (from : ℕ) (some : 1 ≤ length phrases)
    (first : item ≡ get_or phrases 0 item) (same : text ≡ item) (behind : rest ≡ drop 1 phrases)
    (full : (length text == 0) ≡ false) where
  split : (phrases : List (List ℕ)) → 1 ≤ length phrases → item ≡ get_or phrases 0 item → rest ≡ drop 1 phrases
      → in_order value from phrases
      ≡ cond (is_empty text) (in_order value from rest)
      (list_any (goes_on value text rest) (range_with_len from (suc (length value) - from)))
  split [] some first behind = absurd (omega arith)
  split (p ∷ ps) some first behind =
      ap (λ p. in_order value from (p ∷ ps)) (sym first ∙ sym same)
      ∙ ap (λ ps. in_order value from (text ∷ ps)) (sym behind)

  unfolded : in_order value from phrases
      ≡ list_any (goes_on value text rest) (range_with_len from (suc (length value) - from))
  unfolded =
      split phrases some first behind
      ∙ ap (λ t. cond t (in_order value from rest)
      (list_any (goes_on value text rest) (range_with_len from (suc (length value) - from)))) (filled text full)

  pub order_found : (place : ℕ) → from ≤ place → place < length value + 1 → stands_at value text place ≡ true
      → in_order value (place + length text) rest ≡ true → in_order value from phrases ≡ true
  order_found place low high stands others =
      unfolded
      ∙ any_at (goes_on value text rest) from (suc (length value) - from) place low (omega arith)
      (both _ _ stands others)

  pub order_missing : (end : ℕ) → length value + 1 ≤ end
      → ((k : ℕ) → from ≤ k → k < end → (stands_at value text k && in_order value (k + length text) rest) ≡ false)
      → in_order value from phrases ≡ false
  order_missing end all fails =
      unfolded
      ∙ none_in (goes_on value text rest) from (suc (length value) - from)
      (λ k low high. fails k low (omega (arith, high, all)))
