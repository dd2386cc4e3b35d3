-- Phrases in order: the first place of each leaves most room for the next.
use Rattle.std.proofs.Common.{◌≡◌, ◌<◌, ◌≤◌, ℕ, suc, ◌+◌, ◌-◌, Bool, true, false, ◌&&◌, List, [], ◌∷◌, length, refl}
use Rattle.std.proofs.Common.{sym, ap}
use Rattle.std.proofs.Common.{◌∙◌, Option, cond, drop, drop-cons, add-one, get_or, arith, ⊎_elim}
use Rattle.std.proofs.lemmas.Bool.{cases_lt, false_from_ne_true}
use Rattle.std.specs.List.{list_any, range_with_len}
use Rattle.log_model.specs.Field.{is_empty}
use Rattle.log_model.specs.Words.{stands_at}
use Rattle.lq_ast.specs.Phrases.{in_order}
use Rattle.word_tokens.specs.Search.{FindsFirst}
use Rattle.word_tokens.proofs.FirstPlace.{any_at, found_in, none_in}

both : (a b : Bool) → (a && b) ≡ true → (a ≡ true) × (b ≡ true)
both true b h = (refl, h)
both false b h = absurd (let bad : ⊥ = cc in bad)

left_false : (a b : Bool) → a ≡ false → (a && b) ≡ false
left_false true b h = absurd (let bad : ⊥ = cc in bad)
left_false false b h = refl

both_true : (a b : Bool) → a ≡ true → b ≡ true → (a && b) ≡ true
both_true a b p q = rw (p, q) refl

module _ (text : List ℕ) where
  -- the phrase stands at a place, and the others in order after it
  abbrev goes_on : List ℕ → List (List ℕ) → ℕ → Bool
  goes_on phrase phrases place = stands_at text phrase place && in_order text (place + length phrase) phrases

  abbrev some_goes_on : List ℕ → List (List ℕ) → ℕ → Bool
  some_goes_on phrase phrases from = list_any (goes_on phrase phrases) (range_with_len from (suc (length text) - from))

  some_earlier : (phrase : List ℕ) (phrases : List (List ℕ)) (a b : ℕ) → a ≤ b → some_goes_on phrase phrases b ≡ true
      → some_goes_on phrase phrases a ≡ true
  some_earlier phrase phrases a b le h =
      let found = found_in (goes_on phrase phrases) b (suc (length text) - b) h in
      any_at (goes_on phrase phrases) a (suc (length text) - a) found.place (omega (arith, found.low))
      (omega (arith, found.low, found.high)) found.passes

  earlier_by : (empty : Bool) (rest_a rest_b here_a here_b : Bool) → (rest_b ≡ true → rest_a ≡ true)
      → (here_b ≡ true → here_a ≡ true) → cond empty rest_b here_b ≡ true → cond empty rest_a here_a ≡ true
  earlier_by true rest_a rest_b here_a here_b r s h = r h
  earlier_by false rest_a rest_b here_a here_b r s h = s h

  -- phrases that stand in order from a place on do so from each earlier one
  pub in_order-earlier : (phrases : List (List ℕ)) (a b : ℕ) → a ≤ b → in_order text b phrases ≡ true
      → in_order text a phrases ≡ true
  in_order-earlier [] a b le h = refl
  in_order-earlier (phrase ∷ phrases) a b le h =
      earlier_by (is_empty phrase) (in_order text a phrases) (in_order text b phrases)
      (some_goes_on phrase phrases a) (some_goes_on phrase phrases b)
      (in_order-earlier phrases a b le) (some_earlier phrase phrases a b le) h

  none_goes_on : (phrase : List ℕ) (phrases : List (List ℕ)) (from : ℕ)
      → FindsFirst (stands_at text phrase) from (length text) Option.None
      → some_goes_on phrase phrases from ≡ false
  none_goes_on phrase phrases from fails = none_in (goes_on phrase phrases) from (suc (length text) - from)
      (λ k low high. left_false _ _ (fails k low (omega arith)))

  first_by : (phrase : List ℕ) (phrases : List (List ℕ)) (from place : ℕ)
      → FindsFirst (stands_at text phrase) from (length text) (Option.Some place)
      → (after : Bool) → in_order text (place + length phrase) phrases ≡ after
      → some_goes_on phrase phrases from ≡ after
  first_by phrase phrases from place found true e =
      any_at (goes_on phrase phrases) from (suc (length text) - from) place found.0 (omega (arith, found.0, found.1))
      (both_true _ _ found.2 e)
  first_by phrase phrases from place found false e = false_from_ne_true _ (λ h.
      let other = found_in (goes_on phrase phrases) from (suc (length text) - from) h in
      let parts = both _ _ other.passes in
      let before : other.place < place → ⊥ = λ lt. let bad : false ≡ true = sym (found.3 other.place other.low lt)
      ∙ parts.0 in (let no_way : ⊥ = cc in no_way) in
      let behind : place ≤ other.place = ⊎_elim (λ lt. absurd (before lt)) (λ ge. ge) (cases_lt other.place place) in
      let still = in_order-earlier phrases (place + length phrase) (other.place + length phrase)
      (omega (arith, behind)) parts.1 in
      let bad : false ≡ true = sym e ∙ still in (let no_way : ⊥ = cc in no_way))

  filled_by : (phrase : List ℕ) → 0 < length phrase → is_empty phrase ≡ false
  filled_by [] filled = absurd (omega arith)
  filled_by (b ∷ bs) filled = false_from_ne_true _ (λ h. let bad : ⊥ = grind arith in bad)

  -- a phrase that is found is passed, and one that is not ends the search
  pub in_order-found : (phrase : List ℕ) (phrases : List (List ℕ)) (from place : ℕ) → 0 < length phrase
      → FindsFirst (stands_at text phrase) from (length text) (Option.Some place)
      → in_order text from (phrase ∷ phrases) ≡ in_order text (place + length phrase) phrases
  in_order-found phrase phrases from place filled found =
      rw (filled_by phrase filled) (first_by phrase phrases from place found _ refl)

  pub in_order-missing : (phrase : List ℕ) (phrases : List (List ℕ)) (from : ℕ) → 0 < length phrase
      → FindsFirst (stands_at text phrase) from (length text) Option.None
      → in_order text from (phrase ∷ phrases) ≡ false
  in_order-missing phrase phrases from filled missing = rw (filled_by phrase filled)
      (none_goes_on phrase phrases from missing)

  pub in_order-empty : (phrase : List ℕ) (phrases : List (List ℕ)) (from : ℕ) → length phrase ≡ 0
      → in_order text from (phrase ∷ phrases) ≡ in_order text from phrases
  in_order-empty [] phrases from empty = refl
  in_order-empty (b ∷ bs) phrases from empty = absurd (omega arith)

-- what a step over one more phrase says of all of them
pub over_one_more : (text : List ℕ) (phrases : List (List ℕ)) (phrase : List ℕ) (from i : ℕ) (answer : Bool)
    → i < length phrases
    → phrase ≡ get_or phrases i phrase → in_order text from (drop i phrases) ≡ in_order text 0 phrases
    → in_order text from (phrase ∷ drop (i + 1) phrases) ≡ answer → answer ≡ in_order text 0 phrases
over_one_more text phrases phrase from i answer below is before step =
    let split : drop i phrases ≡ phrase ∷ drop (i + 1) phrases =
    drop-cons phrases i phrase below ∙ ap (λ p. p ∷ drop (suc i) phrases) (sym is) ∙ rw add-one refl in
    sym step ∙ ap (in_order text from) (sym split) ∙ before
