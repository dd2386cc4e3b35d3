-- Names: the parser reports the first flaw of a text, with at most `depth` nested names.
use Rattle.std.proofs.Common.{◌≡◌, ℕ, zero, suc, true, false, List, [], ◌∷◌, length, Err, refl, sym, ap}
use Rattle.std.proofs.Common.{◌∙◌, ◌⊎◌, inl, inr}
use Rattle.std.proofs.lemmas.Bool.{cond-true}
use Rattle.grammar.specs.Rule.{Token, Class, next, has, Rule}
use Rattle.grammar.specs.Spelling.{Flaw, too_deep, place, Named, FlawIn, FlawInside}
use Rattle.grammar.specs.Reading.{stuck, flawed, read, read_name}
use Rattle.grammar.proofs.Sets.{inside}
use Rattle.grammar.proofs.Table.{more, fits}
use Rattle.grammar.proofs.Sound.{chosen}
use Rattle.grammar.proofs.Names.{starts_at, sound_name, known_at}
use Rattle.grammar.proofs.Flaws.{stopped, not_stuck, same_flaw, sound_flaw, StopsAt, later, complete_flaw}
use Rattle.grammar.proofs.Spans.{spans_at, flaw_stands_in}

module _ {X F N V : Type 0} (heads : N → Class) (rules : N → Rule X F N V V) where
  -- the text has the flaw that the parser reports
  pub sound_names : (depth : ℕ) (n : N) (flaw : Flaw F × ℕ) (u : List (Token X))
      → read_name heads rules depth n u ≡ stopped flaw → FlawInside heads rules depth n flaw u
  unfolding read_name
  sound_names zero n flaw u e =
      by_case (chosen (next (heads n) u) (Err (flawed too_deep (place u))) (Err (stuck (length u))) (stopped flaw) e)
    where
      by_case : ((next (heads n) u ≡ true) × (stopped {X = X} {A = V} (too_deep, place u) ≡ stopped flaw))
          ⊎ ((next (heads n) u ≡ false) × (Err (stuck (length u)) ≡ stopped {X = X} {A = V} flaw))
          → FlawInside heads rules zero n flaw u
      by_case (inl h) = (h.0, sym (same_flaw {X = X} {A = V} (too_deep, place u) flaw h.1))
      by_case (inr h) = absurd (not_stuck {X = X} {A = V} (length u) flaw h.1)
  sound_names (suc depth) n flaw [] e = absurd (not_stuck {X = X} {A = V} 0 flaw e)
  sound_names (suc depth) n flaw (t ∷ ts) e =
      by_case
      (chosen (has (heads n) t) (read heads (read_name heads rules depth) (rules n) ts) (Err (stuck (suc (length ts))))
      (stopped flaw) e)
      (sound_flaw heads (Named heads rules depth) (FlawInside heads rules depth) (read_name heads rules depth)
      (sound_name heads rules depth) (sound_names depth) (rules n) flaw ts)
    where
      by_case : ((has (heads n) t ≡ true) × (read heads (read_name heads rules depth) (rules n) ts ≡ stopped flaw))
          ⊎ ((has (heads n) t ≡ false) × (Err (stuck (suc (length ts))) ≡ stopped {X = X} {A = V} flaw))
          → (read heads (read_name heads rules depth) (rules n) ts ≡ stopped flaw
          → FlawIn (Named heads rules depth) (FlawInside heads rules depth) (rules n) flaw ts)
          → FlawInside heads rules (suc depth) n flaw (t ∷ ts)
      by_case (inl h) behind = (t, ts, refl, h.0, behind h.1)
      by_case (inr h) behind = absurd (not_stuck {X = X} {A = V} (suc (length ts)) flaw h.1)

  flaw_starts : (depth : ℕ) (n : N) (flaw : Flaw F × ℕ) (u : List (Token X)) → FlawInside heads rules depth n flaw u
      → next (heads n) u ≡ true
  flaw_starts zero n flaw u s = s.0
  flaw_starts (suc depth) n flaw u (t, m, parts, head, s) = ap (next (heads n)) parts ∙ head

  module _ (ends shuts : N → Class) (sample : Class → Token X) (fit : (n : N) → fits heads ends (rules n) ≡ true)
      (ends_in : (n : N) → inside (more false heads ends (rules n)) (ends n) ≡ true) where
    abbrev NamesComplete : ℕ → Type 0
    NamesComplete depth = (n : N) (flaw : Flaw F × ℕ) (u : List (Token X)) → FlawInside heads rules depth n flaw u
        → StopsAt (read_name heads rules depth n u) flaw u

    -- the parser reports a flaw of the text, or another one before it
    pub complete_at : {A : Type 0} (e : Rule X F N V A) → fits heads ends e ≡ true → (depth : ℕ) → NamesComplete depth
        → (flaw : Flaw F × ℕ) (u : List (Token X))
        → FlawIn (Named heads rules depth) (FlawInside heads rules depth) e flaw u
        → StopsAt (read heads (read_name heads rules depth) e u) flaw u
    complete_at e f depth names flaw u s =
        complete_flaw heads (Named heads rules depth) (FlawInside heads rules depth) ends
        (λ n r u w s. starts_at heads rules s.0 depth n r u w s.1)
        (λ n r u w s. spans_at heads rules ends fit (starts_at heads rules) s.0 depth n r u w s.1) (flaw_starts depth)
        (flaw_stands_in heads rules ends fit (starts_at heads rules) depth) (read_name heads rules depth)
        (λ n r u w s clear. known_at heads rules ends shuts sample fit ends_in s.0 depth n r u w s.1 clear) names e f
        flaw u s

    pub complete_names : (depth : ℕ) → NamesComplete depth
    unfolding read_name
    complete_names zero n flaw u (is, same) = (
      flaw,
      cond-true (next (heads n) u) (Err (flawed too_deep (place u))) (Err (stuck (length u))) is
          ∙ ap (λ (k : Flaw F × ℕ). stopped k) (sym same),
      inl refl,
    )
    complete_names (suc depth) n flaw u (t, m, parts, head, s) =
        let c = complete_at (rules n) (fit n) depth (complete_names depth) flaw m s in (
          c.0,
          ap (read_name heads rules (suc depth) n) parts
              ∙ cond-true (has (heads n) t) (read heads (read_name heads rules depth) (rules n) m)
              (Err (stuck (suc (length m)))) head ∙ c.1,
          later c.0 flaw u (t ∷ []) m parts c.2,
        )
