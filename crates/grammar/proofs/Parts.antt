-- The tests of a composite rule, split into the tests of its parts.
use Rattle.std.proofs.Common.{◌≡◌, true, false, not, ◌&&◌}
use Rattle.std.proofs.lemmas.Bool.{and_parts}
use Rattle.grammar.specs.Rule.{Class, Rule}
use Rattle.grammar.specs.Reading.{nullable, first}
use Rattle.grammar.proofs.Sets.{apart, not_true}
use Rattle.grammar.proofs.Table.{more, none, fits}

module _ {X F N V : Type 0} (heads ends : N → Class) where
  abbrev pub Fits : {A : Type 0} → Rule X F N V A → Type 0
  Fits e = fits heads ends e ≡ true

  abbrev pub Last : {A : Type 0} → Rule X F N V A → Class
  Last e = more false heads ends e

  -- sequences
  pub both_fits : {A B : Type 0} (a : Rule X F N V A) (b : Rule X F N V B)
      → (fits heads ends a && (fits heads ends b && apart (Last a) (first heads b))) ≡ true
      → Fits a × Fits b × (apart (Last a) (first heads b) ≡ true)
  both_fits a b fit =
      let k = and_parts (fits heads ends a) (fits heads ends b && apart (Last a) (first heads b)) fit in
      let l = and_parts (fits heads ends b) (apart (Last a) (first heads b)) k.1 in
      (k.0, l.0, l.1)

  -- choices
  pub either_fits : {A : Type 0} (a b : Rule X F N V A)
      → (fits heads ends a && (fits heads ends b && (not (nullable a) && apart (first heads a) (first heads b)))) ≡ true
      → Fits a × Fits b × (apart (first heads a) (first heads b) ≡ true)
  either_fits a b fit =
      let distinct = not (nullable a) && apart (first heads a) (first heads b) in
      let k = and_parts (fits heads ends a) (fits heads ends b && distinct) fit in
      let l = and_parts (fits heads ends b) distinct k.1 in
      (k.0, l.0, (and_parts (not (nullable a)) (apart (first heads a) (first heads b)) l.1).1)

  -- repetitions
  pub many_fits : {A : Type 0} (a : Rule X F N V A)
      → (fits heads ends a && (not (nullable a) && apart (Last a) (first heads a))) ≡ true
      → Fits a × (nullable a ≡ false) × (apart (Last a) (first heads a) ≡ true)
  many_fits a fit =
      let k = and_parts (fits heads ends a) (not (nullable a) && apart (Last a) (first heads a)) fit in
      let l = and_parts (not (nullable a)) (apart (Last a) (first heads a)) k.1 in
      (k.0, not_true (nullable a) l.0, l.1)

  -- checked values
  pub checked_fits : {A : Type 0} (a : Rule X F N V A)
      → (fits heads ends a && (not (nullable a) && none (Last a))) ≡ true
      → Fits a × (nullable a ≡ false) × (none (Last a) ≡ true)
  checked_fits a fit =
      let k = and_parts (fits heads ends a) (not (nullable a) && none (Last a)) fit in
      let l = and_parts (not (nullable a)) (none (Last a)) k.1 in
      (k.0, not_true (nullable a) l.0, l.1)
