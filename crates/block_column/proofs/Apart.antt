-- Texts that differ, counted by the slots that they take.
use mir.Val.{bool_byte}
use Rattle.std.proofs.Common.{◌≡◌, ℕ, zero, suc, ◌+◌, ◌<◌, ◌≤◌, Bool, true, false, not, List, [], ◌∷◌, length, map, take}
use Rattle.std.proofs.Common.{get_or, set, inl, inr, refl, sym, ap, ◌∙◌, arith}
use Rattle.std.specs.Prelude.{◌||◌, bytes_eq}
use Rattle.std.specs.BTreeSet.{insert_key}
use Rattle.std.specs.List.{list_all}
use Rattle.std.specs.Ordering.{match_ordering}
use Rattle.std.specs.declared.cmp.Ordering.{Ordering}
use Rattle.std.specs.declared.cmp.Ordering.TheVariants.{Less, Equal, Greater}
use Rattle.std.proofs.lemmas.Bool.{cases_Bool}
use Rattle.std.proofs.lemmas.List.{get_or-set_same}
use Rattle.std.proofs.lemmas.Map.Lookups.{exact_bytes}
use Rattle.std.proofs.lemmas.Slice.Eq.{bytes_eq-Decides}
use Rattle.byte_format.proofs.Cases.{both_true}
use Rattle.log_model.specs.Field.{bytes_cmp}
use Rattle.block_model.specs.Distinct.{distinct, is_listed}
use Rattle.block_model.specs.Tags.{has_slot, slot_of}
use Rattle.block_model.proofs.Distinct.{distinct-more, fold-longer, one-text-more}
use Rattle.block_model.proofs.Same.{distinct-listed, each-listed}

pub neither : (a b : Bool) → (a || b) ≡ false → (a ≡ false) × (b ≡ false)
neither true b e = absurd cc
neither false b e = (refl, e)

-- one that was not there makes them one more
put-other : (key : List ℕ) (keys : List (List ℕ)) → is_listed keys key ≡ false
    → length (insert_key bytes_cmp keys key) ≡ length keys + 1
put-other key [] e = refl
put-other key (k ∷ ks) e =
    by (bytes_cmp key k) refl (put-other key ks (neither (bytes_eq key k) (is_listed ks key) e).1)
  where
    by : (o : Ordering) → bytes_cmp key k ≡ o → length (insert_key bytes_cmp ks key) ≡ length ks + 1
        → length (match_ordering o (key ∷ k ∷ ks) (k ∷ ks) (k ∷ insert_key bytes_cmp ks key)) ≡ length (k ∷ ks) + 1
    by Less c later = omega arith
    by Equal c later =
        let same : bytes_eq key k ≡ true = (bytes_eq-Decides key k).1 (exact_bytes key k c) in
        absurd (let no : true ≡ false = sym same ∙ (neither (bytes_eq key k) (is_listed ks key) e).0 in cc)
    by Greater c later = omega (arith, later)

still-taken : (taken : List Bool) (i j : ℕ) → get_or taken j false ≡ true → get_or (set taken i true) j false ≡ true
still-taken [] i j e = absurd cc
still-taken (t ∷ ts) zero zero e = refl
still-taken (t ∷ ts) zero (suc j) e = e
still-taken (t ∷ ts) (suc i) zero e = e
still-taken (t ∷ ts) (suc i) (suc j) e = still-taken ts i j e

all-still-taken : (taken : List Bool) (i : ℕ) (texts : List (List ℕ)) → list_all (has_slot taken) texts ≡ true
    → list_all (has_slot (set taken i true)) texts ≡ true
all-still-taken taken i [] e = refl
all-still-taken taken i (t ∷ ts) e =
    let parts = both_true (has_slot taken t) (list_all (has_slot taken) ts) e in
    rw (still-taken taken i (slot_of t) parts.0) (all-still-taken taken i ts parts.1)

-- a text whose slot none has taken is another
one-more-apart : {X : Type 0} (f : X → List ℕ) (taken : List Bool) (xs : List X) (i : ℕ) (d : X) → i < length xs
    → list_all (has_slot taken) (map f (take i xs)) ≡ true → has_slot taken (f (get_or xs i d)) ≡ false
    → length (distinct (map f (take (i + 1) xs))) ≡ length (distinct (map f (take i xs))) + 1
one-more-apart f taken xs i d lt all free =
    ap length (distinct-more f xs i d lt)
    ∙ put-other (f (get_or xs i d)) (distinct (map f (take i xs))) (distinct-listed (f (get_or xs i d)) (map f (take i xs))
    ∙ elim (cases_Bool (is_listed (map f (take i xs)) (f (get_or xs i d)))) [
      | inl there ↦
          let slot = each-listed (has_slot taken) (f (get_or xs i d)) (map f (take i xs)) all there in
          absurd (let no : true ≡ false = sym slot ∙ free in cc)
      | inr none ↦ none
    ])

-- At least as many texts are apart as slots are taken, and one more if another slot was free.
pub count-on : {X : Type 0} (f : X → List ℕ) (taken : List Bool) (xs : List X) (i : ℕ) (d : X) (count : ℕ) (free : Bool)
    → i < length xs → list_all (has_slot taken) (map f (take i xs)) ≡ true
    → count ≤ length (distinct (map f (take i xs))) → free ≡ not (has_slot taken (f (get_or xs i d)))
    → count + bool_byte free ≤ length (distinct (map f (take (i + 1) xs)))
count-on f taken xs i d count free lt all so_far e =
    rw e (by (has_slot taken (f (get_or xs i d))) refl)
  where
    more : List (List ℕ)
    more = distinct (map f (take (i + 1) xs))

    by : (slot : Bool) → has_slot taken (f (get_or xs i d)) ≡ slot → count + bool_byte (not slot) ≤ length more
    by true h =
        rw (distinct-more f xs i d lt) (omega (
          arith,
          so_far,
          fold-longer (f (get_or xs i d) ∷ []) (distinct (map f (take i xs))),
        ))
    by false h = omega (arith, so_far, one-more-apart f taken xs i d lt all h)

-- The slots of the first ones are taken, and that of one more is taken then.
pub one-more-taken : {X : Type 0} (f : X → List ℕ) (taken : List Bool) (xs : List X) (i : ℕ) (d : X) → i < length xs
    → list_all (has_slot taken) (map f (take i xs)) ≡ true → slot_of (f (get_or xs i d)) < length taken
    → list_all (has_slot (set taken (slot_of (f (get_or xs i d))) true)) (map f (take (i + 1) xs)) ≡ true
one-more-taken f taken xs i d lt all in_it =
    let slot = slot_of (f (get_or xs i d)) in
    one-text-more f (has_slot (set taken slot true)) xs i d lt
    (all-still-taken taken slot (map f (take i xs)) all)
    (get_or-set_same taken slot true false in_it)
