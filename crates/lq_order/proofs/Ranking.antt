-- Numbers for keys in order that are compared as the keys.
use Rattle.std.proofs.Common.{◌≡◌, ℕ, ◌+◌, ◌-◌, ◌<◌, ◌≤◌, ◌≢◌, Bool, true, false, ◌&&◌, not, cond, List}
use Rattle.std.proofs.Common.{[]}
use Rattle.std.proofs.Common.{map, length, get_or, ltb, Bor, refl, sym, ap, subst, ◌∙◌, arith, inl, inr}
use Rattle.std.proofs.Math.ListN.{length-set, set}
use Rattle.std.proofs.lemmas.Bool.{cases_lt}
use Rattle.std.proofs.lemmas.Bool.Decides.{nat_tests}
use Rattle.std.proofs.lemmas.List.{get_or-map, get_or_default, get_or-set_other, get_or-set_same, length-map}
use Rattle.std.specs.Cmp.{IsTotalOrder, alike_right, nat_cmp_total, on_total, tied_itself}
use Rattle.std.specs.List.{enumerate_from, slice_index}
use Rattle.std.specs.Ordering.{is_eq, is_gt, nat_cmp, on, ordering_reverse}
use Rattle.std.specs.declared.cmp.Ordering.{Ordering}
use Rattle.std.specs.declared.cmp.Ordering.TheVariants.{Equal, Greater, Less}
use Rattle.log_model.specs.Order.{Key, key_cmp, key_of, other, value_cmp}
use Rattle.lq_ast.proofs.Sorted.{equal_from, less_from, rises_at, rises_sorted}
use Rattle.lq_ast.specs.Tuples.{sorted_by}
use Rattle.lq_order.specs.Mirror.{Mirrors}
use Rattle.lq_order.specs.Ranks.{entry, keyed_of, next_rank}
use Rattle.lq_order.specs.declared.ranks.Keyed.{Keyed}
use Rattle.lq_order.proofs.Places.{placed_all, placed_apart, placed_each, placed_length}
use Rattle.vl_row.specs.KeyOrder.{key_cmp_total}

-- Keys in order, each with a place of its own.
pub record IsPlacing (entries : List (ℕ × Key)) : Type 0 where
  pub up : (i j : ℕ) → i ≤ j → j < length entries → is_gt (key_cmp (entry entries i).1 (entry entries j).1) ≡ false
  pub inside : (k : ℕ) → k < length entries → (entry entries k).0 < length entries
  pub apart : (i j : ℕ) → i < j → j < length entries → (entry entries i).0 ≢ (entry entries j).0

-- The first n entries have ranks, of which the last is this one.
pub record AreRanked (entries : List (ℕ × Key)) (ranks : List ℕ) (i rank : ℕ) : Type 0 where
  pub long : length ranks ≡ length entries
  pub low : rank ≤ i - 1
  pub last : 0 < i → get_or ranks (entry entries (i - 1)).0 0 ≡ rank
  pub most : (j : ℕ) → j < i → get_or ranks (entry entries j).0 0 ≤ rank
  pub alike : (j k : ℕ) → j ≤ k → k < i
      → nat_cmp (get_or ranks (entry entries j).0 0) (get_or ranks (entry entries k).0 0)
      ≡ key_cmp (entry entries j).1 (entry entries k).1

pub ranked_none : (entries : List (ℕ × Key)) (ranks : List ℕ) → length ranks ≡ length entries
    → AreRanked entries ranks 0 0
ranked_none entries ranks long = record {
  long = long;
  low = omega arith;
  last = λ h. absurd (omega arith);
  most = λ j h. absurd (omega arith);
  alike = λ j k up h. absurd (omega arith);
}

before : (x y z : Key) (o : Ordering) → key_cmp x y ≡ o → is_gt o ≡ false → key_cmp y z ≡ Less → key_cmp x z ≡ Less
before x y z Less e g l = key_cmp_total.trans x y z e l
before x y z Equal e g l = key_cmp_total.congr x y z e ∙ l
before x y z Greater e g l = absurd cc

nat_less : (a b : ℕ) → a < b → nat_cmp a b ≡ Less
nat_less a b h = grind (arith, nat_tests)

module _ (entries : List (ℕ × Key)) (ranks : List ℕ) (i rank : ℕ) (placing : IsPlacing entries)
    (ranked : AreRanked entries ranks i rank) (within : i < length entries) where
  place : ℕ → ℕ
  place k = (entry entries k).0

  key : ℕ → Key
  key k = (entry entries k).1

  -- how the earlier keys stand to the one at i, by a rank for it
  Fits : ℕ → Type 0
  Fits next = (rank ≤ next) × (next ≤ i)
      × ((j : ℕ) → j < i → nat_cmp (get_or ranks (entry entries j).0 0) next
      ≡ key_cmp (entry entries j).1 (entry entries i).1)

  fits_first : i ≡ 0 → Fits rank
  unfolding Fits
  fits_first e = (omega arith, omega (arith, ranked.low), λ j h. absurd (omega arith))

  fits_tied : 0 < i → is_eq (key_cmp (entry entries (i - 1)).1 (entry entries i).1) ≡ true → Fits rank
  unfolding Fits
  fits_tied some tied = (
    omega arith,
    omega (arith, ranked.low),
    λ j h.
        ap (nat_cmp (get_or ranks (entry entries j).0 0)) (sym (ranked.last some))
        ∙ ranked.alike j (i - 1) (omega arith) (omega arith)
        ∙ alike_right key_cmp_total (entry entries (i - 1)).1 (entry entries i).1 (entry entries j).1
        (equal_from _ tied),
  )

  fits_apart : 0 < i → is_eq (key_cmp (entry entries (i - 1)).1 (entry entries i).1) ≡ false → Fits i
  unfolding Fits
  fits_apart some apart = (
    omega (arith, ranked.low),
    omega arith,
    λ j h.
        nat_less _ i (omega (arith, ranked.low, ranked.most j h))
        ∙ sym (before (entry entries j).1 (entry entries (i - 1)).1 (entry entries i).1 _ refl
        (placing.up j (i - 1) (omega arith) (omega arith))
        (less_from _ (placing.up (i - 1) i (omega arith) within) apart)),
  )

  fits : Fits (next_rank entries i rank)
  fits = elim (ltb 0 i) as (λ t. ltb 0 i ≡ t
      → Fits (cond (t && not (is_eq (key_cmp (entry entries (i - 1)).1 (entry entries i).1))) i rank)) [
        | true ↦ λ some. at (is_eq (key_cmp (entry entries (i - 1)).1 (entry entries i).1)) refl
            (grind (arith, nat_tests))
        | false ↦ λ none. fits_first (grind (arith, nat_tests))
      ] refl
    where
      at : (t : Bool) → is_eq (key_cmp (entry entries (i - 1)).1 (entry entries i).1) ≡ t → 0 < i
          → Fits (cond (not t) i rank)
      at true tied some = fits_tied some tied
      at false apart some = fits_apart some apart

  kept : (next j : ℕ) → j < i → get_or (set ranks (entry entries i).0 next) (entry entries j).0 0
      ≡ get_or ranks (entry entries j).0 0
  kept next j h = get_or-set_other ranks (entry entries i).0 (entry entries j).0 next 0 (placing.apart j i h within)

  written : (next : ℕ) → get_or (set ranks (entry entries i).0 next) (entry entries i).0 0 ≡ next
  written next = get_or-set_same ranks (entry entries i).0 next 0
      (omega (arith, placing.inside i within, ranked.long))

  ranked_by : (next : ℕ) → Fits next → AreRanked entries (set ranks (entry entries i).0 next) (i + 1) next
  unfolding Fits
  ranked_by next fit = record {
    long = length-set ranks (entry entries i).0 next ∙ ranked.long;
    low = omega (arith, fit.1);
    last = λ some. let same : i + 1 - 1 ≡ i = omega arith in rw same (written next);
    most = λ j h. elim (cases_lt j i) [
      | inl below ↦ rw (kept next j below) (omega (arith, fit.0, ranked.most j below))
      | inr above ↦ let same : i ≡ j = omega arith in subst
          (λ k. get_or (set ranks (entry entries i).0 next) (entry entries k).0 0 ≤ next) same
          (rw (written next) (omega arith))
    ];
    alike = λ j k up h. elim (cases_lt k i) [
      | inl below ↦ let earlier : j < i = omega arith in rw (kept next j earlier, kept next k below)
          (ranked.alike j k up below)
      | inr above ↦ let same : i ≡ k = omega arith in subst
          (λ n. nat_cmp (get_or (set ranks (entry entries i).0 next) (entry entries j).0 0)
          (get_or (set ranks (entry entries i).0 next) (entry entries n).0 0)
          ≡ key_cmp (entry entries j).1 (entry entries n).1) same (to_last j up same)
    ];
  }
    where
      to_last : (j : ℕ) → {k : ℕ} → j ≤ k → i ≡ k
          → nat_cmp (get_or (set ranks (entry entries i).0 next) (entry entries j).0 0)
          (get_or (set ranks (entry entries i).0 next) (entry entries i).0 0)
          ≡ key_cmp (entry entries j).1 (entry entries i).1
      to_last j up same = elim (cases_lt j i) [
        | inl below ↦ rw (kept next j below, written next) (fit.2 j below)
        | inr above ↦ let is : i ≡ j = omega arith in subst
            (λ n. nat_cmp (get_or (set ranks (entry entries i).0 next) (entry entries n).0 0)
            (get_or (set ranks (entry entries i).0 next) (entry entries i).0 0)
            ≡ key_cmp (entry entries n).1 (entry entries i).1) is
            (tied_itself nat_cmp_total (get_or (set ranks (entry entries i).0 next) (entry entries i).0 0)
            ∙ sym (tied_itself key_cmp_total (entry entries i).1))
      ]

  pub ranked_more : AreRanked entries (set ranks (entry entries i).0 (next_rank entries i rank)) (i + 1)
      (next_rank entries i rank)
  ranked_more = ranked_by (next_rank entries i rank) fits

-- the same by the entry and by the number that the code has
pub ranked_step : (entries : List (ℕ × Key)) (ranks : List ℕ) (i rank next : ℕ) (e : ℕ × Key) → IsPlacing entries
    → AreRanked entries ranks i rank → i < length entries → entry entries i ≡ e → next ≡ next_rank entries i rank
    → AreRanked entries (set ranks e.0 next) (i + 1) next
ranked_step entries ranks i rank next e placing ranked within at is =
    rw (is, sym at) (ranked_more entries ranks i rank placing ranked within)

pub keyed_entry : (items : List Keyed) (i : ℕ) (one : Keyed) → i < length items → one ≡ get_or items i one
    → entry (map keyed_of items) i ≡ keyed_of one
keyed_entry items i one within is = get_or-map keyed_of items i one (0, other []) within ∙ ap keyed_of (sym is)

-- ---- the keys in order

turned : (a b : ℕ) (x y : Key) → nat_cmp b a ≡ key_cmp y x → nat_cmp a b ≡ key_cmp x y
turned a b x y e = nat_cmp_total.antisymm a b ∙ ap ordering_reverse e ∙ sym (key_cmp_total.antisymm x y)

by_key_total : IsTotalOrder (on (λ (p : ℕ × Key). p.1) key_cmp)
by_key_total = on_total (λ p. p.1) key_cmp_total

module _ (keys : List Key) where
  pub placing_sorted : IsPlacing (sorted_by (on (λ p. p.1) key_cmp) (enumerate_from 0 keys))
  placing_sorted =
      let by_key = on (λ (p : ℕ × Key). p.1) key_cmp in
      let none : ℕ × Key = (0, other []) in
      let rises = rises_sorted by_key by_key_total (enumerate_from 0 keys) in
      let length_is = placed_length by_key keys in
      record {
        up = λ i j up within. rises_at by_key by_key_total _ rises i j none up within;
        inside = λ k within. let each = placed_each by_key keys k none within in omega (arith, length_is, each.0);
        apart = λ i j up within. placed_apart by_key keys i j none up within;
      }

  -- numbers for all entries are compared as the keys
  module _ (ranks : List ℕ) (n rank : ℕ) (whole : n
      ≡ length (sorted_by (on (λ p. p.1) key_cmp) (enumerate_from 0 keys)))
      (ranked : AreRanked (sorted_by (on (λ p. p.1) key_cmp) (enumerate_from 0 keys)) ranks n rank) where
    either : (i j : ℕ) → i < n → j < n
        → nat_cmp (get_or ranks (entry (sorted_by (on (λ p. p.1) key_cmp) (enumerate_from 0 keys)) i).0 0)
        (get_or ranks (entry (sorted_by (on (λ p. p.1) key_cmp) (enumerate_from 0 keys)) j).0 0)
        ≡ key_cmp (entry (sorted_by (on (λ p. p.1) key_cmp) (enumerate_from 0 keys)) i).1
        (entry (sorted_by (on (λ p. p.1) key_cmp) (enumerate_from 0 keys)) j).1
    either i j inside_i inside_j = elim (cases_lt j i) [
      | inl below ↦ turned
          (get_or ranks (entry (sorted_by (on (λ p. p.1) key_cmp) (enumerate_from 0 keys)) i).0 0)
          (get_or ranks (entry (sorted_by (on (λ p. p.1) key_cmp) (enumerate_from 0 keys)) j).0 0)
          (entry (sorted_by (on (λ p. p.1) key_cmp) (enumerate_from 0 keys)) i).1
          (entry (sorted_by (on (λ p. p.1) key_cmp) (enumerate_from 0 keys)) j).1
          (ranked.alike j i (omega arith) inside_i)
      | inr above ↦ ranked.alike i j above inside_j
    ]

    pub mirrors_keys : Mirrors (on (slice_index ranks) nat_cmp) key_cmp keys
    mirrors_keys = record {
      same = λ i j d inside_i inside_j.
          let by_key = on (λ (p : ℕ × Key). p.1) key_cmp in
          let at_i = placed_all by_key keys i d inside_i in
          let at_j = placed_all by_key keys j d inside_j in
          let entry_i = get_or_default (sorted_by by_key (enumerate_from 0 keys)) at_i.0 (0, other [])
          (i, get_or keys i d) at_i.1 ∙ at_i.2 in
          let entry_j = get_or_default (sorted_by by_key (enumerate_from 0 keys)) at_j.0 (0, other [])
          (j, get_or keys j d) at_j.1 ∙ at_j.2 in
          let is = either at_i.0 at_j.0 (omega (arith, whole, at_i.1)) (omega (arith, whole, at_j.1)) in
          rw (entry_i, entry_j) at is;
    }

pub mirrors_texts : (order : ℕ → ℕ → Ordering) (texts : List (Bor (List ℕ)))
    → Mirrors order key_cmp (map (λ text. key_of text.now) texts)
    → Mirrors order value_cmp (map (λ text. text.now) texts)
unfolding value_cmp
mirrors_texts order texts m = record {
  same = λ i j d inside_i inside_j.
      let none : Bor (List ℕ) = record { ref_ptr = (0, 0); now = d } in
      let key = λ (text : Bor (List ℕ)). key_of text.now in
      let at_i : i < length texts = omega (arith, length-map texts (λ (text : Bor (List ℕ)). text.now)) in
      let at_j : j < length texts = omega (arith, length-map texts (λ (text : Bor (List ℕ)). text.now)) in
      let is = m.same i j (other []) (omega (arith, length-map texts key)) (omega (arith, length-map texts key)) in
      rw (
        get_or-map (λ (text : Bor (List ℕ)). text.now) texts i none d at_i,
        get_or-map
            (λ (text : Bor (List ℕ)). text.now) texts j none d at_j,
      )
      (rw (get_or-map key texts i none (other []) at_i, get_or-map key texts j none (other []) at_j) at is);
}

pub placing_of : (entries : List (ℕ × Key)) (keys : List Key)
    → entries ≡ sorted_by (on (λ p. p.1) key_cmp) (enumerate_from 0 keys) → IsPlacing entries
placing_of entries keys is = subst IsPlacing (sym is) (placing_sorted keys)

pub mirrors_of : (entries : List (ℕ × Key)) (texts : List (Bor (List ℕ))) (ranks : List ℕ) (n rank : ℕ)
    → entries ≡ sorted_by (on (λ p. p.1) key_cmp) (enumerate_from 0 (map (λ text. key_of text.now) texts))
    → n ≡ length entries → AreRanked entries ranks n rank
    → Mirrors (on (slice_index ranks) nat_cmp) value_cmp (map (λ text. text.now) texts)
mirrors_of entries texts ranks n rank is whole ranked =
    mirrors_texts (on (slice_index ranks) nat_cmp) texts
    (mirrors_keys (map (λ text. key_of text.now) texts) ranks n rank (whole ∙ ap length is)
    (subst (λ es. AreRanked es ranks n rank) is ranked))
