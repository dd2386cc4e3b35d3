-- A tally, as one more record comes.
use Rattle.std.proofs.Common.{◌≡◌, ◌≢◌, ℕ, zero, suc, ◌+◌, ◌-◌, ◌^◌, ◌<◌, ◌≤◌, Bool, true, false, not, cond, List, []}
use Rattle.std.proofs.Common.{◌∷◌, ◌++◌, length, map, get_or, set, min, refl, sym, ap, subst, ◌∙◌, inl, inr, ◌⊎◌, arith}
use Rattle.std.proofs.lemmas.Bool.{cases_lt, false_from_ne_true}
use Rattle.std.proofs.lemmas.List.{get_or-map, get_or_default, length-map, map_push}
use Rattle.std.proofs.lemmas.List.Sums.{count_by-le-length, length-filter}
use Rattle.std.specs.List.{AllByRecursion, filter}
use Rattle.std.specs.Ordering.{is_eq}
use Rattle.log_model.specs.Field.{field_value}
use Rattle.vl_row.proofs.Sorted.{all_append}
use Rattle.lq_ast.proofs.Sorted.{all_from_places, all_weaker, split_bool}
use Rattle.lq_ast.proofs.TupleOrder.{tuple_cmp_total}
use Rattle.lq_ast.specs.Records.{Record}
use Rattle.lq_ast.specs.Sorting.{hits}
use Rattle.lq_ast.specs.Tuples.{Tuple, is_wholly_empty, tuple_cmp, tuple_of}
use Rattle.lq_tuple.proofs.Counting.{IsAmong, IsNewAmong, placed_tuple, wide_more}
use Rattle.lq_tuple.proofs.Lists.{filter_more, map_alike}
use Rattle.lq_tuple.proofs.Once.{count_cons, count_made, count_more, count_same, count_two, itself, kept_count}
use Rattle.lq_tuple.proofs.Once.{once_new, once_old}
use Rattle.lq_tuple.proofs.Tuples.{eq_turned, tuple_tells}
use Rattle.lq_tuple.specs.Counted.{AreShort, HaveLength, tuple_text}
use Rattle.lq_tuple.specs.Once.{HasEachOnce, count}
use Rattle.lq_tuple.specs.Places.{AreKnown, IsPlaced}
use Rattle.lq_tuple.specs.declared.places.Places.{Places}
use Rattle.lq_order.specs.Groups.{IsNamed}
use Rattle.lq_order.specs.Tally.{Tallies, filled_tuples}
use Rattle.lq_order.specs.declared.tally.Tally.{Tally}

-- ---- how many records have a tuple

hits_more : (names : List (List ℕ)) (records : List Record) (r : Record) (t : Tuple)
    → hits names (records ++ r ∷ []) t ≡ hits names records t + cond (is_eq (tuple_cmp (tuple_of names r) t)) 1 0
hits_more names records r t =
    let has = λ (s : Record). is_eq (tuple_cmp (tuple_of names s) t) in
    length-filter has (records ++ r ∷ []) ∙ count_more has records r
    ∙ ap (λ n. n + cond (has r) 1 0) (sym (length-filter has records))

hits_few : (names : List (List ℕ)) (records : List Record) (t : Tuple) → hits names records t ≤ length records
hits_few names records t =
    let has = λ (s : Record). is_eq (tuple_cmp (tuple_of names s) t) in
    let is = length-filter has records in
    let few = count_by-le-length has records in
    omega arith

hits_none : (names : List (List ℕ)) (records : List Record) (t : Tuple)
    → count tuple_cmp t (map (tuple_of names) records) ≡ 0 → hits names records t ≡ 0
hits_none names records t none =
    let has = λ (s : Record). is_eq (tuple_cmp (tuple_of names s) t) in
    length-filter has records
    ∙ count_same has (λ s. is_eq (tuple_cmp t (tuple_of names s))) (λ s. eq_turned (tuple_of names s) t) records
    ∙ sym (count_made (λ u. is_eq (tuple_cmp t u)) (tuple_of names) records) ∙ none

-- ---- lists that are made of tuples

-- what is made again at one place only
map_raised : {A B : Type 0} (f g : A → B) (xs : List A) (place : ℕ) (d : A) → place < length xs
    → ((k : ℕ) → k < length xs → k ≢ place → g (get_or xs k d) ≡ f (get_or xs k d))
    → map g xs ≡ set (map f xs) place (g (get_or xs place d))
map_raised f g [] place d inside same = absurd (omega arith)
map_raised f g (x ∷ xs) zero d inside same =
    ap (λ l. g x ∷ l) (map_alike g f xs (all_from_places (λ y. g y ≡ f y) xs (λ k e within.
    ap (λ y. g y) (get_or_default xs k e d within) ∙ same (suc k) (omega arith) (omega arith)
    ∙ ap (λ y. f y) (sym (get_or_default xs k e d within)))))
map_raised f g (x ∷ xs) (suc place) d inside same =
    ap (λ y. y ∷ map g xs) (same 0 (omega arith) (omega arith))
    ∙ ap (λ l. f x ∷ l) (map_raised f g xs place d (omega arith)
    (λ k within ne. same (suc k) (omega arith) (omega (arith, ne))))

all_apart : (t : Tuple) (some : List Tuple) → count tuple_cmp t some ≡ 0
    → AllByRecursion (λ u. is_eq (tuple_cmp t u) ≡ false) some
all_apart t [] none = tt
all_apart t (u ∷ us) none =
    let whole = count_cons (λ v. is_eq (tuple_cmp t v)) u us in
    split_bool (is_eq (tuple_cmp t u))
    (λ b. count tuple_cmp t (u ∷ us) ≡ cond b 1 0 + count tuple_cmp t us
    → (b ≡ false) × AllByRecursion (λ v. is_eq (tuple_cmp t v) ≡ false) us)
    (λ _ e. absurd (omega arith)) (λ _ e. (refl, all_apart t us (omega arith))) whole

-- a tuple that stands once stands at one place
elsewhere : (some : List Tuple) (t : Tuple) (k place : ℕ) (d : Tuple) → count tuple_cmp t some ≤ 1 → k ≢ place
    → k < length some → place < length some → get_or some place d ≡ t → is_eq (tuple_cmp t (get_or some k d)) ≡ false
elsewhere some t k place d once ne a b at =
    false_from_ne_true (is_eq (tuple_cmp t (get_or some k d))) (λ e.
    let test = λ (u : Tuple). is_eq (tuple_cmp t u) in
    let here : test (get_or some place d) ≡ true =
    ap (λ u. is_eq (tuple_cmp t u)) at ∙ itself tuple_cmp tuple_cmp_total tuple_tells t in
    elim (cases_lt k place) [
      | inl up ↦ let two = count_two test some k place d up b e here in omega arith
      | inr down ↦ let two = count_two test some place k d (omega (arith, ne)) a here e in omega arith
    ])

-- ---- one more record

module _ (old : Tally) (names : List (List ℕ)) (records : List Record) (r : Record) (h : Tallies old names records) where
  -- how many records have a tuple now, and before
  now_hits : Tuple → ℕ
  now_hits = hits names (records ++ r ∷ [])

  all_tuples : map (tuple_of names) (records ++ r ∷ []) ≡ map (tuple_of names) records ++ tuple_of names r ∷ []
  all_tuples = map_push (tuple_of names) records r

  all_filled : (t : Bool) → is_wholly_empty (tuple_of names r) ≡ t
      → filled_tuples names (records ++ r ∷ [])
      ≡ cond (not t) (filled_tuples names records ++ tuple_of names r ∷ []) (filled_tuples names records)
  all_filled t e =
      ap (filter (λ u. not (is_wholly_empty u))) all_tuples
      ∙ filter_more (λ u. not (is_wholly_empty u)) (map (tuple_of names) records) (tuple_of names r)
      ∙ ap (λ b. cond (not b) (filled_tuples names records ++ tuple_of names r ∷ []) (filled_tuples names records)) e

  same_hits : (u : Tuple) → is_eq (tuple_cmp (tuple_of names r) u) ≡ false → now_hits u ≡ hits names records u
  unfolding now_hits
  same_hits u apart =
      let more = hits_more names records r u ∙ ap (λ b. hits names records u + cond b 1 0) apart in
      omega arith

  one_more_hit : now_hits (tuple_of names r) ≡ hits names records (tuple_of names r) + 1
  unfolding now_hits
  one_more_hit =
      hits_more names records r (tuple_of names r)
      ∙ ap (λ b. hits names records (tuple_of names r) + cond b 1 0)
      (itself tuple_cmp tuple_cmp_total tuple_tells (tuple_of names r))

  -- a record whose tuple is wholly empty
  pub tallied_empty : (new : Tally) → new.names ≡ old.names → new.places ≡ old.places → new.hits.items ≡ old.hits.items
      → is_wholly_empty (tuple_of old.names.now r) ≡ true → Tallies new names (records ++ r ∷ [])
  unfolding now_hits
  tallied_empty new fields same kept empty =
      let t = tuple_of names r in
      let is : is_wholly_empty t ≡ true = ap (λ ns. is_wholly_empty (tuple_of ns r)) (sym h.fields) ∙ empty in
      record {
        fields = ap (λ b. b.now) fields ∙ h.fields;
        tuples = h.tuples;
        known = subst (λ p. AreKnown p (map tuple_text h.tuples)) (sym same) h.known;
        once = subst (HasEachOnce tuple_cmp h.tuples) (sym (all_filled true is)) h.once;
        wide = h.wide;
        filled = h.filled;
        named = h.named;
        counted = kept ∙ h.counted ∙ map_alike (hits names records) now_hits h.tuples
            (all_weaker (λ u. is_wholly_empty u ≡ false) (λ u. hits names records u ≡ now_hits u)
            (λ u full. sym (same_hits u (false_from_ne_true (is_eq (tuple_cmp t u)) (λ e.
            let bad : true ≡ false = sym is ∙ ap is_wholly_empty (tuple_tells t u e) ∙ full in absurd cc))))
            h.tuples h.filled);
      }

  module _ (short : AreShort (tuple_of old.names.now r)) (full : is_wholly_empty (tuple_of old.names.now r) ≡ false)
      (text : List ℕ) (is : text ≡ tuple_text (tuple_of old.names.now r)) (places : Places) (place : ℕ)
      (placed : (texts : List (List ℕ)) → AreKnown old.places texts → IsPlaced places texts text place) where
    full_is : is_wholly_empty (tuple_of names r) ≡ false
    full_is = ap (λ ns. is_wholly_empty (tuple_of ns r)) (sym h.fields) ∙ full

    short_is : AreShort (tuple_of names r)
    short_is = subst (λ ns. AreShort (tuple_of ns r)) h.fields short

    stands : IsNewAmong places h.tuples (tuple_of names r) place ⊎ IsAmong places h.tuples (tuple_of names r) place
    stands =
        placed_tuple places h.tuples (tuple_of names r) text place
        (is ∙ ap (λ ns. tuple_text (tuple_of ns r)) h.fields)
        (subst (λ n. HaveLength n h.tuples) (sym (length-map names (field_value r))) h.wide) short_is
        (placed (map tuple_text h.tuples) h.known)

    long : length old.hits.items ≡ length h.tuples
    long = ap length h.counted ∙ length-map h.tuples (hits names records)

    -- a record whose tuple is new
    pub tallied_new : (new : Tally) → length old.hits.items ≤ place → new.names ≡ old.names → new.places ≡ places
        → new.hits.items ≡ old.hits.items ++ 1 ∷ [] → IsNamed old.names.now (tuple_of old.names.now r)
        → Tallies new names (records ++ r ∷ [])
    unfolding now_hits
    tallied_new new above fields same pushed has_names =
        let t = tuple_of names r in
        elim stands [
          | inl one ↦
              let none : hits names records t ≡ 0 =
              let had = h.once.each t in
              let kept = kept_count tuple_cmp tuple_cmp_total tuple_tells (λ u. not (is_wholly_empty u)) t
              (map (tuple_of names) records)
              ∙ ap (λ b. cond (not b) (count tuple_cmp t (map (tuple_of names) records)) 0) full_is in
              hits_none names records t (omega (arith, had, kept, one.free)) in
              let first : now_hits t ≡ 1 = one_more_hit ∙ ap (λ n. n + 1) none in
              record {
                fields = ap (λ b. b.now) fields ∙ h.fields;
                tuples = h.tuples ++ t ∷ [];
                known = subst (λ p. AreKnown p (map tuple_text (h.tuples ++ t ∷ []))) (sym same) one.known;
                once = subst (HasEachOnce tuple_cmp (h.tuples ++ t ∷ [])) (sym (all_filled false full_is))
                    (once_new tuple_cmp tuple_cmp_total tuple_tells h.tuples (filled_tuples names records) t h.once
                    one.free);
                wide = wide_more (length names) h.tuples t h.wide (length-map names (field_value r)) short_is;
                filled = all_append (λ u. is_wholly_empty u ≡ false) h.tuples (t ∷ []) h.filled (full_is, tt);
                named = all_append (IsNamed names) h.tuples (t ∷ []) h.named
                    (subst (λ ns. IsNamed ns (tuple_of ns r)) h.fields has_names, tt);
                counted = pushed ∙ ap (λ l. l ++ 1 ∷ []) (h.counted
                    ∙ map_alike (hits names records) now_hits h.tuples
                    (all_weaker (λ u. is_eq (tuple_cmp t u) ≡ false) (λ u. hits names records u ≡ now_hits u)
                    (λ u apart. sym (same_hits u apart)) h.tuples (all_apart t h.tuples one.free)))
                    ∙ ap (λ n. map now_hits h.tuples ++ n ∷ []) (sym first) ∙ sym (map_push now_hits h.tuples t);
              }
          | inr one ↦ absurd (omega (arith, one.inside, above, long))
        ]

    -- a record whose tuple has a number
    pub tallied_old : (new : Tally) (was : ℕ) → place < length old.hits.items → new.names ≡ old.names
        → new.places ≡ places → was ≡ get_or old.hits.items place was
        → new.hits.items ≡ set old.hits.items place (min (was + 1) (2 ^ 64 - 1)) → length records + 1 < 2 ^ 64
        → Tallies new names (records ++ r ∷ [])
    unfolding now_hits
    tallied_old new was below fields same at written few =
        let t = tuple_of names r in
        elim stands [
          | inl one ↦ absurd (omega (arith, one.behind, below, long))
          | inr one ↦
              let number : was ≡ hits names records t =
              at ∙ ap (λ l. get_or l place was) h.counted
              ∙ get_or_default (map (hits names records) h.tuples) place was (hits names records [])
              (omega (arith, below, ap length h.counted))
              ∙ get_or-map (hits names records) h.tuples place [] (hits names records []) one.inside
              ∙ ap (hits names records) (one.there []) in
              let small = hits_few names records t in
              let raised : min (was + 1) (2 ^ 64 - 1) ≡ now_hits t =
              let more = one_more_hit in omega arith in
              record {
                fields = ap (λ b. b.now) fields ∙ h.fields;
                tuples = h.tuples;
                known = subst (λ p. AreKnown p (map tuple_text h.tuples)) (sym same) one.known;
                once = subst (HasEachOnce tuple_cmp h.tuples) (sym (all_filled false full_is))
                    (once_old tuple_cmp tuple_cmp_total tuple_tells h.tuples (filled_tuples names records) t h.once
                    one.had);
                wide = h.wide;
                filled = h.filled;
                named = h.named;
                counted = written ∙ ap (λ l. set l place (min (was + 1) (2 ^ 64 - 1))) h.counted
                    ∙ ap (set (map (hits names records) h.tuples) place) (raised ∙ ap now_hits (sym (one.there t)))
                    ∙ sym (map_raised (hits names records) now_hits h.tuples place t one.inside
                    (λ k within ne. same_hits (get_or h.tuples k t)
                    (elsewhere h.tuples t k place t (let had = h.once.each t in omega arith) ne within one.inside
                    (one.there t))));
              }
        ]
