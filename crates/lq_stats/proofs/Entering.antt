-- Groups that take the states of more records of one tuple.
use Rattle.std.proofs.Common.{◌≡◌, ◌≢◌, ◌⊎◌, inl, inr, ℕ, ◌<◌, ◌≤◌, true, false, cond, List, [], ◌∷◌, ◌++◌, length}
use Rattle.std.proofs.Common.{get_or, set}
use Rattle.std.proofs.Common.{sym, ap, subst, ◌∙◌, arith, length-append}
use Rattle.std.proofs.lemmas.Bool.{cases_eq, cases_lt, false_from_ne_true}
use Rattle.std.proofs.lemmas.List.{get_or-set_other, get_or-set_same, length-set}
use Rattle.std.specs.Ordering.{is_eq}
use Rattle.lq_ast.proofs.TupleOrder.{tuple_cmp_total}
use Rattle.lq_ast.specs.Records.{Record}
use Rattle.lq_ast.specs.Stage.{Statistic}
use Rattle.lq_ast.specs.Tuples.{Tuple, tuple_cmp}
use Rattle.lq_tuple.proofs.Counting.{IsAmong, IsNewAmong, wide_more}
use Rattle.lq_tuple.proofs.Numbered.{get_front, get_last}
use Rattle.lq_tuple.proofs.Once.{count_at, count_two, itself, once_new, once_old}
use Rattle.lq_tuple.proofs.Tuples.{tuple_tells}
use Rattle.lq_tuple.specs.Counted.{AreShort}
use Rattle.lq_tuple.specs.Once.{HasEachOnce, count}
use Rattle.lq_stats.specs.Groups.{AreKept, AreStates, IsTaken, with_more}
use Rattle.lq_stats.specs.declared.groups.Groups.{Groups}
use Rattle.lq_stats.specs.declared.groups.States.{States}

more_here : (held : Tuple → List Record) (t : Tuple) (ys : List Record) → with_more held t ys t ≡ held t ++ ys
more_here held t ys =
    ap (λ b. cond b (held t ++ ys) (held t)) (itself tuple_cmp tuple_cmp_total tuple_tells t)

more_apart : (held : Tuple → List Record) (t : Tuple) (ys : List Record) (u : Tuple) → is_eq (tuple_cmp t u) ≡ false
    → with_more held t ys u ≡ held u
more_apart held t ys u e = ap (λ b. cond b (held u ++ ys) (held u)) e

passes : (t u : Tuple) → u ≡ t → is_eq (tuple_cmp t u) ≡ true
passes t u is = ap (λ v. is_eq (tuple_cmp t v)) is ∙ itself tuple_cmp tuple_cmp_total tuple_tells t

module _ (statistics : List Statistic) (width : ℕ) (tuples all : List Tuple) (held : Tuple → List Record) (t : Tuple)
    (ys : List Record) (long : length t ≡ width) (short : AreShort t)
    (free : count tuple_cmp t tuples ≡ 0 → held t ≡ []) (once : HasEachOnce tuple_cmp tuples all) where
  abbrev Of : States → List Record → Type 0
  Of states records = AreStates statistics states.list.items records

  pub taken_new : (old new : Groups) (states : States) (place : ℕ) → AreKept statistics width old tuples held
      → IsNewAmong new.places tuples t place ⊎ IsAmong new.places tuples t place → length old.states.items ≤ place
      → new.states.items ≡ old.states.items ++ states ∷ [] → AreStates statistics states.list.items ys
      → IsTaken statistics width new held t ys all
  taken_new old new states place kept (inr one) above made is = absurd (omega (arith, one.inside, kept.long))
  taken_new old new states place kept (inl one) above made is =
      let front = old.states.items in
      let longer = length-append tuples (t ∷ []) in
      let grown = ap length made ∙ length-append front (states ∷ []) in
      record {
        tuples = tuples ++ t ∷ [];
        kept = record {
          known = one.known;
          wide = wide_more width tuples t kept.wide long short;
          long = omega (arith, grown, longer, kept.long);
          each = λ k d within. elim (cases_eq k (length tuples)) [
            | inl e ↦
                let states_are : get_or new.states.items k d ≡ states =
                ap (λ l. get_or l k d) made ∙ get_last front states k d (omega (arith, e, kept.long)) in
                let tuple_is : get_or (tuples ++ t ∷ []) k [] ≡ t = get_last tuples t k [] e in
                let rows : with_more held t ys (get_or (tuples ++ t ∷ []) k []) ≡ ys =
                ap (with_more held t ys) tuple_is ∙ more_here held t ys ∙ ap (λ l. l ++ ys) (free one.free) in
                subst (λ s. Of s (with_more held t ys (get_or (tuples ++ t ∷ []) k []))) (sym states_are)
                (subst (Of states) (sym rows) is)
            | inr ne ↦
                let below : k < length tuples = omega (arith, ne, within, longer) in
                let u = get_or tuples k [] in
                let states_are : get_or new.states.items k d ≡ get_or front k d =
                ap (λ l. get_or l k d) made ∙ get_front front (states ∷ []) k d (omega (arith, below, kept.long)) in
                let tuple_is : get_or (tuples ++ t ∷ []) k [] ≡ u = get_front tuples (t ∷ []) k [] below in
                let apart : is_eq (tuple_cmp t u) ≡ false = false_from_ne_true (is_eq (tuple_cmp t u)) (λ eq.
                let some = count_at (λ v. is_eq (tuple_cmp t v)) tuples k [] below eq in omega (arith, one.free)) in
                let rows : with_more held t ys (get_or (tuples ++ t ∷ []) k []) ≡ held u =
                ap (with_more held t ys) tuple_is ∙ more_apart held t ys u apart in
                subst (λ s. Of s (with_more held t ys (get_or (tuples ++ t ∷ []) k []))) (sym states_are)
                (subst (Of (get_or front k d)) (sym rows) (kept.each k d below))
          ];
        };
        once = once_new tuple_cmp tuple_cmp_total tuple_tells tuples all t once one.free;
      }

  pub taken_old : (old new : Groups) (states : States) (place : ℕ) → AreKept statistics width old tuples held
      → IsNewAmong new.places tuples t place ⊎ IsAmong new.places tuples t place → place < length old.states.items
      → new.states.items ≡ set old.states.items place states
      → ((d : States) → Of (get_or old.states.items place d) (held t) → Of states (held t ++ ys))
      → IsTaken statistics width new held t ys all
  taken_old old new states place kept (inl one) below made joined = absurd (omega (arith, one.behind, kept.long))
  taken_old old new states place kept (inr one) below made joined = record {
    tuples = tuples;
    kept = record {
      known = one.known;
      wide = kept.wide;
      long = ap length made ∙ length-set old.states.items place states ∙ kept.long;
      each = λ k d within. elim (cases_eq k place) [
        | inl e ↦
            let states_are : get_or new.states.items k d ≡ states =
            ap (λ l. get_or l k d) made ∙ ap (λ j. get_or (set old.states.items place states) j d) e
            ∙ get_or-set_same old.states.items place states d below in
            let tuple_is : get_or tuples k [] ≡ t = ap (λ j. get_or tuples j []) e ∙ one.there [] in
            let rows : with_more held t ys (get_or tuples k []) ≡ held t ++ ys =
            ap (with_more held t ys) tuple_is ∙ more_here held t ys in
            let before : Of (get_or old.states.items place d) (held t) =
            subst (λ u. Of (get_or old.states.items place d) (held u)) (one.there []) (kept.each place d one.inside) in
            subst (λ s. Of s (with_more held t ys (get_or tuples k []))) (sym states_are)
            (subst (Of states) (sym rows) (joined d before))
        | inr ne ↦
            let u = get_or tuples k [] in
            let apart : is_eq (tuple_cmp t u) ≡ false = false_from_ne_true (is_eq (tuple_cmp t u)) (λ eq.
            let there = passes t (get_or tuples place []) (one.there []) in
            let two = twice k place ne within one.inside eq there in
            let few = once.each t in
            omega arith) in
            let states_are : get_or new.states.items k d ≡ get_or old.states.items k d =
            ap (λ l. get_or l k d) made ∙ get_or-set_other old.states.items place k states d ne in
            subst (λ s. Of s (with_more held t ys u)) (sym states_are)
            (subst (Of (get_or old.states.items k d)) (sym (more_apart held t ys u apart)) (kept.each k d within))
      ];
    };
    once = once_old tuple_cmp tuple_cmp_total tuple_tells tuples all t once one.had;
  }
    where
      twice : (k j : ℕ) → k ≢ j → k < length tuples → j < length tuples
          → is_eq (tuple_cmp t (get_or tuples k [])) ≡ true → is_eq (tuple_cmp t (get_or tuples j [])) ≡ true
          → 2 ≤ count tuple_cmp t tuples
      twice k j ne a b e f = elim (cases_lt k j) [
        | inl up ↦ count_two (λ v. is_eq (tuple_cmp t v)) tuples k j [] up b e f
        | inr down ↦ count_two (λ v. is_eq (tuple_cmp t v)) tuples j k [] (omega (arith, ne)) a f e
      ]
