-- The states of functions over the records of two lists.
use Rattle.std.proofs.Common.{◌≡◌, ℕ, ◌+◌, ◌<◌, ◌≤◌, ◌^◌, List, [], ◌∷◌, ◌++◌, length, get_or, set, take, Option, Some}
use Rattle.std.proofs.Common.{None}
use Rattle.std.proofs.Common.{inl, inr, length-append, refl, sym, ap, subst, ◌∙◌, arith}
use Rattle.std.proofs.lemmas.Bool.{cases_eq}
use Rattle.std.proofs.lemmas.List.{get_or-set_other, get_or-set_same, get_or-take, get_or_default, length-set}
use Rattle.std.proofs.lemmas.List.{take-take}
use Rattle.std.proofs.lemmas.List.{take_at}
use Rattle.std.proofs.lemmas.List.Elements.{filter-append}
use Rattle.lq_ast.proofs.Sorted.{all_at}
use Rattle.lq_ast.specs.Condition.{Condition}
use Rattle.lq_ast.specs.Grouping.{asked}
use Rattle.lq_ast.specs.Holds.{record_holds}
use Rattle.lq_ast.specs.Records.{Record}
use Rattle.lq_ast.specs.Stage.{Statistic}
use Rattle.lq_tuple.proofs.Numbered.{get_last}
use Rattle.lq_stats.proofs.Gathering.{asked_few}
use Rattle.lq_stats.specs.Groups.{JoinStates, JoinsAt, JoinsState}
use Rattle.lq_stats.specs.State.{AreTaken, Joins, state_call}
use Rattle.lq_stats.specs.declared.state.State.{State}

-- what is left of a list after a pop, and what was popped
pub popped : {S : Type 0} (old new whole : List S) (item : S) → old ≡ new ++ item ∷ [] → old ≡ take (length old) whole
    → length old ≤ length whole → (new ≡ take (length new) whole) × (get_or whole (length new) item ≡ item)
popped old new whole item made is few =
    let longer = length-append new (item ∷ []) in
    let long : length old ≡ length new + 1 = ap length made ∙ longer in
    let front : new ≡ take (length new) whole =
    sym (take_at new (item ∷ []) (length new) refl) ∙ ap (take (length new)) (sym made ∙ is)
    ∙ take-take (length new) (length old) whole (omega arith) in (
      front,
      sym (get_or-take (length old) whole (length new) item (omega arith))
          ∙ ap (λ l. get_or l (length new) item) (sym is ∙ made) ∙ get_last new item (length new) item refl,
    )

asked_joined : (s : Statistic) (records others : List Record)
    → asked s.only (records ++ others) ≡ asked s.only records ++ asked s.only others
asked_joined s records others = at s.only
  where
    at : (o : Option Condition) → asked o (records ++ others) ≡ asked o records ++ asked o others
    at None = refl
    at (Some condition) = filter-append (record_holds condition) records others

pub joined_one : (old other new : State) → state_call new ≡ state_call old
    → (state_call other ≡ state_call old → Joins old other new) → JoinsState old other new
joined_one old other new same joins s records others names few h k = (
  same ∙ h.0,
  let fewer = asked_few s records in
      let few_more = asked_few s others in
      subst (AreTaken s.names new) (sym (asked_joined s records others))
      (joins (k.0 ∙ sym h.0) s.names (asked s.only records) (asked s.only others) names (omega arith) h.1 k.1),
)

-- From one place on the states are those of both lists, and before it they are as they were.
pub record AreJoined (first other now : List State) (n : ℕ) : Type 0 where
  pub long : length now ≡ length first
  pub same : (k : ℕ) (e : State) → k < n → get_or now k e ≡ get_or first k e
  pub joined : (k : ℕ) (e : State) → n ≤ k → k < length other → k < length first
      → JoinsState (get_or first k e) (get_or other k e) (get_or now k e)

pub joined_none : (first other : List State) → AreJoined first other first (length other)
joined_none first other = record {
  long = refl;
  same = λ k e below. refl;
  joined = λ k e above within inside. absurd (omega arith);
}

pub joined_more : (first other now new : List State) (n : ℕ) (state : State) → ((e : State) → get_or other n e ≡ state)
    → JoinsAt n state now new → AreJoined first other now (n + 1) → AreJoined first other new n
joined_more first other now new n state at joins h = record {
  long = joins.long ∙ h.long;
  same = λ k e below. joins.others k e (λ is. omega (arith, is, below)) ∙ h.same k e (omega (arith, below));
  joined = λ k e above within inside. elim (cases_eq k n) [
    | inl here ↦
        let long = h.long in
        subst (λ j. JoinsState (get_or first j e) (get_or other j e) (get_or new j e)) (sym here)
        (subst (λ s. JoinsState s (get_or other n e) (get_or new n e)) (h.same n e (omega arith))
        (subst (λ s. JoinsState (get_or now n e) s (get_or new n e)) (sym (at e))
        (joins.here e (omega (arith, long, inside, here)))))
    | inr apart ↦
        subst (λ s. JoinsState (get_or first k e) (get_or other k e) s) (sym (joins.others k e apart))
        (h.joined k e (omega (arith, above, apart)) within inside)
  ];
}

-- the state at a place
pub joins_at : (states : List State) (place : ℕ) (old state new : State) → place < length states
    → old ≡ get_or states place old → JoinsState old state new → JoinsAt place state states (set states place new)
joins_at states place old state new within is joins = record {
  long = length-set states place new;
  others = λ k e apart. get_or-set_other states place k new e apart;
  here = λ e _.
      subst (λ s. JoinsState s state (get_or (set states place new) place e))
      (is ∙ get_or_default states place old e within)
      (subst (λ s. JoinsState old state s) (sym (get_or-set_same states place new e within)) joins);
}

pub joins_nowhere : (states : List State) (place : ℕ) (state : State) → length states ≤ place
    → JoinsAt place state states states
joins_nowhere states place state outside = record {
  long = refl;
  others = λ k e apart. refl;
  here = λ e within. absurd (omega (arith, within, outside));
}

pub joined_all : (first other now : List State) → AreJoined first other now 0 → JoinStates first other now
joined_all first other now joined statistics records others names few h k = record {
  long = joined.long ∙ h.long;
  each = λ j d e within.
      let one = h.long in
      let more = k.long in
      joined.joined j e (omega arith) (omega (arith, within, more)) (omega (arith, within, one)) (get_or statistics j d)
      records others (all_at (λ s. length s.names < 2 ^ 32) statistics names j d within) few (h.each j d e within)
      (k.each j d e within);
}
