-- Groups, as one more record comes.
use Rattle.std.proofs.Common.{◌≡◌, ◌≢◌, ℕ, ◌+◌, ◌^◌, ◌<◌, ◌≤◌, Bool, true, false, cond, List, [], ◌∷◌, ◌++◌}
use Rattle.std.proofs.Common.{length, map, take, get_or, set, Option, Some, None, append_assoc, length-append}
use Rattle.std.proofs.Common.{refl, sym, ap, subst, ◌∙◌, inl, inr, ◌⊎◌, arith}
use Rattle.std.proofs.lemmas.Bool.{cases_eq, cases_lt, false_from_ne_true}
use Rattle.std.proofs.lemmas.List.{get_or-set_same, get_or_default, length-map, length-take, map_push, take_more}
use Rattle.std.proofs.lemmas.List.Sums.{count_by-le-length, length-filter}
use Rattle.std.specs.List.{count_by, filter}
use Rattle.std.specs.Option.{option_map_or}
use Rattle.std.specs.Ordering.{is_eq}
use Rattle.lq_ast.proofs.Sorted.{split_bool}
use Rattle.lq_ast.proofs.TupleOrder.{tuple_cmp_total}
use Rattle.lq_ast.specs.Condition.{Condition}
use Rattle.lq_ast.specs.Grouping.{asked}
use Rattle.lq_ast.specs.Groups.{key_tuple, key_value, members}
use Rattle.lq_ast.specs.Holds.{record_holds}
use Rattle.lq_ast.specs.Records.{Record}
use Rattle.lq_ast.specs.Stage.{GroupBy, Statistic}
use Rattle.lq_ast.specs.Tuples.{Tuple, tuple_cmp}
use Rattle.lq_tuple.proofs.Counting.{IsAmong, IsNewAmong, placed_tuple, wide_more}
use Rattle.lq_tuple.proofs.Lists.{filter_more}
use Rattle.lq_tuple.proofs.Numbered.{get_front, get_last}
use Rattle.lq_tuple.proofs.Once.{count_cons, count_joined, count_made, count_same, count_two, itself}
use Rattle.lq_tuple.proofs.Once.{once_alike, once_new, once_old}
use Rattle.lq_tuple.proofs.Tuples.{eq_turned, tuple_tells}
use Rattle.lq_tuple.specs.Counted.{AreShort, HaveLength, tuple_text}
use Rattle.lq_stats.specs.Function.{is_asked}
use Rattle.lq_stats.specs.Groups.{AreGroups, AreStates, IsEnteredIn, IsStateOf, TakeRecord, TakesOne}
use Rattle.lq_stats.specs.Groups.{TakesRecord}
use Rattle.lq_stats.specs.Key.{grouped_by}
use Rattle.lq_tuple.specs.Once.{count}
use Rattle.lq_stats.specs.Plan.{opening}
use Rattle.lq_tuple.specs.Places.{AreKnown, IsPlaced}
use Rattle.lq_tuple.specs.declared.places.Places.{Places}
use Rattle.lq_stats.specs.State.{AreTaken, Takes, state_call}
use Rattle.lq_stats.specs.declared.groups.Groups.{Groups}
use Rattle.lq_stats.specs.declared.groups.States.{States}
use Rattle.lq_stats.specs.declared.key.Key.{Key}
use Rattle.lq_stats.specs.declared.state.State.{State}

-- ---- the records that a function is asked of

asked_none : (s : Statistic) → asked s.only [] ≡ []
asked_none s = at s.only
  where
    at : (o : Option Condition) → asked o [] ≡ []
    at None = refl
    at (Some condition) = refl

pub asked_few : (s : Statistic) (records : List Record) → length (asked s.only records) ≤ length records
asked_few s records = at s.only
  where
    at : (o : Option Condition) → length (asked o records) ≤ length records
    at None = omega arith
    at (Some condition) =
        let is = length-filter (record_holds condition) records in
        let few = count_by-le-length (record_holds condition) records in
        omega arith

pub asked_more : (s : Statistic) (records : List Record) (r : Record)
    → asked s.only (records ++ r ∷ []) ≡ cond (is_asked s r) (asked s.only records ++ r ∷ []) (asked s.only records)
asked_more s records r = at s.only
  where
    at : (o : Option Condition) → asked o (records ++ r ∷ [])
        ≡ cond (option_map_or (λ condition. record_holds condition r) o true) (asked o records ++ r ∷ []) (asked o records)
    at None = refl
    at (Some condition) = filter_more (record_holds condition) records r

-- ---- the records of a group

filter_none : {A : Type 0} (keep : A → Bool) (xs : List A) → count_by keep xs ≡ 0 → filter keep xs ≡ []
filter_none keep [] e = refl
filter_none keep (x ∷ xs) e =
    split_bool (keep x)
    (λ t. count_by keep (x ∷ xs) ≡ cond t 1 0 + count_by keep xs
    → cond t (x ∷ filter keep xs) (filter keep xs) ≡ [])
    (λ _ whole. absurd (omega arith)) (λ _ whole. filter_none keep xs (omega arith)) (count_cons keep x xs)

members_more : (keys : List GroupBy) (records : List Record) (r : Record) (t : Tuple)
    → members keys (records ++ r ∷ []) t
    ≡ cond (is_eq (tuple_cmp (key_tuple keys r) t)) (members keys records t ++ r ∷ []) (members keys records t)
members_more keys records r t = filter_more (λ s. is_eq (tuple_cmp (key_tuple keys s) t)) records r

pub members_none : (keys : List GroupBy) (records : List Record) (t : Tuple)
    → count tuple_cmp t (map (key_tuple keys) records) ≡ 0 → members keys records t ≡ []
members_none keys records t none =
    filter_none (λ s. is_eq (tuple_cmp (key_tuple keys s) t)) records
    (count_same (λ s. is_eq (tuple_cmp (key_tuple keys s) t)) (λ s. is_eq (tuple_cmp t (key_tuple keys s)))
    (λ s. eq_turned (key_tuple keys s) t) records
    ∙ sym (count_made (λ u. is_eq (tuple_cmp t u)) (key_tuple keys) records) ∙ none)

pub members_few : (keys : List GroupBy) (records : List Record) (t : Tuple)
    → length (members keys records t) ≤ length records
members_few keys records t =
    let is = length-filter (λ s. is_eq (tuple_cmp (key_tuple keys s) t)) records in
    let few = count_by-le-length (λ s. is_eq (tuple_cmp (key_tuple keys s) t)) records in
    omega arith

-- a tuple that stands at two places
twice : (list : List Tuple) (t : Tuple) (k place : ℕ) → k ≢ place → k < length list → place < length list
    → get_or list k [] ≡ t → get_or list place [] ≡ t → 2 ≤ count tuple_cmp t list
twice list t k place ne a b e f =
    let test = λ (u : Tuple). is_eq (tuple_cmp t u) in
    let passes : (u : Tuple) → u ≡ t → test u ≡ true =
    λ u is. ap (λ v. is_eq (tuple_cmp t v)) is ∙ itself tuple_cmp tuple_cmp_total tuple_tells t in
    elim (cases_lt k place) [
      | inl up ↦ count_two test list k place [] up b (passes _ e) (passes _ f)
      | inr down ↦ count_two test list place k [] (omega (arith, ne)) a (passes _ f) (passes _ e)
    ]

module _ (keys : List GroupBy) (statistics : List Statistic) (more : List Tuple) (records : List Record)
    (r : Record) where
  tuple : Tuple
  tuple = key_tuple keys r

  -- ---- the group of a record

  entered_alike : (x : Tuple) → count tuple_cmp x ((more ++ map (key_tuple keys) records) ++ tuple ∷ [])
      ≡ count tuple_cmp x ((more ++ tuple ∷ []) ++ map (key_tuple keys) records)
  unfolding tuple
  entered_alike x =
      let test = λ (y : Tuple). is_eq (tuple_cmp x y) in
      let made = map (key_tuple keys) records in
      let a = count_joined test (more ++ made) (key_tuple keys r ∷ []) in
      let b = count_joined test more made in
      let e = count_joined test (more ++ key_tuple keys r ∷ []) made in
      let f = count_joined test more (key_tuple keys r ∷ []) in
      sums _ _ _ _ _ _ a b _ e f
    where
      sums : (whole other front back one both : ℕ) → whole ≡ both + one → both ≡ front + back
          → (both' : ℕ) → other ≡ both' + back → both' ≡ front + one → whole ≡ other
      sums whole other front back one both a b both' e f = omega arith

  module _ (groups : Groups) (h : AreGroups keys statistics groups more records)
      (short : AreShort (key_tuple keys r)) (text : List ℕ) (is : text ≡ tuple_text (key_tuple keys r))
      (places : Places) (place : ℕ)
      (placed : (texts : List (List ℕ)) → AreKnown groups.places texts → IsPlaced places texts text place) where
    stands : IsNewAmong places h.tuples (key_tuple keys r) place ⊎ IsAmong places h.tuples (key_tuple keys r) place
    stands =
        placed_tuple places h.tuples (key_tuple keys r) text place is
        (subst (λ n. HaveLength n h.tuples) (sym (length-map keys (key_value r))) h.wide) short
        (placed (map tuple_text h.tuples) h.known)

    pub entered_old : place < length groups.states.items
        → IsEnteredIn keys statistics (record { places = places; states = groups.states })
        (more ++ key_tuple keys r ∷ []) records r place
    unfolding tuple
    entered_old below =
        elim stands [
          | inl one ↦ absurd (omega (arith, one.behind, below, h.long))
          | inr one ↦ record {
            are = record {
              tuples = h.tuples;
              known = one.known;
              once = once_alike tuple_cmp tuple_cmp_total tuple_tells h.tuples
                  ((more ++ map (key_tuple keys) records) ++ key_tuple keys r ∷ [])
                  ((more ++ key_tuple keys r ∷ []) ++ map (key_tuple keys) records) entered_alike
                  (once_old tuple_cmp tuple_cmp_total tuple_tells h.tuples
                  (more ++ map (key_tuple keys) records) (key_tuple keys r) h.once one.had);
              wide = h.wide;
              long = h.long;
              states = h.states;
            };
            inside = one.inside;
            tuple = one.there [];
          }
        ]

    pub entered_new : (new : Groups) (begun : States) → length groups.states.items ≤ place → new.places ≡ places
        → new.states.items ≡ groups.states.items ++ begun ∷ [] → AreStates statistics begun.list.items []
        → IsEnteredIn keys statistics new (more ++ key_tuple keys r ∷ []) records r place
    unfolding tuple
    entered_new new begun above kept pushed none =
        let old = groups.states.items in
        let t = key_tuple keys r in
        elim stands [
          | inr one ↦ absurd (omega (arith, one.inside, above, h.long))
          | inl one ↦
              let had = h.once.each t in
              let split = count_joined (λ u. is_eq (tuple_cmp t u)) more (map (key_tuple keys) records) in
              let empty : members keys records t ≡ [] =
              members_none keys records t (omega (arith, had, split, one.free)) in
              let longer = length-append h.tuples (t ∷ []) in
              let grown = ap length pushed ∙ length-append old (begun ∷ []) in
              record {
                are = record {
                  tuples = h.tuples ++ t ∷ [];
                  known = subst (λ p. AreKnown p (map tuple_text (h.tuples ++ t ∷ []))) (sym kept) one.known;
                  once = once_alike tuple_cmp tuple_cmp_total tuple_tells (h.tuples ++ t ∷ [])
                      ((more ++ map (key_tuple keys) records) ++ t ∷ [])
                      ((more ++ t ∷ []) ++ map (key_tuple keys) records) entered_alike
                      (once_new tuple_cmp tuple_cmp_total tuple_tells h.tuples (more ++ map (key_tuple keys) records) t
                      h.once one.free);
                  wide = wide_more (length keys) h.tuples t h.wide (length-map keys (key_value r)) short;
                  long = omega (arith, grown, longer, h.long);
                  states = λ k d within. elim (cases_eq k place) [
                    | inl e ↦
                        let states_are : get_or new.states.items k d ≡ begun =
                        ap (λ l. get_or l k d) pushed
                        ∙ get_last old begun k d (omega (arith, e, one.behind, h.long)) in
                        let tuple_is : get_or (h.tuples ++ t ∷ []) k [] ≡ t =
                        get_last h.tuples t k [] (e ∙ one.behind) in
                        subst (λ s. AreStates statistics s.list.items
                        (members keys records (get_or (h.tuples ++ t ∷ []) k []))) (sym states_are)
                        (subst (λ u. AreStates statistics begun.list.items (members keys records u)) (sym tuple_is)
                        (subst (AreStates statistics begun.list.items) (sym empty) none))
                    | inr ne ↦
                        let below : k < length h.tuples = omega (arith, ne, within, longer, one.behind) in
                        let states_are : get_or new.states.items k d ≡ get_or old k d =
                        ap (λ l. get_or l k d) pushed
                        ∙ get_front old (begun ∷ []) k d (omega (arith, below, h.long)) in
                        subst (λ s. AreStates statistics s.list.items
                        (members keys records (get_or (h.tuples ++ t ∷ []) k []))) (sym states_are)
                        (subst (λ u. AreStates statistics (get_or old k d).list.items (members keys records u))
                        (sym (get_front h.tuples (t ∷ []) k [] below)) (h.states k d below))
                  ];
                };
                inside = omega (arith, longer, one.behind);
                tuple = get_last h.tuples t place [] one.behind;
              }
        ]

  -- ---- the states take the record

  pub gathered : (old new : Groups) (place : ℕ)
      → IsEnteredIn keys statistics old (more ++ key_tuple keys r ∷ []) records r place → new.places ≡ old.places
      → length new.states.items ≡ length old.states.items
      → ((k : ℕ) (d : States) → k ≢ place → get_or new.states.items k d ≡ get_or old.states.items k d)
      → ((d : States) → TakesRecord statistics (get_or old.states.items place d).list.items
      (get_or new.states.items place d).list.items r) → length records < 2 ^ 32
      → AreGroups keys statistics new more (records ++ r ∷ [])
  unfolding tuple
  gathered old new place h places long others takes few =
      let t = key_tuple keys r in
      let tuples = h.are.tuples in
      let pushed : map (key_tuple keys) (records ++ r ∷ []) ≡ map (key_tuple keys) records ++ t ∷ [] =
      map_push (key_tuple keys) records r in
      record {
        tuples = tuples;
        known = subst (λ p. AreKnown p (map tuple_text tuples)) (sym places) h.are.known;
        once = once_alike tuple_cmp tuple_cmp_total tuple_tells tuples
            ((more ++ t ∷ []) ++ map (key_tuple keys) records) (more ++ map (key_tuple keys) (records ++ r ∷ []))
            (λ x. sym (entered_alike x)
            ∙ ap (count tuple_cmp x) (append_assoc more (map (key_tuple keys) records) (t ∷ [])
            ∙ ap (λ l. more ++ l) (sym pushed))) h.are.once;
        wide = h.are.wide;
        long = long ∙ h.are.long;
        states = λ k d within. elim (cases_eq k place) [
          | inl e ↦
              let of : get_or tuples k [] ≡ t = ap (λ j. get_or tuples j []) e ∙ h.tuple in
              let grown : members keys (records ++ r ∷ []) t ≡ members keys records t ++ r ∷ [] =
              members_more keys records r t
              ∙ ap (λ b. cond b (members keys records t ++ r ∷ []) (members keys records t))
              (itself tuple_cmp tuple_cmp_total tuple_tells t) in
              let before =
              subst (λ u. AreStates statistics (get_or old.states.items place d).list.items (members keys records u))
              h.tuple (h.are.states place d h.inside) in
              let small = members_few keys records t in
              let after = takes d (members keys records t) (omega arith) before in
              subst (λ j. AreStates statistics (get_or new.states.items j d).list.items
              (members keys (records ++ r ∷ []) (get_or tuples k []))) (sym e)
              (subst (λ u. AreStates statistics (get_or new.states.items place d).list.items
              (members keys (records ++ r ∷ []) u)) (sym of)
              (subst (AreStates statistics (get_or new.states.items place d).list.items) (sym grown) after))
          | inr ne ↦
              let u = get_or tuples k [] in
              let apart : is_eq (tuple_cmp t u) ≡ false =
              false_from_ne_true (is_eq (tuple_cmp t u)) (λ eq.
              let two = twice tuples t k place ne within h.inside (sym (tuple_tells t u eq)) h.tuple in
              let once = h.are.once.each t in
              omega arith) in
              subst (λ s. AreStates statistics s.list.items (members keys (records ++ r ∷ []) u)) (sym (others k d ne))
              (subst (AreStates statistics (get_or old.states.items k d).list.items)
              (sym (members_more keys records r u
              ∙ ap (λ b. cond b (members keys records u ++ r ∷ []) (members keys records u)) apart))
              (h.are.states k d within))
        ];
      }

-- ---- the states of a group

pub asked_one : (s : Statistic) (old new : State) (r : Record) → is_asked s r ≡ true → Takes s.names old new r
    → state_call new ≡ state_call old → TakesOne s old new r
asked_one s old new r is takes same records few h = (
  same ∙ h.0,
  let small = asked_few s records in
      subst (AreTaken s.names new)
      (sym (asked_more s records r ∙ ap (λ t. cond t (asked s.only records ++ r ∷ []) (asked s.only records)) is))
      (takes (asked s.only records) (omega arith) h.1),
)

pub not_asked : (s : Statistic) (state : State) (r : Record) → is_asked s r ≡ false → TakesOne s state state r
not_asked s state r is records few h = (
  h.0,
  subst (AreTaken s.names state)
      (sym (asked_more s records r ∙ ap (λ t. cond t (asked s.only records ++ r ∷ []) (asked s.only records)) is)) h.1,
)

pub none_asked : (s : Statistic) (state : State) → state_call state ≡ s.call → AreTaken s.names state []
    → IsStateOf s state []
none_asked s state same h = (same, subst (AreTaken s.names state) (sym (asked_none s)) h)

pub states_none : (states : List State) → states ≡ [] → AreStates [] states []
states_none states none = record { long = ap length none; each = λ k d e within. absurd (omega arith) }

pub states_more : (statistics : List Statistic) (states : List State) (s : Statistic) (state : State)
    → AreStates statistics states [] → IsStateOf s state [] → AreStates (statistics ++ s ∷ []) (states ++ state ∷ []) []
states_more statistics states s state h one =
    let longer = length-append statistics (s ∷ []) in
    let more = length-append states (state ∷ []) in
    let long = h.long in
    record {
      long = omega arith;
      each = λ k d e within. elim (cases_lt k (length statistics)) [
        | inl below ↦
            subst (λ t. IsStateOf t (get_or (states ++ state ∷ []) k e) []) (sym (get_front statistics (s ∷ []) k d below))
            (subst (λ u. IsStateOf (get_or statistics k d) u [])
            (sym (get_front states (state ∷ []) k e (omega (arith, below)))) (h.each k d e below))
        | inr above ↦
            subst (λ t. IsStateOf t (get_or (states ++ state ∷ []) k e) [])
            (sym (get_last statistics s k d (omega (arith, above))))
            (subst (λ u. IsStateOf s u []) (sym (get_last states state k e (omega (arith, above)))) one)
      ];
    }

-- the state at the place of a function
pub taken_here : (statistics : List Statistic) (states first : List State) (i : ℕ) (s : Statistic) (old state : State)
    (r : Record) (d : Statistic) (e : State) → i < length states → get_or statistics i d ≡ s → old ≡ get_or states i old
    → get_or states i e ≡ get_or first i e → TakesOne s old state r
    → TakesOne (get_or statistics i d) (get_or first i e) (get_or (set states i state) i e) r
taken_here statistics states first i s old state r d e within is at same one =
    let before : old ≡ get_or first i e = at ∙ get_or_default states i old e within ∙ same in
    subst (λ t. TakesOne t (get_or first i e) (get_or (set states i state) i e) r) (sym is)
    (subst (λ o. TakesOne s o (get_or (set states i state) i e) r) before
    (subst (λ n. TakesOne s old n r) (sym (get_or-set_same states i state e within)) one))

-- ---- one record after another

pub taken_more : (keys : List GroupBy) (statistics : List Statistic) (old new : Groups) (more : List Tuple)
    (before taken : List Record) (i : ℕ) (r : Record) → i < length taken → r ≡ get_or taken i r
    → length before + length taken ≤ 2 ^ 32 → TakeRecord keys statistics old new r
    → AreGroups keys statistics old more (before ++ take i taken)
    → AreGroups keys statistics new more (before ++ take (i + 1) taken)
taken_more keys statistics old new more before taken i r within is few takes h =
    let whole = length-append before (take i taken) in
    let front = length-take i taken in
    let one : take i taken ++ r ∷ [] ≡ take (i + 1) taken =
    ap (λ x. take i taken ++ x ∷ []) is ∙ sym (take_more taken i r within) in
    subst (AreGroups keys statistics new more)
    (append_assoc before (take i taken) (r ∷ []) ∙ ap (λ l. before ++ l) one)
    (takes more (before ++ take i taken) (omega arith) h)

-- no groups
pub groups_none : (keys : List GroupBy) (statistics : List Statistic) (groups : Groups) → AreKnown groups.places []
    → groups.states.items ≡ [] → AreGroups keys statistics groups [] []
groups_none keys statistics groups known none = record {
  tuples = [];
  known = known;
  once = record { each = λ x. refl };
  wide = tt;
  long = ap length none;
  states = λ k d within. absurd (omega arith);
}

-- where there are keys
pub groups_empty : (keys : List Key) (statistics : List Statistic) (groups : Groups) → 0 < length keys
    → AreKnown groups.places [] → groups.states.items ≡ []
    → AreGroups (map grouped_by keys) statistics groups (opening (map grouped_by keys)) []
groups_empty [] statistics groups some known none = absurd (omega arith)
groups_empty (key ∷ keys) statistics groups some known none =
    groups_none (map grouped_by (key ∷ keys)) statistics groups known none

-- the groups of no records
pub groups_begun : (keys : List Key) (statistics : List Statistic) (new : Groups) (r : Record) (place : ℕ)
    → length keys ≡ 0
    → IsEnteredIn (map grouped_by keys) statistics new ([] ++ key_tuple (map grouped_by keys) r ∷ []) [] r place
    → AreGroups (map grouped_by keys) statistics new (opening (map grouped_by keys)) []
groups_begun [] statistics new r place none e = e.are
groups_begun (key ∷ keys) statistics new r place none e = absurd (omega arith)
