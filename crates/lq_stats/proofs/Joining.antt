-- Groups that take those of other records, one tuple after another.
use Rattle.std.proofs.Common.{◌≡◌, inl, inr, ℕ, ◌+◌, ◌<◌, ◌≤◌, Bool, true, false, cond, List, [], ◌∷◌, ◌++◌, length}
use Rattle.std.proofs.Common.{map, get_or, drop}
use Rattle.std.proofs.Math.Seq.{drop-cons, drop-length}
use Rattle.std.proofs.lemmas.List.{map-append, take-append-drop}
use Rattle.std.proofs.lemmas.List.Elements.{filter-append}
use Rattle.std.proofs.Common.{suc, take, refl, sym, ap, subst, ◌∙◌, arith, append-nil}
use Rattle.std.proofs.lemmas.Bool.{cases_lt}
use Rattle.std.specs.Ordering.{is_eq}
use Rattle.lq_ast.proofs.Sorted.{split_bool}
use Rattle.lq_ast.proofs.TupleOrder.{tuple_cmp_total}
use Rattle.lq_ast.specs.Groups.{key_tuple, members}
use Rattle.lq_ast.specs.Records.{Record}
use Rattle.lq_ast.specs.Stage.{GroupBy, Statistic}
use Rattle.lq_ast.specs.Tuples.{Tuple, tuple_cmp}
use Rattle.lq_tuple.proofs.Once.{count_cons, count_joined, count_more, itself}
use Rattle.lq_tuple.proofs.Tuples.{eq_turned, tuple_tells}
use Rattle.lq_tuple.specs.Once.{HasEachOnce, count}
use Rattle.lq_stats.proofs.Gathering.{members_few, members_none}
use Rattle.lq_stats.specs.Groups.{AreGroups, AreKept, AreStates, IsTaken, with_more}
use Rattle.lq_stats.specs.declared.groups.Groups.{Groups}

members_joined : (keys : List GroupBy) (xs ys : List Record) (t : Tuple)
    → members keys (xs ++ ys) t ≡ members keys xs t ++ members keys ys t
members_joined keys xs ys t = filter-append (λ r. is_eq (tuple_cmp (key_tuple keys r) t)) xs ys

-- no records have a tuple that is not among these
none_of : (keys : List GroupBy) (more : List Tuple) (records : List Record) (t : Tuple)
    → count tuple_cmp t (more ++ map (key_tuple keys) records) ≡ 0 → members keys records t ≡ []
none_of keys more records t none =
    members_none keys records t
    (let split = count_joined (λ u. is_eq (tuple_cmp t u)) more (map (key_tuple keys) records) in omega arith)

abbrev tick : Bool → ℕ
tick b = cond b 1 0

-- the counts of the tuples from one place on
drop_counts : (x : Tuple) (ts : List Tuple) (k : ℕ) → k < length ts
    → count tuple_cmp x (drop k ts) ≡ tick (is_eq (tuple_cmp x (get_or ts k []))) + count tuple_cmp x (drop (k + 1) ts)
drop_counts x ts k within =
    ap (count tuple_cmp x) (drop_one ts k within)
    ∙ count_cons (λ u. is_eq (tuple_cmp x u)) (get_or ts k []) (drop (k + 1) ts)
  where
    drop_one : (us : List Tuple) (j : ℕ) → j < length us → drop j us ≡ get_or us j [] ∷ drop (j + 1) us
    drop_one us j less =
        let one : suc j ≡ j + 1 = omega arith in
        drop-cons us j [] less ∙ ap (λ n. get_or us j [] ∷ drop n us) one

drop_few : (x : Tuple) (ts : List Tuple) (k : ℕ) → count tuple_cmp x (drop k ts) ≤ count tuple_cmp x ts
drop_few x ts k =
    let whole = ap (count tuple_cmp x) (take-append-drop k ts) in
    let split = count_joined (λ u. is_eq (tuple_cmp x u)) (take k ts) (drop k ts) in
    omega arith

-- The groups of some records have taken the states of others, for these tuples.
pub record AreJoining (keys : List GroupBy) (statistics : List Statistic) (groups : Groups) (more : List Tuple)
    (xs ys : List Record) (done : List Tuple) : Type 0 where
  pub tuples : List Tuple
  pub all : List Tuple
  pub held : Tuple → List Record
  pub kept : AreKept statistics (length keys) groups tuples held
  pub once : HasEachOnce tuple_cmp tuples all
  pub counts : (x : Tuple)
      → count tuple_cmp x all ≡ count tuple_cmp x (more ++ map (key_tuple keys) xs) + count tuple_cmp x done
  pub taken : (u : Tuple) → 1 ≤ count tuple_cmp u done → held u ≡ members keys xs u ++ members keys ys u
  pub left : (u : Tuple) → count tuple_cmp u done ≡ 0 → held u ≡ members keys xs u

module _ (keys : List GroupBy) (statistics : List Statistic) (more : List Tuple) (xs ys : List Record)
    (others : List Tuple) (once : HasEachOnce tuple_cmp others (more ++ map (key_tuple keys) ys)) where
  abbrev pub Joining : Groups → ℕ → Type 0
  Joining groups k = AreJoining keys statistics groups more xs ys (drop k others)

  pub joining_begins : (groups : Groups) → AreGroups keys statistics groups more xs → Joining groups (length others)
  joining_begins groups h =
      let none : drop (length others) others ≡ [] = drop-length others in
      record {
        tuples = h.tuples;
        all = more ++ map (key_tuple keys) xs;
        held = members keys xs;
        kept = record { known = h.known; wide = h.wide; long = h.long; each = h.states };
        once = h.once;
        counts = λ x. let zero_is = ap (count tuple_cmp x) none in omega arith;
        taken = λ u some. let zero_is = ap (count tuple_cmp u) none in absurd (omega arith);
        left = λ u _. refl;
      }

  -- what is needed to take the tuple before
  module _ (groups : Groups) (k : ℕ) (within : k < length others) (m : Joining groups (k + 1)) where
    alone : count tuple_cmp (get_or others k []) (drop (k + 1) others) ≡ 0
    alone =
        let here = drop_counts (get_or others k []) others k within in
        let one : tick (is_eq (tuple_cmp (get_or others k []) (get_or others k []))) ≡ 1 =
        ap tick (itself tuple_cmp tuple_cmp_total tuple_tells (get_or others k [])) in
        let few = drop_few (get_or others k []) others k in
        let least = once.each (get_or others k []) in
        omega arith

    pub free : count tuple_cmp (get_or others k []) m.tuples ≡ 0 → m.held (get_or others k []) ≡ []
    free none =
        m.left (get_or others k []) alone
        ∙ none_of keys more xs (get_or others k [])
        (let counts = m.counts (get_or others k []) in let had = m.once.each (get_or others k []) in omega arith)

    pub few_held : length (m.held (get_or others k [])) ≤ length xs
    few_held =
        let few = members_few keys xs (get_or others k []) in
        let same = ap length (m.left (get_or others k []) alone) in
        omega arith

    pub joining_more : (new : Groups)
        → IsTaken statistics (length keys) new m.held (get_or others k []) (members keys ys (get_or others k [])) m.all
        → Joining new k
    joining_more new h = record {
      tuples = h.tuples;
      all = m.all ++ get_or others k [] ∷ [];
      held = with_more m.held (get_or others k []) (members keys ys (get_or others k []));
      kept = h.kept;
      once = h.once;
      counts = λ x.
          let end = count_more (λ u. is_eq (tuple_cmp x u)) m.all (get_or others k []) in
          let here = drop_counts x others k within in
          let had = m.counts x in
          omega arith;
      taken = λ u some. split_bool (is_eq (tuple_cmp (get_or others k []) u))
          (λ b. is_eq (tuple_cmp (get_or others k []) u) ≡ b
          → cond b (m.held u ++ members keys ys (get_or others k [])) (m.held u)
          ≡ members keys xs u ++ members keys ys u)
          (λ _ e.
          let is : get_or others k [] ≡ u = tuple_tells (get_or others k []) u e in
          let gone = ap (λ v. count tuple_cmp v (drop (k + 1) others)) (sym is) ∙ alone in
          ap (λ l. l ++ members keys ys (get_or others k [])) (m.left u gone)
          ∙ ap (λ v. members keys xs u ++ members keys ys v) is)
          (λ _ e. m.taken u
          (let here = drop_counts u others k within in
          let apart : tick (is_eq (tuple_cmp u (get_or others k []))) ≡ 0 =
          ap tick (eq_turned u (get_or others k []) ∙ e) in omega arith)) refl;
      left = λ u none.
          let here = drop_counts u others k within in
          let apart : is_eq (tuple_cmp (get_or others k []) u) ≡ false =
          eq_turned (get_or others k []) u ∙ not_one (is_eq (tuple_cmp u (get_or others k []))) (omega arith) in
          ap (λ b. cond b (m.held u ++ members keys ys (get_or others k [])) (m.held u)) apart
          ∙ m.left u (omega arith);
    }
      where
        not_one : (b : Bool) → tick b ≡ 0 → b ≡ false
        not_one true e = absurd (omega arith)
        not_one false e = refl

  pub joining_ends : (groups : Groups) → Joining groups 0 → AreGroups keys statistics groups more (xs ++ ys)
  joining_ends groups m =
      let all_are : (u : Tuple) → m.held u ≡ members keys (xs ++ ys) u = λ u.
      elim (cases_lt 0 (count tuple_cmp u others)) [
        | inl some ↦ m.taken u (omega arith) ∙ sym (members_joined keys xs ys u)
        | inr none ↦
            let zero_is : count tuple_cmp u others ≡ 0 = omega arith in
            let least = once.each u in
            m.left u zero_is ∙ sym (append-nil (members keys xs u))
            ∙ ap (λ l. members keys xs u ++ l) (sym (none_of keys more ys u (omega arith)))
            ∙ sym (members_joined keys xs ys u)
      ] in
      record {
        tuples = m.tuples;
        known = m.kept.known;
        wide = m.kept.wide;
        long = m.kept.long;
        states = λ k d within.
            subst (AreStates statistics (get_or groups.states.items k d).list.items) (all_are (get_or m.tuples k []))
            (m.kept.each k d within);
        once = record {
          each = λ x.
              let had = m.once.each x in
              let counts = m.counts x in
              let least = once.each x in
              let front = count_joined (λ u. is_eq (tuple_cmp x u)) more (map (key_tuple keys) xs) in
              let behind = count_joined (λ u. is_eq (tuple_cmp x u)) more (map (key_tuple keys) ys) in
              let keyed = ap (count tuple_cmp x) (map-append (key_tuple keys) xs ys)
              ∙ count_joined (λ u. is_eq (tuple_cmp x u)) (map (key_tuple keys) xs) (map (key_tuple keys) ys) in
              let whole = count_joined (λ u. is_eq (tuple_cmp x u)) more (map (key_tuple keys) (xs ++ ys)) in
              omega arith;
        };
      }
