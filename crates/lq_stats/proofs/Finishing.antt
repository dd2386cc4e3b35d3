-- The records of groups are those that the grouping asks for.
use Rattle.std.proofs.Common.{◌≡◌, ℕ, suc, Bor, ◌+◌, ◌-◌, ◌<◌, ◌≤◌, not, List, [], ◌∷◌, ◌++◌, length, map}
use Rattle.std.proofs.Common.{append-nil, drop, take, get_or, zip, decimal, min, ℤ, Some, Result, Ok, Err}
use Rattle.std.proofs.Common.{append_assoc, refl, sym, ap, subst, ◌∙◌, arith}
use Rattle.std.proofs.lemmas.List.{length-map, take_all}
use Rattle.std.specs.List.{AllByRecursion, filter_map}
use Rattle.std.specs.Ordering.{is_eq, on}
use Rattle.log_model.proofs.ValueOrder.{value_cmp_linear}
use Rattle.log_model.specs.Order.{number_of, value_cmp}
use Rattle.lq_ast.proofs.Sorted.{all_sorted, all_weaker, map_sorted}
use Rattle.lq_ast.proofs.TupleOrder.{tuple_cmp_total}
use Rattle.lq_ast.specs.Grouping.{◌>>=◌, all, asked, group_record, grouped, put, set_statistics, statistic_text}
use Rattle.lq_ast.specs.Groups.{group_tuples, key_tuple, members}
use Rattle.lq_ast.specs.Records.{Record, put_fields}
use Rattle.lq_ast.specs.Stage.{GroupBy, Grouping, Statistic}
use Rattle.lq_ast.specs.Statistics.{array_text, call_text, sum_text, values}
use Rattle.lq_ast.specs.Tuples.{Tuple, distinct_by, is_wholly_empty, sorted_by, tuple_cmp, tuple_of}
use Rattle.lq_tuple.proofs.Lists.{map_alike, map_twice}
use Rattle.lq_tuple.proofs.Once.{count_cons, once_kept, once_sorted}
use Rattle.lq_tuple.proofs.Tuples.{tuple_tells, value_tells}
use Rattle.lq_tuple.specs.Groups.{group_tuple, keyed_group}
use Rattle.lq_tuple.specs.declared.group.Group.{Group}
use Rattle.lq_tuple.specs.declared.keyed.KeyedGroup.{KeyedGroup}
use Rattle.lq_stats.specs.Finish.{group_pair, made_record, measure_text, set_states, state_text, total_text}
use Rattle.lq_stats.specs.Function.{statistic_of}
use Rattle.lq_stats.specs.Groups.{AreStates, IsStateOf}
use Rattle.lq_stats.specs.Key.{grouped_by}
use Rattle.lq_stats.specs.Measure.{AreMeasured, are_filled, measure_call, sum_of}
use Rattle.lq_tuple.specs.Once.{HasEachOnce, count}
use Rattle.lq_stats.specs.Plan.{IsGathered, IsPlanOf, opening}
use Rattle.lq_stats.specs.State.{AreTaken, state_call}
use Rattle.lq_stats.specs.declared.function.Function.{Function}
use Rattle.lq_stats.specs.declared.groups.States.{States}
use Rattle.lq_stats.specs.declared.measure.Measure.{Measure}
use Rattle.lq_stats.specs.declared.measure.Measure.TheVariants.{Sum, Min, Max, UniqValues}
use Rattle.lq_stats.specs.declared.gathered.Gathered.{Gathered}
use Rattle.lq_stats.specs.declared.plan.Plan.{Plan}
use Rattle.lq_stats.specs.declared.state.State.{State}
use Rattle.lq_stats.specs.declared.state.State.TheVariants.{Count, CountEmpty, CountUniq, OfValues}

-- ---- values

total_is : (ns : List ℤ) → total_text (sum_of ns) ≡ sum_text ns
total_is [] = refl
total_is (n ∷ ns) = refl

measure_is : (m : Measure) (names : List (List ℕ)) (records : List Record) → AreMeasured m (values names records)
    → measure_text m ≡ call_text (measure_call m) names records
measure_is (Sum sum) names records h = ap total_text h ∙ total_is (filter_map number_of (values names records))
measure_is (Min least) names records h = ap (λ (t : List ℕ). Some t) h
measure_is (Max greatest) names records h = ap (λ (t : List ℕ). Some t) h
measure_is (UniqValues words) names records h =
    ap (λ l. Some (array_text l))
    (once_sorted value_cmp value_cmp_linear.total value_tells words.words.items
    (are_filled (values names records)) h.once)

state_is : (state : State) (names : List (List ℕ)) (records : List Record) → AreTaken names state records
    → state_text state ≡ call_text (state_call state) names records
state_is (Count number) names records h = ap (λ n. Some (decimal n)) h
state_is (CountEmpty number) names records h = ap (λ n. Some (decimal n)) h
state_is (CountUniq texts) names records h =
    ap (λ n. Some (decimal n))
    (h.held.counted ∙ length-map h.distinct _
    ∙ once_kept tuple_cmp tuple_cmp_total tuple_tells (λ tuple. not (is_wholly_empty tuple)) h.distinct
    (map (tuple_of names) records) h.once)
state_is (OfValues measure) names records h = measure_is measure names records h

statistic_is : (s : Statistic) (state : State) (records : List Record) → IsStateOf s state records
    → state_text state ≡ statistic_text s records
statistic_is s state records h =
    state_is state s.names (asked s.only records) h.1
    ∙ ap (λ call. call_text call s.names (asked s.only records)) h.0

statistics_are : (statistics : List Statistic) (states : List State) (records : List Record) → length states
    ≡ length statistics
    → ((k : ℕ) (d : Statistic) (e : State) → k < length statistics
    → IsStateOf (get_or statistics k d) (get_or states k e) records)
    → (r : Record) → set_states statistics states r ≡ set_statistics records statistics r
statistics_are [] states records long each r = refl
statistics_are (s ∷ ss) [] records long each r = absurd (omega arith)
statistics_are (s ∷ ss) (t ∷ ts) records long each r =
    let rest = statistics_are ss ts records (omega arith) (λ k d e within. each (suc k) d e (omega arith)) in
    (λ i. put s.name r (state_text t) >>= (λ y. rest y i))
    ∙ ap (λ text. put s.name r text >>= set_statistics records ss) (statistic_is s t records (each 0 s t (omega arith)))

-- ---- groups

made_is : (g : Grouping) (records : List Record) (group : Group (Bor States))
    → AreStates g.statistics group.kept.now.list.items (members g.keys records (group_tuple group))
    → made_record (map (λ key. key.0) g.keys) g.statistics group ≡ group_record g records (group_tuple group)
made_is g records group h =
    statistics_are g.statistics group.kept.now.list.items (members g.keys records (group_tuple group)) h.long h.each
    (put_fields [] (zip (map (λ key. key.0) g.keys) (group_tuple group)))

all_zipped : {A B : Type 0} (P : A × B → Type 0) (xs : List A) (ys : List B) (d : A) → length ys ≡ length xs
    → ((k : ℕ) (e : B) → k < length xs → P (get_or xs k d, get_or ys k e)) → AllByRecursion P (zip xs ys)
all_zipped P [] ys d long each = tt
all_zipped P (x ∷ xs) [] d long each = absurd (omega arith)
all_zipped P (x ∷ xs) (y ∷ ys) d long each = (
  each 0 y (omega arith),
  all_zipped P xs ys d (omega arith) (λ k e within. each (suc k) e (omega arith)),
)

all_unmapped : {A B : Type 0} (f : A → B) (P : B → Type 0) (xs : List A) → AllByRecursion P (map f xs)
    → AllByRecursion (λ x. P (f x)) xs
all_unmapped f P [] h = tt
all_unmapped f P (x ∷ xs) h = (h.0, all_unmapped f P xs h.1)

first_parts : {A B : Type 0} (xs : List A) (ys : List B) → length ys ≡ length xs → map (λ p. p.0) (zip xs ys) ≡ xs
first_parts [] ys long = refl
first_parts (x ∷ xs) [] long = absurd (omega arith)
first_parts (x ∷ xs) (y ∷ ys) long = ap (λ l. x ∷ l) (first_parts xs ys (omega arith))

none_count : (x : List ℕ) (xs : Tuple) (records : List Record) → count tuple_cmp (x ∷ xs) (map (key_tuple []) records) ≡ 0
none_count x xs [] = refl
none_count x xs (r ∷ rs) =
    count_cons (λ t. is_eq (tuple_cmp (x ∷ xs) t)) [] (map (key_tuple []) rs) ∙ ap (λ n. 0 + n) (none_count x xs rs)

one_group : (records : List Record) → HasEachOnce tuple_cmp ([] ∷ []) (([] ∷ []) ++ map (key_tuple []) records)
one_group records = record { each = at }
  where
    at : (t : Tuple) → count tuple_cmp t ([] ∷ []) ≡ min 1 (count tuple_cmp t ([] ∷ map (key_tuple []) records))
    at [] =
        let whole = count_cons (λ t. is_eq (tuple_cmp [] t)) [] (map (key_tuple []) records) in
        let one : count tuple_cmp [] ([] ∷ []) ≡ 1 = count_cons (λ t. is_eq (tuple_cmp [] t)) [] [] in
        omega arith
    at (x ∷ xs) =
        let whole = count_cons (λ t. is_eq (tuple_cmp (x ∷ xs) t)) [] (map (key_tuple []) records) in
        let none = none_count x xs records in
        let one : count tuple_cmp (x ∷ xs) ([] ∷ []) ≡ 0 = count_cons (λ t. is_eq (tuple_cmp (x ∷ xs) t)) [] [] in
        omega arith

opened : (keys : List GroupBy) (records : List Record)
    → distinct_by tuple_cmp (opening keys ++ map (key_tuple keys) records) ≡ group_tuples keys records
unfolding sorted_by
opened [] records =
    sym (once_sorted tuple_cmp tuple_cmp_total tuple_tells ([] ∷ []) (([] ∷ []) ++ map (key_tuple []) records)
    (one_group records))
opened (key ∷ keys) records = refl

-- the records of the groups in tuple order
pub finished : (gathered : Gathered) (g : Grouping) (records : List Record) (h : IsGathered gathered g records)
    (groups : List (Group (Bor States)))
    → map group_pair groups ≡ zip h.groups.tuples gathered.groups.states.items
    → all (map (made_record (map (λ key. key.0) g.keys) g.statistics) (sorted_by (on group_tuple tuple_cmp) groups))
    ≡ grouped g records
finished gathered g records h groups read =
    let order = on group_tuple tuple_cmp in
    let tuples = h.groups.tuples in
    let states = gathered.groups.states.items in
    let are = λ (p : Tuple × States). AreStates g.statistics p.1.list.items (members g.keys records p.0) in
    let made = made_record (map (λ key. key.0) g.keys) g.statistics in
    let tuples_are : map group_tuple groups ≡ tuples =
    sym (map_twice group_pair (λ p. p.0) groups) ∙ ap (map (λ p. p.0)) read
    ∙ first_parts tuples states h.groups.long in
    let each : AllByRecursion (λ group. made group ≡ group_record g records (group_tuple group)) groups =
    all_weaker (λ group. are (group_pair group)) (λ group. made group ≡ group_record g records (group_tuple group))
    (λ group has. made_is g records group has) groups
    (all_unmapped group_pair are groups (subst (AllByRecursion are) (sym read)
    (all_zipped are tuples states [] h.groups.long h.groups.states))) in
    ap all
    (map_alike made (λ group. group_record g records (group_tuple group)) (sorted_by order groups)
    (all_sorted order (λ group. made group ≡ group_record g records (group_tuple group)) groups each)
    ∙ sym (map_twice group_tuple (group_record g records) (sorted_by order groups))
    ∙ ap (map (group_record g records))
    (map_sorted group_tuple tuple_cmp groups ∙ ap (sorted_by tuple_cmp) tuples_are
    ∙ once_sorted tuple_cmp tuple_cmp_total tuple_tells tuples
    (opening g.keys ++ map (key_tuple g.keys) records) h.groups.once
    ∙ opened g.keys records))

-- the same, by what the code has
pub finished_as : (plan : Plan) (gathered : Gathered) (g : Grouping) (records : List Record) (p : IsPlanOf plan g)
    (h : IsGathered gathered g records)
    (names : List (List ℕ)) (functions : List Function) (groups : List (Group (Bor States)))
    → names ≡ map (λ key. key.0) (map grouped_by plan.keys.items) → functions ≡ plan.functions.items
    → map group_pair groups ≡ zip h.groups.tuples gathered.groups.states.items
    → grouped g records
    ≡ all (map (made_record names (map statistic_of functions)) (sorted_by (on group_tuple tuple_cmp) groups))
finished_as plan gathered g records p h names functions groups a b read =
    sym (finished gathered g records h groups read)
    ∙ ap (λ ns. all (map (made_record ns g.statistics) (sorted_by (on group_tuple tuple_cmp) groups)))
    (sym (a ∙ ap (map (λ key. key.0)) p.keys))
    ∙ ap (λ ss. all (map (made_record names ss) (sorted_by (on group_tuple tuple_cmp) groups)))
    (sym (ap (map statistic_of) b ∙ p.statistics))

-- ---- one result after another

abbrev pub prepended : {A E : Type 0} → List A → Result (List A) E → Result (List A) E
prepended done (Ok more) = Ok (done ++ more)
prepended done (Err e) = Err e

pub prepended_one : {A E : Type 0} (done : List A) (one : A) (rest : Result (List A) E)
    → prepended done (Ok one >>= λ y. rest >>= λ ys. Ok (y ∷ ys)) ≡ prepended (done ++ one ∷ []) rest
prepended_one done one (Ok more) = ap (λ l. Ok l) (sym (append_assoc done (one ∷ []) more))
prepended_one done one (Err e) = refl

pub prepended_none : {A E : Type 0} (rest : Result (List A) E) → rest ≡ prepended [] rest
prepended_none (Ok more) = refl
prepended_none (Err e) = refl

-- ---- the records, one after another

pub records_step : (f : Group (Bor States) → Result Record (List ℕ)) (done : List Record) (left : List (KeyedGroup (Bor States))) (one : KeyedGroup (Bor States))
    (made : Record) → 1 ≤ length left → one ≡ get_or left 0 one → f (keyed_group one) ≡ Ok made
    → prepended done (all (map f (map keyed_group left)))
    ≡ prepended (done ++ made ∷ []) (all (map f (map keyed_group (take (length left - 1) (drop 1 left)))))
records_step f done [] one made some is ok = absurd (omega arith)
records_step f done (x ∷ xs) one made some is ok =
    let behind : length (x ∷ xs) - 1 ≡ length xs = omega arith in
    let rest : take (length (x ∷ xs) - 1) xs ≡ xs = ap (λ n. take n xs) behind ∙ take_all (length xs) xs (omega arith) in
    ap (λ r. prepended done (r >>= λ y. all (map f (map keyed_group xs)) >>= λ ys. Ok (y ∷ ys)))
    (ap (λ k. f (keyed_group k)) (sym is) ∙ ok)
    ∙ prepended_one done made (all (map f (map keyed_group xs)))
    ∙ sym (ap (λ l. prepended (done ++ made ∷ []) (all (map f (map keyed_group l)))) rest)

pub records_fail : (f : Group (Bor States) → Result Record (List ℕ)) (done : List Record) (left : List (KeyedGroup (Bor States))) (one : KeyedGroup (Bor States))
    (name : List ℕ) → 1 ≤ length left → one ≡ get_or left 0 one → f (keyed_group one) ≡ Err name
    → prepended done (all (map f (map keyed_group left))) ≡ Err name
records_fail f done [] one name some is failed = absurd (omega arith)
records_fail f done (x ∷ xs) one name some is failed =
    ap (λ r. prepended done (r >>= λ y. all (map f (map keyed_group xs)) >>= λ ys. Ok (y ∷ ys)))
    (ap (λ k. f (keyed_group k)) (sym is) ∙ failed)

pub records_end : (f : Group (Bor States) → Result Record (List ℕ)) (done : List Record) (left : List (KeyedGroup (Bor States))) → length left < 1
    → prepended done (all (map f (map keyed_group left))) ≡ Ok done
records_end f done [] none = ap (λ l. Ok l) (append-nil done)
records_end f done (x ∷ xs) none = absurd (omega arith)
