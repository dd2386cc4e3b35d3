-- What functions keep of values, as one more comes, and as values stand in another order.
use Rattle.std.proofs.Common.{◌≡◌, ℕ, ◌+◌, ◌*◌, ◌^◌, ◌<◌, ◌≤◌, Bool, true, false, not, cond, List, [], ◌∷◌}
use Rattle.std.proofs.Common.{◌++◌, length, ℤ, pos, neg_ℤ, ◌+ℤ◌, ◌≤ℤ◌, ◌<ℤ◌, FitsSigned, Option, Some, None}
use Rattle.std.proofs.Common.{unwrap_or, append-nil, refl, sym, ap, ◌∙◌, arith}
use Rattle.std.proofs.lemmas.Int.{ints}
use Rattle.std.proofs.lemmas.List.Elements.{filter_map-append}
use Rattle.std.proofs.lemmas.List.Sums.{fold_push}
use Rattle.std.specs.Cmp.{upto}
use Rattle.std.specs.Int.{w64}
use Rattle.std.specs.List.{AllByRecursion, filter_map, fold}
use Rattle.std.specs.Ordering.{is_eq, is_gt, is_lt}
use Rattle.std.specs.declared.cmp.Ordering.{Ordering}
use Rattle.std.specs.declared.cmp.Ordering.TheVariants.{Equal, Greater, Less}
use Rattle.log_model.proofs.ValueOrder.{number_of-some, value_cmp_linear}
use Rattle.log_model.specs.Field.{is_empty}
use Rattle.log_model.specs.Order.{number_of, value_cmp}
use Rattle.lq_ast.proofs.Sorted.{Rises, all_sorted, rises_sorted, split_bool}
use Rattle.lq_ast.specs.Statistics.{first_text, last_text}
use Rattle.lq_ast.specs.Tuples.{insert_by, sorted_by}
use Rattle.lq_tuple.proofs.Lists.{filter_more}
use Rattle.lq_tuple.proofs.Once.{count_cons, count_more, filtered_same, once_alike, sorted_same}
use Rattle.lq_tuple.proofs.Tuples.{value_tells}
use Rattle.lq_stats.specs.Measure.{AreMeasured, are_filled, greater, lesser, sum_of, with_number, with_sum, within_128}
use Rattle.lq_tuple.specs.Once.{count}
use Rattle.lq_stats.specs.declared.measure.Measure.{Measure}
use Rattle.lq_stats.specs.declared.measure.Measure.TheVariants.{Sum, Min, Max, UniqValues}

-- ---- sums

added : ℤ → ℤ → ℤ
added sum n = sum +ℤ n

sum_of_more : (ns : List ℤ) (n : ℤ) → sum_of (ns ++ n ∷ []) ≡ Some (unwrap_or (sum_of ns) (pos 0) +ℤ n)
sum_of_more [] n = refl
sum_of_more (m ∷ ms) n = ap (λ (z : ℤ). Some z) (fold_push (λ sum k. sum +ℤ k) (pos 0) (m ∷ ms) n)

-- the numbers of a list lie within this many times 2^63
within_from : (a : ℤ) (m : ℕ) (ns : List ℤ) → AllByRecursion (FitsSigned w64) ns
    → neg_ℤ (pos (m * 2 ^ 63)) ≤ℤ a → a ≤ℤ pos (m * 2 ^ 63)
    → (neg_ℤ (pos ((m + length ns) * 2 ^ 63)) ≤ℤ fold (λ sum k. sum +ℤ k) a ns)
    × (fold (λ sum k. sum +ℤ k) a ns ≤ℤ pos ((m + length ns) * 2 ^ 63))
within_from a m [] fits low high = (omega (arith, ints), omega (arith, ints))
within_from a m (n ∷ ns) fits low high =
    let one : FitsSigned w64 n = fits.0 in
    let more = within_from (a +ℤ n) (m + 1) ns fits.1 (omega (arith, ints)) (omega (arith, ints)) in
    (omega (arith, ints, more.0), omega (arith, ints, more.1))

sum_within : (ns : List ℤ) → AllByRecursion (FitsSigned w64) ns
    → (neg_ℤ (pos (length ns * 2 ^ 63)) ≤ℤ unwrap_or (sum_of ns) (pos 0))
    × (unwrap_or (sum_of ns) (pos 0) ≤ℤ pos (length ns * 2 ^ 63))
sum_within [] fits = (omega (arith, ints), omega (arith, ints))
sum_within (n ∷ ns) fits =
    let both = within_from (pos 0) 0 (n ∷ ns) fits (omega (arith, ints)) (omega (arith, ints)) in
    (omega (arith, ints, both.0), omega (arith, ints, both.1))

numbers_fit : (values : List (List ℕ)) → AllByRecursion (FitsSigned w64) (filter_map number_of values)
numbers_fit [] = tt
numbers_fit (v ∷ vs) = at (number_of v) refl (numbers_fit vs)
  where
    at : (o : Option ℤ) → number_of v ≡ o → AllByRecursion (FitsSigned w64) (filter_map number_of vs)
        → AllByRecursion (FitsSigned w64) (filter_map number_of (v ∷ vs))
    at (Some n) e more = rw e ((number_of-some v n e).fits, more)
    at None e more = rw e more

numbers_few : (values : List (List ℕ)) → length (filter_map number_of values) ≤ length values
numbers_few [] = omega arith
numbers_few (v ∷ vs) = at (number_of v) refl (numbers_few vs)
  where
    at : (o : Option ℤ) → number_of v ≡ o → length (filter_map number_of vs) ≤ length vs
        → length (filter_map number_of (v ∷ vs)) ≤ length (v ∷ vs)
    at (Some n) e more = rw e (omega arith)
    at None e more = rw e (omega arith)

stays_within : (z : ℤ) → neg_ℤ (pos (2 ^ 127)) ≤ℤ z → z <ℤ pos (2 ^ 127) → within_128 z ≡ z
stays_within z low high = grind (arith, ints)

pub sum_taken : (values : List (List ℕ)) (value : List ℕ) → length values < 2 ^ 64
    → with_number (sum_of (filter_map number_of values)) value ≡ sum_of (filter_map number_of (values ++ value ∷ []))
sum_taken values value few = at (number_of value) refl ∙ ap sum_of (sym (filter_map-append number_of values (value ∷ [])))
  where
    at : (o : Option ℤ) → number_of value ≡ o
        → with_number (sum_of (filter_map number_of values)) value
        ≡ sum_of (filter_map number_of values ++ filter_map number_of (value ∷ []))
    at (Some n) e =
        let one : FitsSigned w64 n = (number_of-some value n e).fits in
        let both = sum_within (filter_map number_of values) (numbers_fit values) in
        let short = numbers_few values in
        let same = stays_within (unwrap_or (sum_of (filter_map number_of values)) (pos 0) +ℤ n)
        (omega (arith, ints, both.0, one)) (omega (arith, ints, both.1, one)) in
        rw e (ap (λ (z : ℤ). Some z) same ∙ sym (sum_of_more (filter_map number_of values) n))
    at None e = rw e (ap sum_of (sym (append-nil (filter_map number_of values))))

-- sums of the same values in another order

joined : Option ℤ → Option ℤ → Option ℤ
joined None o = o
joined (Some a) None = Some a
joined (Some a) (Some b) = Some (a +ℤ b)

fold_moved : (a b : ℤ) (ns : List ℤ)
    → fold (λ sum k. sum +ℤ k) (a +ℤ b) ns ≡ a +ℤ fold (λ sum k. sum +ℤ k) b ns
fold_moved a b [] = refl
fold_moved a b (n ∷ ns) =
    let moved : (a +ℤ b) +ℤ n ≡ a +ℤ (b +ℤ n) = omega (arith, ints) in
    ap (λ (z : ℤ). fold (λ sum k. sum +ℤ k) z ns) moved ∙ fold_moved a (b +ℤ n) ns

total_joined : (ms ns : List ℤ) (a : ℤ)
    → fold (λ sum k. sum +ℤ k) a (ms ++ ns) ≡ fold (λ sum k. sum +ℤ k) a ms +ℤ fold (λ sum k. sum +ℤ k) (pos 0) ns
total_joined [] ns a =
    let none : a ≡ a +ℤ pos 0 = omega (arith, ints) in
    ap (λ (z : ℤ). fold (λ sum k. sum +ℤ k) z ns) none ∙ fold_moved a (pos 0) ns
total_joined (m ∷ ms) ns a = total_joined ms ns (a +ℤ m)

-- the sum of both, where the second has some
sum_of_both : (ms : List ℤ) (n : ℤ) (ns : List ℤ)
    → sum_of (ms ++ n ∷ ns) ≡ Some (unwrap_or (sum_of ms) (pos 0) +ℤ fold (λ sum k. sum +ℤ k) (pos 0) (n ∷ ns))
sum_of_both [] n ns =
    let none : fold (λ sum k. sum +ℤ k) (pos 0) (n ∷ ns) ≡ pos 0 +ℤ fold (λ sum k. sum +ℤ k) (pos 0) (n ∷ ns) =
    omega (arith, ints) in
    ap (λ (z : ℤ). Some z) none
sum_of_both (m ∷ ms) n ns = ap (λ (z : ℤ). Some z) (total_joined (m ∷ ms) (n ∷ ns) (pos 0))

with_both : (ms ns : List ℤ) → AllByRecursion (FitsSigned w64) ms → AllByRecursion (FitsSigned w64) ns
    → length ms + length ns < 2 ^ 64 → with_sum (sum_of ms) (sum_of ns) ≡ sum_of (ms ++ ns)
with_both ms [] fits more few = ap sum_of (sym (append-nil ms))
with_both ms (n ∷ ns) fits more few =
    let one = sum_within ms fits in
    let other = sum_within (n ∷ ns) more in
    let same = stays_within (unwrap_or (sum_of ms) (pos 0) +ℤ fold (λ sum k. sum +ℤ k) (pos 0) (n ∷ ns))
    (omega (arith, ints, one.0, other.0)) (omega (arith, ints, one.1, other.1)) in
    ap (λ (z : ℤ). Some z) same ∙ sym (sum_of_both ms n ns)

-- the sum of the numbers of two lists
pub sum_joined : (values more : List (List ℕ)) → length values + length more < 2 ^ 64
    → with_sum (sum_of (filter_map number_of values)) (sum_of (filter_map number_of more))
    ≡ sum_of (filter_map number_of (values ++ more))
sum_joined values more few =
    let one = numbers_few values in
    let other = numbers_few more in
    with_both (filter_map number_of values) (filter_map number_of more) (numbers_fit values) (numbers_fit more)
    (omega arith)
    ∙ ap sum_of (sym (filter_map-append number_of values more))

sum_of_joined : (n : ℤ) (ns : List ℤ) → sum_of (n ∷ ns) ≡ joined (Some n) (sum_of ns)
unfolding joined
sum_of_joined n [] = let same : pos 0 +ℤ n ≡ n = omega (arith, ints) in ap (λ (z : ℤ). Some z) same
sum_of_joined n (m ∷ ms) =
    let turned : pos 0 +ℤ n ≡ n +ℤ pos 0 = omega (arith, ints) in
    ap (λ (z : ℤ). Some (fold (λ sum k. sum +ℤ k) z (m ∷ ms))) turned
    ∙ ap (λ (z : ℤ). Some z) (fold_moved n (pos 0) (m ∷ ms))

value_sum : List (List ℕ) → Option ℤ
value_sum values = sum_of (filter_map number_of values)

value_sum_joined : (v : List ℕ) (vs : List (List ℕ)) → value_sum (v ∷ vs) ≡ joined (number_of v) (value_sum vs)
unfolding joined value_sum
value_sum_joined v vs = at (number_of v) refl
  where
    at : (o : Option ℤ) → number_of v ≡ o → sum_of (filter_map number_of (v ∷ vs))
        ≡ joined (number_of v) (sum_of (filter_map number_of vs))
    at (Some n) e = rw e (sum_of_joined n (filter_map number_of vs))
    at None e = rw e refl

joined_turned : (a b c : Option ℤ) → joined a (joined b c) ≡ joined b (joined a c)
unfolding joined
joined_turned None b c = refl
joined_turned (Some a) None c = refl
joined_turned (Some a) (Some b) None =
    let same : a +ℤ b ≡ b +ℤ a = omega (arith, ints) in ap (λ (z : ℤ). Some z) same
joined_turned (Some a) (Some b) (Some c) =
    let same : a +ℤ (b +ℤ c) ≡ b +ℤ (a +ℤ c) = omega (arith, ints) in ap (λ (z : ℤ). Some z) same

sum_inserted : (v : List ℕ) (vs : List (List ℕ)) → value_sum (insert_by value_cmp v vs) ≡ value_sum (v ∷ vs)
sum_inserted v [] = refl
sum_inserted v (w ∷ ws) =
    elim (is_gt (value_cmp v w)) as
    (λ t. value_sum (cond t (w ∷ insert_by value_cmp v ws) (v ∷ (w ∷ ws))) ≡ value_sum (v ∷ (w ∷ ws))) [
      | true ↦
          value_sum_joined w (insert_by value_cmp v ws) ∙ ap (joined (number_of w)) (sum_inserted v ws)
          ∙ ap (joined (number_of w)) (value_sum_joined v ws)
          ∙ joined_turned (number_of w) (number_of v) (value_sum ws)
          ∙ sym (ap (joined (number_of v)) (value_sum_joined w ws)) ∙ sym (value_sum_joined v (w ∷ ws))
      | false ↦ refl
    ]

sum_sorted : (vs : List (List ℕ)) → value_sum (sorted_by value_cmp vs) ≡ value_sum vs
unfolding sorted_by
sum_sorted [] = refl
sum_sorted (v ∷ vs) =
    sum_inserted v (sorted_by value_cmp vs) ∙ value_sum_joined v (sorted_by value_cmp vs)
    ∙ ap (joined (number_of v)) (sum_sorted vs) ∙ sym (value_sum_joined v vs)

-- ---- the values that are not empty

turned_cond : {A : Type 0} (t : Bool) (x y : A) → cond (not t) x y ≡ cond t y x
turned_cond true x y = refl
turned_cond false x y = refl

pub filled_more : (values : List (List ℕ)) (value : List ℕ)
    → are_filled (values ++ value ∷ []) ≡ cond (is_empty value) (are_filled values) (are_filled values ++ value ∷ [])
filled_more values value =
    filter_more (λ v. not (is_empty v)) values value
    ∙ turned_cond (is_empty value) (are_filled values ++ value ∷ []) (are_filled values)

pub filled_each : (values : List (List ℕ)) → AllByRecursion (λ v. is_empty v ≡ false) (are_filled values)
filled_each [] = tt
filled_each (v ∷ vs) =
    split_bool (is_empty v)
    (λ t. AllByRecursion (λ w. is_empty w ≡ false) (cond (not t) (v ∷ are_filled vs) (are_filled vs)))
    (λ e. filled_each vs) (λ e. (e, filled_each vs))

-- a value at the end and one at the front are sorted alike
sorted_more : (values : List (List ℕ)) (value : List ℕ)
    → sorted_by value_cmp (values ++ value ∷ []) ≡ insert_by value_cmp value (sorted_by value_cmp values)
unfolding sorted_by
sorted_more values value =
    sorted_same value_cmp value_cmp_linear.total value_tells (values ++ value ∷ []) (value ∷ values)
    (λ x.
    let end = count_more (λ y. is_eq (value_cmp x y)) values value in
    let front = count_cons (λ y. is_eq (value_cmp x y)) value values in
    turned (cond (is_eq (value_cmp x value)) 1 0) _ _ _ end front)
  where
    turned : (one all some n : ℕ) → all ≡ n + one → some ≡ one + n → all ≡ some
    turned one all some n a b = omega arith

-- ---- the least value

first_inserted : (value : List ℕ) (values : List (List ℕ)) → is_empty value ≡ false
    → AllByRecursion (λ v. is_empty v ≡ false) values
    → first_text (insert_by value_cmp value values) ≡ lesser (first_text values) value
first_inserted value [] some each = rw some refl
first_inserted value (v ∷ vs) some each =
    rw (some, each.0) (at (value_cmp value v) refl)
  where
    at : (o : Ordering) → value_cmp value v ≡ o
        → first_text (cond (is_gt (value_cmp value v)) (v ∷ insert_by value_cmp value vs) (value ∷ (v ∷ vs)))
        ≡ cond (is_lt (value_cmp value v)) value v
    at Less e = rw e refl
    at Equal e = rw e (value_tells value v (ap is_eq e))
    at Greater e = rw e refl

pub least_taken : (values : List (List ℕ)) (value : List ℕ)
    → lesser (first_text (sorted_by value_cmp (are_filled values))) value
    ≡ first_text (sorted_by value_cmp (are_filled (values ++ value ∷ [])))
least_taken values value =
    split_bool (is_empty value)
    (λ t. is_empty value ≡ t → lesser (first_text (sorted_by value_cmp (are_filled values))) value
    ≡ first_text (sorted_by value_cmp (cond t (are_filled values) (are_filled values ++ value ∷ []))))
    (λ e is. rw is refl)
    (λ e is.
    sym (first_inserted value (sorted_by value_cmp (are_filled values)) is
    (all_sorted value_cmp (λ v. is_empty v ≡ false) (are_filled values) (filled_each values)))
    ∙ ap first_text (sym (sorted_more (are_filled values) value))) refl
    ∙ ap (λ l. first_text (sorted_by value_cmp l)) (sym (filled_more values value))

-- ---- the greatest value

last_behind : (v w : List ℕ) (t : Bool) (xs ys : List (List ℕ)) → last_text (v ∷ cond t (w ∷ xs) (w ∷ ys))
    ≡ last_text (cond t (w ∷ xs) (w ∷ ys))
last_behind v w true xs ys = refl
last_behind v w false xs ys = refl

last_of_all : (P : List ℕ → Type 0) (v : List ℕ) (vs : List (List ℕ)) → P v → AllByRecursion P vs → P (last_text (v ∷ vs))
last_of_all P v [] one each = one
last_of_all P v (w ∷ ws) one each = last_of_all P w ws each.0 each.1

last_inserted : (value v : List ℕ) (vs : List (List ℕ)) → Rises value_cmp value_cmp_linear.total (v ∷ vs)
    → last_text (insert_by value_cmp value (v ∷ vs))
    ≡ cond (is_gt (value_cmp value (last_text (v ∷ vs)))) value (last_text (v ∷ vs))
unfolding Rises
last_inserted value v [] up =
    elim (is_gt (value_cmp value v)) as
    (λ t. last_text (cond t (v ∷ (value ∷ [])) (value ∷ (v ∷ []))) ≡ cond t value v) [
      | true ↦ refl
      | false ↦ refl
    ]
last_inserted value v (w ∷ ws) up =
    split_bool (is_gt (value_cmp value v))
    (λ t. last_text (cond t (v ∷ insert_by value_cmp value (w ∷ ws)) (value ∷ (v ∷ (w ∷ ws))))
    ≡ cond (is_gt (value_cmp value (last_text (w ∷ ws)))) value (last_text (w ∷ ws)))
    (λ e. behind (is_gt (value_cmp value w)) ∙ last_inserted value w ws up.1)
    (λ e.
    let below = upto value_cmp_linear.total value v (last_text (w ∷ ws)) e
    (last_of_all (λ y. is_gt (value_cmp v y) ≡ false) w ws up.0.0 up.0.1) in
    rw below refl)
  where
    behind : (t : Bool) → last_text (v ∷ cond t (w ∷ insert_by value_cmp value ws) (value ∷ (w ∷ ws)))
        ≡ last_text (cond t (w ∷ insert_by value_cmp value ws) (value ∷ (w ∷ ws)))
    behind true = refl
    behind false = refl

greatest_of : (value : List ℕ) (values : List (List ℕ)) → is_empty value ≡ false
    → AllByRecursion (λ v. is_empty v ≡ false) values → Rises value_cmp value_cmp_linear.total values
    → last_text (insert_by value_cmp value values) ≡ greater (last_text values) value
greatest_of value [] some each up = rw some refl
greatest_of value (v ∷ vs) some each up =
    rw (some, last_of_all (λ w. is_empty w ≡ false) v vs each.0 each.1) (last_inserted value v vs up)

pub greatest_taken : (values : List (List ℕ)) (value : List ℕ)
    → greater (last_text (sorted_by value_cmp (are_filled values))) value
    ≡ last_text (sorted_by value_cmp (are_filled (values ++ value ∷ [])))
greatest_taken values value =
    split_bool (is_empty value)
    (λ t. is_empty value ≡ t → greater (last_text (sorted_by value_cmp (are_filled values))) value
    ≡ last_text (sorted_by value_cmp (cond t (are_filled values) (are_filled values ++ value ∷ []))))
    (λ e is. rw is refl)
    (λ e is.
    sym (greatest_of value (sorted_by value_cmp (are_filled values)) is
    (all_sorted value_cmp (λ v. is_empty v ≡ false) (are_filled values) (filled_each values))
    (rises_sorted value_cmp value_cmp_linear.total (are_filled values)))
    ∙ ap last_text (sym (sorted_more (are_filled values) value))) refl
    ∙ ap (λ l. last_text (sorted_by value_cmp l)) (sym (filled_more values value))

-- ---- the same values in another order

pub measured_alike : (m : Measure) (values others : List (List ℕ))
    → ((x : List ℕ) → count value_cmp x values ≡ count value_cmp x others) → AreMeasured m values → AreMeasured m others
unfolding value_sum
measured_alike (Sum sum) values others same h =
    h ∙ sym (sum_sorted values)
    ∙ ap value_sum (sorted_same value_cmp value_cmp_linear.total value_tells values others same) ∙ sum_sorted others
measured_alike (Min least) values others same h =
    h ∙ ap first_text (sorted_same value_cmp value_cmp_linear.total value_tells (are_filled values) (are_filled others)
    (filtered_same value_cmp value_cmp_linear.total value_tells (λ v. not (is_empty v)) values others same))
measured_alike (Max greatest) values others same h =
    h ∙ ap last_text (sorted_same value_cmp value_cmp_linear.total value_tells (are_filled values) (are_filled others)
    (filtered_same value_cmp value_cmp_linear.total value_tells (λ v. not (is_empty v)) values others same))
measured_alike (UniqValues words) values others same h = record {
  known = h.known;
  once = once_alike value_cmp value_cmp_linear.total value_tells words.words.items (are_filled values)
      (are_filled others)
      (filtered_same value_cmp value_cmp_linear.total value_tells (λ v. not (is_empty v)) values others same) h.once;
}
