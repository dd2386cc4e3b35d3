-- Fields that are set one after another: the value of each name, and in which orders the same fields come out.
use Rattle.std.proofs.Common.{◌≡◌, ◌≢◌, ℕ, zero, ◌<◌, Bool, true, false, cond, not, ◌||◌, ◌&&◌, List, [], ◌∷◌}
use Rattle.std.proofs.Common.{◌++◌, length, reverse}
use Rattle.std.proofs.Common.{filter, fold, Option, Some, None, refl, sym, ap, subst, ◌∙◌, bytes_eq, unwrap_or, arith}
use Rattle.std.specs.List.{AllByRecursion, list_any}
use Rattle.std.specs.Fn.{Called, ComparesAs}
use Rattle.std.specs.List.Sorted.{IsPermutation, IsStableBy, IsStableByClosure, ties}
use Rattle.std.specs.Map.{lookup}
use Rattle.std.specs.BTreeMap.{insert_entry}
use Rattle.std.specs.Ordering.{is_eq, is_lt, match_ordering, ordering_reverse}
use Rattle.std.specs.declared.cmp.Ordering.{Ordering}
use Rattle.std.specs.declared.cmp.Ordering.TheVariants.{Less, Equal, Greater}
use Rattle.std.proofs.lemmas.Bool.{false≢true}
use Rattle.std.proofs.lemmas.Bool.Decides.{nat_tests}
use Rattle.std.proofs.lemmas.Cmp.{nat_list_cmp_total}
use Rattle.std.proofs.lemmas.List.{reverse-append}
use Rattle.std.proofs.lemmas.List.Elements.{filter-append, filter_agree}
use Rattle.std.proofs.lemmas.List.Folds.{list_any-append}
use Rattle.std.proofs.lemmas.Fn.{always_returns_same}
use Rattle.std.proofs.lemmas.List.Sorted.{IsPermutation-reverse, list_any-IsPermutation, ranks_by}
use Rattle.std.proofs.lemmas.List.Sums.{fold-append}
use Rattle.std.proofs.lemmas.Map.Text.{is_eq-slice_cmp}
use Rattle.std.proofs.lemmas.Slice.Eq.{bytes_eq-Decides}
use Rattle.log_model.specs.Field.{Field, IsFieldList, bytes_cmp, field_value, is_filled, set_all, set_field, without}
use Rattle.vl_row.proofs.NameOrder.{less_from_greater, other_above, other_below, same_name}
use Rattle.vl_row.specs.Names.{by_name, is_unnamed}
use Rattle.vl_row.specs.Place.{AllAbove, IsInOrder}
use Rattle.vl_row.proofs.Sorted.{IsFieldList-nil, IsFieldList-without, above_along, all_pass, filled_each, filled_pair}
use Rattle.vl_row.proofs.Sorted.{lookup_at_gap, order_cons, order_first, order_one, order_rest}
use Rattle.vl_row.proofs.Sorted.{all_without}
use denote.Param.Members.{Mut}
use denote.Ref.{Bor}

-- ---- tests

pub or_none : (a b : Bool) → (a || b) ≡ false → (a ≡ false) × (b ≡ false)
or_none true b h = absurd (false≢true (sym h))
or_none false b h = (refl, h)

-- a name that is one name is not another
apart : (q name other : List ℕ) → bytes_eq name other ≡ false → bytes_eq q other ≡ true → bytes_eq q name ≡ false
apart q name other h a = elim_by (bytes_eq q name) refl
  where
    elim_by : (t : Bool) → bytes_eq q name ≡ t → t ≡ false
    elim_by false e = refl
    elim_by true e =
        let same : name ≡ other = sym ((bytes_eq-Decides q name).0 e) ∙ (bytes_eq-Decides q other).0 a in
        sym ((bytes_eq-Decides name other).1 same) ∙ h

-- ---- the value of a name after a field is set

-- behind a field of another name
later : (a b : Bool) (first value : List ℕ) (before after : Option (List ℕ))
    → unwrap_or after [] ≡ cond b value (unwrap_or before []) → (a ≡ true → b ≡ false)
    → unwrap_or (cond a (Some first) after) [] ≡ cond b value (unwrap_or (cond a (Some first) before) [])
later true b first value before after h other = rw (other refl) refl
later false b first value before after h other = h

module _ (name value q : List ℕ) where
  value_step : (e : Field) (es : List Field) (o : Ordering) → bytes_cmp name e.0 ≡ o
      → field_value (insert_entry bytes_cmp es name value) q ≡ cond (bytes_eq q name) value (field_value es q)
      → field_value
      (match_ordering o ((name, value) ∷ e ∷ es) ((e.0, value) ∷ es) (e ∷ insert_entry bytes_cmp es name value)) q
      ≡ cond (bytes_eq q name) value (field_value (e ∷ es) q)
  value_step e es Less h before =
      elim (bytes_eq q name) as
      (λ t. unwrap_or (cond t (Some value) (lookup (bytes_eq q) (e ∷ es))) [] ≡ cond t value (field_value (e ∷ es) q)) [
        | true ↦ refl
        | false ↦ refl
      ]
  value_step e es Equal h before =
      let same : name ≡ e.0 = same_name name e.0 h in
      rw same
      (elim (bytes_eq q e.0) as
      (λ t. unwrap_or (cond t (Some value) (lookup (bytes_eq q) es)) []
      ≡ cond t value (unwrap_or (cond t (Some e.1) (lookup (bytes_eq q) es)) [])) [ true ↦ refl | false ↦ refl ])
  value_step e es Greater h before =
      later (bytes_eq q e.0) (bytes_eq q name) e.1 value (lookup (bytes_eq q) es)
      (lookup (bytes_eq q) (insert_entry bytes_cmp es name value)) before
      (apart q name e.0 (other_below name e.0 (less_from_greater name e.0 h)))

  value_inserted : (fields : List Field)
      → field_value (insert_entry bytes_cmp fields name value) q ≡ cond (bytes_eq q name) value (field_value fields q)
  value_inserted [] =
      elim (bytes_eq q name) as (λ t. unwrap_or (cond t (Some value) None) [] ≡ cond t value []) [
        | true ↦ refl
        | false ↦ refl
      ]
  value_inserted (e ∷ es) = value_step e es (bytes_cmp name e.0) refl (value_inserted es)

-- without the first field of a list in order
tail_step : (e : Field) (es : List Field) (q : List ℕ) (t : Bool) → bytes_eq q e.0 ≡ t → AllAbove es e.0
    → field_value es q ≡ cond t [] (unwrap_or (cond t (Some e.1) (lookup (bytes_eq q) es)) [])
tail_step e es q true h a =
    let same : q ≡ e.0 = (bytes_eq-Decides q e.0).0 h in
    ap (λ o. unwrap_or o []) (lookup_at_gap q es zero tt (rw same a))
tail_step e es q false h a = refl

tail_value : (e : Field) (es : List Field) (q : List ℕ) → AllAbove es e.0
    → field_value es q ≡ cond (bytes_eq q e.0) [] (field_value (e ∷ es) q)
tail_value e es q a = tail_step e es q (bytes_eq q e.0) refl a

without_step : (e : Field) (es : List Field) (name q : List ℕ) (t : Bool) → bytes_eq name e.0 ≡ t → AllAbove es e.0
    → field_value (without es name) q ≡ cond (bytes_eq q name) [] (field_value es q)
    → field_value (cond t es (e ∷ without es name)) q ≡ cond (bytes_eq q name) [] (field_value (e ∷ es) q)
without_step e es name q true h a before =
    let same : name ≡ e.0 = (bytes_eq-Decides name e.0).0 h in
    rw same (tail_value e es q a)
without_step e es name q false h a before =
    later (bytes_eq q e.0) (bytes_eq q name) e.1 [] (lookup (bytes_eq q) es) (lookup (bytes_eq q) (without es name))
    before (apart q name e.0 h)

value_without : (fields : List Field) (name q : List ℕ) → IsInOrder fields
    → field_value (without fields name) q ≡ cond (bytes_eq q name) [] (field_value fields q)
value_without [] name q s =
    let none : List ℕ = [] in
    elim (bytes_eq q name) as (λ t. none ≡ cond t none none) [ true ↦ refl | false ↦ refl ]
value_without (e ∷ es) name q s =
    without_step e es name q (bytes_eq name e.0) refl (order_first e es s) (value_without es name q (order_rest e es s))

pub value_set : (fields : List Field) (name value q : List ℕ) → IsInOrder fields
    → field_value (set_field fields name value) q ≡ cond (bytes_eq q name) value (field_value fields q)
value_set fields name [] q s = value_without fields name q s
value_set fields name (byte ∷ bytes) q s = value_inserted name (byte ∷ bytes) q fields

-- ---- setting a field keeps the rules

module _ (P : Field → Type 0) (name value : List ℕ) (one : P (name, value)) where
  all_step : (e : Field) (es : List Field) (o : Ordering) → bytes_cmp name e.0 ≡ o → AllByRecursion P (e ∷ es)
      → AllByRecursion P (insert_entry bytes_cmp es name value)
      → AllByRecursion P
      (match_ordering o ((name, value) ∷ e ∷ es) ((e.0, value) ∷ es) (e ∷ insert_entry bytes_cmp es name value))
  all_step e es Less h each more = (one, each)
  all_step e es Equal h each more =
      let same : name ≡ e.0 = same_name name e.0 h in
      (subst (λ n. P (n, value)) same one, each.1)
  all_step e es Greater h each more = (each.0, more)

  all_inserted : (fields : List Field) → AllByRecursion P fields
      → AllByRecursion P (insert_entry bytes_cmp fields name value)
  all_inserted [] each = (one, tt)
  all_inserted (e ∷ es) each = all_step e es (bytes_cmp name e.0) refl each (all_inserted es each.1)

order_step : (name value : List ℕ) (e : Field) (es : List Field) (o : Ordering) → bytes_cmp name e.0 ≡ o
    → IsInOrder (e ∷ es) → IsInOrder (insert_entry bytes_cmp es name value)
    → IsInOrder
    (match_ordering o ((name, value) ∷ e ∷ es) ((e.0, value) ∷ es) (e ∷ insert_entry bytes_cmp es name value))
order_step name value e es Less h s more =
    order_cons (name, value) (e ∷ es) (h, above_along name e.0 es h (order_first e es s)) s
order_step name value e es Equal h s more = order_cons (e.0, value) es (order_first e es s) (order_rest e es s)
order_step name value e es Greater h s more =
    order_cons e (insert_entry bytes_cmp es name value)
    (all_inserted (λ f. bytes_cmp e.0 f.0 ≡ Less) name value (less_from_greater name e.0 h) es (order_first e es s))
    more

order_inserted : (name value : List ℕ) (fields : List Field) → IsInOrder fields
    → IsInOrder (insert_entry bytes_cmp fields name value)
order_inserted name value [] s = order_one (name, value)
order_inserted name value (e ∷ es) s =
    order_step name value e es (bytes_cmp name e.0) refl s (order_inserted name value es (order_rest e es s))

pub IsFieldList-set_field : (fields : List Field) (name value : List ℕ) → IsFieldList fields → 0 < length name
    → IsFieldList (set_field fields name value)
IsFieldList-set_field fields name [] rules n = IsFieldList-without fields name rules
IsFieldList-set_field fields name (byte ∷ bytes) rules n =
    let value = byte ∷ bytes in
    record {
      ordered = order_inserted name value fields rules.ordered;
      filled = all_pass is_filled (insert_entry bytes_cmp fields name value)
          (all_inserted (λ f. is_filled f ≡ true) name value (filled_pair name value n (omega arith)) fields
          (filled_each fields rules));
    }

-- what holds of each field and of the new one holds of all
pub all_set : (P : Field → Type 0) (fields : List Field) (name value : List ℕ) → AllByRecursion P fields
    → P (name, value) → AllByRecursion P (set_field fields name value)
all_set P fields name [] each one = all_without P fields name each
all_set P fields name (byte ∷ bytes) each one = all_inserted P name (byte ∷ bytes) one fields each

pub named_len : (x : Field) → is_unnamed x ≡ false → 0 < length x.0
named_len x h = grind (arith, nat_tests)

pub IsFieldList-set_all : (fields more : List Field) → IsFieldList fields → list_any is_unnamed more ≡ false
    → IsFieldList (set_all fields more)
IsFieldList-set_all fields [] rules h = rules
IsFieldList-set_all fields (x ∷ xs) rules h =
    let parts = or_none (is_unnamed x) (list_any is_unnamed xs) h in
    IsFieldList-set_all (set_field fields x.0 x.1) xs
    (IsFieldList-set_field fields x.0 x.1 rules (named_len x parts.0)) parts.1

-- ---- lists with the same values are one

not_empty : (f : Field) → is_filled f ≡ true → f.1 ≡ [] → ⊥
not_empty f h e = false≢true (sym (blank f e) ∙ h)
  where
    last_false : (b : Bool) → not (b || true) ≡ false
    last_false true = refl
    last_false false = refl

    blank : (f : Field) → f.1 ≡ [] → is_filled f ≡ false
    blank f e = rw e (last_false _)

own_value : (e : Field) (es : List Field) → field_value (e ∷ es) e.0 ≡ e.1
own_value e es =
    ap (λ t. unwrap_or (cond t (Some e.1) (lookup (bytes_eq e.0) es)) []) ((bytes_eq-Decides e.0 e.0).1 refl)

above_value : (fields : List Field) (q : List ℕ) → AllAbove fields q → field_value fields q ≡ []
above_value fields q a = ap (λ o. unwrap_or o []) (lookup_at_gap q fields zero tt a)

-- the first name of one list cannot be below the other list
not_below : (x : Field) (xs ys : List Field) → is_filled x ≡ true → AllAbove ys x.0
    → ((q : List ℕ) → field_value (x ∷ xs) q ≡ field_value ys q) → ⊥
not_below x xs ys f a h = not_empty x f (sym (own_value x xs) ∙ h x.0 ∙ above_value ys x.0 a)

same_pair : (x y : Field) → x.0 ≡ y.0 → x.1 ≡ y.1 → x ≡ y
same_pair x y p q =
    let of_name : List ℕ → Field = λ n. (n, x.1) in
    let of_value : List ℕ → Field = λ v. (y.0, v) in
    ap of_name p ∙ ap of_value q

same_step : (x y : Field) (xs ys : List Field) (o : Ordering) → bytes_cmp x.0 y.0 ≡ o → IsInOrder (x ∷ xs)
    → IsInOrder (y ∷ ys) → AllByRecursion (λ f. is_filled f ≡ true) (x ∷ xs)
    → AllByRecursion (λ f. is_filled f ≡ true) (y ∷ ys)
    → ((q : List ℕ) → field_value (x ∷ xs) q ≡ field_value (y ∷ ys) q)
    → (((q : List ℕ) → field_value xs q ≡ field_value ys q) → xs ≡ ys) → x ∷ xs ≡ y ∷ ys
same_step x y xs ys Less h s t f g same rest =
    absurd (not_below x xs (y ∷ ys) f.0 (h, above_along x.0 y.0 ys h (order_first y ys t)) same)
same_step x y xs ys Greater h s t f g same rest =
    let less = less_from_greater x.0 y.0 h in
    absurd (not_below y ys (x ∷ xs) g.0 (less, above_along y.0 x.0 xs less (order_first x xs s)) (λ q. sym (same q)))
same_step x y xs ys Equal h s t f g same rest =
    let name : x.0 ≡ y.0 = same_name x.0 y.0 h in
    let value : x.1 ≡ y.1 = sym (own_value x xs) ∙ same x.0 ∙ ap (field_value (y ∷ ys)) name ∙ own_value y ys in
    let tails : xs ≡ ys = rest (λ q.
    tail_value x xs q (order_first x xs s)
    ∙ ap (λ v. cond (bytes_eq q x.0) [] v) (same q)
    ∙ ap (λ n. cond (bytes_eq q n) [] (field_value (y ∷ ys) q)) name
    ∙ sym (tail_value y ys q (order_first y ys t))) in
    let pair : x ≡ y = same_pair x y name value in
    cc

pub same_values : (xs ys : List Field) → IsInOrder xs → IsInOrder ys → AllByRecursion (λ f. is_filled f ≡ true) xs
    → AllByRecursion (λ f. is_filled f ≡ true) ys → ((q : List ℕ) → field_value xs q ≡ field_value ys q) → xs ≡ ys
same_values [] [] s t f g h = refl
same_values [] (y ∷ ys) s t f g h = absurd (not_below y ys [] g.0 tt (λ q. sym (h q)))
same_values (x ∷ xs) [] s t f g h = absurd (not_below x xs [] f.0 tt h)
same_values (x ∷ xs) (y ∷ ys) s t f g h =
    same_step x y xs ys (bytes_cmp x.0 y.0) refl s t f g h
    (same_values xs ys (order_rest x xs s) (order_rest y ys t) f.1 g.1)

-- ---- the value of a name after many fields are set

abbrev has_name : List ℕ → Field → Bool
has_name q field = bytes_eq q field.0

-- the value of the last field, or this one where there is none
abbrev last_value : List ℕ → List Field → List ℕ
last_value value fields = fold (λ old field. field.1) value fields

value_set_all : (fields more : List Field) (q : List ℕ) → IsFieldList fields → list_any is_unnamed more ≡ false
    → field_value (set_all fields more) q ≡ last_value (field_value fields q) (filter (has_name q) more)
value_set_all fields [] q rules h = refl
value_set_all fields (x ∷ xs) q rules h =
    let parts = or_none (is_unnamed x) (list_any is_unnamed xs) h in
    value_set_all (set_field fields x.0 x.1) xs q
    (IsFieldList-set_field fields x.0 x.1 rules (named_len x parts.0)) parts.1
    ∙ ap (λ v. last_value v (filter (has_name q) xs)) (value_set fields x.0 x.1 q rules.ordered)
    ∙ (elim (bytes_eq q x.0) as
    (λ t. last_value (cond t x.1 (field_value fields q)) (filter (has_name q) xs)
    ≡ last_value (field_value fields q) (cond t (x ∷ filter (has_name q) xs) (filter (has_name q) xs))) [
      | true ↦ refl
      | false ↦ refl
    ])

none_named : (fields : List Field) (q : List ℕ) → AllAbove fields q → filter (has_name q) fields ≡ []
none_named [] q a = refl
none_named (e ∷ es) q a =
    ap (λ t. cond t (e ∷ filter (has_name q) es) (filter (has_name q) es)) (other_above q e.0 a.0) ∙ none_named es q a.1

first_step : (e : Field) (es : List Field) (q : List ℕ) (t : Bool) → bytes_eq q e.0 ≡ t → AllAbove es e.0
    → last_value [] (filter (has_name q) es) ≡ field_value es q
    → last_value [] (cond t (e ∷ filter (has_name q) es) (filter (has_name q) es))
    ≡ unwrap_or (cond t (Some e.1) (lookup (bytes_eq q) es)) []
first_step e es q true h a rest =
    let same : q ≡ e.0 = (bytes_eq-Decides q e.0).0 h in
    ap (last_value e.1) (none_named es q (rw same a))
first_step e es q false h a rest = rest

first_value : (fields : List Field) (q : List ℕ) → IsInOrder fields
    → last_value [] (filter (has_name q) fields) ≡ field_value fields q
first_value [] q s = refl
first_value (e ∷ es) q s =
    first_step e es q (bytes_eq q e.0) refl (order_first e es s) (first_value es q (order_rest e es s))

-- ---- in the order of a stable sort

ties_step : (o : Ordering) → (not (is_lt o) && not (is_lt (ordering_reverse o))) ≡ is_eq o
ties_step Less = refl
ties_step Equal = refl
ties_step Greater = refl

ties_named : (q : List ℕ) (field : Field) → ties by_name (q, []) field ≡ has_name q field
ties_named q field =
    ap (λ o. not (is_lt (bytes_cmp q field.0)) && not (is_lt o)) (nat_list_cmp_total.antisymm field.0 q)
    ∙ ties_step (bytes_cmp q field.0) ∙ is_eq-slice_cmp q field.0

filled_named : (fields : List Field) → AllByRecursion (λ f. is_filled f ≡ true) fields
    → list_any is_unnamed fields ≡ false
filled_named [] each = refl
filled_named (e ∷ es) each = named_step (is_unnamed e) _ _ each.0 (filled_named es each.1)
  where
    named_step : (a b c : Bool) → not (a || b) ≡ true → c ≡ false → (a || c) ≡ false
    named_step true b c h r = absurd (false≢true h)
    named_step false b c h r = r

pub none_unnamed : (first late sorted : List Field) → IsFieldList first → list_any is_unnamed late ≡ false
    → IsPermutation (first ++ late) sorted → list_any is_unnamed sorted ≡ false
none_unnamed first late sorted rules h moved =
    sym (list_any-IsPermutation is_unnamed (first ++ late) sorted moved)
    ∙ list_any-append is_unnamed first late
    ∙ ap (λ b. b || list_any is_unnamed late) (filled_named first (filled_each first rules)) ∙ h

-- The same fields come out when all are set in the order of their names, those of one name as they came.
pub set_in_order : (first late sorted : List Field) → IsFieldList first → list_any is_unnamed late ≡ false
    → IsPermutation (first ++ late) sorted → IsStableBy by_name (first ++ late) sorted
    → set_all [] sorted ≡ set_all first late
set_in_order first late sorted rules h moved stable =
    let named = none_unnamed first late sorted rules h moved in
    let made = IsFieldList-set_all [] sorted IsFieldList-nil named in
    let whole = IsFieldList-set_all first late rules h in
    same_values (set_all [] sorted) (set_all first late) made.ordered whole.ordered
    (filled_each (set_all [] sorted) made) (filled_each (set_all first late) whole)
    (λ q.
    value_set_all [] sorted q IsFieldList-nil named
    ∙ ap (last_value []) (alike q)
    ∙ ap (last_value []) (filter-append (has_name q) first late)
    ∙ fold-append (λ (old : List ℕ) (field : Field). field.1) [] (filter (has_name q) first) (filter (has_name q) late)
    ∙ ap (λ v. last_value v (filter (has_name q) late)) (first_value first q rules.ordered)
    ∙ sym (value_set_all first late q rules h))
  where
    alike : (q : List ℕ) → filter (has_name q) sorted ≡ filter (has_name q) (first ++ late)
    alike q =
        sym (filter_agree (ties by_name (q, [])) (has_name q) (ties_named q) sorted) ∙ stable (q, [])
        ∙ filter_agree (ties by_name (q, [])) (has_name q) (ties_named q) (first ++ late)

-- ---- the last field of a list

-- a step of a loop that sets fields from the end of a list on
pub set_last : (list now rest whole target : List Field) (x : Field) → whole ≡ rest ++ x ∷ []
    → set_all list (reverse whole) ≡ target → now ≡ set_field list x.0 x.1 → set_all now (reverse rest) ≡ target
set_last list now rest whole target x e h g =
    ap (λ l. set_all l (reverse rest)) g
    ∙ ap (set_all list) (sym (ap reverse e ∙ reverse-append rest (x ∷ [])))
    ∙ h

pub last_named : (rest whole : List Field) (x : Field) → whole ≡ rest ++ x ∷ [] → list_any is_unnamed whole ≡ false
    → (list_any is_unnamed rest ≡ false) × (is_unnamed x ≡ false)
last_named rest whole x e h =
    let parts = or_none (list_any is_unnamed rest) (list_any is_unnamed (x ∷ []))
    (sym (list_any-append is_unnamed rest (x ∷ [])) ∙ ap (list_any is_unnamed) (sym e) ∙ h) in
    (parts.0, (or_none (is_unnamed x) false parts.1).0)

-- what a stable sort by name ensures
pub stable_by_closure : {F : Type 0} {g : Mut F (Bor Field × (Bor Field × Unit {0})) Ordering} {f : F}
    (xs ys : List Field) → IsStableByClosure g f xs ys
    → ((a : Bor Field × (Bor Field × Unit {0})) (o : Ordering) (f' : F) → Called g f a o f'
    → (o ≡ bytes_cmp a.0.now.0 a.1.0.now.0) × (f' ≡ f))
    → IsStableBy by_name xs ys
stable_by_closure {g = g} {f = f} xs ys stable answers =
    let compares : ComparesAs g by_name f = always_returns_same g (λ a o. is_lt o ≡ by_name a.0.now a.1.0.now) f
    (λ a o f' called. (ap is_lt (answers a o f' called).0, (answers a o f' called).1)) in
    stable by_name (ranks_by nat_list_cmp_total (λ (field : Field). field.0)) compares

pub reverse_unnamed : (fields back : List Field) → back ≡ reverse fields → list_any is_unnamed fields ≡ false
    → list_any is_unnamed back ≡ false
reverse_unnamed fields back e h =
    ap (list_any is_unnamed) e
    ∙ sym (list_any-IsPermutation is_unnamed fields (reverse fields) (IsPermutation-reverse fields)) ∙ h

pub set_none : (list left target : List Field) → length left ≡ 0 → set_all list (reverse left) ≡ target → list ≡ target
set_none list [] target e h = h
set_none list (x ∷ xs) target e h = absurd (omega arith)
