-- What functions keep of records, as one more comes.
use Rattle.std.proofs.Common.{◌≡◌, ℕ, ◌+◌, ◌*◌, ◌-◌, ◌^◌, ◌<◌, ◌≤◌, Bool, true, false, not, ◌||◌, cond, List, [], ◌∷◌}
use Rattle.std.proofs.Common.{◌++◌, length, map, append_assoc, length-append, get_or, take, is_some, Option, Some}
use Rattle.std.proofs.Common.{None, min, refl, sym, ap, ◌∙◌, arith}
use Rattle.std.proofs.lemmas.List.{length-map, length-take, map-append, map_more, map_push}
use Rattle.std.proofs.lemmas.List.Elements.{filter-append}
use Rattle.std.proofs.lemmas.List.Sums.{count_by-le-length, length-filter}
use Rattle.std.specs.List.{count_by, filter, filter_map}
use Rattle.std.specs.Ordering.{is_eq}
use Rattle.log_model.specs.Field.{field_value}
use Rattle.log_model.specs.Order.{number_of, value_cmp}
use Rattle.lq_ast.specs.Records.{Record}
use Rattle.lq_ast.specs.Statistics.{counted, first_text, has_some, last_text, values}
use Rattle.lq_ast.specs.Tuples.{Tuple, is_wholly_empty, sorted_by, tuple_of}
use Rattle.lq_tuple.proofs.Lists.{filter_more}
use Rattle.lq_tuple.proofs.Once.{count_cons, count_joined, count_more}
use Rattle.lq_stats.specs.Measure.{are_filled, sum_of}
use Rattle.lq_tuple.specs.Once.{count}
use Rattle.lq_stats.specs.State.{is_nil}
use Rattle.lq_stats.specs.Words.{AreWords}
use Rattle.lq_stats.specs.declared.words.Words.{Words}

-- ---- counts of records

pub clipped : (n : ℕ) (t : Bool) → n < 2 ^ 32 → min (n + cond t 1 0) (2 ^ 64 - 1) ≡ n + cond t 1 0
clipped n true few = omega arith
clipped n false few = omega arith

pub counted_more : (names : List (List ℕ)) (records : List Record) (r : Record)
    → counted names (records ++ r ∷ []) ≡ counted names records + cond (is_nil names || has_some names r) 1 0
counted_more [] records r = length-append records (r ∷ [])
counted_more (name ∷ names) records r =
    length-filter (has_some (name ∷ names)) (records ++ r ∷ []) ∙ count_more (has_some (name ∷ names)) records r
    ∙ ap (λ n. n + cond (has_some (name ∷ names) r) 1 0) (sym (length-filter (has_some (name ∷ names)) records))

pub counted_few : (names : List (List ℕ)) (records : List Record) → counted names records ≤ length records
counted_few [] records = omega arith
counted_few (name ∷ names) records =
    let is = length-filter (has_some (name ∷ names)) records in
    let few = count_by-le-length (has_some (name ∷ names)) records in
    omega arith

pub empty_more : (names : List (List ℕ)) (records : List Record) (r : Record)
    → length (filter (λ s. not (has_some names s)) (records ++ r ∷ []))
    ≡ length (filter (λ s. not (has_some names s)) records) + cond (not (has_some names r)) 1 0
empty_more names records r =
    length-filter (λ s. not (has_some names s)) (records ++ r ∷ []) ∙ count_more (λ s. not (has_some names s)) records r
    ∙ ap (λ n. n + cond (not (has_some names r)) 1 0) (sym (length-filter (λ s. not (has_some names s)) records))

pub empty_few : (names : List (List ℕ)) (records : List Record)
    → length (filter (λ s. not (has_some names s)) records) ≤ length records
empty_few names records =
    let is = length-filter (λ s. not (has_some names s)) records in
    let few = count_by-le-length (λ s. not (has_some names s)) records in
    omega arith

-- ---- tuples

pub some_has : {A : Type 0} (x : A) (has : Bool) → is_some (Some x) ≡ has → has ≡ true
some_has x has e = sym e

pub none_has : {A : Type 0} (o : Option A) (has : Bool) → ((x : A) → o ≡ Some x → ⊥) → is_some o ≡ has → has ≡ false
none_has (Some x) has out e = absurd (out x refl)
none_has None has out e = sym e

pub tuples_more : (names : List (List ℕ)) (records : List Record) (r : Record)
    → filter (λ tuple. not (is_wholly_empty tuple)) (map (tuple_of names) (records ++ r ∷ []))
    ≡ cond (has_some names r)
    (filter (λ tuple. not (is_wholly_empty tuple)) (map (tuple_of names) records) ++ tuple_of names r ∷ [])
    (filter (λ tuple. not (is_wholly_empty tuple)) (map (tuple_of names) records))
tuples_more names records r =
    ap (filter (λ tuple. not (is_wholly_empty tuple))) (map_push (tuple_of names) records r)
    ∙ filter_more (λ tuple. not (is_wholly_empty tuple)) (map (tuple_of names) records) (tuple_of names r)

-- ---- values

sums : (front back more one rest whole made : ℕ) → whole ≡ (front + one) + back → back ≡ rest + more
    → made ≡ (front + rest) + (one + more) → whole ≡ made
sums front back more one rest whole made a b c = omega arith

pub value_counts : (x : List ℕ) (names : List (List ℕ)) (records : List Record) (r : Record)
    → count value_cmp x (values names (records ++ r ∷ [])) ≡ count value_cmp x (values names records ++ tuple_of names r)
value_counts x [] records r = refl
value_counts x (name ∷ names) records r =
    let test = λ (y : List ℕ). is_eq (value_cmp x y) in
    let made = map (λ s. field_value s name) records in
    let value = field_value r name in
    let pushed : map (λ s. field_value s name) (records ++ r ∷ []) ≡ made ++ value ∷ [] =
    map_push (λ s. field_value s name) records r in
    let whole : count_by test (values (name ∷ names) (records ++ r ∷ []))
    ≡ (count_by test made + cond (test value) 1 0) + count_by test (values names (records ++ r ∷ [])) =
    ap (λ l. count_by test (l ++ values names (records ++ r ∷ []))) pushed
    ∙ count_joined test (made ++ value ∷ []) (values names (records ++ r ∷ []))
    ∙ ap (λ n. n + count_by test (values names (records ++ r ∷ []))) (count_more test made value) in
    let rest : count_by test (values names (records ++ r ∷ []))
    ≡ count_by test (values names records) + count_by test (tuple_of names r) =
    value_counts x names records r ∙ count_joined test (values names records) (tuple_of names r) in
    let all : count_by test ((made ++ values names records) ++ (value ∷ tuple_of names r))
    ≡ (count_by test made + count_by test (values names records))
    + (cond (test value) 1 0 + count_by test (tuple_of names r)) =
    count_joined test (made ++ values names records) (value ∷ tuple_of names r)
    ∙ ap (λ n. n + count_by test (value ∷ tuple_of names r)) (count_joined test made (values names records))
    ∙ ap (λ n. (count_by test made + count_by test (values names records)) + n)
    (count_cons test value (tuple_of names r)) in
    sums (count_by test made) _ (count_by test (tuple_of names r)) (cond (test value) 1 0)
    (count_by test (values names records)) _ _ whole rest all

pub values_few : (names : List (List ℕ)) (records : List Record) → length records < 2 ^ 32
    → length (values names records) ≤ length names * (2 ^ 32 - 1)
values_few [] records few = omega arith
values_few (name ∷ names) records few =
    let more = values_few names records few in
    let made = length-map records (λ s. field_value s name) in
    let whole = length-append (map (λ s. field_value s name) records) (values names records) in
    omega arith

-- ---- values of one more record

pub tuple_more : (values : List (List ℕ)) (names : List (List ℕ)) (r : Record) (i : ℕ) (name value : List ℕ)
    → i < length names → name ≡ get_or names i name → value ≡ field_value r name
    → (values ++ tuple_of (take i names) r) ++ value ∷ [] ≡ values ++ tuple_of (take (i + 1) names) r
tuple_more values names r i name value within is found =
    append_assoc values (tuple_of (take i names) r) (value ∷ [])
    ∙ ap (λ v. values ++ (tuple_of (take i names) r ++ v ∷ [])) (found ∙ ap (field_value r) is)
    ∙ sym (ap (λ l. values ++ l) (map_more (field_value r) names i name within))

pub tuple_few : (values : List (List ℕ)) (names : List (List ℕ)) (r : Record) (i : ℕ)
    → length values + length names < 2 ^ 64 → length (values ++ tuple_of (take i names) r) < 2 ^ 64
tuple_few values names r i few =
    let whole = length-append values (tuple_of (take i names) r) in
    let made = length-map (take i names) (field_value r) in
    let short = length-take i names in
    omega arith

-- ---- no records

no_values : (names : List (List ℕ)) → values names [] ≡ []
no_values [] = refl
no_values (name ∷ names) = no_values names

pub none_sum : (names : List (List ℕ)) → None ≡ sum_of (filter_map number_of (values names []))
none_sum names = rw (no_values names) refl

pub none_least : (least : List ℕ) → least ≡ [] → (names : List (List ℕ))
    → least ≡ first_text (sorted_by value_cmp (are_filled (values names [])))
unfolding sorted_by
none_least least is names = rw (no_values names) is

pub none_greatest : (greatest : List ℕ) → greatest ≡ [] → (names : List (List ℕ))
    → greatest ≡ last_text (sorted_by value_cmp (are_filled (values names [])))
unfolding sorted_by
none_greatest greatest is names = rw (no_values names) is

pub none_words : (words : Words) → AreWords words [] → (names : List (List ℕ))
    → AreWords words (are_filled (values names []))
none_words words h names = rw (no_values names) h

-- ---- the records of two lists

kept_joined : (keep : Record → Bool) (records others : List Record)
    → length (filter keep (records ++ others)) ≡ length (filter keep records) + length (filter keep others)
kept_joined keep records others =
    ap length (filter-append keep records others) ∙ length-append (filter keep records) (filter keep others)

pub counts_joined : (names : List (List ℕ)) (records others : List Record)
    → counted names (records ++ others) ≡ counted names records + counted names others
counts_joined [] records others = length-append records others
counts_joined (name ∷ names) records others = kept_joined (has_some (name ∷ names)) records others

pub empty_joined : (names : List (List ℕ)) (records others : List Record)
    → length (filter (λ r. not (has_some names r)) (records ++ others))
    ≡ length (filter (λ r. not (has_some names r)) records) + length (filter (λ r. not (has_some names r)) others)
empty_joined names records others = kept_joined (λ r. not (has_some names r)) records others

-- the tuples that are not wholly empty
abbrev pub filled_tuples : List (List ℕ) → List Record → List Tuple
filled_tuples names records = filter (λ tuple. not (is_wholly_empty tuple)) (map (tuple_of names) records)

pub tuples_joined : (names : List (List ℕ)) (records others : List Record)
    → filled_tuples names (records ++ others) ≡ filled_tuples names records ++ filled_tuples names others
tuples_joined names records others =
    ap (filter (λ tuple. not (is_wholly_empty tuple))) (map-append (tuple_of names) records others)
    ∙ filter-append (λ tuple. not (is_wholly_empty tuple)) (map (tuple_of names) records) (map (tuple_of names) others)

pub values_joined : (x : List ℕ) (names : List (List ℕ)) (records others : List Record)
    → count value_cmp x (values names (records ++ others))
    ≡ count value_cmp x (values names records ++ values names others)
values_joined x [] records others = refl
values_joined x (name ∷ names) records others =
    let test = λ (y : List ℕ). is_eq (value_cmp x y) in
    let made = map (λ s. field_value s name) records in
    let more = map (λ s. field_value s name) others in
    let both = map (λ s. field_value s name) (records ++ others) in
    let whole = count_joined test both (values names (records ++ others)) in
    let made_more = map-append (λ s. field_value s name) records others in
    let front = ap (count_by test) made_more ∙ count_joined test made more in
    let rest = values_joined x names records others ∙ count_joined test (values names records) (values names others) in
    let all = count_joined test (made ++ values names records) (more ++ values names others) in
    let one = count_joined test made (values names records) in
    let other = count_joined test more (values names others) in
    omega (arith, whole, front, rest, all, one, other)

values_many : (names : List (List ℕ)) (records others : List Record) → length records + length others ≤ 2 ^ 32
    → length (values names records) + length (values names others) ≤ length names * 2 ^ 32
values_many [] records others few = omega arith
values_many (name ∷ names) records others few =
    let more = values_many names records others few in
    let made = length-map records (λ s. field_value s name) in
    let other = length-map others (λ s. field_value s name) in
    let whole = length-append (map (λ s. field_value s name) records) (values names records) in
    let all = length-append (map (λ s. field_value s name) others) (values names others) in
    omega arith

pub values_both : (names : List (List ℕ)) (records others : List Record) → length names < 2 ^ 32
    → length records + length others ≤ 2 ^ 32 → length (values names records) + length (values names others) < 2 ^ 64
values_both names records others few bound =
    let many = values_many names records others bound in
    omega arith
