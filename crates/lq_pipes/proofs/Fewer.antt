-- A pipe makes no more records than it is given, or one.
use Rattle.std.proofs.Common.{◌≡◌, ℕ, zero, suc, ◌<◌, ◌≤◌, Bool, true, false, not, cond, List, [], ◌∷◌, drop, filter}
use Rattle.std.proofs.Common.{refl, length, map, take, Option, Some, None, Result, Ok, Err, sym, ap, ◌∙◌, arith}
use Rattle.std.proofs.Common.{length-drop}
use Rattle.std.proofs.lemmas.List.{length-map}
use Rattle.std.proofs.lemmas.List.Sorted.{length_permutation}
use Rattle.std.specs.List.{dedup, dedup_from}
use Rattle.std.specs.Ordering.{is_eq}
use Rattle.std.specs.declared.cmp.Ordering.{Ordering}
use Rattle.lq_ast.specs.Grouping.{all, group_record, ◌>>=◌}
use Rattle.lq_ast.specs.Groups.{group_tuples, key_tuple}
use Rattle.lq_ast.specs.Made as is_made
use Rattle.lq_ast.specs.Pipes.{piped}
use Rattle.lq_ast.specs.Records.{Record}
use Rattle.lq_ast.specs.Sorting.{at_most, tuples}
use Rattle.lq_ast.specs.Stage.{GroupBy, Stage}
use Rattle.lq_ast.specs.Stage as is
use Rattle.lq_ast.specs.Tuples.{distinct_by, is_wholly_empty, sorted_by, tuple_cmp, tuple_of}
use Rattle.lq_ast.proofs.Sorted.{permutation_sorted}

-- ---- what has no more elements than a number

mapped_few : {X Y : Type 0} (f : X → Y) (xs : List X) (n : ℕ) → length xs ≤ n → length (map f xs) ≤ n
mapped_few f xs n few = rw (length-map xs f) few

filtered_few : {X : Type 0} (p : X → Bool) (xs : List X) (n : ℕ) → length xs ≤ n → length (filter p xs) ≤ n
filtered_few p [] n few = few
filtered_few p (x ∷ xs) zero few = absurd (omega arith)
filtered_few p (x ∷ xs) (suc n) few =
    let rest = filtered_few p xs n (omega arith) in
    elim (p x) as (λ t. length (cond t (x ∷ filter p xs) (filter p xs)) ≤ suc n) [
      | true ↦ omega arith
      | false ↦ omega arith
    ]

dedup_from_few : {X : Type 0} (same : X → X → Bool) (k : X) (xs : List X) (n : ℕ) → suc (length xs) ≤ n
    → length (dedup_from same k xs) ≤ n
dedup_from_few same k [] n few = few
dedup_from_few same k (x ∷ xs) zero few = absurd (omega arith)
dedup_from_few same k (x ∷ xs) (suc n) few =
    let skips = dedup_from_few same k xs n (omega arith) in
    let keeps = dedup_from_few same x xs n (omega arith) in
    elim (same x k) as (λ t. length (cond t (dedup_from same k xs) (k ∷ dedup_from same x xs)) ≤ suc n) [
      | true ↦ omega arith
      | false ↦ omega arith
    ]

dedup_few : {X : Type 0} (same : X → X → Bool) (xs : List X) (n : ℕ) → length xs ≤ n → length (dedup same xs) ≤ n
dedup_few same [] n few = few
dedup_few same (x ∷ xs) n few = dedup_from_few same x xs n few

sorted_few : {X : Type 0} (order : X → X → Ordering) (xs : List X) (n : ℕ) → length xs ≤ n
    → length (sorted_by order xs) ≤ n
sorted_few order xs n few = rw (length_permutation xs (sorted_by order xs) (permutation_sorted order xs)) few

distinct_few : {X : Type 0} (order : X → X → Ordering) (xs : List X) (n : ℕ) → length xs ≤ n
    → length (distinct_by order xs) ≤ n
distinct_few order xs n few =
    dedup_few (λ x y. is_eq (order x y)) (sorted_by order xs) n (sorted_few order xs n few)

taken_few : {X : Type 0} (k : ℕ) (xs : List X) (n : ℕ) → length xs ≤ n → length (take k xs) ≤ n
taken_few zero xs n few = omega arith
taken_few (suc k) [] n few = few
taken_few (suc k) (x ∷ xs) zero few = absurd (omega arith)
taken_few (suc k) (x ∷ xs) (suc n) few = let rest = taken_few k xs n (omega arith) in omega arith

dropped_few : {X : Type 0} (k : ℕ) (xs : List X) (n : ℕ) → length xs ≤ n → length (drop k xs) ≤ n
dropped_few k xs n few = omega (arith, length-drop k xs)

at_most_few : {X : Type 0} (limit : Option ℕ) (xs : List X) (n : ℕ) → length xs ≤ n → length (at_most limit xs) ≤ n
at_most_few None xs n few = few
at_most_few (Some k) xs n few = taken_few k xs n few

tuples_few : (names : List (List ℕ)) (records : List Record) (n : ℕ) → length records ≤ n
    → length (tuples names records) ≤ n
tuples_few names records n few =
    filtered_few (λ tuple. not (is_wholly_empty tuple)) (distinct_by tuple_cmp (map (tuple_of names) records)) n
    (distinct_few tuple_cmp (map (tuple_of names) records) n (mapped_few (tuple_of names) records n few))

groups_few : (keys : List GroupBy) (records : List Record) (n : ℕ) → 1 ≤ n → length records ≤ n
    → length (group_tuples keys records) ≤ n
groups_few [] records n one few = one
groups_few (key ∷ keys) records n one few =
    distinct_few tuple_cmp (map (key_tuple (key ∷ keys)) records) n (mapped_few (key_tuple (key ∷ keys)) records n few)

-- ---- what is made

length-all : {A E : Type 0} (results : List (Result A E)) (made : List A) → all results ≡ Ok made
    → length made ≡ length results
length-all [] made e = let same : [] ≡ made = cc in sym (ap length same)
length-all {A} {E} (Err error ∷ results) made e = absurd cc
length-all {A} {E} (Ok x ∷ results) made e = at (all results) (λ ys is. length-all results ys is) e
  where
    at : (rest : Result (List A) E) → ((ys : List A) → rest ≡ Ok ys → length ys ≡ length results)
        → (rest >>= λ ys. Ok (x ∷ ys)) ≡ Ok made → length made ≡ suc (length results)
    at (Ok ys) later f = let same : x ∷ ys ≡ made = cc in sym (ap length same) ∙ ap suc (later ys refl)
    at (Err error) later f = absurd cc

abbrev given : List Record → Result (List Record) (List ℕ)
given records = Ok records

few_made : (xs made : List Record) (n : ℕ) → given xs ≡ given made → length xs ≤ n → length made ≤ n
few_made xs made n e few = let same : xs ≡ made = cc in rw (← same) few

few_at_most : (stage : Stage) (records made : List Record) (n : ℕ) → 1 ≤ n → length records ≤ n
    → piped stage records ≡ given made → length made ≤ n
few_at_most (is.fields names) records made n one few e = few_made _ made n e (mapped_few _ records n few)
few_at_most (is.delete names) records made n one few e = few_made _ made n e (mapped_few _ records n few)
few_at_most (is.rename pairs) records made n one few e = few_made _ made n e (mapped_few _ records n few)
few_at_most (is.copy pairs) records made n one few e = few_made _ made n e (mapped_few _ records n few)
few_at_most (is.limit k) records made n one few e = few_made _ made n e (taken_few k records n few)
few_at_most (is.offset k) records made n one few e = few_made _ made n e (dropped_few k records n few)
few_at_most (is.sort sorting) records made n one few e =
    few_made _ made n e (at_most_few sorting.limit _ n (dropped_few sorting.offset _ n (sorted_few _ records n few)))
few_at_most (is.uniq distinct) records made n one few e =
    few_made _ made n e (at_most_few distinct.limit _ n (mapped_few _ _ n (tuples_few distinct.names records n few)))
few_at_most (is.stats grouping) records made n one few e =
    rw (length-all (map (group_record grouping records) (group_tuples grouping.keys records)) made e)
    (mapped_few (group_record grouping records) (group_tuples grouping.keys records) n
    (groups_few grouping.keys records n one few))
few_at_most (is.keep condition) records made n one few e = few_made _ made n e (filtered_few _ records n few)
few_at_most (is.top ranking) records made n one few e =
    few_made _ made n e (taken_few ranking.most _ n (mapped_few _ _ n (sorted_few _ _ n
    (tuples_few ranking.names records n few))))
few_at_most (is.make making) records made n one few e =
    rw (length-all (map (is_made.made making) records) made e) (mapped_few (is_made.made making) records n few)

pub fewer : (stage : Stage) (records made : List Record) (bound : ℕ) → 1 < bound → length records < bound
    → piped stage records ≡ given made → length made < bound
fewer stage records made zero one few e = absurd (omega arith)
fewer stage records made (suc n) one few e =
    let below = few_at_most stage records made n (omega arith) (omega arith) e in omega arith
