-- The law: for pipes that forget the order, records with the same items give the same.
use Rattle.std.proofs.Common.{◌≡◌, ℕ, ◌^◌, ◌&&◌, nat_lt, true, not, cond, List, [], ◌∷◌, length, map, filter}
use Rattle.std.proofs.Common.{ℤ, pos, neg_ℤ, int_le, int_lt, zip, decimal, codes, Option, Some, None, take, refl, ap}
use Rattle.std.proofs.Common.{◌∙◌, arith, sym, Result, Ok}
use Rattle.std.specs.List.{dedup, filter_map}
use Rattle.std.specs.Fmt.{signed_decimal}
use Rattle.std.specs.Ordering.{is_eq, nat_cmp}
use Rattle.log_model.proofs.ValueOrder.{value_cmp_linear}
use Rattle.log_model.specs.Field.{field_value, is_empty, set_field}
use Rattle.log_model.specs.Order.{number_of, value_cmp}
use Rattle.lq_ast.proofs.TupleOrder.{tuple_cmp_total}
use Rattle.lq_ast.specs.Condition.{Condition}
use Rattle.lq_ast.specs.Evaluation.{evaluate, many_rows, piped_outcome, row_limit}
use Rattle.lq_ast.specs.Question.{Question}
use Rattle.log_model.specs.Row.{Row, record_of}
use Rattle.lq_ast.specs.Grouping.{◌>>=◌, all, asked, group_record, grouped, put, set_statistics, statistic_text}
use Rattle.lq_ast.specs.Groups.{group_tuples, key_tuple, members}
use Rattle.lq_ast.specs.Holds.{holds, record_holds}
use Rattle.lq_ast.specs.Made.{extract_fields, formatted}
use Rattle.lq_ast.specs.Making as makes
use Rattle.lq_ast.specs.Pipes.{all_piped}
use Rattle.lq_ast.specs.Records.{Record, put_field, put_fields, only_fields, without_fields, rename_fields, copy_fields}
use Rattle.lq_ast.specs.Sorting.{at_most, counted_record, hits, top, tuple_record, tuples, uniq}
use Rattle.lq_ast.specs.Stage.{Distinct, GroupBy, Grouping, Ranking, Stage, Statistic}
use Rattle.lq_ast.specs.Stage as is
use Rattle.lq_ast.specs.Statistics.{array_text, call_text, counted, filled, first_text, has_some, last_text, sum_text}
use Rattle.lq_ast.specs.Statistics.{values}
use Rattle.lq_ast.specs.Tuples.{Tuple, distinct_by, is_wholly_empty, sorted_by, tuple_cmp, tuple_of}
use Rattle.lq_ast.specs.declared.pipe.Call.{Call}
use Rattle.lq_ast.specs.declared.pipe.Call.TheVariants.{Count, CountEmpty, CountUniq, Sum, Min, Max, UniqValues}
use Rattle.lq_tuple.proofs.Once.{sorted_same}
use Rattle.lq_tuple.proofs.Tuples.{tuple_tells, value_tells}
use Rattle.lq_tuple.proofs.SameItems.{same_counts, same_filtered, same_flat, same_length, same_made}
use Rattle.lq_tuple.proofs.SameItems.{same_mapped, same_total}
use Rattle.lq_tuple.specs.SameItems.{HaveSameItems, forget_order}

-- ---- lists in order

sorted_values : (xs ys : List (List ℕ)) → HaveSameItems xs ys → sorted_by value_cmp xs ≡ sorted_by value_cmp ys
sorted_values xs ys h =
    sorted_same value_cmp value_cmp_linear.total value_tells xs ys
    (λ x. same_counts xs ys h (λ y. is_eq (value_cmp x y)))

sorted_tuples : (xs ys : List Tuple) → HaveSameItems xs ys → sorted_by tuple_cmp xs ≡ sorted_by tuple_cmp ys
sorted_tuples xs ys h =
    sorted_same tuple_cmp tuple_cmp_total tuple_tells xs ys (λ x. same_counts xs ys h (λ y. is_eq (tuple_cmp x y)))

distinct_values : (xs ys : List (List ℕ)) → HaveSameItems xs ys → distinct_by value_cmp xs ≡ distinct_by value_cmp ys
distinct_values xs ys h = ap (dedup (λ x y. is_eq (value_cmp x y))) (sorted_values xs ys h)

distinct_tuples : (xs ys : List Tuple) → HaveSameItems xs ys → distinct_by tuple_cmp xs ≡ distinct_by tuple_cmp ys
distinct_tuples xs ys h = ap (dedup (λ x y. is_eq (tuple_cmp x y))) (sorted_tuples xs ys h)

-- ---- the functions of `stats`

text_of_total : ℤ → Option (List ℕ)
text_of_total sum =
    cond (int_le (neg_ℤ (pos (2 ^ 63))) sum && int_lt sum (pos (2 ^ 63))) (Some (signed_decimal sum)) None

same_sum : (ms ns : List ℤ) → HaveSameItems ms ns → sum_text ms ≡ sum_text ns
unfolding text_of_total
same_sum [] [] h = refl
same_sum [] (n ∷ ns) h = let long = same_length [] (n ∷ ns) h in absurd (omega arith)
same_sum (m ∷ ms) [] h = let long = same_length (m ∷ ms) [] h in absurd (omega arith)
same_sum (m ∷ ms) (n ∷ ns) h = ap text_of_total (same_total (m ∷ ms) (n ∷ ns) h)

module _ (xs ys : List Record) (h : HaveSameItems xs ys) where
  same_values : (names : List (List ℕ)) → HaveSameItems (values names xs) (values names ys)
  same_values names =
      same_flat (λ name. map (λ r. field_value r name) xs) (λ name. map (λ r. field_value r name) ys)
      (λ name. same_made (λ r. field_value r name) xs ys h) names

  same_filled : (names : List (List ℕ)) → HaveSameItems (filled names xs) (filled names ys)
  same_filled names =
      same_filtered (λ value. not (is_empty value)) (values names xs) (values names ys) (same_values names)

  same_counted : (names : List (List ℕ)) → counted names xs ≡ counted names ys
  same_counted [] = same_length xs ys h
  same_counted (name ∷ names) =
      same_length (filter (has_some (name ∷ names)) xs) (filter (has_some (name ∷ names)) ys)
      (same_filtered (has_some (name ∷ names)) xs ys h)

  same_tuples : (names : List (List ℕ)) → tuples names xs ≡ tuples names ys
  same_tuples names =
      ap (filter (λ tuple. not (is_wholly_empty tuple)))
      (distinct_tuples (map (tuple_of names) xs) (map (tuple_of names) ys) (same_made (tuple_of names) xs ys h))

  pub same_call : (call : Call) (names : List (List ℕ)) → call_text call names xs ≡ call_text call names ys
  same_call Count names = ap (λ n. Some (decimal n)) (same_counted names)
  same_call CountEmpty names =
      ap (λ n. Some (decimal n))
      (same_length (filter (λ r. not (has_some names r)) xs) (filter (λ r. not (has_some names r)) ys)
      (same_filtered (λ r. not (has_some names r)) xs ys h))
  same_call CountUniq names = ap (λ (l : List Tuple). Some (decimal (length l))) (same_tuples names)
  same_call Sum names =
      same_sum (filter_map number_of (values names xs)) (filter_map number_of (values names ys))
      (same_mapped number_of (values names xs) (values names ys) (same_values names))
  same_call Min names =
      ap (λ l. Some (first_text l)) (sorted_values (filled names xs) (filled names ys) (same_filled names))
  same_call Max names =
      ap (λ l. Some (last_text l)) (sorted_values (filled names xs) (filled names ys) (same_filled names))
  same_call UniqValues names =
      ap (λ l. Some (array_text l)) (distinct_values (filled names xs) (filled names ys) (same_filled names))

same_asked : (only : Option Condition) (xs ys : List Record) → HaveSameItems xs ys
    → HaveSameItems (asked only xs) (asked only ys)
same_asked None xs ys h = h
same_asked (Some condition) xs ys h = same_filtered (record_holds condition) xs ys h

same_set : (xs ys : List Record) → HaveSameItems xs ys → (ss : List Statistic) (r : Record)
    → set_statistics xs ss r ≡ set_statistics ys ss r
same_set xs ys h [] r = refl
same_set xs ys h (s ∷ ss) r =
    let one = same_call (asked s.only xs) (asked s.only ys) (same_asked s.only xs ys h) s.call s.names in
    ap (λ text. put s.name r text >>= set_statistics xs ss) one
    ∙ (λ i. put s.name r (statistic_text s ys) >>= (λ y. same_set xs ys h ss y i))

-- ---- groups

same_groups : (keys : List GroupBy) (xs ys : List Record) → HaveSameItems xs ys
    → group_tuples keys xs ≡ group_tuples keys ys
same_groups [] xs ys h = refl
same_groups (key ∷ keys) xs ys h =
    distinct_tuples (map (key_tuple (key ∷ keys)) xs) (map (key_tuple (key ∷ keys)) ys)
    (same_made (key_tuple (key ∷ keys)) xs ys h)

same_group : (g : Grouping) (xs ys : List Record) → HaveSameItems xs ys → (tuple : Tuple)
    → group_record g xs tuple ≡ group_record g ys tuple
same_group g xs ys h tuple =
    same_set (members g.keys xs tuple) (members g.keys ys tuple)
    (same_filtered (λ r. is_eq (tuple_cmp (key_tuple g.keys r) tuple)) xs ys h) g.statistics
    (put_fields [] (zip (map (λ key. key.0) g.keys) tuple))

pub same_grouped : (g : Grouping) (xs ys : List Record) → HaveSameItems xs ys → grouped g xs ≡ grouped g ys
same_grouped g xs ys h =
    ap (λ ts. all (map (group_record g xs) ts)) (same_groups g.keys xs ys h)
    ∙ (λ i. all (map (λ tuple. same_group g xs ys h tuple i) (group_tuples g.keys ys)))

-- ---- `uniq` and `top`

with_hits : List (List ℕ) → Tuple → ℕ → Record
with_hits names tuple n = set_field (tuple_record names tuple) (codes "hits") (decimal n)

same_hits : (names : List (List ℕ)) (xs ys : List Record) → HaveSameItems xs ys → (tuple : Tuple)
    → hits names xs tuple ≡ hits names ys tuple
same_hits names xs ys h tuple =
    same_length (filter (λ r. is_eq (tuple_cmp (tuple_of names r) tuple)) xs)
    (filter (λ r. is_eq (tuple_cmp (tuple_of names r) tuple)) ys)
    (same_filtered (λ r. is_eq (tuple_cmp (tuple_of names r) tuple)) xs ys h)

all_hits : (names : List (List ℕ)) (xs ys : List Record) → HaveSameItems xs ys → hits names xs ≡ hits names ys
all_hits names xs ys h = λ i tuple. same_hits names xs ys h tuple i

pub same_uniq : (d : Distinct) (xs ys : List Record) → HaveSameItems xs ys → uniq d xs ≡ uniq d ys
unfolding with_hits
same_uniq d xs ys h =
    let without = tuple_record d.names in
    ap (λ ts. at_most d.limit (map (cond d.hits (counted_record d.names xs) without) ts)) (same_tuples xs ys h d.names)
    ∙ ap (λ count. at_most d.limit (map (cond d.hits (λ tuple. with_hits d.names tuple (count tuple)) without)
    (tuples d.names ys))) (all_hits d.names xs ys h)

pub same_top : (r : Ranking) (xs ys : List Record) → HaveSameItems xs ys → top r xs ≡ top r ys
unfolding with_hits
same_top r xs ys h =
    ap (λ ts. take r.most (map (counted_record r.names xs)
    (sorted_by (λ a b. nat_cmp (hits r.names xs b) (hits r.names xs a)) ts)))
    (same_tuples xs ys h r.names)
    ∙ ap (λ count. take r.most (map (λ tuple. with_hits r.names tuple (count tuple))
    (sorted_by (λ a b. nat_cmp (count b) (count a)) (tuples r.names ys)))) (all_hits r.names xs ys h)

-- ---- pipes

all_made : {A B E : Type 0} (f : A → B) (xs : List A) → all {E = E} (map (λ x. Ok (f x)) xs) ≡ Ok (map f xs)
all_made f [] = refl
all_made {E = E} f (x ∷ xs) = ap (λ (made : Result (List _) E). made >>= λ ys. Ok (f x ∷ ys)) (all_made f xs)

-- pipes after one that makes a record of each
after_making : (f : Record → Record) (stages : List Stage) (xs ys : List Record)
    → all_piped stages (map f xs) ≡ all_piped stages (map f ys)
    → (all (map (λ r. Ok (f r)) xs) >>= all_piped stages) ≡ (all (map (λ r. Ok (f r)) ys) >>= all_piped stages)
after_making f stages xs ys same =
    ap (λ made. made >>= all_piped stages) (all_made f xs) ∙ same
    ∙ sym (ap (λ made. made >>= all_piped stages) (all_made f ys))

pub same_piped : (stages : List Stage) (xs ys : List Record) → forget_order stages ≡ true → HaveSameItems xs ys
    → all_piped stages xs ≡ all_piped stages ys
same_piped [] xs ys e h = absurd cc
same_piped (is.fields names ∷ stages) xs ys e h =
    same_piped stages (map (only_fields names) xs) (map (only_fields names) ys) e
    (same_made (only_fields names) xs ys h)
same_piped (is.delete names ∷ stages) xs ys e h =
    same_piped stages (map (without_fields names) xs) (map (without_fields names) ys) e
    (same_made (without_fields names) xs ys h)
same_piped (is.rename pairs ∷ stages) xs ys e h =
    same_piped stages (map (rename_fields pairs) xs) (map (rename_fields pairs) ys) e
    (same_made (rename_fields pairs) xs ys h)
same_piped (is.copy pairs ∷ stages) xs ys e h =
    same_piped stages (map (copy_fields pairs) xs) (map (copy_fields pairs) ys) e
    (same_made (copy_fields pairs) xs ys h)
same_piped (is.keep condition ∷ stages) xs ys e h =
    same_piped stages (filter (record_holds condition) xs) (filter (record_holds condition) ys) e
    (same_filtered (record_holds condition) xs ys h)
same_piped (is.limit n ∷ stages) xs ys e h = absurd cc
same_piped (is.offset n ∷ stages) xs ys e h = absurd cc
same_piped (is.sort sorting ∷ stages) xs ys e h = absurd cc
same_piped (is.uniq distinct ∷ stages) xs ys e h = ap (all_piped stages) (same_uniq distinct xs ys h)
same_piped (is.stats grouping ∷ stages) xs ys e h =
    ap (λ made. made >>= all_piped stages) (same_grouped grouping xs ys h)
same_piped (is.top ranking ∷ stages) xs ys e h = ap (all_piped stages) (same_top ranking xs ys h)
same_piped (is.make (makes.extract pieces from) ∷ stages) xs ys e h =
    after_making (extract_fields pieces from) stages xs ys
    (same_piped stages (map (extract_fields pieces from) xs) (map (extract_fields pieces from) ys) e
    (same_made (extract_fields pieces from) xs ys h))
same_piped (is.make (makes.format pieces name) ∷ stages) xs ys e h =
    let set = λ (r : Record). put_field r name (formatted pieces r) in
    after_making set stages xs ys (same_piped stages (map set xs) (map set ys) e (same_made set xs ys h))
same_piped (is.make (makes.len from name) ∷ stages) xs ys e h =
    let set = λ (r : Record). put_field r name (decimal (length (field_value r from))) in
    after_making set stages xs ys (same_piped stages (map set xs) (map set ys) e (same_made set xs ys h))
same_piped (is.make (makes.math items) ∷ stages) xs ys e h = absurd cc

-- ---- evaluation

pub same_evaluated : (asked_for : Question) (now : ℤ) (xs ys : List Row) → forget_order asked_for.stages ≡ true
    → HaveSameItems xs ys → evaluate asked_for now xs ≡ evaluate asked_for now ys
same_evaluated asked_for now xs ys e h =
    let test = λ (row : Row). holds now asked_for.condition row in
    let kept = same_filtered test xs ys h in
    ap (λ n. cond (nat_lt n row_limit)
    (piped_outcome (all_piped asked_for.stages (map record_of (filter test xs)))) many_rows)
    (same_length (filter test xs) (filter test ys) kept)
    ∙ ap (λ made. cond (nat_lt (length (filter test ys)) row_limit) (piped_outcome made) many_rows)
    (same_piped asked_for.stages (map record_of (filter test xs)) (map record_of (filter test ys)) e
    (same_made record_of (filter test xs) (filter test ys) kept))
