-- Weights that are joined from left to right.
use Rattle.std.proofs.Common.{◌≡◌, ℕ, suc, ◌+◌, ◌-◌, Bool, true, false, cond, List, [], ◌∷◌, ◌++◌, length, map, take}
use Rattle.std.proofs.Common.{Some, None}
use Rattle.std.proofs.Common.{refl, sym, ap, ◌∙◌, append_assoc, arith}
use Rattle.std.specs.Prelude.{nat_le}
use Rattle.std.specs.List.{filter, last_or}
use Rattle.std.proofs.lemmas.List.{map-append}
use Rattle.std.proofs.lemmas.List.Elements.{filter-append}
use Rattle.std.proofs.lemmas.List.Sums.{sum_by-append}
use Rattle.log_model.specs.Field.{weight}
use Rattle.log_model.specs.History.{Numbered, rows_in}
use Rattle.log_model.specs.Row.{Row, batch_limit, batch_weight}
use Rattle.day_model.specs.Days.{DayRows}
use Rattle.part_model.specs.Part.{rows_weight}
use Rattle.part_store.specs.State.{Listed, is_day}
use Rattle.merge_plan.specs.Joining.{joined, joined_last}
use Rattle.merge_plan.specs.Planned.{is_of, listed_weights, weights_of_day}
use Rattle.merge_plan.specs.Grouping.{add_last, all_added}

pub weight-append : (xs ys : List Numbered) → rows_weight (xs ++ ys) ≡ rows_weight xs + rows_weight ys
weight-append xs ys =
    ap batch_weight (map-append (λ (n : Numbered). n.row) xs ys)
    ∙ sum_by-append (λ (row : Row). weight row.fields) (rows_in xs) (rows_in ys)

pub weights-append : (day : ℕ) (xs ys : List DayRows)
    → weights_of_day day (xs ++ ys) ≡ weights_of_day day xs ++ weights_of_day day ys
weights-append day xs ys =
    ap (map (λ (part : DayRows). rows_weight part.1)) (filter-append (is_of day) xs ys)
    ∙ map-append (λ (part : DayRows). rows_weight part.1) (filter (is_of day) xs) (filter (is_of day) ys)

pub listed-append : (day : ℕ) (xs ys : List Listed)
    → listed_weights day (xs ++ ys) ≡ listed_weights day xs ++ listed_weights day ys
listed-append day xs ys =
    ap (map (λ (part : Listed). rows_weight part.rows)) (filter-append (is_day day) xs ys)
    ∙ map-append (λ (part : Listed). rows_weight part.rows) (filter (is_day day) xs) (filter (is_day day) ys)

pub added-push : (weights more : List ℕ) (next : ℕ)
    → all_added weights (more ++ next ∷ []) ≡ add_last (all_added weights more) next
added-push weights [] next = refl
added-push weights (other ∷ more) next = added-push (add_last weights other) more next

pub last-added : (weights : List ℕ) (last next : ℕ)
    → add_last (weights ++ last ∷ []) next ≡ weights ++ add_last (last ∷ []) next
last-added [] last next = refl
last-added (x ∷ []) last next = refl
last-added (x ∷ y ∷ weights) last next = ap (λ (l : List ℕ). x ∷ l) (last-added (y ∷ weights) last next)

join-case : (fits : Bool) (weights more : List ℕ) (last next : ℕ)
    → all_added (weights ++ (last + next) ∷ []) more ≡ weights ++ joined (Some (last + next)) more
    → all_added ((weights ++ last ∷ []) ++ next ∷ []) more ≡ (weights ++ last ∷ []) ++ joined (Some next) more
    → all_added (weights ++ cond fits ((last + next) ∷ []) (last ∷ next ∷ [])) more
    ≡ weights ++ cond fits (joined (Some (last + next)) more) (last ∷ joined (Some next) more)
join-case true weights more last next both apart = both
join-case false weights more last next both apart =
    ap (λ l. all_added l more) (sym (append_assoc weights (last ∷ []) (next ∷ [])))
    ∙ apart ∙ append_assoc weights (last ∷ []) (joined (Some next) more)

joined-added : (weights more : List ℕ) (last : ℕ)
    → all_added (weights ++ last ∷ []) more ≡ weights ++ joined (Some last) more
joined-added weights [] last = refl
joined-added weights (next ∷ more) last =
    ap (λ l. all_added l more) (last-added weights last next)
    ∙ join-case (nat_le (last + next) batch_limit) weights more last next (joined-added weights more (last + next))
    (joined-added (weights ++ last ∷ []) more next)

-- a list and its last item
record EndsWith (weights : List ℕ) (count : ℕ) : Type 0 where
  front : List ℕ
  last : ℕ
  is : weights ≡ front ++ last ∷ []
  front_is : take count weights ≡ front
  last_is : last_or None weights ≡ Some last

ends-with : (x : ℕ) (xs : List ℕ) → EndsWith (x ∷ xs) (length xs)
ends-with x [] = record { front = []; last = x; is = refl; front_is = refl; last_is = refl }
ends-with x (y ∷ ys) =
    let rest = ends-with y ys in
    record {
      front = x ∷ rest.front;
      last = rest.last;
      is = ap (λ (l : List ℕ). x ∷ l) rest.is;
      front_is = ap (λ (l : List ℕ). x ∷ l) rest.front_is;
      last_is = rest.last_is;
    }

-- So the last part of a day is joined with the new ones.
pub joined-last : (before new : List ℕ) → all_added before new ≡ joined_last before new
joined-last [] [] = refl
joined-last [] (next ∷ new) = joined-added [] new next
joined-last (x ∷ xs) new =
    let ends = ends-with x xs in
    let count : suc (length xs) - 1 ≡ length xs = omega arith in
    ap (λ l. all_added l new) ends.is
    ∙ joined-added ends.front new ends.last
    ∙ ap (λ l. l ++ joined (Some ends.last) new) (sym (ap (λ n. take n (x ∷ xs)) count ∙ ends.front_is))
    ∙ ap (λ o. take (suc (length xs) - 1) (x ∷ xs) ++ joined o new) (sym ends.last_is)
