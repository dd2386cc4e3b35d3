-- What merged groups keep.
use Rattle.std.proofs.Common.{◌≡◌, ℕ, ◌<◌, Bool, true, false, cond, eqb, List, [], ◌∷◌, ◌++◌, length, get_or, map}
use Rattle.std.proofs.Common.{refl, sym, ap, subst, ◌∙◌}
use Rattle.std.specs.Prelude.{IsTrue}
use Rattle.std.specs.List.{AllByRecursion, AllZip, filter}
use Rattle.std.specs.List.Sorted.{IsPermutation}
use Rattle.std.proofs.lemmas.List.Elements.{All-from_recursion}
use Rattle.std.proofs.lemmas.List.Sorted.{IsPermutation-append, IsPermutation-map, IsPermutation-refl}
use Rattle.std.proofs.lemmas.List.Sorted.{sum_by-IsPermutation}
use Rattle.block_format.specs.Rows.{are_numbered_apart}
use Rattle.log_model.specs.Field.{weight}
use Rattle.log_model.specs.History.{Numbered, rows_in}
use Rattle.log_model.specs.Row.{Row}
use Rattle.day_model.specs.Days.{AreOfTheirDays, DayRows}
use Rattle.part_model.specs.Part.{rows_weight}
use Rattle.part_model.proofs.OrderLaws.{apart-parts}
use Rattle.merge_plan.specs.Planned.{is_of, rows_of_parts, weights_of_day}
use Rattle.merge_plan.specs.Grouping.{IsMerged}

abbrev IsApart : DayRows → Type 0
IsApart job = IsTrue (are_numbered_apart job.1)

each-apart : (jobs : List DayRows) → IsTrue (are_numbered_apart (rows_of_parts jobs)) → AllByRecursion IsApart jobs
each-apart [] h = tt
each-apart (job ∷ jobs) h =
    let parts = apart-parts job.1 (rows_of_parts jobs) h in (parts.0, each-apart jobs parts.1)

-- the rows of each group are numbered apart if those of all are
pub job-apart : (jobs : List DayRows) (i : ℕ) (job : DayRows) → IsTrue (are_numbered_apart (rows_of_parts jobs))
    → i < length jobs → job ≡ get_or jobs i job → IsTrue (are_numbered_apart job.1)
job-apart jobs i job h lt is =
    subst IsApart (sym is) (All-from_recursion IsApart jobs (each-apart jobs h) i job lt)

pub weight-same : (xs ys : List Numbered) → IsPermutation xs ys → rows_weight ys ≡ rows_weight xs
weight-same xs ys same =
    sum_by-IsPermutation (λ (row : Row). weight row.fields) (rows_in xs) (rows_in ys)
    (IsPermutation-map (λ (n : Numbered). n.row) xs ys same)

pub merged-rows : (jobs new : List DayRows) → AllZip IsMerged jobs new
    → IsPermutation (rows_of_parts new) (rows_of_parts jobs)
merged-rows [] [] h = IsPermutation-refl []
merged-rows [] (part ∷ new) h = absurd h
merged-rows (job ∷ jobs) [] h = absurd h
merged-rows (job ∷ jobs) (part ∷ new) h =
    IsPermutation-append part.1 job.1 (rows_of_parts new) (rows_of_parts jobs) h.0.1 (merged-rows jobs new h.1)

pub merged-days : (jobs new : List DayRows) → AllZip IsMerged jobs new → AreOfTheirDays new
merged-days [] [] h = tt
merged-days [] (part ∷ new) h = absurd h
merged-days (job ∷ jobs) [] h = absurd h
merged-days (job ∷ jobs) (part ∷ new) h = (h.0.2, merged-days jobs new h.1)

pub merged-weights : (day : ℕ) (jobs new : List DayRows) → AllZip IsMerged jobs new
    → weights_of_day day new ≡ weights_of_day day jobs
merged-weights day [] [] h = refl
merged-weights day [] (part ∷ new) h = absurd h
merged-weights day (job ∷ jobs) [] h = absurd h
merged-weights day (job ∷ jobs) (part ∷ new) h =
    ap (λ (n : ℕ). map (λ (p : DayRows). rows_weight p.1) (cond (eqb n day) (part ∷ filter (is_of day) new)
    (filter (is_of day) new))) h.0.0
    ∙ by (eqb job.0 day)
    (ap (λ (l : List ℕ). rows_weight part.1 ∷ l) (merged-weights day jobs new h.1)
    ∙ ap (λ (n : ℕ). n ∷ weights_of_day day jobs) (sym (weight-same part.1 job.1 h.0.1)))
    (merged-weights day jobs new h.1)
  where
    by : (t : Bool) → rows_weight part.1 ∷ weights_of_day day new ≡ rows_weight job.1 ∷ weights_of_day day jobs
        → weights_of_day day new ≡ weights_of_day day jobs
        → map (λ (p : DayRows). rows_weight p.1) (cond t (part ∷ filter (is_of day) new) (filter (is_of day) new))
        ≡ map (λ (p : DayRows). rows_weight p.1) (cond t (job ∷ filter (is_of day) jobs) (filter (is_of day) jobs))
    by true both rest = both
    by false both rest = rest
