-- The plan of a round.
use Rattle.std.proofs.Common.{◌≡◌, ℕ, List, [], ◌∷◌, ◌++◌, map, refl, sym, ap, subst, ◌∙◌}
use Rattle.std.specs.Prelude.{IsTrue, flat_map}
use Rattle.std.specs.List.{AllZip, filter}
use Rattle.std.specs.List.Sorted.{IsPermutation}
use Rattle.std.proofs.lemmas.List.Sorted.{IsPermutation-append_right, IsPermutation-sym, IsPermutation-trans}
use Rattle.block_format.specs.Rows.{are_numbered_apart}
use Rattle.log_model.specs.History.{Numbered}
use Rattle.day_model.specs.Days.{DayRows}
use Rattle.part_model.specs.Part.{rows_weight}
use Rattle.part_model.proofs.OrderLaws.{apart-parts, apart-same}
use Rattle.part_store.specs.State.{Listed, kept}
use Rattle.merge_plan.specs.Joining.{joined_last}
use Rattle.merge_plan.specs.Planned.{JoinsDays, KeepsRows, day_rows, is_of, listed_weights, rows_of_listed}
use Rattle.merge_plan.specs.Planned.{rows_of_parts}
use Rattle.merge_plan.specs.Planned.{weights_of_day}
use Rattle.merge_plan.specs.Grouping.{ArePieces, IsGrouped, IsMerged, rows_in_parts}
use Rattle.merge_plan.proofs.MergeLaws.{merged-rows, merged-weights}
use Rattle.merge_plan.proofs.WeightLaws.{joined-last}

-- the rows of the groups and of what is kept are those of the stored parts and of the batches
all-rows : (listed : List Listed) (batches : List (List Numbered)) (pieces : List DayRows) (old : List ℕ)
    (jobs : List DayRows) → ArePieces batches pieces → IsGrouped listed pieces [] old jobs
    → IsPermutation (rows_of_listed (kept old listed) ++ rows_of_parts jobs) (rows_of_listed listed
    ++ rows_in_parts batches)
all-rows listed batches pieces old jobs are grouped =
    IsPermutation-trans (rows_of_listed (kept old listed) ++ rows_of_parts jobs)
    (rows_of_listed listed ++ rows_of_parts pieces) (rows_of_listed listed ++ rows_in_parts batches) grouped.rows
    (IsPermutation-append_right (rows_of_listed listed) (rows_of_parts pieces) (rows_in_parts batches) are.rows)

pub groups-apart : (listed : List Listed) (batches : List (List Numbered)) (pieces : List DayRows) (old : List ℕ)
    (jobs : List DayRows) → ArePieces batches pieces → IsGrouped listed pieces [] old jobs
    → IsTrue (are_numbered_apart (rows_of_listed listed ++ rows_in_parts batches))
    → IsTrue (are_numbered_apart (rows_of_parts jobs))
groups-apart listed batches pieces old jobs are grouped apart =
    let all = rows_of_listed (kept old listed) ++ rows_of_parts jobs in
    let given = rows_of_listed listed ++ rows_in_parts batches in
    (apart-parts (rows_of_listed (kept old listed)) (rows_of_parts jobs)
    (apart-same given all (IsPermutation-sym all given (all-rows listed batches pieces old jobs are grouped)) apart)).1

pub keeps-rows : (listed : List Listed) (batches : List (List Numbered)) (pieces : List DayRows) (old : List ℕ)
    (jobs new : List DayRows) → ArePieces batches pieces → IsGrouped listed pieces [] old jobs
    → AllZip IsMerged jobs new → KeepsRows listed batches old new
keeps-rows listed batches pieces old jobs new are grouped merged =
    IsPermutation-trans (rows_of_listed (kept old listed) ++ rows_of_parts new)
    (rows_of_listed (kept old listed) ++ rows_of_parts jobs) (rows_of_listed listed ++ rows_in_parts batches)
    (IsPermutation-append_right (rows_of_listed (kept old listed)) (rows_of_parts new) (rows_of_parts jobs)
    (merged-rows jobs new merged)) (all-rows listed batches pieces old jobs are grouped)

map-weights : (pieces : List DayRows)
    → map (λ (piece : DayRows). rows_weight piece.1) pieces ≡ map rows_weight (map (λ
    (piece : DayRows). piece.1) pieces)
map-weights [] = refl
map-weights (piece ∷ pieces) = ap (λ (l : List ℕ). rows_weight piece.1 ∷ l) (map-weights pieces)

pub joins-days : (listed : List Listed) (batches : List (List Numbered)) (pieces : List DayRows) (old : List ℕ)
    (jobs new : List DayRows) → ArePieces batches pieces → IsGrouped listed pieces [] old jobs
    → AllZip IsMerged jobs new → JoinsDays listed batches old new
joins-days listed batches pieces old jobs new are grouped merged day =
    ap (λ (l : List ℕ). listed_weights day (kept old listed) ++ l) (merged-weights day jobs new merged)
    ∙ grouped.weights day ∙ joined-last (listed_weights day listed) (weights_of_day day pieces)
    ∙ ap (joined_last (listed_weights day listed))
    (map-weights (filter (is_of day) pieces) ∙ ap (map rows_weight) (are.by_day day))
