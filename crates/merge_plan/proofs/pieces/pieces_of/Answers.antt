use Rattle.std.proofs.Common.{◌≡◌, ◌+◌, List, map, take, ◌++◌, ◌∷◌, [], sym, subst}
use Rattle.std.specs.Arc.{arc_value}
use Rattle.day_model.specs.Days.{DayRows}
use Rattle.log_model.specs.History.{Numbered}
use Rattle.part_store.specs.State.{day_part_of}
use Rattle.merge_plan.specs.Grouping.{ArePieces}
use Rattle.merge_plan.proofs.Lists.{taken-more}
use Rattle.merge_plan.proofs.PieceLaws.{more-pieces}
use Rattle.merge_plan.proofs.pieces.pieces_of.Goals as goal

pub loop-batch-preserved : goal.loop-batch-preserved
loop-batch-preserved c =
    let batches : List (List Numbered) = map arc_value c.args.batches.now in
    let i = c.loop-batch.batch-index in
    let batch : List Numbered = arc_value c.batch-item.result in
    let before : List DayRows = map day_part_of c.loop-batch.pieces.items in
    let pushed = c.in_ok-push_pieces.ensures in
    let taken : take (i + 1) batches ≡ take i batches ++ batch ∷ [] =
    taken-more arc_value c.args.batches.now i c.batch-item.result c.loop-batch-test.true c.batch-item.is in
    subst (λ (l : List (List Numbered)). ArePieces l (map day_part_of c.push_pieces.new.pieces.items)) (sym taken)
    (subst (ArePieces (take i batches ++ batch ∷ [])) (sym pushed.1)
    (more-pieces (take i batches) batch before pushed.0 c.loop-batch.invariant
    (subst (λ (l : List Numbered). ArePieces (l ∷ []) pushed.0) c.deref.ensures pushed.2)))
