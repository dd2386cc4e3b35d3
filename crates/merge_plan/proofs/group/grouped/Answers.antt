use Rattle.std.proofs.Common.{◌≡◌, ◌+◌, List, map, take, drop, ◌++◌, ◌∷◌, [], sym, subst}
use Rattle.std.specs.List.{AllByRecursion}
use Rattle.day_model.specs.Days.{DayRows, LieInDay}
use Rattle.part_store.specs.State.{day_part_of, listed_of}
use Rattle.merge_plan.specs.Grouping.{IsGrouped}
use Rattle.merge_plan.proofs.Lists.{all-drop, left-more, taken-more}
use Rattle.merge_plan.proofs.GroupLaws.{begins}
use Rattle.merge_plan.proofs.group.grouped.Goals as goal

pub loop-piece-init : goal.loop-piece-init
loop-piece-init c =
    begins (map listed_of c.args.stored.now) (map day_part_of c.args.pieces.now) c.new.result.items c.new-2.result.items
    c.requires.rising c.new.ensures.items c.new-2.ensures.items

pub add_piece-requires-clause-piece : goal.add_piece-requires-clause-piece
add_piece-requires-clause-piece c =
    let pieces : List DayRows = map day_part_of c.args.pieces.now in
    let left : drop c.loop-piece.piece-index pieces ≡ day_part_of c.piece-item.result ∷ drop
    (c.loop-piece.piece-index + 1) pieces =
    left-more day_part_of c.args.pieces.now c.loop-piece.piece-index c.piece-item.result
    c.loop-piece-test.true c.piece-item.is in
    (subst (AllByRecursion (λ (rows : DayRows). LieInDay rows.0 rows.1)) left
    (all-drop (λ (rows : DayRows). LieInDay rows.0 rows.1) c.loop-piece.piece-index pieces c.requires.pieces)).0

pub loop-piece-preserved : goal.loop-piece-preserved
loop-piece-preserved c =
    let listed = map listed_of c.args.stored.now in
    let pieces : List DayRows = map day_part_of c.args.pieces.now in
    let i = c.loop-piece.piece-index in
    let piece : DayRows = day_part_of c.piece-item.result in
    let left : drop i pieces ≡ piece ∷ drop (i + 1) pieces =
    left-more day_part_of c.args.pieces.now i c.piece-item.result c.loop-piece-test.true c.piece-item.is in
    let taken : take (i + 1) pieces ≡ take i pieces ++ piece ∷ [] =
    taken-more day_part_of c.args.pieces.now i c.piece-item.result c.loop-piece-test.true c.piece-item.is in
    subst (λ (l : List DayRows). IsGrouped listed l (drop (i + 1) pieces) c.add_piece.new.groups.files.items
    c.add_piece.new.groups.jobs.items) (sym taken)
    (c.in_ok-add_piece.ensures (take i pieces) (drop (i + 1) pieces)
    (subst (λ (l : List DayRows). IsGrouped listed (take i pieces) l c.loop-piece.groups.files.items
    c.loop-piece.groups.jobs.items) left c.loop-piece.invariant))
