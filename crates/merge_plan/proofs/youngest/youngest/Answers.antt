use Rattle.std.proofs.Common.{◌≡◌, ◌-◌, ◌<◌, get_or, ap, arith, leb, leb-false, leb-true, rules}
use Rattle.std.proofs.lemmas.List.Elements.{at_read}
use Rattle.std.proofs.lemmas.List.Sorted.{IsPartitionPoint-from_clause, IsPartitionedBy-leb}
use Rattle.part_store.specs.declared.store.Stored.{Stored}
use Rattle.merge_plan.proofs.LastOfDay.{non-falling, youngest-none, youngest-some}
use Rattle.merge_plan.proofs.youngest.youngest.Goals as goal

pub returns-then-end-eq0-clause-none : goal.returns-then-end-eq0-clause-none
returns-then-end-eq0-clause-none c =
    let parted = IsPartitionedBy-leb (λ (x : Stored). x.day) _ c.args.day (non-falling c.args.stored.now c.requires) in
    let point = IsPartitionPoint-from_clause (λ (x : Stored). leb x.day c.args.day) _ _
    c.partition_point-end.ensures.partitioned parted (λ a r q k. search rules) in
    youngest-none c.args.stored.now c.partition_point-end.result c.args.day
    (λ k d in' lt. absurd (omega arith))
    (λ k d le lt. leb-false _ _ (point.1 k d le lt))

pub returns-then-last-day-clause-some : goal.returns-then-last-day-clause-some
returns-then-last-day-clause-some c =
    let parted = IsPartitionedBy-leb (λ (x : Stored). x.day) _ c.args.day (non-falling c.args.stored.now c.requires) in
    let point = IsPartitionPoint-from_clause (λ (x : Stored). leb x.day c.args.day) _ _
    c.partition_point-end.ensures.partitioned parted (λ a r q k. search rules) in
    youngest-some c.args.stored.now c.partition_point-end.result c.args.day c.index-stored-end.result (omega arith)
    (omega arith) c.index-stored-end.is c.if-last-day.true
    (λ k d le lt. leb-false _ _ (point.1 k d le lt))

pub returns-else-last-day-clause-none : goal.returns-else-last-day-clause-none
returns-else-last-day-clause-none c =
    let order = non-falling c.args.stored.now c.requires in
    let parted = IsPartitionedBy-leb (λ (x : Stored). x.day) _ c.args.day order in
    let point = IsPartitionPoint-from_clause (λ (x : Stored). leb x.day c.args.day) _ _
    c.partition_point-end.ensures.partitioned parted (λ a r q k. search rules) in
    youngest-none c.args.stored.now c.partition_point-end.result c.args.day
    (λ k d in' lt.
    let end = c.partition_point-end.result in
    let x : Stored = c.index-stored-end.result in
    let most = leb-true _ _ (point.0 (end - 1) x (omega arith) (omega arith)) in
    let is : x.day ≡ (get_or c.args.stored.now (end - 1) x).day = ap (λ (y : Stored). y.day) c.index-stored-end.is in
    let other = c.if-last-day.false in
    let below : x.day < c.args.day = omega arith in
    let last = at_read c.args.stored.now (λ (y : Stored). y.day < c.args.day) (end - 1) x (omega arith)
    c.index-stored-end.is below d in
    let up = order k (end - 1) d (omega arith) (omega arith) in
    omega arith)
    (λ k d le lt. leb-false _ _ (point.1 k d le lt))
