use Rattle.std.proofs.Common.{◌≡◌, ◌++◌, ◌∙◌, append-nil, map, refl, subst, sym, arith}
use Rattle.std.proofs.lemmas.List.{take_all}
use Rattle.lq_stats.proofs.Gathering.{taken_more}
use Rattle.lq_stats.specs.Function.{scanned_statistic}
use Rattle.lq_stats.specs.Groups.{AreGroups, TakeRecord}
use Rattle.lq_stats.specs.Key.{grouped_by}
use Rattle.lq_stats.proofs.groups.Groups.add_all.Goals as goal

pub loop-record-init : goal.loop-record-init
loop-record-init c = (
  refl,
  λ more records few h.
      subst (AreGroups (map grouped_by c.args.keys.now) (map scanned_statistic c.args.scans.now) c.args.self.now more)
      (sym (append-nil records)) h,
)

pub loop-record-preserved : goal.loop-record-preserved
loop-record-preserved c =
    let keys = map grouped_by c.args.keys.now in
    let statistics = map scanned_statistic c.args.scans.now in
    let scanned : map scanned_statistic c.loop-record.scans ≡ statistics = c.loop-record.invariant.0 in (
      c.in_ok-add.ensures.same ∙ scanned,
      λ more records few h.
          taken_more keys statistics c.loop-record.self c.add.new.self more records c.args.records.now
          c.loop-record.record-index c.record-item.result c.loop-record-test.true c.record-item.is few
          (subst (λ ss. TakeRecord keys ss c.loop-record.self c.add.new.self c.record-item.result) scanned
          c.in_ok-add.ensures.taken)
          (c.loop-record.invariant.1 more records few h),
    )

pub returns-clause-taken : goal.returns-clause-taken
returns-clause-taken c = λ more records few h.
    subst (λ l. AreGroups (map grouped_by c.args.keys.now) (map scanned_statistic c.args.scans.now) c.loop-record.self
    more (records ++ l)) (take_all c.loop-record.record-index c.args.records.now (omega arith))
    (c.loop-record.invariant.1 more records few h)
