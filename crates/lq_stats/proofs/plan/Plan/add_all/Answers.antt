use Rattle.std.proofs.Common.{◌≡◌, ◌∙◌, ap, length-append, map, subst, arith}
use Rattle.lq_stats.specs.Function.{scanned_statistic, statistic_of}
use Rattle.lq_stats.specs.Groups.{TakeRecords}
use Rattle.lq_stats.specs.Key.{grouped_by}
use Rattle.lq_stats.specs.Plan.{opening}
use Rattle.lq_stats.proofs.plan.Plan.add_all.Goals as goal

pub returns-clause-taken : goal.returns-clause-taken
returns-clause-taken c = λ g before p h.
    let records = c.args.records.now in
    let old = c.args.gathered.now.groups in
    let new = c.add_all.new.self in
    let keys = map grouped_by c.as_slice-keys.result.now in
    let named : keys ≡ g.keys = ap (map grouped_by) c.as_slice-keys.ensures.value ∙ p.keys in
    let statistics : map scanned_statistic c.as_mut_slice-scans.result.now ≡ g.statistics =
    ap (map scanned_statistic) c.as_mut_slice-scans.ensures.value ∙ c.in_ok-scans.ensures
    ∙ ap (map statistic_of) c.as_slice.ensures.value ∙ p.statistics in
    let taken = subst (λ ks. TakeRecords ks g.statistics old new records) named
    (subst (λ ss. TakeRecords keys ss old new records) statistics c.in_ok-add_all.ensures.taken) in
    let few = c.requires.few in
    let count = h.count in
    let whole = length-append before records in
    record {
      count = omega arith;
      groups = taken (opening g.keys) before (omega arith) h.groups;
    }
