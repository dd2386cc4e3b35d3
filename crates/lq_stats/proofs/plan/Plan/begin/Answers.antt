use Rattle.std.proofs.Common.{◌≡◌, ◌∙◌, [], ap, map, refl, subst}
use Rattle.lq_stats.specs.Function.{statistic_of}
use Rattle.lq_stats.specs.Groups.{AreGroups}
use Rattle.lq_stats.specs.Key.{grouped_by}
use Rattle.lq_stats.specs.Plan.{opening}
use Rattle.lq_stats.proofs.plan.Plan.begin.Goals as goal

pub returns-clause-same : goal.returns-clause-same
returns-clause-same c = λ g p.
    let named = map grouped_by c.as_slice-keys.result.now in
    let keys : named ≡ g.keys = ap (map grouped_by) c.as_slice-keys.ensures.value ∙ p.keys in
    let statistics : map statistic_of c.as_slice-functions.result.now ≡ g.statistics =
    ap (map statistic_of) c.as_slice-functions.ensures.value ∙ p.statistics in
    let groups = c.in_ok-groups.groups in
    record {
      count = refl;
      groups = subst (λ ks. AreGroups ks g.statistics groups (opening ks) []) keys
          (subst (λ ss. AreGroups named ss groups (opening named) []) statistics c.in_ok-groups.ensures);
    }
