use Rattle.std.proofs.Common.{◌++◌, [], ◌∷◌, ◌∙◌, ap, map, subst, sym, take, arith}
use Rattle.std.proofs.lemmas.List.{map_more, take_all}
use Rattle.lq_stats.proofs.Gathering.{none_asked, states_more, states_none}
use Rattle.lq_stats.specs.Function.{scanned_statistic}
use Rattle.lq_stats.specs.Groups.{AreStates}
use Rattle.lq_stats.proofs.groups.States.of.Goals as goal

pub loop-scan-init : goal.loop-scan-init
loop-scan-init c = states_none c.in_ok-list.list.items c.in_ok-list.ensures.items

pub loop-scan-preserved : goal.loop-scan-preserved
loop-scan-preserved c =
    let scans = c.args.scans.now in
    let i = c.loop-scan.scan-index in
    let scan = c.scan-item.result in
    subst (λ l. AreStates l c.push.new.self.items [])
    (ap (λ g. map scanned_statistic (take i scans) ++ scanned_statistic g ∷ []) c.scan-item.is
    ∙ sym (map_more scanned_statistic scans i scan c.loop-scan-test.true))
    (subst (λ l. AreStates (map scanned_statistic (take i scans) ++ scanned_statistic scan ∷ []) l [])
    (sym c.in_ok-push.ensures.items)
    (states_more (map scanned_statistic (take i scans)) c.loop-scan.list.items (scanned_statistic scan) c.of.result
    c.loop-scan.invariant
    (none_asked (scanned_statistic scan) c.of.result c.of.ensures.call (c.of.ensures.none scan.function.now.names.items))))

pub returns : goal.returns
returns c =
    subst (λ l. AreStates (map scanned_statistic l) c.loop-scan.list.items [])
    (take_all c.loop-scan.scan-index c.args.scans.now (omega arith)) c.loop-scan.invariant
