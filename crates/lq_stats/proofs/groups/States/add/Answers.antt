use Rattle.std.proofs.Common.{◌≡◌, ◌<◌, ◌∙◌, ap, get_or, length, map, set, subst, sym, inl, inr, arith}
use Rattle.std.proofs.Math.Seq.{map-set_same}
use Rattle.std.proofs.lemmas.Bool.{cases_lt}
use Rattle.std.proofs.lemmas.List.{get_or-map, get_or-set_other, length-map, length-set}
use Rattle.lq_stats.proofs.Gathering.{taken_here}
use Rattle.lq_stats.specs.Function.{scanned_statistic}
use Rattle.lq_stats.specs.Groups.{TakesOne}
use Rattle.lq_stats.proofs.groups.States.add.Goals as goal

pub loop-i-preserved : goal.loop-i-preserved
loop-i-preserved c =
    let statistics = map scanned_statistic c.args.scans.now in
    let scans = c.loop-i.scans in
    let i = c.loop-i.i in
    let r = c.args.fields.now in
    let states = c.loop-i.self.list.items in
    let first = c.args.self.now.list.items in
    let state = c.add_to.new.state in
    let scan = c.add_to.new.scan in
    let old = c.index-scans-i.result in
    let inv = c.loop-i.invariant in
    let within : i < length scans = omega (arith, c.loop-i-test.true, c.min-count.ensures, ap length inv.0) in (
      map-set_same scanned_statistic scans i scan old c.add_to.ensures.same ∙ inv.0,
      length-set states i state ∙ inv.1,
      λ k d e below. elim (cases_lt k i) [
        | inl before ↦
            subst (λ s. TakesOne (get_or statistics k d) (get_or first k e) s r)
            (sym (get_or-set_other states i k state e (omega (arith, before)))) (inv.2 k d e before)
        | inr here ↦
            let at : k ≡ i = omega (arith, below, here) in
            subst (λ j. TakesOne (get_or statistics j d) (get_or first j e) (get_or (set states i state) j e) r) (sym at)
            (taken_here statistics states first i (scanned_statistic (get_or scans i old)) c.index_mut.result.now state r d e
            (omega (arith, c.loop-i-test.true, c.min-count.ensures, inv.1, c.args.self.now.list.ok.0))
            (ap (λ l. get_or l i d) (sym inv.0) ∙ get_or-map scanned_statistic scans i old d within)
            c.index_mut.ensures.value (inv.3 i e (omega arith)) c.in_ok-add_to.ensures.taken)
      ],
      λ k e above. get_or-set_other states i k state e (omega (arith, above)) ∙ inv.3 k e (omega (arith, above)),
    )

pub returns-clause-taken : goal.returns-clause-taken
returns-clause-taken c = λ records few h. record {
  long = c.loop-i.invariant.1 ∙ h.long;
  each = λ k d e within.
      let long = h.long in
      let named = length-map c.args.scans.now scanned_statistic in
      c.loop-i.invariant.2 k d e (omega (arith, within, c.min-count.ensures, c.loop-i-test.false)) records few
      (h.each k d e within);
}
