use Rattle.std.proofs.Common.{◌≡◌, ◌+◌, [], ◌∷◌, ◌++◌, ◌∙◌, ap, length, length-append, subst, sym, arith}
use Rattle.std.proofs.lemmas.List.{get_or_default, take_all}
use Rattle.lq_stats.proofs.JoinedStates.{AreJoined, joined_all, joined_more, joined_none, popped}
use Rattle.lq_stats.specs.Groups.{JoinsAt}
use Rattle.lq_stats.proofs.groups.States.merge.Goals as goal

pub loop-state-init : goal.loop-state-init
loop-state-init c =
    let other = c.args.other.list.items in
    record {
      few = omega arith;
      left = sym (take_all (length other) other (omega arith));
      joined = joined_none c.args.self.now.list.items other;
    }

pub loop-state-preserved : goal.loop-state-preserved
loop-state-preserved c =
    let first = c.args.self.now.list.items in
    let other = c.args.other.list.items in
    let old = c.loop-state.list.items in
    let new = c.pop.new.self.items in
    let state = c.in-Some.state in
    let now = c.loop-state.self.list.items in
    let taken = c.take.new.self.list.items in
    let inv = c.loop-state.invariant in
    let made : old ≡ new ++ state ∷ [] = c.in-Some.ensures.items in
    let parts = popped old new other state made inv.left inv.few in
    let long : length old ≡ length new + 1 = ap length made ∙ length-append new (state ∷ []) in
    let at : c.len.result ≡ length new = omega (arith, c.len.ensures, c.pop.new.self.ok.0) in
    record {
      few = omega (arith, inv.few);
      left = parts.0;
      joined = joined_more first other now taken (length new) state
          (λ e. get_or_default other (length new) e state (omega (arith, inv.few)) ∙ parts.1)
          (subst (λ n. JoinsAt n state now taken) at c.in_ok-take.ensures)
          (subst (AreJoined first other now) long inv.joined);
    }

pub returns : goal.returns
returns c =
    let none : length c.loop-state.list.items ≡ 0 =
    omega (arith, c.in_default.ensures.cases.0, c.loop-state.list.ok.0) in
    joined_all c.args.self.now.list.items c.args.other.list.items c.loop-state.self.list.items
    (subst (AreJoined c.args.self.now.list.items c.args.other.list.items c.loop-state.self.list.items) none
    c.loop-state.invariant.joined)
