use Rattle.std.proofs.Common.{map, refl, arith}
use Rattle.lq_stats.proofs.Gathering.{entered_new, entered_old}
use Rattle.lq_stats.specs.Function.{scanned_statistic}
use Rattle.lq_stats.specs.Key.{grouped_by}
use Rattle.lq_stats.proofs.groups.Groups.place.Goals as goal

pub returns-then-place-len : goal.returns-then-place-len
returns-then-place-len c = λ more records h.
    entered_old (map grouped_by c.args.keys.now) (map scanned_statistic c.args.scans.now) more records c.args.fields.now
    c.args.self.now h c.in_ok-text.ensures.short c.in_ok-text.text.now c.in_ok-text.ensures.text c.place.new.self
    c.in_ok-place.place c.in_ok-place.ensures
    (omega (arith, c.if-place-len.true, c.len.ensures, c.args.self.now.states.ok.0))

pub returns : goal.returns
returns c = λ more records h.
    entered_new (map grouped_by c.args.keys.now) (map scanned_statistic c.args.scans.now) more records c.args.fields.now
    c.args.self.now h c.in_ok-text.ensures.short c.in_ok-text.text.now c.in_ok-text.ensures.text c.place.new.self
    c.in_ok-place.place c.in_ok-place.ensures (record { places = c.place.new.self; states = c.push.new.self })
    c.in_ok-states.states (omega (arith, c.if-place-len.false, c.len.ensures, c.args.self.now.states.ok.0)) refl
    c.in_ok-push.ensures.items c.in_ok-states.ensures
