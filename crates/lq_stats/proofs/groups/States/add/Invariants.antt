use Rattle.std.proofs.Common.{◌≡◌, ◌<◌, ◌≤◌, ℕ, get_or, length, map}
use Rattle.lq_ast.specs.Stage.{Statistic}
use Rattle.lq_stats.specs.Function.{scanned_statistic}
use Rattle.lq_stats.specs.Groups.{TakesOne}
use Rattle.lq_stats.specs.declared.state.State.{State}
use Rattle.lq_stats.proofs.groups.States.add.Given as goal

abbrev pub invariant-loop-i : goal.invariant-loop-i
invariant-loop-i l =
    (map scanned_statistic l.scans ≡ map scanned_statistic l.initial.scans)
    × (length l.self.list.items ≡ length l.initial.self.list.items)
    × ((k : ℕ) (d : Statistic) (e : State) → k < l.i
    → TakesOne (get_or (map scanned_statistic l.initial.scans) k d) (get_or l.initial.self.list.items k e)
    (get_or l.self.list.items k e) l.fields)
    × ((k : ℕ) (e : State) → l.i ≤ k → get_or l.self.list.items k e ≡ get_or l.initial.self.list.items k e)
