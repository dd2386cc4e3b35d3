-- Which patterns are refused.
use Rattle.std.specs.Prelude.{ℕ, ◌≤◌, ◌-◌, List, slice_get, take, IsSomeAnd}
use Rattle.std.specs.List.{AllByRecursion}
use Rattle.lq_ast.specs.Patterns.{Pattern, CanBeRead}
use Rattle.lq_filter.specs.declared.fault.PrepareFault.{PrepareFault}
use Rattle.lq_filter.specs.declared.fault.PrepareFault.TheVariants.{RegexRefused, Memory}

-- The pattern with this number, counted from 0, cannot be read, and all before it can.
abbrev pub IsFirstUnreadable : List Pattern → ℕ → Type 0
IsFirstUnreadable patterns nth =
    AllByRecursion CanBeRead (take nth patterns)
    × IsSomeAnd (slice_get patterns nth) (λ pattern. CanBeRead pattern → ⊥)

-- The fault is one of preparing these patterns, the first of which has the number `first`: what is refused is the first
-- of them that cannot be read.
abbrev pub IsRefusal : ℕ → List Pattern → PrepareFault → Type 0
IsRefusal first patterns (RegexRefused nth) = (first ≤ nth) × IsFirstUnreadable patterns (nth - first)
IsRefusal first patterns Memory = Unit {0}
