-- Which blocks of a look a query needs, and how they are counted when they are opened.
use Rattle.std.specs.Prelude.{◌≡◌, ℕ, ℤ, ◌+◌, ◌-◌, ◌^◌, ◌≤◌, List, filter, flat_map, length, min}
use Rattle.log_model.specs.History.{Numbered}
use Rattle.block_body.specs.Outlines.{outline_of}
use Rattle.part_model.specs.Filling.{blocks_of}
use Rattle.lq_ast.specs.Question.{Question}
use Rattle.lq_prune.specs.Need.{TheNeed, admits, need_of}
use Rattle.query_run.specs.declared.fault.RunFault.{RunFault}
use Rattle.query_run.specs.declared.fault.RunFault.TheVariants as running
use Rattle.query_run.specs.declared.fault.SearchFault.{SearchFault}
use Rattle.query_run.specs.declared.fault.SearchFault.TheVariants.{ManyRows, Overflow, Memory}

-- those of the blocks that the need admits
abbrev pub admitted_by : TheNeed → List (List Numbered) → List (List Numbered)
admitted_by need blocks = filter (λ rows. admits need (outline_of rows)) blocks

-- The rows of the parts are filled into blocks. These are those that the query needs at the moment `now`.
abbrev pub admitted_blocks : Question → ℤ → List (List Numbered) → List (List Numbered)
admitted_blocks query now parts = admitted_by (need_of now query.condition) (flat_map blocks_of parts)

-- how many these are
abbrev pub admitted : Question → ℤ → List (List Numbered) → ℕ
admitted query now parts = length (admitted_blocks query now parts)

-- A counter, which has 64 bits, counted this many steps. It stays at its last number.
abbrev pub Counts : ℕ → ℕ → ℕ → Type 0
Counts old steps new = new ≡ min (old + steps) (2 ^ 64 - 1)

-- It counted at most this many.
pub record CountsAtMost (old steps new : ℕ) : Type 0 where
  pub forward : old ≤ new
  pub within : new ≤ min (old + steps) (2 ^ 64 - 1)

-- what it counted of so many blocks when a search fails for this cause
abbrev pub CountsUntil : SearchFault → ℕ → ℕ → ℕ → Type 0
CountsUntil ManyRows old blocks new = Counts old blocks new
CountsUntil (Overflow name) old blocks new = Counts old blocks new
CountsUntil Memory old blocks new = CountsAtMost old blocks new

-- the same of a query that is prepared first
abbrev pub CountsUntilFault : RunFault → ℕ → ℕ → ℕ → Type 0
CountsUntilFault (running.RegexRefused nth) old blocks new = new ≡ old
CountsUntilFault running.ManyRows old blocks new = CountsUntil ManyRows old blocks new
CountsUntilFault (running.Overflow name) old blocks new = CountsUntil (Overflow name) old blocks new
CountsUntilFault running.Memory old blocks new = CountsUntil Memory old blocks new
