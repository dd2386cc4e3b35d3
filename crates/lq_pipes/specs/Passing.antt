-- Pipes that leave records as they are, over rows that are not records yet.
use Rattle.std.specs.Prelude.{◌≡◌, ◌<◌, ◌^◌, Bool, true, false, List, [], flat_map, length, Ok}
use Rattle.lq_ast.specs.Patterns.{patterns_of_stage}
use Rattle.lq_ast.specs.Pipes.{all_piped, piped}
use Rattle.lq_ast.specs.Records.{Record}
use Rattle.lq_ast.specs.Stage.{Stage}

-- Where the pipe keeps some of the records as they are, it kept them. Else there are all of them still.
abbrev pub Keeps : Stage → List Record → List Record → Bool → Type 0
Keeps stage old new false = new ≡ old
Keeps stage old new true = (piped stage old ≡ Ok new) × (patterns_of_stage stage ≡ [])

-- The pipes that are left make of the records that are left what all pipes make of all records, and all patterns are
-- theirs.
pub record Passes (stages left : List Stage) (old new : List Record) : Type 0 where
  pub same : all_piped left new ≡ all_piped stages old
  pub patterns : flat_map patterns_of_stage left ≡ flat_map patterns_of_stage stages
  pub few : length old < 2 ^ 32 → length new < 2 ^ 32
