-- Pipes one after another.
use Rattle.std.proofs.Common.{◌≡◌, List, ◌∷◌, Ok, ap}
use Rattle.lq_ast.specs.Grouping.{◌>>=◌}
use Rattle.lq_ast.specs.Pipes.{all_piped, piped}
use Rattle.lq_ast.specs.Records.{Record}
use Rattle.lq_ast.specs.Stage.{Stage}

pub piped_first : (stage : Stage) (others : List Stage) (records made : List Record) → piped stage records ≡ Ok made
    → all_piped (stage ∷ others) records ≡ all_piped others made
piped_first stage others records made e = ap (λ m. m >>= all_piped others) e
