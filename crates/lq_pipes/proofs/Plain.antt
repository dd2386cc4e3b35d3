-- Pipes that have no regular expressions.
use Rattle.std.proofs.Common.{◌≡◌, ℕ, ◌+◌, true, [], length, refl, arith}
use Rattle.std.specs.List.{AllByRecursion}
use Rattle.lq_ast.specs.Patterns.{CanBeRead, patterns_of_stage}
use Rattle.lq_ast.specs.PipeView.{stage}
use Rattle.lq_ast.specs.Stage.{Stage}
use Rattle.lq_ast.specs.Stage as does
use Rattle.lq_ast.specs.declared.pipe.Pipe.{Pipe}
use Rattle.lq_ast.specs.declared.pipe.Pipe.TheVariants as pipe
use Rattle.lq_ast.specs.declared.pipe.StatsPipe.{StatsPipe}
use Rattle.lq_ast.specs.declared.filter.Filter.{Filter}
use Rattle.lq_pipes.specs.Steps.{is_plain}

pub plain_patterns : (s : Stage) → is_plain s ≡ true → patterns_of_stage s ≡ []
plain_patterns (does.fields names) e = refl
plain_patterns (does.delete names) e = refl
plain_patterns (does.rename pairs) e = refl
plain_patterns (does.copy pairs) e = refl
plain_patterns (does.limit n) e = refl
plain_patterns (does.offset n) e = refl
plain_patterns (does.sort sorting) e = refl
plain_patterns (does.uniq distinct) e = refl
plain_patterns (does.stats grouping) e = let bad : ⊥ = cc in absurd bad
plain_patterns (does.keep condition) e = let bad : ⊥ = cc in absurd bad
plain_patterns (does.top ranking) e = refl
plain_patterns (does.make making) e = refl

-- what is neither `stats` nor `filter`
pub is_plain_pipe : (p : Pipe) → ((s : StatsPipe) → p ≡ pipe.Stats s → ⊥) → ((f : Filter) → p ≡ pipe.Keep f → ⊥)
    → is_plain (stage p) ≡ true
is_plain_pipe (pipe.Fields names) h k = refl
is_plain_pipe (pipe.Delete names) h k = refl
is_plain_pipe (pipe.Rename pairs) h k = refl
is_plain_pipe (pipe.Copy pairs) h k = refl
is_plain_pipe (pipe.Limit n) h k = refl
is_plain_pipe (pipe.Offset n) h k = refl
is_plain_pipe (pipe.Sort s) h k = refl
is_plain_pipe (pipe.Uniq u) h k = refl
is_plain_pipe (pipe.Stats s) h k = absurd (h s refl)
is_plain_pipe (pipe.Keep f) h k = absurd (k f refl)
is_plain_pipe (pipe.Top t) h k = refl
is_plain_pipe (pipe.Make m) h k = refl

pub plain_counted : (p : Pipe) (n : ℕ) → is_plain (stage p) ≡ true → n ≡ n + length (patterns_of_stage (stage p))
plain_counted p n e = rw (plain_patterns (stage p) e) (omega arith)

pub plain_readable : (p : Pipe) → is_plain (stage p) ≡ true → AllByRecursion CanBeRead (patterns_of_stage (stage p))
plain_readable p e = rw (plain_patterns (stage p) e) tt
