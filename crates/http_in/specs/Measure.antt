-- Why the loop over the pieces of a body ends. Nothing of what a request is hangs on it.
use Rattle.std.specs.Prelude.{ℕ, ◌+◌, ◌*◌, ◌-◌, List, length}
use Rattle.http_said.specs.Limits.{body_limit}
use Rattle.http_in.specs.declared.stage.Stage.{Stage}
use Rattle.http_in.specs.declared.stage.Stage.TheVariants as stages

-- how many steps a stage may take without more of the body
abbrev pub weight : Stage → ℕ
weight (stages.Rest left) = 4
weight stages.Line = 2
weight (stages.Data left) = 1
weight stages.End = 3
weight stages.Trailer = 1
weight stages.Done = 0

-- this many steps there are at most
abbrev pub steps_left : Stage → List ℕ → ℕ
steps_left stage body = 4 * (body_limit - length body) + weight stage
