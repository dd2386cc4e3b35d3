-- What a projector keeps of records.
use Rattle.std.specs.Prelude.{ℕ, List, Option}
use Rattle.lq_pipes.specs.declared.projector.Projector.{Projector}

-- the names of the fields that matter, if not all do
abbrev pub projected : Projector → Option (List (List ℕ))
projected projector = projector.needs.now
