-- The values of arguments.
use Rattle.clap.proofs.WalkLemmas.{first_value-rows}

pub ruleset values_by_rows = first_value-rows
