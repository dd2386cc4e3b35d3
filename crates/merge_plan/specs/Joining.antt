-- How much the parts of a day weigh after new ones were joined with the last of them.
use Rattle.std.specs.Prelude.{◌≡◌, ℕ, ◌+◌, ◌-◌, List, [], ◌∷◌, ◌++◌, length, map, take, nat_le, Option, Some, None}
use Rattle.std.specs.Prelude.{if◌then◌else◌}
use Rattle.std.specs.List.{last_or}
use Rattle.log_model.specs.Row.{batch_limit}

-- From left to right: a weight is added to the one before it while the sum is at most the limit of a part. Otherwise
-- that
-- one is closed, and the next begins.
abbrev pub joined : Option ℕ → List ℕ → List ℕ
joined None [] = []
joined None (next ∷ weights) = joined (Some next) weights
joined (Some weight) [] = weight ∷ []
joined (Some weight) (next ∷ weights) =
    if nat_le (weight + next) batch_limit then joined (Some (weight + next)) weights
    else weight ∷ joined (Some next) weights

-- the weights of the parts before, of which the last was joined with the new ones
abbrev pub joined_last : List ℕ → List ℕ → List ℕ
joined_last before new = take (length before - 1) before ++ joined (last_or None before) new
