-- The hashers that a seed makes.
use Rattle.std.specs.Hash.DefaultHasher.{initial}
use Rattle.std.specs.Option.{option_map_or}
use Rattle.std.specs.RandomState as random
use Rattle.std.specs.declared.hash.DefaultHasher.{DefaultHasher}
use Rattle.lq_tuple.specs.declared.seed.HashSeed.{HashSeed}

-- with no keys, the one that everybody knows
abbrev pub initial_hasher : HashSeed → DefaultHasher
initial_hasher seed = option_map_or random.initial_hasher seed.keys initial
