-- The keys of rows.
use Rattle.std.specs.Prelude.{◌<◌, ◌^◌, List, map, pos}
use Rattle.log_model.specs.History.{Numbered}
use Rattle.log_model.specs.Row.{IsRow}
use Rattle.block_model.specs.declared.keys.Key.{Key}

abbrev pub key_of : Numbered → Key
key_of numbered = record { time = pos numbered.row.moment; batch = numbered.batch; place = numbered.place }

abbrev pub keys_of : List Numbered → List Key
keys_of rows = map key_of rows

-- a row with numbers of 64 and 32 bits
pub record IsNumbered (numbered : Numbered) : Type 0 where
  pub batch : numbered.batch < 2 ^ 64
  pub place : numbered.place < 2 ^ 32
  pub row : IsRow numbered.row
