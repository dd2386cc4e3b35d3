-- What the items of a block say.
use Rattle.std.specs.Prelude.{List}
use Rattle.log_model.specs.Field.{Field}
use Rattle.block_model.specs.Columns.{Column}
use Rattle.block_model.specs.declared.keys.Key.{Key}

pub record Found : Type 0 where
  pub labels : List Field
  pub keys : List Key
  pub columns : List Column
