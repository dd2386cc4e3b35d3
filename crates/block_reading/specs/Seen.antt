-- What is known of items that are those of a block.
use Rattle.std.specs.Prelude.{◌≡◌, ℕ, true, List, [], length}
use Rattle.std.specs.List.{AllByRecursion, list_all}
use Rattle.std.specs.List.Sorted.{IsStrictlySortedBy}
use Rattle.block_format.specs.Found.{Found}
use Rattle.block_format.specs.Reading.{are_said}
use Rattle.block_model.specs.Columns.{Column}
use Rattle.block_model.specs.declared.keys.Key.{Key}
use Rattle.log_model.specs.Field.{Field, IsFieldList, bytes_cmp, set_all}
use Rattle.block_reading.specs.ByColumns.{AreBlockKeys, AreFew, AreGoodNames, AreLight, IsFilled, bytes_from}
use Rattle.block_reading.specs.ByColumns.{column_names, has_label}
use Rattle.block_reading.specs.declared.by_columns.Seen.{Seen}

-- These labels, keys and columns are those of a block, and the fields of all rows have this many bytes.
pub record AreGood (labels : List Field) (weight : ℕ) (keys : List Key) (columns : List Column) : Type 0 where
  pub few : AreFew (length keys) (length columns)
  pub ordered : AreBlockKeys keys
  pub rising : IsStrictlySortedBy bytes_cmp (column_names columns)
  pub named : AreGoodNames columns
  pub filled : AllByRecursion IsFilled columns
  pub light : AreLight (length keys) columns
  pub listed : IsFieldList labels
  pub labelled : list_all (has_label columns) labels ≡ true
  pub sum : weight ≡ bytes_from columns 0 (length keys)

-- The labels are those of the rows, and all is good.
pub record IsSeen (seen : Seen) (found : Found) : Type 0 where
  pub said : are_said found ≡ true
  pub labels : seen.stream ≡ set_all [] found.labels
  pub good : AreGood seen.stream seen.weight found.keys found.columns
