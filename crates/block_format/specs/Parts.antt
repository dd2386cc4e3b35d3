-- All parts of a block as bytes, and as a format.
use Rattle.std.specs.Prelude.{ℕ, List, ◌++◌, length, Result}
use Rattle.std.specs.Int.{w16, to_le_bytes}
use Rattle.std.specs.List.{flat_map}
use Rattle.byte_format.specs.Format.{Format, value, followed, many, front, ◌>>=◌}
use Rattle.byte_format.specs.Items.{number}
use Rattle.block_format.specs.Columns.{column, column_bytes}
use Rattle.block_format.specs.Found.{Found}
use Rattle.block_format.specs.Keys.{keys, keys_bytes}
use Rattle.block_format.specs.Labels.{labels, labels_bytes}

-- the labels, the numbers of rows and of columns, the keys, and the columns
unfoldable pub parts_bytes : Found → List ℕ
parts_bytes found =
    labels_bytes found.labels
    ++ (to_le_bytes w16 (length found.keys)
    ++ (to_le_bytes w16 (length found.columns) ++ (keys_bytes found.keys ++ flat_map column_bytes found.columns)))

unfoldable pub parts : Format Found
parts =
    followed labels (λ labels. followed (number w16) (λ rows. followed (number w16) (λ count.
    followed (keys rows) (λ keys. followed (many count (column rows)) (λ columns.
    value (record { labels = labels; keys = keys; columns = columns }))))))

-- the same, one step after another
unfoldable pub parts_steps : List ℕ → Result (Found × List ℕ) ℕ
parts_steps bytes = do
  labels ← front labels bytes
  rows ← front (number w16) labels.1
  count ← front (number w16) rows.1
  keys ← front (keys rows.0) count.1
  columns ← front (many count.0 (column rows.0)) keys.1
  front (value (record { labels = labels.0; keys = keys.0; columns = columns.0 })) columns.1
