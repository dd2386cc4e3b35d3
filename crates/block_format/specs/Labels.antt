-- The labels of a stream as bytes, and as a format.
use Rattle.std.specs.Prelude.{ℕ, ◌<◌, ◌^◌, List, ◌++◌, length, Result}
use Rattle.std.specs.Int.{w16, w32, to_le_bytes}
use Rattle.std.specs.List.{flat_map}
use Rattle.byte_format.specs.Format.{Format, value, followed, many, front, ◌>>=◌}
use Rattle.byte_format.specs.Items.{number, text}
use Rattle.byte_format.specs.Written.{text_bytes}
use Rattle.log_model.specs.Field.{Field}

-- its length can be written
pub record IsShortLabel (label : Field) : Type 0 where
  pub name : length label.0 < 2 ^ 16
  pub content : length label.1 < 2 ^ 32

unfoldable pub label_bytes : Field → List ℕ
label_bytes label = text_bytes w16 label.0 ++ text_bytes w32 label.1

unfoldable pub labels_bytes : List Field → List ℕ
labels_bytes labels = to_le_bytes w16 (length labels) ++ flat_map label_bytes labels

unfoldable pub label : Format Field
label = followed (text w16) (λ name. followed (text w32) (λ content. value (name, content)))

unfoldable pub labels : Format (List Field)
labels = followed (number w16) (λ count. many count label)

-- the same, one step after another
unfoldable pub label_steps : List ℕ → Result (Field × List ℕ) ℕ
label_steps bytes = do
  name ← front (text w16) bytes
  content ← front (text w32) name.1
  front (value (name.0, content.0)) content.1

unfoldable pub labels_steps : List ℕ → Result (List Field × List ℕ) ℕ
labels_steps bytes = do
  count ← front (number w16) bytes
  front (many count.0 label) count.1
