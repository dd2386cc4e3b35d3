-- The parts of a block are read one after another.
use Rattle.std.proofs.Common.{◌≡◌, ℕ, List, ◌∙◌}
use Rattle.std.specs.Int.{w16, w32, w64}
use Rattle.block_column.specs.Body.{body, kind_item}
use Rattle.byte_format.specs.Format.{value, followed, many, front}
use Rattle.byte_format.specs.Items.{number, signed, text}
use Rattle.byte_format.proofs.Cases.{bind_same}
use Rattle.byte_format.proofs.Readings.{front-followed}
use Rattle.word_filter.specs.Words.{filter_item}
use Rattle.block_format.specs.Columns.{column, column_steps}
use Rattle.block_format.specs.Keys.{keys, keys_steps, zipped}
use Rattle.block_format.specs.Labels.{label, label_steps, labels, labels_steps}
use Rattle.block_format.specs.Parts.{parts, parts_steps}

pub label-steps : (bytes : List ℕ) → front label bytes ≡ label_steps bytes
unfolding label label_steps
label-steps bytes =
    front-followed (text w16) (λ name. followed (text w32) (λ content. value (name, content))) bytes
    ∙ bind_same (front (text w16) bytes) _ _ (λ name. front-followed (text w32) (λ content. value (name.0, content))
    name.1)

pub labels-steps : (bytes : List ℕ) → front labels bytes ≡ labels_steps bytes
unfolding labels labels_steps
labels-steps bytes = front-followed (number w16) (λ count. many count label) bytes

pub keys-steps : (rows : ℕ) (bytes : List ℕ) → front (keys rows) bytes ≡ keys_steps rows bytes
unfolding keys keys_steps
keys-steps rows bytes =
    front-followed (many rows signed) (λ times. followed (many rows (number w64)) (λ batches.
    followed (many rows (number w32)) (λ places. value (zipped times batches places)))) bytes
    ∙ bind_same (front (many rows signed) bytes) _ _ (λ times.
    front-followed (many rows (number w64)) (λ batches. followed (many rows (number w32)) (λ places. value
    (zipped times.0 batches places))) times.1
    ∙ bind_same (front (many rows (number w64)) times.1) _ _ (λ batches.
    front-followed (many rows (number w32)) (λ places. value (zipped times.0 batches.0 places)) batches.1))

pub column-steps : (rows : ℕ) (bytes : List ℕ) → front (column rows) bytes ≡ column_steps rows bytes
unfolding column column_steps
column-steps rows bytes =
    front-followed (text w16) (λ name. followed kind_item (λ kind. followed filter_item (λ filter.
    followed (body rows kind) (λ values. value (name, values))))) bytes
    ∙ bind_same (front (text w16) bytes) _ _ (λ name.
    front-followed kind_item (λ kind. followed filter_item (λ filter. followed (body rows kind) (λ values. value
    (name.0, values)))) name.1
    ∙ bind_same (front kind_item name.1) _ _ (λ kind.
    front-followed filter_item (λ filter. followed (body rows kind.0) (λ values. value (name.0, values))) kind.1
    ∙ bind_same (front filter_item kind.1) _ _ (λ filter.
    front-followed (body rows kind.0) (λ values. value (name.0, values)) filter.1)))

pub parts-steps : (bytes : List ℕ) → front parts bytes ≡ parts_steps bytes
unfolding parts parts_steps
parts-steps bytes =
    front-followed labels (λ ls. followed (number w16) (λ rows. followed (number w16) (λ count.
    followed (keys rows) (λ ks. followed (many count (column rows)) (λ columns.
    value (record { labels = ls; keys = ks; columns = columns })))))) bytes
    ∙ bind_same (front labels bytes) _ _ (λ ls.
    front-followed (number w16) (λ rows. followed (number w16) (λ count. followed (keys rows) (λ ks. followed
    (many count (column rows)) (λ columns. value (record { labels = ls.0; keys = ks; columns = columns }))))) ls.1
    ∙ bind_same (front (number w16) ls.1) _ _ (λ rows.
    front-followed (number w16) (λ count. followed (keys rows.0) (λ ks. followed (many count (column rows.0))
    (λ columns. value (record { labels = ls.0; keys = ks; columns = columns })))) rows.1
    ∙ bind_same (front (number w16) rows.1) _ _ (λ count.
    front-followed (keys rows.0) (λ ks. followed (many count.0 (column rows.0)) (λ columns. value (record
    { labels = ls.0; keys = ks; columns = columns }))) count.1
    ∙ bind_same (front (keys rows.0) count.1) _ _ (λ ks.
    front-followed (many count.0 (column rows.0)) (λ columns. value (record {
      labels = ls.0;
      keys = ks.0;
      columns =
          columns;
    })) ks.1))))
