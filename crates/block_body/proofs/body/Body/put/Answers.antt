use Rattle.std.proofs.Common.{◌≡◌, ◌++◌, ◌∙◌, List, ℕ, ap, arith, length}
use Rattle.std.specs.Int.{w16, to_le_bytes}
use Rattle.std.specs.List.{flat_map}
use Rattle.std.proofs.lemmas.List.{length-map}
use Rattle.block_format.specs.Columns.{column_bytes}
use Rattle.block_format.specs.Keys.{keys_bytes}
use Rattle.block_format.specs.Labels.{labels_bytes}
use Rattle.block_format.proofs.LabelLaws.{are-rows, stream-short}
use Rattle.block_model.specs.Keys.{key_of}
use Rattle.block_model.specs.declared.keys.Key.{Key}
use Rattle.log_model.specs.History.{Numbered}
use Rattle.block_body.specs.Held.{columns_in, keys_in, rows_held}
use Rattle.block_body.specs.Outline.{Outline}
use Rattle.block_body.proofs.HeldLaws.{filters-held}
use Rattle.block_body.proofs.SpellingLaws.{put-five, spelled}
use Rattle.block_body.proofs.StoreLaws.{keys-length}
use Rattle.block_body.proofs.body.Body.put.Goals as goal

pub put_labels-requires-clause-few : goal.put_labels-requires-clause-few
put_labels-requires-clause-few c =
    let rows : List Numbered = rows_held c.args.head.now c.args.self.now c.args.batches.now in
    rw (c.stream.ensures ∙ ap (λ (o : Outline). o.labels) c.requires.held.head_is) (stream-short rows
    c.requires.held.block.some (are-rows rows c.requires.held.each)).1

pub put_labels-requires-clause-short : goal.put_labels-requires-clause-short
put_labels-requires-clause-short c =
    let rows : List Numbered = rows_held c.args.head.now c.args.self.now c.args.batches.now in
    rw (c.stream.ensures ∙ ap (λ (o : Outline). o.labels) c.requires.held.head_is) (stream-short rows
    c.requires.held.block.some (are-rows rows c.requires.held.each)).0

pub overflow_cast-len : goal.overflow_cast-len
overflow_cast-len c =
    let rows : List Numbered = rows_held c.args.head.now c.args.self.now c.args.batches.now in
    let keys = keys-length c.args.self.now c.args.batches.now c.requires.even in
    record {
      fits = omega (
        arith,
        c.len.ensures,
        keys,
        ap length c.requires.held.keys_are,
        length-map rows key_of,
        c.requires.held.block.few,
      );
    }

pub put_columns-requires-clause-filters : goal.put_columns-requires-clause-filters
put_columns-requires-clause-filters c =
    let rows : List Numbered = rows_held c.args.head.now c.args.self.now c.args.batches.now in
    filters-held rows c.column_heads.result.now c.args.self.now.columns (are-rows rows c.requires.held.each)
    (c.column_heads.ensures ∙ ap (λ (o : Outline). o.columns) c.requires.held.head_is) c.requires.held.columns_are

pub returns : goal.returns
returns c =
    let rows : List Numbered = rows_held c.args.head.now c.args.self.now c.args.batches.now in
    let keys : List Key = keys_in c.args.self.now c.args.batches.now in
    let out : List ℕ = c.args.out.now.items in
    let columns : List (List (List ℕ)) = c.args.self.now.columns in
    let keys_len = keys-length c.args.self.now c.args.batches.now c.requires.even in
    let count : c.len.result ≡ length (keys_in c.args.self.now c.args.batches.now) = omega (
      arith,
      c.len.ensures,
      keys_len,
    ) in
    let width : c.len-2.result ≡ length c.args.self.now.columns = omega (arith, c.len-2.ensures) in
    put-five c.args.out.now.items c.put_labels.new.out.items c.extend_from_slice.new.self.items
    c.extend_from_slice-2.new.self.items c.put_keys.new.out.items c.put_columns.new.out.items
    (labels_bytes c.stream.result.now) c.to_le_bytes.result c.to_le_bytes-2.result (keys_bytes keys)
    (flat_map column_bytes (columns_in c.column_heads.result.now c.args.self.now.columns))
    c.in_ok-put_labels.ensures c.in_ok-extend_from_slice.ensures.items c.in_ok-extend_from_slice-2.ensures.items
    c.in_ok-put_keys.ensures c.in_ok-put_columns.ensures
    ∙ ap (λ (b : List ℕ). out ++ (labels_bytes c.stream.result.now ++ (b ++ (c.to_le_bytes-2.result
    ++ (keys_bytes keys ++ flat_map column_bytes (columns_in c.column_heads.result.now c.args.self.now.columns))))))
    (c.to_le_bytes.ensures ∙ ap (to_le_bytes w16) count)
    ∙ ap (λ (b : List ℕ). out ++ (labels_bytes c.stream.result.now ++ (to_le_bytes w16 (length keys) ++ (b
    ++ (keys_bytes keys ++ flat_map column_bytes (columns_in c.column_heads.result.now c.args.self.now.columns))))))
    (c.to_le_bytes-2.ensures ∙ ap (to_le_bytes w16) width)
    ∙ ap (λ (b : List ℕ). out ++ b) (spelled rows c.args.head.now keys columns c.stream.result.now
    c.column_heads.result.now c.requires.held c.stream.ensures c.column_heads.ensures)
