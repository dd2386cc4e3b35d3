use Rattle.std.proofs.Common.{◌∙◌, ℕ, List, Bor, ap, length, map, sym}
use Rattle.std.specs.BTreeSet.{insert_key}
use Rattle.std.specs.List.{fold}
use Rattle.std.proofs.lemmas.List.{length-map}
use Rattle.log_model.specs.Field.{bytes_cmp}
use Rattle.log_model.specs.History.{Numbered}
use Rattle.block_body.specs.Outline.{NamedFilter}
use Rattle.block_model.specs.Columns.{put_names}
use Rattle.part_file.proofs.FollowedLaws.{block-names, names-with, now_of}
use Rattle.part_file.proofs.followed.columns_with.Goals as goal

pub returns : goal.returns
returns c =
    let columns = map (λ (column : NamedFilter). column.0) c.head.result.now.columns in
    let first = map now_of c.put_columns.new.names.keys in
    let all = map now_of c.put_fields.new.names.keys in
    c.len.ensures.len ∙ sym (length-map c.put_fields.new.names.keys now_of)
    ∙ ap length (names-with c.args.block.now c.args.next.now columns first all (block-names c.args.block.now
    c.head.result.now c.head.ensures.outline) (c.in_ok-put_columns.ensures ∙ ap (λ (l : List (Bor (List ℕ))).
    fold (insert_key bytes_cmp) (map now_of l) columns) c.new-names.ensures.empty) (c.in_ok-put_fields.ensures
    ∙ ap (put_names first) (c.as_slice.ensures.value ∙ c.fields.ensures.value
    ∙ ap (λ (n : Numbered). n.row.fields) c.next.view_is)))
