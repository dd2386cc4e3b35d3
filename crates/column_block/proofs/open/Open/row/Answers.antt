use Rattle.std.proofs.Common.{◌≡◌, ◌∙◌, ◌≤ℤ◌, List, Some, ap, arith, pos, slice_get, subst, sym}
use Rattle.std.specs.List.{AllByRecursion}
use Rattle.std.proofs.lemmas.Int.{ints}
use Rattle.log_model.specs.History.{Numbered}
use Rattle.log_model.specs.Row.{IsRow}
use Rattle.block_format.specs.Rows.{IsBlock}
use Rattle.block_model.specs.Keys.{IsNumbered, key_of, keys_of}
use Rattle.block_model.specs.declared.keys.Key.{Key}
use Rattle.block_body.specs.Outlines.{outline_of}
use Rattle.column_block.proofs.OpenLaws.{all-at, at-some, found, key-is, labels-at, row-is}
use Rattle.column_block.proofs.open.Open.row.Goals as goal

pub numbered_row-requires-clause-row : goal.numbered_row-requires-clause-row
numbered_row-requires-clause-row c =
    let head : c.head.result.now ≡ outline_of c.args.self.now = c.head.ensures.outline ∙ ap outline_of c.self.view_is in
    let block = subst IsBlock c.self.view_is c.rules.ensures.block in
    let each = subst (AllByRecursion IsNumbered) c.self.view_is c.rules.ensures.each in
    let n = found c.args.self.now c.args.i c.requires in
    let key = ap (λ (rows : List Numbered). slice_get (keys_of rows) c.args.i) (sym c.self.view_is)
    ∙ c.key-key.ensures in
    let same = row-is c.stream.result.now c.key-key.result c.in_ok-fields.fields n.0
    (c.stream.ensures ∙ labels-at c.args.self.now c.head.result.now c.args.i n.0 head block.stream n.1)
    (key-is c.args.self.now c.args.i c.key-key.result n.0 n.1 key)
    (at-some _ (λ (m : Numbered). c.in_ok-fields.fields ≡ m.row.fields) n.0 c.in_ok-fields.ensures
    (ap (λ (rows : List Numbered). slice_get rows c.args.i) c.self.view_is ∙ n.1)) in
    subst (λ (m : Numbered). IsRow m.row) (sym same) (all-at IsNumbered c.args.self.now c.args.i n.0 each n.1).row

pub returns : goal.returns
returns c =
    let head : c.head.result.now ≡ outline_of c.args.self.now = c.head.ensures.outline ∙ ap outline_of c.self.view_is in
    let block = subst IsBlock c.self.view_is c.rules.ensures.block in
    let n = found c.args.self.now c.args.i c.requires in
    let key = ap (λ (rows : List Numbered). slice_get (keys_of rows) c.args.i) (sym c.self.view_is)
    ∙ c.key-key.ensures in
    let same = row-is c.stream.result.now c.key-key.result c.in_ok-fields.fields n.0
    (c.stream.ensures ∙ labels-at c.args.self.now c.head.result.now c.args.i n.0 head block.stream n.1)
    (key-is c.args.self.now c.args.i c.key-key.result n.0 n.1 key)
    (at-some _ (λ (m : Numbered). c.in_ok-fields.fields ≡ m.row.fields) n.0 c.in_ok-fields.ensures
    (ap (λ (rows : List Numbered). slice_get rows c.args.i) c.self.view_is ∙ n.1)) in
    n.1 ∙ ap (λ (m : Numbered). Some m) (sym (c.in_ok-numbered.ensures ∙ same))

pub numbered_row-requires-clause-time : goal.numbered_row-requires-clause-time
numbered_row-requires-clause-time c =
    let n = found c.args.self.now c.args.i c.requires in
    let read = ap (λ (rows : List Numbered). slice_get (keys_of rows) c.args.i) (sym c.self.view_is)
    ∙ c.key-key.ensures in
    let key : c.key-key.result ≡ key_of n.0 = key-is c.args.self.now c.args.i c.key-key.result n.0 n.1 read in
    let time : c.key-key.result.time ≡ pos n.0.row.moment = ap (λ (k : Key). k.time) key in
    let late : pos 0 ≤ℤ pos n.0.row.moment = omega (arith, ints) in
    rw time late
