use Rattle.std.proofs.Common.{◌≡◌, ◌++◌, ◌∙◌, ◌<◌, ℕ, List, [], ap, length, sym, rules}
use Rattle.std.specs.Int.{w16}
use Rattle.byte_format.specs.Written.{text_bytes}
use Rattle.block_model.specs.Distinct.{is_short}
use Rattle.col_codec.proofs.Loops.{flat_map_more}
use Rattle.block_column.proofs.Listed.{short-at}
use Rattle.block_column.proofs.Whole.{text-at}
use Rattle.block_column.proofs.put.put_texts.Goals as goal

pub put_short-requires : goal.put_short-requires
put_short-requires c =
    let lt : c.loop-i.i < length c.args.texts.now = search rules in
    ap is_short (sym (text-at c.args.texts.now c.loop-i.i c.get.result.now lt c.get.ensures.value))
    ∙ short-at c.args.texts.now c.loop-i.i lt c.requires

pub loop-i-preserved : goal.loop-i-preserved
loop-i-preserved c =
    let lt : c.loop-i.i < length c.args.texts.now = search rules in
    let same = text-at c.args.texts.now c.loop-i.i c.get.result.now lt c.get.ensures.value in
    flat_map_more (text_bytes w16) c.args.texts.now c.loop-i.i [] c.args.out.now.items c.loop-i.out.items
    c.put_short.new.out.items lt c.loop-i.invariant
    (c.in_ok-put_short.ensures ∙ ap (λ (t : List ℕ). c.loop-i.out.items ++ text_bytes w16 t) (sym same))
