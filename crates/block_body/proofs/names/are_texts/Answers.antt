use Rattle.std.proofs.Common.{◌≡◌, ◌∙◌, ◌<◌, length, true, rules, sym}
use Rattle.std.proofs.lemmas.Slice.Eq.{bytes_eq-Decides}
use Rattle.block_body.proofs.NamedLaws.{text-more}
use Rattle.block_body.proofs.names.are_texts.Goals as goal

pub loop-i-preserved : goal.loop-i-preserved
loop-i-preserved c =
    let lt : c.loop-i.i < length c.args.names.now = search rules in
    let also : c.loop-i.i < length c.args.texts.now = search rules in
    let yes : c.is_text.result ≡ true = search rules in
    text-more c.args.names.now c.args.texts.now c.loop-i.i c.index-names-i.result _ lt also c.index-names-i.is
    c.loop-i.invariant ((bytes_eq-Decides _ _).0 (sym c.is_text.ensures ∙ yes))
