use Rattle.std.proofs.Common.{◌∙◌, arith, length, sym}
use Rattle.std.proofs.lemmas.Slice.Eq.{bytes_eq-Decides}
use Rattle.block_model.proofs.TagLaws.{is-less, same-short}
use Rattle.block_model.proofs.recent.are_same.Goals as goal

pub returns-then-text-lt8 : goal.returns-then-text-lt8
returns-then-text-lt8 c =
    is-less (length c.args.text.now) 8 c.if-text-lt8.true ∙ sym ((bytes_eq-Decides c.args.held.now c.args.text.now).1
    (same-short c.args.held.now c.args.text.now c.requires.held c.requires.text c.if-held-text.true (omega arith) c.requires.tag))
