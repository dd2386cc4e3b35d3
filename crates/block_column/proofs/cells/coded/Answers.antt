use Rattle.std.proofs.Common.{◌∙◌, [], get_or, sym}
use Rattle.std.proofs.lemmas.Option.{slice_get-get_or}
use Rattle.block_model.proofs.Distinct.{coded-is}
use Rattle.block_column.proofs.cells.coded.Goals as goal

pub returns : goal.returns
returns c =
    let code = get_or c.args.codes.now c.args.i 0 in
    let coded = coded-is c.args.texts.now c.args.codes.now c.args.i c.requires.within c.requires.codes in
    coded.0 ∙ sym (slice_get-get_or c.args.texts.now code [] coded.1) ∙ c.get.ensures.value
