use Rattle.std.proofs.Common.{◌∙◌, ap, subst, sym}
use Rattle.part_model.specs.Filling.{rows_in_blocks}
use Rattle.part_model.specs.Part.{IsPart}
use Rattle.day_parts.proofs.RunLaws.{rows-beside, some-rows}
use Rattle.day_parts.proofs.splitting.run_part.Goals as goal

pub part_of-requires : goal.part_of-requires
part_of-requires c =
    subst IsPart (sym (ap rows_in_blocks (c.as_slice.ensures.value ∙ c.in_ok-rows.ensures) ∙ rows-beside
    c.args.picks.now)) (c.requires.part (some-rows c.args.picks.now c.index-picks-0.result c.requires.some
    c.len-some.ensures.some))

pub returns : goal.returns
returns c =
    c.in_ok-part.ensures ∙ ap rows_in_blocks (c.as_slice.ensures.value ∙ c.in_ok-rows.ensures)
    ∙ rows-beside c.args.picks.now
