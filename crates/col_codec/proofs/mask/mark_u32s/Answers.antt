use Rattle.std.proofs.Common.{refl}
use Rattle.col_codec.specs.Between.{is_number_between}
use Rattle.col_codec.proofs.MaskLaws.{marked-more}
use Rattle.col_codec.proofs.mask.mark_u32s.Goals as goal

pub loop-i-preserved : goal.loop-i-preserved
loop-i-preserved c =
    marked-more (is_number_between c.args.low c.args.high) c.args.numbers.now c.args.marks.now c.loop-i.marks
    c.loop-i.i _ c.loop-i-test.true c.requires c.loop-i.invariant refl
