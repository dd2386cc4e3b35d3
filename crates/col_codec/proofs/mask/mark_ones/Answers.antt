use Rattle.std.proofs.Common.{◌∙◌, ℕ, ap, arith, false, map, replicate, sym}
use Rattle.col_codec.specs.Between.{is_number_between}
use Rattle.col_codec.proofs.MaskLaws.{capped, no-marks, same-marks, too-low}
use Rattle.col_codec.proofs.mask.mark_ones.Goals as goal

pub returns-then-low-gt255 : goal.returns-then-low-gt255
returns-then-low-gt255 c =
    c.clear.ensures ∙ ap (λ (n : ℕ). replicate n false) c.requires
    ∙ sym (no-marks (is_number_between c.args.low c.args.high) c.args.numbers.now
    (λ k lt. too-low c.args.low c.args.high _ (omega (arith, c.type_inv.numbers k, c.if-low-gt255.true))))

pub returns : goal.returns
returns c =
    c.mark_u8s.ensures
    ∙ ap (λ (n : ℕ). map (is_number_between c.args.low n) c.args.numbers.now) c.min.ensures
    ∙ same-marks _ (is_number_between c.args.low c.args.high) c.args.numbers.now
    (λ k lt. capped c.args.low c.args.high 255 _ (omega (arith, c.type_inv.numbers k)))
