use Rattle.std.proofs.Common.{◌≡◌, ◌∙◌, ◌≤ℤ◌, ◌<ℤ◌, ℕ, FitsSigned, List, ap, arith, false, map, replicate, sym, w64}
use Rattle.std.proofs.lemmas.Int.{ints, to_z-of_z}
use Rattle.col_codec.specs.Between.{above, is_number_between}
use Rattle.col_codec.specs.Lanes.{numbers_in}
use Rattle.col_codec.proofs.MaskLaws.{moved, none-between}
use Rattle.col_codec.proofs.mask.mark_ints.Goals as goal

pub returns-then-high-least : goal.returns-then-high-least
returns-then-high-least c =
    let h : FitsSigned w64 c.args.high = c.ranges.high in
    let l : FitsSigned w64 c.args.least = c.ranges.least in
    let below : c.args.high <ℤ c.args.least = omega (arith, ints, (simp to_z-of_z at c.if-high-least.true)) in
    c.clear.ensures ∙ ap (λ (n : ℕ). replicate n false) c.requires
    ∙ sym (none-between c.args.low c.args.high c.args.least (numbers_in c.args.lanes.now) below)

pub returns : goal.returns
returns c =
    let h : FitsSigned w64 c.args.high = c.ranges.high in
    let l : FitsSigned w64 c.args.least = c.ranges.least in
    let w : FitsSigned w64 c.args.low = c.ranges.low in
    let first : c.above.result ≡ above c.args.least c.args.low = simp to_z-of_z at c.above.ensures in
    let last : c.above-2.result ≡ above c.args.least c.args.high = simp to_z-of_z at c.above-2.ensures in
    let numbers : List ℕ = numbers_in c.args.lanes.now in
    let le : c.args.least ≤ℤ c.args.high = omega (arith, ints, (simp to_z-of_z at c.if-high-least.false)) in
    c.mark_numbers.ensures
    ∙ ap (λ (n : ℕ). map (is_number_between n c.above-2.result) numbers) first
    ∙ ap (λ (n : ℕ). map (is_number_between (above c.args.least c.args.low) n) numbers) last
    ∙ sym (moved c.args.low c.args.high c.args.least numbers le)
