use Rattle.std.proofs.Common.{◌≡◌, ◌-◌, ◌∙◌, ℕ, ℤ, pos, ap, arith, get_or, length, of_z, to_z, w64}
use Rattle.std.proofs.lemmas.Int.{to_z-of_z}
use Rattle.block_reading.specs.ByColumns.{no_key}
use Rattle.block_body.specs.Outlines.{outline_with}
use Rattle.block_body.proofs.OutlineLaws.{extent_with}
use Rattle.block_reading.proofs.ByColumnsLaws.{fit-time}
use Rattle.block_reading.proofs.by_columns.head_of.Goals as goal

pub returns : goal.returns
returns c =
    let rows : ℕ = length c.args.keys.now in
    let first : ℤ = (get_or c.args.keys.now 0 no_key).time in
    let last : ℤ = (get_or c.args.keys.now (length c.args.keys.now - 1) no_key).time in
    let fit_first = fit-time c.args.keys.now 0 no_key c.requires.some c.requires.keys.each in
    let fit_last = fit-time c.args.keys.now (length c.args.keys.now - 1) no_key (omega (arith, c.requires.some))
    c.requires.keys.each in
    c.in_ok-head.ensures
    ∙ ap (λ (t : ℤ). outline_with c.args.stream (extent_with t (to_z w64 (of_z w64 last)) rows c.args.weight)
    c.args.heads.items) (to_z-of_z w64 first fit_first)
    ∙ ap (λ (t : ℤ). outline_with c.args.stream (extent_with first t rows c.args.weight) c.args.heads.items)
    (to_z-of_z w64 last fit_last)
