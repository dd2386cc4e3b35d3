use Rattle.std.proofs.Common.{◌≡◌, ◌∙◌, FitsSigned, ap, eq-eqb, rules, sym, w64}
use Rattle.std.proofs.lemmas.Bool.{eqb-true}
use Rattle.std.proofs.lemmas.Int.{to_z-of_z}
use Rattle.day_model.specs.Days.{day_of_moment}
use Rattle.block_body.specs.Outline.{Outline}
use Rattle.block_body.specs.Outlines.{first_moment, last_moment}
use Rattle.part_files.proofs.DayLaws.{day-span, span-day}
use Rattle.part_files.proofs.day.has_day.Goals as goal

pub returns-then-day_of-day : goal.returns-then-day_of-day
returns-then-day_of-day c =
    let rows = c.args.block.now in
    let outline = c.head-head.result.now in
    let is = c.head-head.ensures.outline in
    let span = c.head-head.ensures.times in
    let small : FitsSigned w64 c.min.result = search rules in
    let large : FitsSigned w64 c.max.result = search rules in
    let least : c.day_of.result ≡ day_of_moment (first_moment rows) =
    c.day_of.ensures (first_moment rows) (to_z-of_z w64 c.min.result small ∙ c.min.ensures ∙ ap (λ (o : Outline). o.min) is) in
    let greatest : c.day_of-then-day_of-day.result ≡ day_of_moment (last_moment rows) =
    c.day_of-then-day_of-day.ensures (last_moment rows) (to_z-of_z w64 c.max.result large ∙ c.max.ensures ∙ ap (λ (o : Outline). o.max) is) in (
      λ t. span-day rows outline is span c.args.day (sym least ∙ c.if-day_of-day.true)
          (sym greatest ∙ eqb-true c.day_of-then-day_of-day.result c.args.day t),
      λ h. eq-eqb c.day_of-then-day_of-day.result c.args.day (greatest ∙ (day-span rows outline is span c.args.day h).1),
    )
