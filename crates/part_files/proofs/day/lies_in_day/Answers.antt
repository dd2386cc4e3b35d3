use Rattle.std.proofs.Common.{◌≡◌, ◌∙◌, arith, refl, subst, sym}
use Rattle.std.specs.List.{All}
use Rattle.std.specs.Prelude.{false, true}
use Rattle.std.proofs.lemmas.List.{take_all}
use Rattle.std.proofs.lemmas.List.Elements.{All-more}
use Rattle.day_model.specs.Days.{LieInDay}
use Rattle.part_files.proofs.DayLaws.{all-lie, one-lies}
use Rattle.part_files.proofs.day.lies_in_day.Goals as goal

pub returns-then-not-has_day : goal.returns-then-not-has_day
returns-then-not-has_day c = (
  λ t. absurd (let e : false ≡ true = t in cc),
  λ h. absurd (let blocks = c.blocks-block-items.result.now in
      let here = one-lies c.args.day blocks c.args.part.now c.blocks-block-items.ensures.rows c.loop-block.block-index
      c.block-item.result c.loop-block-test.true h in
      let is = c.block-item.is in
      let e : true ≡ false = sym (c.has_day.ensures.1 (subst (LieInDay c.args.day) (sym is) here))
      ∙ c.if-not-has_day.true in cc),
)

pub loop-block-preserved : goal.loop-block-preserved
loop-block-preserved c =
    let blocks = c.blocks-block-items.result.now in
    let is = c.block-item.is in
    All-more (LieInDay c.args.day) blocks c.loop-block.block-index c.block-item.result c.loop-block-test.true
    c.loop-block.invariant (subst (LieInDay c.args.day) is (c.has_day.ensures.0 c.if-not-has_day.false))

pub returns : goal.returns
returns c =
    let blocks = c.blocks-block-items.result.now in
    let all : All (LieInDay c.args.day) blocks =
    subst (All (LieInDay c.args.day)) (take_all c.loop-block.block-index blocks (omega (arith, c.loop-block-test.false)))
    c.loop-block.invariant in
    (λ t. all-lie c.args.day blocks c.args.part.now c.blocks-block-items.ensures.rows all, λ h. refl)
