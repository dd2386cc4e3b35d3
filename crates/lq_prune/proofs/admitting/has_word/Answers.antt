use Rattle.std.proofs.Common.{◌∙◌, [], arith, refl, sym}
use Rattle.std.proofs.lemmas.List.Folds.{list_any_at, list_any_more}
use Rattle.block_body.specs.Outline.{NamedFilter}
use Rattle.lq_prune.specs.Need.{may_have_word}
use Rattle.lq_prune.proofs.admitting.has_word.Goals as goal

abbrev none : NamedFilter
none = ([], [])

pub returns-then-may_have_word : goal.returns-then-may_have_word
returns-then-may_have_word c =
    sym (list_any_at (may_have_word c.args.name.now c.args.word.now) c.args.head.now.columns c.loop-c.c none
    (omega (arith, c.columns-c-end.ensures)) (sym (c.may_have_word.ensures none) ∙ c.if-may_have_word.true))

pub loop-c-preserved : goal.loop-c-preserved
loop-c-preserved c =
    rw (
      list_any_more (may_have_word c.args.name.now c.args.word.now) c.args.head.now.columns c.loop-c.c none
          (omega (arith, c.columns-c-end.ensures)),
      c.loop-c.invariant,
      sym (c.may_have_word.ensures none)
          ∙ c.if-may_have_word.false,
    ) refl
