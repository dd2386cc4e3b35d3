use Rattle.std.proofs.Common.{◌-◌, List, arith, drop, length, subst, sym, take}
use Rattle.std.proofs.lemmas.List.{length-drop, take_rest}
use Rattle.log_model.specs.History.{Numbered}
use Rattle.block_format.specs.Rows.{IsBlock}
use Rattle.part_model.specs.Ends.{EndsBlock}
use Rattle.part_model.proofs.FillLaws.{FillUpTo, fill-start, first-block}
use Rattle.part_file.proofs.HoldLaws.{fill-end, fill-next}
use Rattle.part_file.proofs.filled.filled.Goals as goal

pub loop-start-init : goal.loop-start-init
loop-start-init c = record {
  there = omega arith;
  filled = subst (λ (b : List (List Numbered)). FillUpTo b c.args.rows.now c.args.rows.now) (sym c.new-blocks.ensures.items)
      (fill-start c.args.rows.now);
  ordered = record { ordered = c.requires.ordered; apart = c.requires.rules.apart };
}

pub of_lent-requires : goal.of_lent-requires
of_lent-requires c =
    subst (λ (l : List Numbered). IsBlock (take c.in_ok-end.end l)) (sym (take_rest c.args.rows.now c.loop-start.start))
    (first-block (drop c.loop-start.start c.args.rows.now) c.in_ok-end.end c.loop-start.invariant.ordered (subst (λ (l
    : List Numbered). EndsBlock l c.in_ok-end.end) (take_rest c.args.rows.now c.loop-start.start) c.in_ok-end.ensures))

pub loop-start-preserved : goal.loop-start-preserved
loop-start-preserved c =
    let h = fill-next c.loop-start.blocks.items c.push.new.self.items c.in_ok-block.block (take (length c.args.rows.now
    - c.loop-start.start) (drop c.loop-start.start c.args.rows.now)) c.args.rows.now c.loop-start.start c.in_ok-end.end
    c.loop-start.invariant.there c.loop-start.invariant.ordered (take_rest c.args.rows.now c.loop-start.start)
    c.in_ok-end.ensures c.in_ok-block.ensures.rows c.in_ok-push.ensures.items c.loop-start.invariant.filled in
    record { there = h.there; filled = h.filled; ordered = h.ordered }

pub returns : goal.returns
returns c =
    fill-end c.loop-start.blocks.items c.args.rows.now c.loop-start.start c.loop-start-test.false
    c.loop-start.invariant.filled

pub block_end-requires : goal.block_end-requires
block_end-requires c = omega (arith, length-drop c.loop-start.start c.args.rows.now, c.loop-start-test.true)

pub overflow_add-start : goal.overflow_add-start
overflow_add-start c =
    omega (
      arith,
      c.in_ok-end.ensures.there,
      length-drop c.loop-start.start c.args.rows.now,
      c.loop-start.invariant.there,
    )

pub loop-start-smaller : goal.loop-start-smaller
loop-start-smaller c =
    omega (
      arith,
      c.in_ok-end.ensures.some,
      c.in_ok-end.ensures.there,
      length-drop c.loop-start.start c.args.rows.now,
      c.loop-start-test.true,
    )
