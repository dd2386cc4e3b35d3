use Rattle.std.proofs.Common.{◌+◌, ◌-◌, ◌<◌, ◌∙◌, List, ap, arith, sym, take}
use Rattle.std.proofs.lemmas.List.{take_all}
use Rattle.log_model.specs.History.{Numbered}
use Rattle.part_merge.specs.Before.{are_before}
use Rattle.part_merge.proofs.BeforeLaws.{equal-is, key-before, not-equal, stream-before}
use Rattle.part_merge.proofs.earlier.earlier_rows.Goals as goal

pub returns-then-is_ne-clause-before : goal.returns-then-is_ne-clause-before
returns-then-is_ne-clause-before c =
    ap (λ (l : List Numbered). are_before l (take 1 c.args.other.now)) (take_all (c.len-last.result - 1 + 1)
    c.args.pick.now (omega (arith, c.len-last.ensures.count)))
    ∙ stream-before c.args.pick.now c.args.other.now c.stream_cmp.result c.rules.ensures.stream c.stream_cmp.ensures
    (not-equal c.stream_cmp.result (sym c.is_ne.ensures ∙ c.if-is_ne.true)) c.requires

pub returns-then-is_key_earlier-clause-before : goal.returns-then-is_key_earlier-clause-before
returns-then-is_key_earlier-clause-before c =
    key-before c.args.pick.now c.args.other.now (c.len-last.result - 1) c.stream_cmp.result c.first_key-key.result
    c.is_key_earlier.result c.rules.ensures.stream c.rules.ensures.ordered (omega (
      arith,
      c.len-last.ensures.count,
      c.len-last.ensures.some,
    )) c.stream_cmp.ensures (equal-is c.stream_cmp.result (sym c.is_ne.ensures
    ∙ c.if-is_ne.false)) c.first_key-key.ensures.key c.is_key_earlier.ensures c.if-is_key_earlier.true

pub loop-low-preserved-then-is_key_earlier-2 : goal.loop-low-preserved-then-is_key_earlier-2
loop-low-preserved-then-is_key_earlier-2 c =
    let middle = c.loop-low.low + c.min.result in
    let lt : middle < c.loop-low.high = omega (arith, c.min.ensures, c.loop-low-test.true) in
    record {
      some = omega arith;
      there = omega (arith, lt, c.loop-low.invariant.within);
      within = c.loop-low.invariant.within;
      before = key-before c.args.pick.now c.args.other.now middle c.stream_cmp.result c.first_key-key.result
          c.is_key_earlier-in-loop-low.result c.rules.ensures.stream c.rules.ensures.ordered (omega (
            arith,
            lt,
            c.loop-low.invariant.within,
          )) c.stream_cmp.ensures (equal-is c.stream_cmp.result (sym c.is_ne.ensures
          ∙ c.if-is_ne.false)) c.first_key-key.ensures.key c.is_key_earlier-in-loop-low.ensures c.if-is_key_earlier-2.true;
    }
