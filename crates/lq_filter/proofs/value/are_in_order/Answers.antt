use Rattle.std.proofs.Common.{◌+◌, false, drop}
use Rattle.lq_ast.specs.Phrases.{in_order}
use Rattle.lq_filter.proofs.Order.{over_one_more}
use Rattle.lq_filter.proofs.value.are_in_order.Goals as goal

pub returns-in_default : goal.returns-in_default
returns-in_default c =
    over_one_more c.args.value.now c.args.phrases.now c.phrase-item.result c.loop-phrase.from
    c.loop-phrase.phrase-index false
    c.loop-phrase-test.true c.phrase-item.is c.loop-phrase.invariant.1
    (c.in_default.ensures.others (drop (c.loop-phrase.phrase-index + 1) c.args.phrases.now))

pub loop-phrase-preserved : goal.loop-phrase-preserved
loop-phrase-preserved c =
    let more = drop (c.loop-phrase.phrase-index + 1) c.args.phrases.now in (
      c.in-Some.ensures.found,
      over_one_more c.args.value.now c.args.phrases.now c.phrase-item.result c.loop-phrase.from
          c.loop-phrase.phrase-index
          (in_order c.args.value.now c.in-Some.end more) c.loop-phrase-test.true c.phrase-item.is
          c.loop-phrase.invariant.1
          (c.in-Some.ensures.others more),
    )
