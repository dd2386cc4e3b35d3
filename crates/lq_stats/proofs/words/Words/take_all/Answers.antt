use Rattle.std.proofs.Common.{arith}
use Rattle.lq_stats.proofs.Wording.{behind_begins, behind_ends, behind_more}
use Rattle.lq_stats.proofs.words.Words.take_all.Goals as goal

pub loop-word-init : goal.loop-word-init
loop-word-init c = λ texts h. behind_begins c.args.self.now texts c.args.words.items h

pub loop-word-preserved : goal.loop-word-preserved
loop-word-preserved c = λ texts h.
    behind_more c.loop-word.self c.take.new.self texts c.args.words.items c.loop-word.words.items c.pop.new.self.items
    c.in-Some.word c.in-Some.ensures.items c.in_ok-take.ensures (c.loop-word.invariant texts h)

pub returns : goal.returns
returns c = λ texts h.
    behind_ends c.loop-word.self texts c.args.words.items c.loop-word.words.items
    (omega (arith, c.in_default.ensures.cases.0, c.loop-word.words.ok.0)) (c.loop-word.invariant texts h)
