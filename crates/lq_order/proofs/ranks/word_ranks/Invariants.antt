use Rattle.std.proofs.Common.{map}
use Rattle.lq_order.specs.Ranks.{keyed_of}
use Rattle.lq_order.proofs.Ranking.{AreRanked}
use Rattle.lq_order.proofs.ranks.word_ranks.Given as goal

abbrev pub invariant-loop-i : goal.invariant-loop-i
invariant-loop-i l = AreRanked (map keyed_of l.one-items) l.ranks.items l.i l.rank
