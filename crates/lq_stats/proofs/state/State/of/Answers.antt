use Rattle.lq_stats.proofs.Taking.{none_greatest, none_least, none_sum, none_words}
use Rattle.lq_stats.proofs.state.State.of.Goals as goal

pub returns-in-Sum-clause-none : goal.returns-in-Sum-clause-none
returns-in-Sum-clause-none c = none_sum

pub returns-in-Min-clause-none : goal.returns-in-Min-clause-none
returns-in-Min-clause-none c = none_least c.new.result c.new.ensures

pub returns-in-Max-clause-none : goal.returns-in-Max-clause-none
returns-in-Max-clause-none c = none_greatest c.new-in-Max.result c.new-in-Max.ensures

pub returns-in-UniqValues-clause-none : goal.returns-in-UniqValues-clause-none
returns-in-UniqValues-clause-none c = none_words c.new-in-UniqValues.result c.new-in-UniqValues.ensures
