use Rattle.word_filter.specs.Words.{is_there}
use Rattle.word_filter.proofs.There.{passes-one}
use Rattle.word_filter.proofs.is_new.Goals as goal

pub returns-in-Some-clause-had : goal.returns-in-Some-clause-had
returns-in-Some-clause-had c words all none =
    passes-one (is_there words) c.args.word.now c.in-Some.slots (rw c.in-Some.is at all) (c.insert.ensures.had none)

pub returns-in-Some-clause-kept : goal.returns-in-Some-clause-kept
returns-in-Some-clause-kept c words all one =
    c.insert.ensures.kept (is_there words) (rw c.in-Some.is at all) one
