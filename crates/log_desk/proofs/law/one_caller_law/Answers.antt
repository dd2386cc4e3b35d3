use Rattle.std.proofs.Common.{◌++◌, ap, ◌∙◌}
use Rattle.std.proofs.lemmas.List.{append-nil}
use Rattle.log_desk.proofs.SeenLaws.{none_beside_one, none_own}
use Rattle.log_desk.proofs.law.one_caller_law.Goals as goal

pub returns-clause-follows_alone : goal.returns-clause-follows_alone
returns-clause-follows_alone c = λ caller old new one number follows.
    follows.longer ∙ ap (λ others. old.history ++ others)
    (none_beside_one caller follows.others one number follows.strange) ∙ append-nil old.history

pub returns-clause-gains_alone : goal.returns-clause-gains_alone
returns-clause-gains_alone c = λ caller old new batch one number gains.
    none_beside_one caller gains.others one number gains.strange

pub returns-clause-follows_none_own : goal.returns-clause-follows_none_own
returns-clause-follows_none_own c = λ caller old new follows. none_own caller follows.others follows.strange

pub returns-clause-gains_none_own : goal.returns-clause-gains_none_own
returns-clause-gains_none_own c = λ caller old new batch gains. none_own caller gains.others gains.strange
