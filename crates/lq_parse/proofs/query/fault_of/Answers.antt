use Rattle.std.proofs.Common.{Err}
use Rattle.grammar.specs.Spelling.{too_deep, refused}
use Rattle.grammar.specs.Reading.{flawed}
use Rattle.lq_grammar.specs.Values.{bad_number, bad_time, bad_duration, bad_pattern}
use Rattle.lq_grammar.specs.declared.fault.Stop.TheVariants.{Stuck, TooDeep, BadNumber, BadTime, BadDuration}
use Rattle.lq_grammar.specs.declared.fault.Stop.TheVariants.{BadPattern}
use Rattle.lq_parse.proofs.Stops.{outcome_when, few_left, syntax_at, fails_so}
use Rattle.lq_parse.proofs.query.fault_of.Goals as goal

pub place_of_left-requires : goal.place_of_left-requires
place_of_left-requires c =
    few_left c.args.tokens.now c.in-Stuck.left
    (fails_so c.args.tokens.now c.args.stop (Stuck c.in-Stuck.left) c.in-Stuck.is c.requires.stops)

pub returns-in-Stuck : goal.returns-in-Stuck
returns-in-Stuck c =
    syntax_at c.args.text.now c.args.tokens.now c.requires.text c.in-Stuck.left c.place_of_left.result
    (fails_so c.args.tokens.now c.args.stop (Stuck c.in-Stuck.left) c.in-Stuck.is c.requires.stops)
    c.place_of_left.ensures

pub returns-in-TooDeep : goal.returns-in-TooDeep
returns-in-TooDeep c =
    outcome_when c.args.text.now c.args.tokens.now c.requires.text (Err (flawed too_deep c.in-TooDeep.at))
    (fails_so c.args.tokens.now c.args.stop (TooDeep c.in-TooDeep.at) c.in-TooDeep.is c.requires.stops)

pub returns-in-BadNumber : goal.returns-in-BadNumber
returns-in-BadNumber c =
    outcome_when c.args.text.now c.args.tokens.now c.requires.text (Err (flawed (refused bad_number) c.in-BadNumber.at))
    (fails_so c.args.tokens.now c.args.stop (BadNumber c.in-BadNumber.at) c.in-BadNumber.is c.requires.stops)

pub returns-in-BadTime : goal.returns-in-BadTime
returns-in-BadTime c =
    outcome_when c.args.text.now c.args.tokens.now c.requires.text (Err (flawed (refused bad_time) c.in-BadTime.at))
    (fails_so c.args.tokens.now c.args.stop (BadTime c.in-BadTime.at) c.in-BadTime.is c.requires.stops)

pub returns-in-BadDuration : goal.returns-in-BadDuration
returns-in-BadDuration c =
    outcome_when c.args.text.now c.args.tokens.now c.requires.text
    (Err (flawed (refused bad_duration) c.in-BadDuration.at))
    (fails_so c.args.tokens.now c.args.stop (BadDuration c.in-BadDuration.at) c.in-BadDuration.is c.requires.stops)

pub returns-in-BadPattern : goal.returns-in-BadPattern
returns-in-BadPattern c =
    outcome_when c.args.text.now c.args.tokens.now c.requires.text
    (Err (flawed (refused bad_pattern) c.in-BadPattern.at))
    (fails_so c.args.tokens.now c.args.stop (BadPattern c.in-BadPattern.at) c.in-BadPattern.is c.requires.stops)
