use Rattle.jsonline_in.specs.Reading.{deep, stuck}
use Rattle.jsonline_in.proofs.Objects.{line_opens, nothing_said, line_deep, left_within, line_stuck, not_deep}
use Rattle.jsonline_in_plain.proofs.line.line_fault.Goals as goal

pub returns-in-TooDeep-clause-refused : goal.returns-in-TooDeep-clause-refused
returns-in-TooDeep-clause-refused c =
    let stops = rw c.in-TooDeep.is at c.requires.fails in
    nothing_said c.args.line.now c.requires.inside c.requires.opens.brace deep stops

pub returns-in-TooDeep-clause-fault : goal.returns-in-TooDeep-clause-fault
returns-in-TooDeep-clause-fault c =
    let line = c.args.line.now in
    let inside = c.requires.inside in
    let opens = c.requires.opens in
    let stops = rw c.in-TooDeep.is at c.requires.fails in
    (opens.utf8, line_opens line inside opens.brace, line_deep line inside opens.brace stops)

pub overflow_sub-at : goal.overflow_sub-at
overflow_sub-at c =
    let stops = rw c.in-Stuck.is at c.requires.fails in
    left_within c.args.line.now c.requires.inside c.requires.opens.brace c.in-Stuck.left stops

pub returns-in-Stuck-clause-refused : goal.returns-in-Stuck-clause-refused
returns-in-Stuck-clause-refused c =
    let stops = rw c.in-Stuck.is at c.requires.fails in
    nothing_said c.args.line.now c.requires.inside c.requires.opens.brace (stuck c.in-Stuck.left) stops

pub returns-in-Stuck-clause-fault : goal.returns-in-Stuck-clause-fault
returns-in-Stuck-clause-fault c =
    let line = c.args.line.now in
    let inside = c.requires.inside in
    let opens = c.requires.opens in
    let left = c.in-Stuck.left in
    let stops = rw c.in-Stuck.is at c.requires.fails in (
      opens.utf8,
      line_opens line inside opens.brace,
      not_deep line inside opens.brace left stops,
      line_stuck line
          inside opens.brace left stops,
    )
