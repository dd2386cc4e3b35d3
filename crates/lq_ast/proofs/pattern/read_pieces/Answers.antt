use Rattle.std.proofs.Common.{◌∙◌, arith, map, rules, sym}
use Rattle.lq_ast.specs.MakingView.{pattern_piece}
use Rattle.lq_ast.proofs.PatternReading.{parts, read_last, read_name, read_open, uncut}
use Rattle.lq_ast.proofs.pattern.read_pieces.Goals as goal

pub names-preserved : goal.names-preserved
names-preserved c =
    let text = parts 60 c.names.rest.now c.split_once.result (c.in-Some.text, c.in-Some.behind)
    c.split_once.ensures.cases (omega arith) c.in-Some.is in
    let name = parts 62 c.in-Some.behind.now c.split_once-in-Some.result
    (c.in-Some-split_once.name, c.in-Some-split_once.after)
    c.split_once-in-Some.ensures.cases (omega arith) c.in-Some-split_once.is in (
      search rules,
      read_name (map pattern_piece c.names.pieces.items) _ _ c.names.rest.now c.in-Some.text.now c.in-Some.behind.now
          c.in-Some-split_once.name.now c.in-Some-split_once.after.now text.0 text.1 name.0 name.1
          c.in_ok-push_plain.ensures c.in_ok-push_name.ensures ∙ c.names.invariant.1,
    )

pub returns-in_default-split_once-clause-bad : goal.returns-in_default-split_once-clause-bad
returns-in_default-split_once-clause-bad c bad =
    let text = parts 60 c.names.rest.now c.split_once.result (c.in-Some.text, c.in-Some.behind)
    c.split_once.ensures.cases (omega arith) c.in-Some.is in
    let unclosed = uncut 62 c.in-Some.behind.now c.split_once-in-Some.result
    c.split_once-in-Some.ensures.cases (omega arith) c.in_default-split_once.is in
    sym c.names.invariant.1
    ∙ read_open (map pattern_piece c.names.pieces.items) c.names.rest.now c.in-Some.text.now c.in-Some.behind.now
    text.0 text.1 unclosed

pub returns-clause-ok : goal.returns-clause-ok
returns-clause-ok c =
    let plain = uncut 60 c.names.rest.now c.split_once.result
    c.split_once.ensures.cases (omega arith) c.in_default.is in
    sym c.names.invariant.1
    ∙ read_last (map pattern_piece c.names.pieces.items) _ c.names.rest.now plain c.in_ok-push_plain-2.ensures
