use Rattle.std.proofs.Common.{sym, ◌∙◌}
use Rattle.std.specs.Str.{str_to_ascii_lowercase}
use Rattle.lq_grammar.proofs.Keywords.{found, passed, over, tested}
use Rattle.lq_grammar.proofs.classify.role_in.Goals as goal

pub returns-then-eq_ignore_ascii_case : goal.returns-then-eq_ignore_ascii_case
returns-then-eq_ignore_ascii_case c =
    found c.args.entries.now c.loop-word.word-index _ (str_to_ascii_lowercase c.args.span.now) _ c.loop-word-test.true
    (tested _ _ _ c.eq_ignore_ascii_case.ensures.test ∙ c.if-eq_ignore_ascii_case.true) c.loop-word.invariant

pub loop-word-preserved : goal.loop-word-preserved
loop-word-preserved c =
    passed c.args.entries.now c.loop-word.word-index _ (str_to_ascii_lowercase c.args.span.now) _
    c.loop-word-test.true (tested _ _ _ c.eq_ignore_ascii_case.ensures.test ∙ c.if-eq_ignore_ascii_case.false)
    c.loop-word.invariant

pub returns : goal.returns
returns c =
    sym (over c.args.entries.now c.loop-word.word-index (str_to_ascii_lowercase c.args.span.now) c.loop-word-test.false)
    ∙ c.loop-word.invariant
