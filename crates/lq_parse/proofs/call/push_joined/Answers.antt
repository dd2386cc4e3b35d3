use Rattle.std.proofs.Common.{◌∙◌}
use Rattle.lq_parse.proofs.Joined.{one_text, whole_text}
use Rattle.lq_parse.proofs.call.push_joined.Goals as goal

pub loop-name-preserved : goal.loop-name-preserved
loop-name-preserved c =
    one_text _ c.loop-name.name-index _ _ c.loop-name.text c.push_str-in-loop-name.new.self
    c.push_str-in-loop-name-2.new.self c.as_str-in-loop-name.result.now c.loop-name-test.true c.loop-name.invariant
    c.in_ok-push_str-2.ensures.ok c.in_ok-push_str-3.ensures.ok
    (c.as_str-in-loop-name.ensures.value ∙ c.name-item.is)

pub returns : goal.returns
returns c =
    whole_text c.args.names.now c.loop-name.name-index _ c.loop-name.text c.args.text.now c.push_str.new.self
    c.as_str.result.now c.in-len1-up.len_at_least c.loop-name-test.false c.loop-name.invariant
    c.in_ok-push_str.ensures.ok (c.as_str.ensures.value ∙ c.first-item.is)
