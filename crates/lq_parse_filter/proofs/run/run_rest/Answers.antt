use Rattle.lq_parse_filter.proofs.Parts.{part_more, part_shorter, run_whole}
use Rattle.lq_parse_filter.proofs.run.run_rest.Goals as goal

pub parts-smaller : goal.parts-smaller
parts-smaller c = part_shorter 0 c.parts.rest.now c.in-Some.behind.now c.in-Some.part.now c.in-Some.ensures

pub parts-preserved : goal.parts-preserved
parts-preserved c depth =
    part_more depth c.parts.run _ c.parts.rest.now c.in-Some.behind.now c.in-Some.part.now _ c.in-Some.ensures
    c.in_ok-push_str.ensures.ok (c.parts.invariant depth)

pub returns : goal.returns
returns c depth =
    run_whole depth c.args.bare.now c.parts.run c.args.tokens.now c.parts.rest.now c.in_default.ensures
    (c.parts.invariant depth)
