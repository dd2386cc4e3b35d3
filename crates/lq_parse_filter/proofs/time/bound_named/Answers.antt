use Rattle.std.proofs.Common.{ap, ◌∙◌}
use Rattle.std.specs.Option.{option_map}
use Rattle.lq_parse_filter.specs.Ends.{ends_of}
use Rattle.lq_parse_filter.proofs.Times.{bound_read}
use Rattle.lq_parse_filter.proofs.time.bound_named.Goals as goal

pub returns : goal.returns
returns c =
    ap (option_map ends_of) c.ok.ensures.value
    ∙ bound_read c.args.text.now c.read_bound.result c.read_bound.ensures.ok c.read_bound.ensures.not_a_time
    c.read_bound.ensures.out_of_range
