use Rattle.lq_parse_filter.proofs.Times.{duration_read}
use Rattle.lq_parse_filter.proofs.time.duration.Goals as goal

pub returns : goal.returns
returns c =
    duration_read c.args.text.now c.read_duration.result c.read_duration.ensures.ok
    c.read_duration.ensures.not_a_duration
    c.read_duration.ensures.out_of_range
