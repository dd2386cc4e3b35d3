use Rattle.std.specs.Option.{option_copied}
use Rattle.lq_parse_filter.proofs.Plain.{plain_read}
use Rattle.lq_parse_filter.proofs.leaves.word_led.Goals as goal

pub returns-in-Some : goal.returns-in-Some
returns-in-Some c depth =
    rw (plain_read depth c.args.tokens.now c.in-Some.rest.now c.in-Some.word.now (option_copied c.args.field)
    c.in-Some.ensures) (c.bare_end.ensures depth)
