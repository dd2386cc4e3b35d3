use Rattle.jsonline_in.specs.Reading.{number_end}
use Rattle.jsonline_in.proofs.Good.{reads_of}
use Rattle.jsonline_in.proofs.Numbers.{IsNumberEnd, good_number_end}
use Rattle.jsonline_in_plain.proofs.bare.bare.Goals as goal

pub prefix-requires : goal.prefix-requires
prefix-requires c = let r = reads_of IsNumberEnd number_end good_number_end c.args.text.now tt c.in_ok-rest.rest.now
    c.in_ok-rest.ensures in (r.text, r.parts)
