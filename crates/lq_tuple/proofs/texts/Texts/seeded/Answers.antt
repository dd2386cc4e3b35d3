use Rattle.lq_tuple.proofs.Packing.{held_none}
use Rattle.lq_tuple.proofs.texts.Texts.seeded.Goals as goal

pub returns : goal.returns
returns c =
    held_none (record { short = c.with_hasher.result; long = c.with_hasher-2.result }) c.with_hasher.ensures.empty
    c.with_hasher-2.ensures.empty
