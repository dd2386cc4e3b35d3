use Rattle.word_tokens.proofs.Rest.{rest_of}
use Rattle.lq_plain.proofs.extract.starts_at.Goals as goal

pub returns : goal.returns
returns c =
    rw (c.as_bytes.ensures.value, c.as_bytes-2.ensures.value, rest_of c.args.value.now c.args.text.now c.args.place c.requires.within) at c.starts_with.ensures.value
