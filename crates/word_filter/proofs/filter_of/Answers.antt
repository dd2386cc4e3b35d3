use Rattle.std.proofs.Common.{◌∙◌, ap, map}
use Rattle.block_model.specs.Distinct.{distinct}
use Rattle.word_filter.proofs.Sets.{text_of}
use Rattle.word_filter.proofs.Sorted.{text_in}
use Rattle.word_filter.proofs.filter_of.Goals as goal

pub returns-then-put_few-clause-filter : goal.returns-then-put_few-clause-filter
returns-then-put_few-clause-filter c =
    c.in_ok-few.ensures.filter (map text_of c.args.values.now)
    (ap (λ ws. distinct (map text_in ws)) c.as_slice.ensures.value ∙ c.put_few.ensures.words c.if-put_few.true)
