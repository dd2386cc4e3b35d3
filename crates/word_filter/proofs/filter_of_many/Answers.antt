use Rattle.std.proofs.Common.{◌∙◌, [], length, map, arith, ap}
use Rattle.std.proofs.lemmas.List.{length-map}
use Rattle.block_model.specs.Distinct.{distinct}
use Rattle.word_filter.proofs.Sets.{once-added, text_of}
use Rattle.word_filter.proofs.Sorted.{text_in}
use Rattle.word_filter.proofs.filter_of_many.Goals as goal

pub filter_with-requires-clause-few : goal.filter_with-requires-clause-few
filter_with-requires-clause-few c =
    omega (
      arith,
      ap length c.as_slice.ensures.value,
      length-map c.in_ok-words.words.items text_in,
      (once-added (map text_in c.in_ok-words.words.items) [] c.in_ok-words.ensures.once).1,
      c.in_ok-words.ensures.few,
      c.requires,
    )

pub returns-clause-filter : goal.returns-clause-filter
returns-clause-filter c =
    c.in_ok-bloom.ensures.filter (map text_of c.args.values.now)
    (ap (λ ws. distinct (map text_in ws)) c.as_slice.ensures.value ∙ c.in_ok-words.ensures.words)
