use Rattle.std.proofs.Common.{◌∙◌, ℕ, List, Bor, ap, arith, length, map}
use Rattle.std.specs.Prelude.{sum_by}
use Rattle.block_column.proofs.KindLaws.{sizes}
use Rattle.word_filter.specs.Words.{filter_of}
use Rattle.word_filter.proofs.Sets.{text_of}
use Rattle.block_body.proofs.FilterLaws.{has-words}
use Rattle.block_body.proofs.columns.filter_of_texts.Goals as goal

pub filter_of-requires : goal.filter_of-requires
filter_of-requires c =
    rw c.as_slice.ensures.value (omega (
      arith,
      sizes text_of c.in_ok-texts.texts.items,
      ap (sum_by length) (c.in_ok-texts.ensures ∙ c.in_ok-lent.ensures),
      c.requires,
    ))

pub returns-clause-filter : goal.returns-clause-filter
returns-clause-filter c =
    c.in_ok-bloom.ensures.filter
    ∙ ap (λ (l : List (Bor (List ℕ))). filter_of (map text_of l)) c.as_slice.ensures.value
    ∙ ap filter_of (c.in_ok-texts.ensures ∙ c.in_ok-lent.ensures)

pub returns-clause-words : goal.returns-clause-words
returns-clause-words c =
    has-words c.in_ok-bloom.bloom c.args.column.now (c.in_ok-bloom.ensures.filter
    ∙ ap (λ (l : List (Bor (List ℕ))). filter_of (map text_of l)) c.as_slice.ensures.value
    ∙ ap filter_of (c.in_ok-texts.ensures ∙ c.in_ok-lent.ensures))
