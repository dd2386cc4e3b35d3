use Rattle.std.proofs.Common.{◌≡◌, ◌∙◌, List, Bor, ap, map, ℕ}
use Rattle.block_model.specs.Distinct.{distinct}
use Rattle.word_filter.specs.Words.{filter_of}
use Rattle.word_filter.proofs.Sets.{text_of}
use Rattle.block_body.proofs.FilterLaws.{has-words, of-members}
use Rattle.block_body.proofs.columns.filter_of_column.Goals as goal

pub returns-in_ok-bloom-in-Some-clause-filter : goal.returns-in_ok-bloom-in-Some-clause-filter
returns-in_ok-bloom-in-Some-clause-filter c =
    let each : map text_of c.in-Some.members.items ≡ distinct c.args.column.now = rw c.in-Some.is at
    c.in_ok-members.ensures.each in
    c.in_ok-bloom-in-Some.ensures.filter
    ∙ ap (λ (l : List (Bor (List ℕ))). filter_of (map text_of l)) c.as_slice.ensures.value
    ∙ of-members c.in-Some.members.items c.args.column.now each

pub returns-in_ok-bloom-in-Some-clause-words : goal.returns-in_ok-bloom-in-Some-clause-words
returns-in_ok-bloom-in-Some-clause-words c =
    let each : map text_of c.in-Some.members.items ≡ distinct c.args.column.now = rw c.in-Some.is at
    c.in_ok-members.ensures.each in
    has-words c.in_ok-bloom-in-Some.bloom c.args.column.now (c.in_ok-bloom-in-Some.ensures.filter
    ∙ ap (λ (l : List (Bor (List ℕ))). filter_of (map text_of l)) c.as_slice.ensures.value
    ∙ of-members c.in-Some.members.items c.args.column.now each)
