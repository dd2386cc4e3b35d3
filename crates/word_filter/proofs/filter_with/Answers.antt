use Rattle.std.proofs.Common.{◌≡◌, ◌∙◌, ℕ, List, length, map, arith, ap}
use Rattle.std.specs.List.{fold}
use Rattle.std.proofs.lemmas.List.{length-map}
use Rattle.block_model.specs.Distinct.{distinct}
use Rattle.token_bloom.specs.Filter.{empty_filter, with_word}
use Rattle.word_filter.proofs.FilterLaws.{small-filter}
use Rattle.word_filter.proofs.Sets.{once-added}
use Rattle.word_filter.proofs.Sorted.{text_in}
use Rattle.word_filter.proofs.filter_with.Goals as goal

pub returns-clause-filter : goal.returns-clause-filter
returns-clause-filter c values e =
    let texts : List (List ℕ) = map text_in c.args.words.now in
    let once = once-added (map text_in c.args.words.now) c.in_ok-bloom.bloom c.requires.once in
    let count : length c.args.words.now ≡ length (distinct (map text_in c.args.words.now)) =
    omega (arith, length-map c.args.words.now text_in, once.1) in
    c.add_words.ensures
    ∙ once.0
    ∙ ap (λ (f : List ℕ). fold with_word f (distinct texts)) c.in_ok-bloom.ensures
    ∙ ap (λ (n : ℕ). fold with_word (empty_filter n) (distinct texts)) count
    ∙ ap (λ (ws : List (List ℕ)). fold with_word (empty_filter (length ws)) ws) e

pub returns-clause-small : goal.returns-clause-small
returns-clause-small c =
    rw (c.add_words.ensures, c.in_ok-bloom.ensures) (small-filter (length c.args.words.now) (map text_in
    c.args.words.now) c.requires.few)
