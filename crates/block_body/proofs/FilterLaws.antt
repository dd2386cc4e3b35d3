-- The filter of a column's values has their words.
use Rattle.std.proofs.Common.{◌≡◌, ◌∙◌, ℕ, List, Bor, ap, map, subst, sym}
use Rattle.std.specs.List.{All}
use Rattle.block_model.specs.Distinct.{HaveSameTexts, distinct, is_listed}
use Rattle.block_model.proofs.Same.{distinct-listed}
use Rattle.word_filter.specs.Words.{HasWords, filter_of}
use Rattle.word_filter.proofs.Kept.{leaves_none_out}
use Rattle.word_filter.proofs.Sets.{same-filter, text_of}

pub has-words : (filter : List ℕ) (values : List (List ℕ)) → filter ≡ filter_of values → All (HasWords filter) values
has-words filter values e = subst (λ (f : List ℕ). All (HasWords f) values) (sym e) (leaves_none_out values)

-- Distinct values have the words of all.
pub of-members : (members : List (Bor (List ℕ))) (values : List (List ℕ)) → map text_of members ≡ distinct values
    → filter_of (map text_of members) ≡ filter_of values
of-members members values each =
    let same : HaveSameTexts (map text_of members) values = λ text. ap (λ (l : List (List ℕ)). is_listed l text) each
    ∙ distinct-listed text values in
    same-filter (map text_of members) values same
