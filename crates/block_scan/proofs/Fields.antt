-- The value of a field of the rows of a block.
use Rattle.std.proofs.Common.{◌≡◌, ◌<◌, ◌∙◌, ℕ, Bool, true, List, None, ap, get_or, length, sym}
use Rattle.std.specs.List.{All}
use Rattle.log_model.specs.Field.{Field}
use Rattle.log_model.specs.History.{Numbered}
use Rattle.log_model.specs.Row.{Row, value_of}
use Rattle.block_model.specs.Columns.{values_of}
use Rattle.lq_filter.specs.Computed.{is_source}
use Rattle.lq_filter.proofs.Values.{stored_value}
use Rattle.block_scan.proofs.Staying.{kept-map}
use Rattle.block_scan.specs.Marks.{kept}

-- a stored one
pub stored : (test : List ℕ → Bool) (rows : List Numbered) (name : List ℕ) (marks : List Bool)
    → is_source None name ≡ true
    → kept test (values_of rows name) marks ≡ kept (λ numbered. test (value_of numbered.row name)) rows marks
stored test rows name marks e =
    kept-map test _ rows marks ∙ (λ j. kept (λ (numbered : Numbered). test (stored_value numbered.row name e j)) rows marks)

-- All rows have the value of one, where rows of one stream have the same.
pub as_first : (test : List ℕ → Bool) (name : List ℕ) (rows : List Numbered) (first : Numbered) (labels : List Field)
    (stay : Bool) → All (λ numbered. numbered.row.labels ≡ labels) rows → 0 < length rows
    → get_or rows 0 first ≡ first
    → ((a b : Row) → a.labels ≡ b.labels → value_of a name ≡ value_of b name) → stay ≡ test (value_of first.row name)
    → All (λ numbered. test (value_of numbered.row name) ≡ stay) rows
as_first test name rows first labels stay all some is alike asked =
    let of_first : first.row.labels ≡ labels =
    sym (ap (λ (numbered : Numbered). numbered.row.labels) is) ∙ all 0 first some in
    λ k d within.
    ap test (alike (get_or rows k d).row first.row (all k d within ∙ sym of_first)) ∙ sym asked
