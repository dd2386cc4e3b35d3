-- What is known of the rows of a block.
use Rattle.std.proofs.Common.{◌≡◌, ℕ, ℤ, pos, List, [], ◌∷◌, length, map, refl, sym, ap, subst, ◌∙◌}
use Rattle.std.specs.List.Sorted.{IsStrictlySortedBy}
use Rattle.block_model.specs.Columns.{names_of}
use Rattle.block_model.proofs.NameLaws.{names-rising}
use Rattle.log_model.specs.Field.{bytes_cmp}
use Rattle.vl_row.specs.Place.{IsInOrder}
use Rattle.log_model.specs.Field.{Field}
use Rattle.log_model.specs.History.{Numbered}
use Rattle.block_body.specs.Outline.{NamedFilter, Outline}
use Rattle.block_format.specs.Rows.{labels_of}
use Rattle.block_body.specs.Outlines.{filter_named, first_moment, last_moment, outline_of, outline_with, weight_of}
use Rattle.block_body.specs.declared.head.Extent.{Extent}

abbrev pub extent_with : ℤ → ℤ → ℕ → ℕ → Extent
extent_with min max rows weight = record { min = min; max = max; rows = rows; weight = weight }

pub outline-is : (rows : List Numbered) (labels : List Field) (min max : ℤ) (count weight : ℕ)
    (columns : List NamedFilter) → labels ≡ labels_of rows → min ≡ pos (first_moment rows)
    → max ≡ pos (last_moment rows) → count ≡ length rows → weight ≡ weight_of rows
    → columns ≡ (outline_of rows).columns
    → outline_with labels (extent_with min max count weight) columns ≡ outline_of rows
outline-is rows labels min max count weight columns l a b n w c = rw (l, a, b, n, w, c) refl

-- ---- the names of the columns

names-again : (rows : List Numbered) (names : List (List ℕ))
    → map (λ (column : NamedFilter). column.0) (map (filter_named rows) names) ≡ names
names-again rows [] = refl
names-again rows (name ∷ names) = ap (λ (l : List (List ℕ)). name ∷ l) (names-again rows names)

pub all-names : (rows : List Numbered) (head : Outline) → head ≡ outline_of rows
    → map (λ (column : NamedFilter). column.0) head.columns ≡ names_of rows
all-names rows head h =
    ap (λ (o : Outline). map (λ (column : NamedFilter). column.0) o.columns) h ∙ names-again rows (names_of rows)

pub in-order : (rows : List Numbered) (head : Outline) → head ≡ outline_of rows → IsInOrder head.columns
in-order rows head h = subst (IsStrictlySortedBy bytes_cmp) (sym (all-names rows head h)) (names-rising rows)
