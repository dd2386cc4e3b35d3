-- The head of rows that are picked.
use Rattle.std.proofs.Common.{◌≡◌, ℕ, zero, suc, pos, ◌-◌, ◌<◌, ◌≤◌, List, [], ◌∷◌, ◌++◌, length, get_or}
use Rattle.std.proofs.Common.{refl, sym, ap, ◌∙◌, arith}
use Rattle.std.specs.List.{AllByRecursion, slice_range}
use Rattle.log_model.specs.Field.{Field}
use Rattle.log_model.specs.History.{Numbered}
use Rattle.block_body.specs.Outlines.{first_moment, last_moment}
use Rattle.block_format.specs.Rows.{IsBlock, labels_of}
use Rattle.block_model.specs.Keys.{keys_of}
use Rattle.block_model.specs.declared.keys.Key.{Key}
use Rattle.block_gather.specs.Picked.{Picked, rows_of, rows_picked}
use Rattle.block_gather.proofs.SliceLaws.{all-slice, slice-length}

abbrev pub no_key : Key
no_key = record { time = pos 0; batch = 0; place = 0 }

pub first-time : (rows : List Numbered) → 0 < length rows → (get_or (keys_of rows) 0 no_key).time ≡ pos (first_moment rows)
first-time [] some = absurd (omega (arith, some))
first-time (n ∷ ns) some = refl

pub last-time : (rows : List Numbered) → 0 < length rows
    → (get_or (keys_of rows) (length rows - 1) no_key).time ≡ pos (last_moment rows)
last-time [] some = absurd (omega (arith, some))
last-time (n ∷ []) some = refl
last-time (n ∷ m ∷ ns) some =
    let back : length (n ∷ m ∷ ns) - 1 ≡ suc (length (m ∷ ns) - 1) = omega arith in
    ap (λ (k : ℕ). (get_or (keys_of (n ∷ m ∷ ns)) k no_key).time) back ∙ last-time (m ∷ ns) (omega arith)

first-labels : (labels : List Field) (rows : List Numbered) → 0 < length rows
    → AllByRecursion (λ (n : Numbered). n.row.labels ≡ labels) rows → labels_of rows ≡ labels
first-labels labels [] some h = absurd (omega (arith, some))
first-labels labels (n ∷ ns) some h = h.0

-- the labels of a pick are those of its block
pub slice-labels : (block : List Numbered) (a b : ℕ) → a < b → b ≤ length block → IsBlock block
    → labels_of (slice_range block a b) ≡ labels_of block
slice-labels block a b some within h =
    first-labels (labels_of block) (slice_range block a b) (slice-length block a b some within)
    (all-slice (λ (n : Numbered). n.row.labels ≡ labels_of block) block a b h.stream)

front-labels : (rows more : List Numbered) → 0 < length rows → labels_of (rows ++ more) ≡ labels_of rows
front-labels [] more some = absurd (omega (arith, some))
front-labels (n ∷ ns) more some = refl

-- the labels of all picks are those of the first
pub picked-labels : (picks : List Picked) (p : Picked) → 0 < length picks → p ≡ get_or picks 0 p
    → 0 < length (rows_of p) → labels_of (rows_picked picks) ≡ labels_of (rows_of p)
picked-labels [] p some is there = absurd (omega (arith, some))
picked-labels (q ∷ qs) p some is there =
    ap (λ (x : Picked). labels_of (rows_of x ++ rows_picked qs)) (sym is) ∙ front-labels (rows_of p) (rows_picked qs) there

-- rows are picked only by picks
pub some-picks : (picks : List Picked) → 0 < length (rows_picked picks) → 0 < length picks
some-picks [] h = absurd (omega (arith, h))
some-picks (p ∷ ps) h = omega arith
