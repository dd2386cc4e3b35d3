-- Whether the rows of a block lie in a day, by the least and the greatest of their times.
use Rattle.std.proofs.Common.{◌≡◌, ℕ, zero, suc, ◌<◌, ◌≤◌, List, [], ◌∷◌, ◌++◌, length}
use Rattle.std.proofs.Common.{arith, get_or, subst, sym, pos, ◌≤ℤ◌}
use Rattle.std.specs.List.{AllByRecursion, All}
use Rattle.std.proofs.lemmas.Int.{ints}
use Rattle.std.proofs.lemmas.List.Elements.{recursion_from_All}
use Rattle.log_model.specs.History.{Numbered}
use Rattle.day_model.specs.Days.{LieInDay, day_of_moment}
use Rattle.block_body.specs.Outline.{Outline}
use Rattle.part_model.specs.Filling.{rows_in_blocks}
use Rattle.block_body.specs.Outlines.{IsSpan, first_moment, last_moment, outline_of, time_of}

between : (day m t n : ℕ) → day_of_moment m ≡ day → day_of_moment n ≡ day → pos m ≤ℤ pos t → pos t ≤ℤ pos n
    → day_of_moment t ≡ day
between day m t n a b up down =
    let low : m ≤ t = omega (arith, ints, up) in
    let high : t ≤ n = omega (arith, ints, down) in
    omega (arith, a, b, low, high)

all-between : (day m n : ℕ) → day_of_moment m ≡ day → day_of_moment n ≡ day → (rows : List Numbered)
    → AllByRecursion (λ x. pos m ≤ℤ time_of x) rows → AllByRecursion (λ x. time_of x ≤ℤ pos n) rows
    → LieInDay day rows
all-between day m n a b [] low high = tt
all-between day m n a b (row ∷ rows) low high =
    (between day m row.row.moment n a b low.0 high.0, all-between day m n a b rows low.1 high.1)

last-day : (day : ℕ) (row : Numbered) (rows : List Numbered) → LieInDay day (row ∷ rows)
    → day_of_moment (last_moment (row ∷ rows)) ≡ day
last-day day row [] h = h.0
last-day day row (next ∷ rows) h = last-day day next rows h.1

first-day : (day : ℕ) (row : Numbered) (rows : List Numbered) → LieInDay day (row ∷ rows)
    → day_of_moment (first_moment (row ∷ rows)) ≡ day
first-day day row rows h = h.0

some : (rows : List Numbered) → IsSpan rows (outline_of rows) → (day : ℕ)
    → LieInDay day rows → (day_of_moment (first_moment rows) ≡ day) × (day_of_moment (last_moment rows) ≡ day)
some [] span day h = absurd (let below = span.first.1 in omega (arith, below))
some (row ∷ rows) span day h = (first-day day row rows h, last-day day row rows h)

-- the span of a block is in the day
pub span-day : (rows : List Numbered) (outline : Outline) → outline ≡ outline_of rows → IsSpan rows outline
    → (day : ℕ) → day_of_moment (first_moment rows) ≡ day → day_of_moment (last_moment rows) ≡ day
    → LieInDay day rows
span-day rows outline is span day a b =
    let here : IsSpan rows (outline_of rows) = subst (IsSpan rows) is span in
    all-between day (first_moment rows) (last_moment rows) a b rows
    (recursion_from_All (λ (x : Numbered). pos (first_moment rows) ≤ℤ time_of x) rows here.least)
    (recursion_from_All (λ (x : Numbered). time_of x ≤ℤ pos (last_moment rows)) rows here.greatest)

-- and where its rows lie in a day, both ends of the span do
pub day-span : (rows : List Numbered) (outline : Outline) → outline ≡ outline_of rows → IsSpan rows outline
    → (day : ℕ) → LieInDay day rows
    → (day_of_moment (first_moment rows) ≡ day) × (day_of_moment (last_moment rows) ≡ day)
day-span rows outline is span day h = some rows (subst (IsSpan rows) is span) day h

-- ---- blocks

lie-both : (day : ℕ) (xs ys : List Numbered) → LieInDay day xs → LieInDay day ys → LieInDay day (xs ++ ys)
lie-both day [] ys h g = g
lie-both day (x ∷ xs) ys h g = (h.0, lie-both day xs ys h.1 g)

lie-parts : (day : ℕ) (xs ys : List Numbered) → LieInDay day (xs ++ ys) → LieInDay day xs × LieInDay day ys
lie-parts day [] ys h = (tt, h)
lie-parts day (x ∷ xs) ys h = let rest = lie-parts day xs ys h.1 in ((h.0, rest.0), rest.1)

each-lies : (day : ℕ) (blocks : List (List Numbered)) → AllByRecursion (LieInDay day) blocks
    → LieInDay day (rows_in_blocks blocks)
each-lies day [] h = tt
each-lies day (block ∷ blocks) h = lie-both day block (rows_in_blocks blocks) h.0 (each-lies day blocks h.1)

-- Each block lies in the day: so do all rows.
pub all-lie : (day : ℕ) (blocks : List (List Numbered)) (rows : List Numbered) → rows_in_blocks blocks ≡ rows
    → All (LieInDay day) blocks → LieInDay day rows
all-lie day blocks rows is h =
    subst (LieInDay day) is (each-lies day blocks (recursion_from_All (LieInDay day) blocks h))

block-lies : (day : ℕ) (blocks : List (List Numbered)) (i : ℕ) (d : List Numbered) → i < length blocks
    → LieInDay day (rows_in_blocks blocks) → LieInDay day (get_or blocks i d)
block-lies day [] i d below h = absurd (omega (arith, below))
block-lies day (block ∷ blocks) zero d below h = (lie-parts day block (rows_in_blocks blocks) h).0
block-lies day (block ∷ blocks) (suc i) d below h =
    block-lies day blocks i d (omega (arith, below)) (lie-parts day block (rows_in_blocks blocks) h).1

-- All rows lie in the day: so does each block.
pub one-lies : (day : ℕ) (blocks : List (List Numbered)) (rows : List Numbered) → rows_in_blocks blocks ≡ rows
    → (i : ℕ) (d : List Numbered) → i < length blocks → LieInDay day rows → LieInDay day (get_or blocks i d)
one-lies day blocks rows is i d below h = block-lies day blocks i d below (subst (LieInDay day) (sym is) h)
