-- When a round of the keeper is due.
use Rattle.std.specs.Prelude.{◌≡◌, ◌⊎◌, ℕ, ◌+◌, ◌*◌, ◌<◌, ◌≤◌, ◌/◌, min, Bool, true}

-- How many pauses a batch waits at most, where the last round wrote this many bytes: 500, and 100 more for each whole
-- 1,000,000 bytes, but no more than 3,000.
abbrev pub most_pauses : ℕ → ℕ
most_pauses rewritten = min (500 + 100 * (rewritten / 1000000)) 3000

-- The doors have ended, or 256 batches wait, or one has waited long enough.
abbrev pub IsDue : ℕ → ℕ → ℕ → Bool → Type 0
IsDue waiting pauses rewritten ended =
    (ended ≡ true) ⊎ (256 ≤ waiting) ⊎ ((0 < waiting) × (most_pauses rewritten ≤ pauses))
