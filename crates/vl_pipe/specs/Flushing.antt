-- The lines that a load writes once its batches are on the vault, and what images of the vault find meanwhile.
use Rattle.std.specs.Prelude.{ℕ, zero, suc, ◌+◌, ◌*◌, ◌/◌, ◌≤◌, List, [], ◌∷◌, ◌++◌, length, map, flat_map}
use Rattle.std.specs.Prelude.{take, codes, decimal}
use Rattle.log_model.specs.Row.{Batch}
use Rattle.vl_vault.specs.Disk.{Image, Past}
use Rattle.vl_vault.specs.Moments.{Always, EachImage}
use Rattle.part_store.specs.Finds.{Finds}

-- Says that this many batches are on the vault.
abbrev pub flush_line : ℕ → List ℕ
flush_line count = codes "flushed " ++ (decimal count ++ 10 ∷ [])

abbrev pub flush_lines : List ℕ → List ℕ
flush_lines counts = flat_map flush_line counts

-- after so many batches all are written to the vault
abbrev pub flush_size : ℕ
flush_size = 16

-- the numbers from 1 to this one
abbrev pub up_to : ℕ → List ℕ
up_to zero = []
up_to (suc n) = up_to n ++ suc n ∷ []

-- how many batches are on the vault after each of so many rounds, where this many came before them
abbrev pub round_counts : ℕ → ℕ → List ℕ
round_counts first rounds = map (λ round. first + flush_size * round) (up_to rounds)

-- the lines of so many batches that came after the first ones, while more may come: one for each sixteen
abbrev pub flush_text_so_far : ℕ → ℕ → List ℕ
flush_text_so_far first made = flush_lines (round_counts first (made / flush_size))

-- the lines of all batches of an input: one for each sixteen before the last batch, and one for all
abbrev pub flush_text : ℕ → ℕ → List ℕ
flush_text first zero = []
flush_text first (suc made) = flush_text_so_far first made ++ flush_line (first + suc made)

-- ---- what images find

-- The image finds batches that were held, and then some of the first of these.
abbrev pub FindsLoaded : List Batch → List Batch → Image → Type 0
FindsLoaded held made image = (count : ℕ) × Finds (held ++ take count made) image

-- The same, and with them so many batches at least.
abbrev pub FindsReached : List Batch → List Batch → ℕ → Image → Type 0
FindsReached held made least image =
    (count : ℕ) × (least ≤ length (held ++ take count made)) × Finds (held ++ take count made) image

-- The image finds the first so many of these batches, and that is `least` or more.
abbrev pub FindsFrom : ℕ → List Batch → Image → Type 0
FindsFrom least batches image =
    (front : ℕ) × (least ≤ front) × (front ≤ length batches) × Finds (take front batches) image

-- From one moment to another each image found the first of these batches, `first` or more. Now each finds `reached` or
-- more of them.
pub record IsSafe (told : Type 0) (first reached : ℕ) (batches : List Batch) (start now : Past) : Type 0 where
  pub moments : told → Always (EachImage (FindsFrom first batches)) start now
  pub finds : told → EachImage (FindsFrom reached batches) now
