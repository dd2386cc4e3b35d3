-- Parts of another version.
use Rattle.std.specs.Prelude.{◌≡◌, ◌≢◌, ℕ, ◌≤◌, List, length, take, drop}
use Rattle.std.specs.Int.{w16, from_le_bytes}
use Rattle.part_file.specs.Format.{magic}

-- The magic is right, and a whole version follows.
abbrev pub HasVersion : List ℕ → ℕ → Type 0
HasVersion bytes version =
    (take 6 bytes ≡ magic) × (8 ≤ length bytes) × (from_le_bytes w16 (take 2 (drop 6 bytes)) ≡ version)

-- The part has another version than 1.
abbrev pub HasOtherVersion : List ℕ → ℕ → Type 0
HasOtherVersion bytes version = HasVersion bytes version × (version ≢ 1)
