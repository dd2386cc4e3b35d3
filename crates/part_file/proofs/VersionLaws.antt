-- Parts of another version are none.
use Rattle.std.proofs.Common.{◌≡◌, ℕ, false, List, length, take, drop, sym, ap, ◌∙◌}
use Rattle.std.proofs.Common.{arith, eqb, Ok, Err, Result}
use Rattle.std.specs.Prelude.{bytes_eq}
use Rattle.std.specs.Int.{w16, from_le_bytes}
use Rattle.std.proofs.lemmas.Bool.{ne_eqb}
use Rattle.std.proofs.lemmas.Slice.Eq.{bytes_eq-Decides}
use Rattle.byte_format.specs.Format.{exactly, front, value, whole, ◌>>=◌}
use Rattle.byte_format.specs.Items.{number_that}
use Rattle.byte_format.specs.Spelling.{against, reading}
use Rattle.byte_format.proofs.Readings.{bad-form, good-made, whole-followed}
use Rattle.byte_format.proofs.Windows.{front-bad, front-good}
use Rattle.log_model.specs.History.{Numbered}
use Rattle.part_file.specs.Blocks.{counted_blocks_steps}
use Rattle.part_file.specs.Format.{is_version, magic, part, part_blocks, part_blocks_steps, part_writing, rows_said}
use Rattle.part_file.specs.Format.{these_bytes}
use Rattle.part_file.specs.Version.{HasOtherVersion}
use Rattle.part_file.proofs.Steps.{part-steps}

stops-version : (bytes : List ℕ) (version : ℕ) → HasOtherVersion bytes version
    → front part_blocks bytes ≡ Err (length (drop 6 bytes))
unfolding part_blocks_steps
stops-version bytes version h =
    let name : front (these_bytes magic) bytes ≡ Ok (take 6 bytes, drop 6 bytes) =
    front-good (exactly 6) (λ found. bytes_eq found magic) value bytes (good-made (exactly 6) (λ found. bytes_eq found
    magic) bytes (omega (arith, h.0.1)) ((bytes_eq-Decides (take 6 bytes) magic).1 h.0.0)) in
    let other : eqb (from_le_bytes w16 (take 2 (drop 6 bytes))) 1 ≡ false = ne_eqb (from_le_bytes w16 (take 2 (drop 6
    bytes))) 1 (λ e. h.1 (sym h.0.2 ∙ e)) in
    let stop : front (number_that w16 is_version) (drop 6 bytes) ≡ Err (length (drop 6 bytes)) =
    front-bad (exactly 2) (λ found. is_version (from_le_bytes w16 found)) (λ found. value (from_le_bytes w16 found)) (drop
    6 bytes) (bad-form (exactly 2) (λ found. is_version (from_le_bytes w16 found)) (drop 6 bytes) other) in
    part-steps bytes
    ∙ ap (λ (r : Result (List ℕ × List ℕ) ℕ). r >>= λ name. front (number_that w16 is_version) name.1 >>= λ version.
    counted_blocks_steps version.1) name
    ∙ ap (λ (r : Result (ℕ × List ℕ) ℕ). r >>= λ version. counted_blocks_steps version.1) stop

pub other-version : (bytes : List ℕ) (version : ℕ) → HasOtherVersion bytes version
    → whole part bytes ≡ Err (length (drop 6 bytes))
unfolding part
other-version bytes version h =
    whole-followed part_blocks (λ (l : List (List Numbered)). value (rows_said l)) bytes
    ∙ ap (λ (r : Result (List (List Numbered) × List ℕ) ℕ). r >>= λ x. whole (value (rows_said x.0)) x.1) (stops-version
    bytes version h)

pub other-reading : (bytes : List ℕ) (version : ℕ) → HasOtherVersion bytes version
    → reading part part_writing bytes ≡ Err (length (drop 6 bytes))
other-reading bytes version h =
    ap (λ (r : Result (List Numbered) ℕ). r >>= λ x. against part bytes x (part_writing x)) (other-version bytes version h)
