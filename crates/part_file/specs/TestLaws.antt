-- The tests of the rows of a part.
use Rattle.std.proofs.Common.{◌≡◌, ℕ, ◌<◌, ◌^◌, Bool, true, false, cond, List, [], ◌∷◌, ◌++◌, length, refl, sym, ap}
use Rattle.std.proofs.Common.{◌∙◌, subst, Some, None}
use Rattle.std.specs.Prelude.{nat_lt}
use Rattle.std.specs.List.{AllByRecursion, list_all}
use Rattle.std.proofs.lemmas.Bool.{and_from, and_parts, leb-true, le-leb, lt-ltb, ltb-true}
use Rattle.std.proofs.lemmas.List.{append_assoc}
use Rattle.log_model.specs.History.{Numbered}
use Rattle.log_model.specs.Row.{batch_limit}
use Rattle.block_format.specs.Reading.{all_hold, block_writing, has_spelling}
use Rattle.block_format.specs.Spelling.{block_bytes}
use Rattle.byte_format.proofs.Cases.{some_from}
use Rattle.part_model.proofs.FillLaws.{filled-blocks}
use Rattle.part_model.specs.Filling.{AreFilled, blocks_of, filled_from, has_room, rows_in_blocks}
use Rattle.part_file.specs.Blocks.{blocks_bytes}
use Rattle.part_model.specs.Part.{ArePartRows, IsPart, rows_weight}
use Rattle.part_file.specs.Format.{head_bytes, is_part, is_sized, part_bytes, part_tests, part_writing}

each : (tests : List Bool) → all_hold tests ≡ true → AllByRecursion (λ test. test ≡ true) tests
each [] e = tt
each (t ∷ ts) e = let p = and_parts t (all_hold ts) e in (p.0, each ts p.1)

all : (tests : List Bool) → AllByRecursion (λ test. test ≡ true) tests → all_hold tests ≡ true
all [] h = refl
all (t ∷ ts) h = and_from t (all_hold ts) h.0 (all ts h.1)

-- Rows of a part that can be written.
pub record IsWritten (rows : List Numbered) : Type 0 where
  pub part : IsPart rows
  pub sized : list_all is_sized (blocks_of rows) ≡ true
  pub few : length (blocks_of rows) < 2 ^ 32

pub part-holds : (rows : List Numbered) → is_part rows ≡ true → IsWritten rows
unfolding is_part
part-holds rows e =
    let h = each (part_tests rows) e in
    record {
      part = record {
        rules = record {
          some = ltb-true 0 (length rows) h.0;
          apart = h.1.0;
          light = leb-true (rows_weight rows) batch_limit h.1.1.0;
        };
        ordered = h.1.1.1.0;
      };
      sized = h.1.1.1.1.0;
      few = ltb-true (length (blocks_of rows)) (2 ^ 32) h.1.1.1.1.1.0;
    }

pub holds-part : (rows : List Numbered) → IsWritten rows → is_part rows ≡ true
unfolding is_part
holds-part rows h =
    all (part_tests rows) (
      lt-ltb 0 (length rows) h.part.rules.some,
      (
        h.part.rules.apart,
        (
          le-leb (rows_weight rows) batch_limit h.part.rules.light,
          (
            h.part.ordered,
            (h.sized, (lt-ltb (length (blocks_of rows)) (2 ^ 32) h.few, tt)),
          ),
        ),
      ),
    )

pub is-written : (rows : List Numbered) → IsWritten rows → part_writing rows ≡ Some (part_bytes rows)
is-written rows h = rw (holds-part rows h) refl

not-written : (rows : List Numbered) → is_part rows ≡ false → part_writing rows ≡ None
not-written rows e = rw e refl

-- rows that are none of a part
pub no-part : (rows : List Numbered) → (ArePartRows rows → ⊥) → part_writing rows ≡ None
no-part rows h = not-written rows (by (is_part rows) refl)
  where
    by : (t : Bool) → is_part rows ≡ t → is_part rows ≡ false
    by true e = absurd (h (part-holds rows e).part.rules)
    by false e = e

-- ---- the rows of the blocks

from-blocks : (block rows : List Numbered) → rows_in_blocks (filled_from block rows) ≡ block ++ rows
from-blocks block [] = refl
from-blocks block (row ∷ rows) =
    by (has_room block row) (from-blocks (block ++ row ∷ []) rows ∙ append_assoc block (row ∷ []) rows)
    (from-blocks (row ∷ []) rows)
  where
    by : (t : Bool) → rows_in_blocks (filled_from (block ++ row ∷ []) rows) ≡ block ++ (row ∷ rows)
        → rows_in_blocks (filled_from (row ∷ []) rows) ≡ row ∷ rows
        → rows_in_blocks (cond t (filled_from (block ++ row ∷ []) rows) (block ∷ filled_from (row ∷ []) rows))
        ≡ block ++ (row ∷ rows)
    by true e f = e
    by false e f = ap (λ (l : List Numbered). block ++ l) f

pub rows-of-blocks : (rows : List Numbered) → rows_in_blocks (blocks_of rows) ≡ rows
rows-of-blocks [] = refl
rows-of-blocks (row ∷ rows) = from-blocks (row ∷ []) rows

pub sized-spelled : (blocks : List (List Numbered)) → list_all is_sized blocks ≡ true
    → list_all has_spelling blocks ≡ true
sized-spelled [] e = refl
sized-spelled (block ∷ blocks) e =
    let p = and_parts (is_sized block) (list_all is_sized blocks) e in
    and_from (has_spelling block) (list_all has_spelling blocks) (and_parts (has_spelling block) (nat_lt (length
    (block_bytes block)) (2 ^ 32)) p.0).0 (sized-spelled blocks p.1)

pub each-sized : (blocks : List (List Numbered)) → list_all is_sized blocks ≡ true
    → AllByRecursion (λ block. is_sized block ≡ true) blocks
each-sized [] e = tt
each-sized (block ∷ blocks) e =
    let p = and_parts (is_sized block) (list_all is_sized blocks) e in (p.0, each-sized blocks p.1)

pub sized-is : (rows : List Numbered) → block_writing rows ≡ Some (block_bytes rows)
    → length (block_bytes rows) < 2 ^ 32 → is_sized rows ≡ true
sized-is rows e lt =
    and_from (has_spelling rows) (nat_lt (length (block_bytes rows)) (2 ^ 32))
    (some_from (has_spelling rows) (block_bytes rows) (block_bytes rows) e).0
    (lt-ltb (length (block_bytes rows)) (2 ^ 32) lt)

-- a part whose blocks were written
pub written-part : (blocks : List (List Numbered)) (rows : List Numbered) → IsPart rows → AreFilled blocks rows
    → list_all is_sized blocks ≡ true → length blocks < 2 ^ 32 → IsWritten rows
written-part blocks rows part filled sized few =
    let same : blocks ≡ blocks_of rows = filled-blocks blocks rows filled in
    record {
      part = part;
      sized = ap (list_all is_sized) (sym same) ∙ sized;
      few = subst (λ (l : List (List Numbered)). length l < 2 ^ 32) same few;
    }

pub part-bytes : (blocks : List (List Numbered)) (rows : List Numbered) → AreFilled blocks rows
    → part_bytes rows ≡ head_bytes ++ blocks_bytes blocks
unfolding part_bytes
part-bytes blocks rows filled =
    ap (λ (l : List (List Numbered)). head_bytes ++ blocks_bytes l) (sym (filled-blocks blocks rows filled))

pub written-is : (rows : List Numbered) (bytes : List ℕ) → part_writing rows ≡ Some bytes → bytes ≡ part_bytes rows
written-is rows bytes e = sym (some_from (is_part rows) (part_bytes rows) bytes e).1
