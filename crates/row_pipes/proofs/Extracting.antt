-- What the pipe `extract` sets, where the name that waits for its value stands ahead of the pieces that are left.
use Rattle.std.proofs.Common.{◌≡◌, ℕ, zero, suc, ◌+◌, ◌<◌, List, [], ◌∷◌, drop, fold, get_or, length, map}
use Rattle.std.proofs.Common.{Option, None, Some, refl, ap, sym}
use Rattle.std.proofs.Common.{add-one, arith}
use Rattle.std.specs.Prelude.{unwrap_or}
use Rattle.lq_ast.specs.Made.{extracted, left_after, part_before, put_extracted, split_once, taken}
use Rattle.lq_ast.specs.MakingView.{pattern_piece}
use Rattle.lq_ast.specs.PatternText.{Pieces, named, plain}
use Rattle.lq_ast.specs.Records.{Record}
use Rattle.lq_ast.specs.declared.pattern.Piece.{Piece}
use Rattle.row_pipes.proofs.Splitting.{filled}

-- In an empty rest nothing is found, as after a text that was not found.
taken_of_nothing : (pieces : Pieces) → taken pieces (Some []) ≡ []
taken_of_nothing [] = refl
taken_of_nothing (plain [] ∷ pieces) = refl
taken_of_nothing (plain (byte ∷ text) ∷ pieces) = rw (filled byte text) refl
taken_of_nothing (named name ∷ pieces) = refl

extracted_of_nothing : (pieces : Pieces) → extracted pieces (Some []) ≡ extracted pieces None
extracted_of_nothing [] = refl
extracted_of_nothing (plain [] ∷ pieces) = extracted_of_nothing pieces
extracted_of_nothing (plain (byte ∷ text) ∷ pieces) = rw (filled byte text) refl
extracted_of_nothing (named name ∷ pieces) = rw (taken_of_nothing pieces, extracted_of_nothing pieces) refl

extracted-unwrap_or : (pieces : Pieces) (left : Option (List ℕ))
    → extracted pieces (Some (unwrap_or left [])) ≡ extracted pieces left
extracted-unwrap_or pieces None = extracted_of_nothing pieces
extracted-unwrap_or pieces (Some left) = refl

-- the fields that are set from here on
abbrev pub Waiting : Record → List ℕ → Pieces → List ℕ → Record → Type 0
Waiting r name pieces left made = fold put_extracted r (extracted (named name ∷ pieces) (Some left)) ≡ made

pub after_text : (r : Record) (name text : List ℕ) (pieces : Pieces) (left : List ℕ) (made : Record)
    → Waiting r name (plain text ∷ pieces) left made
    → Waiting (put_extracted r (name, part_before (split_once text left))) [] pieces
    (unwrap_or (left_after text (Some left)) []) made
after_text r name text pieces left made waiting =
    rw (extracted-unwrap_or pieces (left_after text (Some left))) waiting

pub after_name : (r : Record) (name next : List ℕ) (pieces : Pieces) (left : List ℕ) (made : Record)
    → Waiting r name (named next ∷ pieces) left made → Waiting (put_extracted r (name, [])) next pieces left made
after_name r name next pieces left made waiting = waiting

-- the pieces from one that the walk has come to
pub pieces_from : (pieces : List Piece) (i : ℕ) (piece : Piece) → i < length pieces
    → piece ≡ get_or pieces i piece
    → map pattern_piece (drop i pieces) ≡ pattern_piece piece ∷ map pattern_piece (drop (i + 1) pieces)
pieces_from [] i piece below is = absurd (omega arith)
pieces_from (first ∷ pieces) zero piece below is = ap (λ p. pattern_piece p ∷ map pattern_piece pieces) (sym is)
pieces_from (first ∷ pieces) (suc i) piece below is =
    rw add-one (rw add-one at (pieces_from pieces i piece (omega arith) is))
