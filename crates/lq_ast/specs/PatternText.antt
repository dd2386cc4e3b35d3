-- The texts of patterns: texts that stand for themselves, and names in angle brackets.
use Rattle.std.specs.Prelude.{ℕ, Bool, true, false, not, ◌&&◌, ◌||◌, ◌==◌, List, [], ◌∷◌, Option, Some, None}
use Rattle.std.specs.Prelude.{option_map, if◌then◌else◌}
use Rattle.std.specs.List.{list_any}

pub data PatternPiece : Type 0 where
  -- a text that stands for itself
  plain : List ℕ → PatternPiece
  -- a name that stood in angle brackets
  named : List ℕ → PatternPiece

abbrev pub Pieces : Type 0
Pieces = List PatternPiece

-- ---- reading

-- one more byte before the text that the pieces begin with
abbrev pub before_plain : ℕ → Pieces → Pieces
before_plain byte (plain text ∷ pieces) = plain (byte ∷ text) ∷ pieces
before_plain byte pieces = plain (byte ∷ []) ∷ pieces

-- one more byte before the name that the pieces begin with
abbrev pub before_name : ℕ → Pieces → Pieces
before_name byte (named name ∷ pieces) = named (byte ∷ name) ∷ pieces
before_name byte pieces = pieces

-- The pieces of a text, and those of one that begins inside a name. A name ends at the first `>`. There are none where
-- a `<` has no later `>`.
abbrev mutual
  pub pieces_of : List ℕ → Option Pieces
  pieces_of [] = Some []
  pieces_of (byte ∷ text) =
      if byte == 60 then pieces_inside text else option_map (before_plain byte) (pieces_of text)

  pub pieces_inside : List ℕ → Option Pieces
  pieces_inside [] = None
  pieces_inside (byte ∷ text) =
      if byte == 62 then option_map (λ pieces. named [] ∷ pieces) (pieces_of text)
      else option_map (before_name byte) (pieces_inside text)

-- the pieces of a text without names
abbrev pub plain_pieces : List ℕ → Pieces
plain_pieces [] = []
plain_pieces (byte ∷ text) = plain (byte ∷ text) ∷ []

-- ---- patterns

abbrev pub is_name : PatternPiece → Bool
is_name (plain text) = false
is_name (named name) = true

-- Two names stand without a text between.
abbrev pub has_touching_names : Pieces → Bool
has_touching_names [] = false
has_touching_names (first ∷ []) = false
has_touching_names (first ∷ second ∷ others) =
    (is_name first && is_name second) || has_touching_names (second ∷ others)

-- Values can be taken out by the pieces.
abbrev pub can_extract : Pieces → Bool
can_extract pieces = list_any is_name pieces && not (has_touching_names pieces)

abbrev pub checked_pieces : Bool → Pieces → Option Pieces
checked_pieces extracting pieces = if extracting && not (can_extract pieces) then None else Some pieces

abbrev pub checked_if_some : Bool → Option Pieces → Option Pieces
checked_if_some extracting None = None
checked_if_some extracting (Some pieces) = checked_pieces extracting pieces

-- the pattern that a text is, for taking values out or for putting them together
abbrev pub pattern_of : Bool → List ℕ → Option Pieces
pattern_of extracting text = checked_if_some extracting (pieces_of text)
