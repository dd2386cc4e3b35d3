-- How the pieces of a text are told from others: they are written as the text, and no piece could be cut another way.
use Rattle.std.specs.Prelude.{◌≡◌, ◌≢◌, ◌<◌, ℕ, Bool, true, false, List, [], ◌∷◌, ◌++◌, length, ⊤}
use Rattle.std.specs.List.{AllByRecursion}
use Rattle.lq_ast.specs.PatternText.{Pieces, plain, named}

-- the texts as they are, and the names in angle brackets
abbrev pub written : Pieces → List ℕ
written [] = []
written (plain text ∷ pieces) = text ++ written pieces
written (named name ∷ pieces) = 60 ∷ (name ++ (62 ∷ written pieces))

abbrev pub begins_plain : Pieces → Bool
begins_plain [] = false
begins_plain (plain text ∷ pieces) = true
begins_plain (named name ∷ pieces) = false

-- No text is empty or has a `<`, no text follows another, and no name has a `>`.
abbrev pub ArePieces : Pieces → Type 0
ArePieces [] = ⊤
ArePieces (plain text ∷ pieces) =
    (0 < length text) × AllByRecursion (λ byte. byte ≢ 60) text × (begins_plain pieces ≡ false) × ArePieces pieces
ArePieces (named name ∷ pieces) = AllByRecursion (λ byte. byte ≢ 62) name × ArePieces pieces

-- these are the pieces of the text
abbrev pub IsWrittenBy : List ℕ → Pieces → Type 0
IsWrittenBy text pieces = (written pieces ≡ text) × ArePieces pieces
