-- A text has exactly the pieces that it is written by.
use Rattle.std.proofs.Common.{◌≡◌, ◌≢◌, ◌<◌, ◌∙◌, ◌↔◌, ℕ, List, [], ◌∷◌, ◌++◌, length}
use Rattle.std.proofs.Common.{Option, None, Some, ap, arith, eqb-true, refl, sym, subst}
use Rattle.std.proofs.lemmas.Bool.{cond_both, eqb-false, true≢false}
use Rattle.std.proofs.lemmas.List.{append-nil}
use Rattle.std.specs.Prelude.{◌==◌, MatchOption, option_map, ⊤}
use Rattle.std.specs.List.{AllByRecursion}
use Rattle.lq_ast.specs.PatternForm.{written, ArePieces, IsWrittenBy}
use Rattle.lq_ast.specs.PatternText.{Pieces, plain, named, before_plain, before_name, pieces_of, pieces_inside}
use Rattle.lq_ast.specs.PatternText.{plain_pieces}
use Rattle.lq_ast.proofs.Sorted.{all_at}
use Rattle.lq_ast.proofs.PatternReading.{Lacks, name_found, no_name}

-- ---- what is read is written as the text

abbrev Reads : List ℕ → Option Pieces → Type 0
Reads text read = MatchOption read ⊤ (IsWrittenBy text)

-- a text that begins inside a name
abbrev IsWrittenInside : List ℕ → Pieces → Type 0
IsWrittenInside text [] = ⊥
IsWrittenInside text (plain first ∷ pieces) = ⊥
IsWrittenInside text (named name ∷ pieces) =
    (name ++ (62 ∷ written pieces) ≡ text) × AllByRecursion (λ byte. byte ≢ 62) name × ArePieces pieces

abbrev ReadsInside : List ℕ → Option Pieces → Type 0
ReadsInside text read = MatchOption read ⊤ (IsWrittenInside text)

name_opened : (byte : ℕ) (text : List ℕ) (read : Option Pieces) → byte ≡ 60 → ReadsInside text read
    → Reads (byte ∷ text) read
name_opened byte text None is h = tt
name_opened byte text (Some []) is h = absurd h
name_opened byte text (Some (plain first ∷ pieces)) is h = absurd h
name_opened byte text (Some (named name ∷ pieces)) is h =
    (ap (λ t. 60 ∷ t) h.0 ∙ ap (λ b. b ∷ text) (sym is), (h.1, h.2))

plain_grown : (byte : ℕ) (text : List ℕ) (read : Option Pieces) → byte ≢ 60 → Reads text read
    → Reads (byte ∷ text) (option_map (before_plain byte) read)
plain_grown byte text None differs h = tt
plain_grown byte text (Some []) differs h = (ap (λ t. byte ∷ t) h.0, (omega arith, (differs, tt), refl, tt))
plain_grown byte text (Some (plain first ∷ pieces)) differs h =
    (ap (λ t. byte ∷ t) h.0, (omega arith, (differs, h.1.1), h.1.2, h.1.3))
plain_grown byte text (Some (named name ∷ pieces)) differs h =
    (ap (λ t. byte ∷ t) h.0, (omega arith, (differs, tt), refl, h.1))

name_ended : (byte : ℕ) (text : List ℕ) (read : Option Pieces) → byte ≡ 62 → Reads text read
    → ReadsInside (byte ∷ text) (option_map (λ pieces. named [] ∷ pieces) read)
name_ended byte text None is h = tt
name_ended byte text (Some pieces) is h = (ap (λ t. 62 ∷ t) h.0 ∙ ap (λ b. b ∷ text) (sym is), tt, h.1)

name_grown : (byte : ℕ) (text : List ℕ) (read : Option Pieces) → byte ≢ 62 → ReadsInside text read
    → ReadsInside (byte ∷ text) (option_map (before_name byte) read)
name_grown byte text None differs h = tt
name_grown byte text (Some []) differs h = absurd h
name_grown byte text (Some (plain first ∷ pieces)) differs h = absurd h
name_grown byte text (Some (named name ∷ pieces)) differs h =
    (ap (λ t. byte ∷ t) h.0, (differs, h.1), h.2)

reads : (text : List ℕ) → Reads text (pieces_of text) × ReadsInside text (pieces_inside text)
reads [] = ((refl, tt), tt)
reads (byte ∷ text) =
    let behind = reads text in (
      cond_both (byte == 60) (pieces_inside text) (option_map (before_plain byte) (pieces_of text))
          (Reads (byte ∷ text))
          (λ is. name_opened byte text (pieces_inside text) (eqb-true byte 60 is) behind.1)
          (λ no. plain_grown byte text (pieces_of text) (eqb-false byte 60 no) behind.0),
      cond_both (byte == 62) (option_map (λ pieces. named [] ∷ pieces) (pieces_of text))
          (option_map (before_name byte) (pieces_inside text)) (ReadsInside (byte ∷ text))
          (λ is. name_ended byte text (pieces_of text) (eqb-true byte 62 is) behind.0)
          (λ no. name_grown byte text (pieces_inside text) (eqb-false byte 62 no) behind.1),
    )

-- ---- what a text is written by is read

lacks : (byte : ℕ) (text : List ℕ) → AllByRecursion (λ b. b ≢ byte) text → Lacks byte text
lacks byte text all i within = all_at (λ b. b ≢ byte) text all i 0 within

one_plain : (text : List ℕ) → 0 < length text → plain_pieces text ≡ plain text ∷ []
one_plain [] some = absurd (omega arith)
one_plain (byte ∷ text) some = refl

read_back : (pieces : Pieces) → ArePieces pieces → pieces_of (written pieces) ≡ Some pieces
read_back [] are = refl
read_back (named name ∷ pieces) are =
    name_found [] name (written pieces) (λ i within. absurd (omega arith)) (lacks 62 name are.0)
    ∙ ap (option_map (λ more. named name ∷ more)) (read_back pieces are.1)
read_back (plain text ∷ []) are =
    ap pieces_of (append-nil text) ∙ no_name text (lacks 60 text are.1) ∙ ap Some (one_plain text are.0)
read_back (plain text ∷ (plain other ∷ pieces)) are = absurd (true≢false are.2)
read_back (plain text ∷ (named name ∷ pieces)) are =
    name_found text name (written pieces) (lacks 60 text are.1) (lacks 62 name are.3.0)
    ∙ ap (option_map (λ more. plain_pieces text ++ (named name ∷ more))) (read_back pieces are.3.1)
    ∙ ap (λ front. Some (front ++ (named name ∷ pieces))) (one_plain text are.0)

pub pieces_of_lem : (text : List ℕ) (pieces : Pieces) → (pieces_of text ≡ Some pieces) ↔ IsWrittenBy text pieces
pieces_of_lem text pieces = (
  (λ read. subst (Reads text) read (reads text).0),
  (λ by. ap pieces_of (sym by.0) ∙ read_back pieces by.1),
)
