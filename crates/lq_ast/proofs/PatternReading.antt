-- How the pieces of a text are read: up to a `<`, then up to a `>`, and on.
use Rattle.std.proofs.Common.{◌≡◌, ◌≢◌, ◌<◌, ◌∙◌, ℕ, Bool, false, suc, List, [], ◌∷◌, ◌++◌, cond, length}
use Rattle.std.proofs.Common.{append_assoc, Bor, get_or, map, Option, None, Some, ap, arith, ne_eqb, refl, sym}
use Rattle.std.proofs.lemmas.Option.{MatchOption-at_none, MatchOption-at_some}
use Rattle.std.proofs.lemmas.Str.Pattern.{IsSplitOnceResult, split_parts}
use Rattle.std.specs.Prelude.{◌==◌, ◌&&◌, ◌||◌, option_map}
use Rattle.std.specs.List.{list_any}
use Rattle.lq_ast.specs.MakingView.{pattern_piece}
use Rattle.lq_ast.specs.PatternText.{Pieces, PatternPiece, named, before_plain, before_name, pieces_of, pieces_inside}
use Rattle.lq_ast.specs.PatternText.{plain_pieces, is_name, has_touching_names}
use Rattle.lq_ast.specs.declared.pattern.Piece.{Piece}

-- no byte of the text is this one
abbrev pub Lacks : ℕ → List ℕ → Type 0
Lacks byte text = (i : ℕ) → i < length text → get_or text i 0 ≢ byte

first_differs : (byte first : ℕ) (text : List ℕ) → Lacks byte (first ∷ text) → (first == byte) ≡ false
first_differs byte first text lacks = ne_eqb first byte (lacks 0 (omega arith))

others_lack : (byte first : ℕ) (text : List ℕ) → Lacks byte (first ∷ text) → Lacks byte text
others_lack byte first text lacks i within = lacks (suc i) (omega arith)

-- ---- where a text is cut

pub parts : (byte : ℕ) (text : List ℕ) (r : Option (Bor (List ℕ) × Bor (List ℕ))) (x : Bor (List ℕ) × Bor (List ℕ))
    → IsSplitOnceResult byte text r → byte < 128 → r ≡ Some x
    → (text ≡ x.0.now ++ (byte ∷ x.1.now)) × Lacks byte x.0.now
parts byte text r x cases ascii is = MatchOption-at_some _ _ x is (split_parts byte text r cases ascii)

pub uncut : (byte : ℕ) (text : List ℕ) (r : Option (Bor (List ℕ) × Bor (List ℕ)))
    → IsSplitOnceResult byte text r → byte < 128 → r ≡ None → Lacks byte text
uncut byte text r cases ascii is = MatchOption-at_none _ _ is (split_parts byte text r cases ascii)

-- ---- inside a name

longer_name : (byte : ℕ) (name : List ℕ) (later : Option Pieces)
    → option_map (before_name byte) (option_map (λ more. named name ∷ more) later)
    ≡ option_map (λ more. named (byte ∷ name) ∷ more) later
longer_name byte name None = refl
longer_name byte name (Some more) = refl

name_closed : (name after : List ℕ) → Lacks 62 name
    → pieces_inside (name ++ (62 ∷ after)) ≡ option_map (λ more. named name ∷ more) (pieces_of after)
name_closed [] after lacks = refl
name_closed (byte ∷ name) after lacks =
    let inside = pieces_inside (name ++ (62 ∷ after)) in
    ap (λ t. cond t (option_map (λ more. named [] ∷ more) (pieces_of (name ++ (62 ∷ after))))
    (option_map (before_name byte) inside)) (first_differs 62 byte name lacks)
    ∙ ap (option_map (before_name byte)) (name_closed name after (others_lack 62 byte name lacks))
    ∙ longer_name byte name (pieces_of after)

name_unclosed : (text : List ℕ) → Lacks 62 text → pieces_inside text ≡ None
name_unclosed [] lacks = refl
name_unclosed (byte ∷ text) lacks =
    ap (λ t. cond t (option_map (λ more. named [] ∷ more) (pieces_of text))
    (option_map (before_name byte) (pieces_inside text))) (first_differs 62 byte text lacks)
    ∙ ap (option_map (before_name byte)) (name_unclosed text (others_lack 62 byte text lacks))

-- ---- outside

plain_more : (byte : ℕ) (text : List ℕ) → (byte == 60) ≡ false
    → pieces_of (byte ∷ text) ≡ option_map (before_plain byte) (pieces_of text)
plain_more byte text differs =
    ap (λ t. cond t (pieces_inside text) (option_map (before_plain byte) (pieces_of text))) differs

longer_plain : (byte : ℕ) (text name : List ℕ) (later : Option Pieces)
    → option_map (before_plain byte) (option_map (λ more. plain_pieces text ++ (named name ∷ more)) later)
    ≡ option_map (λ more. plain_pieces (byte ∷ text) ++ (named name ∷ more)) later
longer_plain byte text name None = refl
longer_plain byte [] name (Some more) = refl
longer_plain byte (next ∷ text) name (Some more) = refl

-- a text before a name, the name, and what is behind it
pub name_found : (text name after : List ℕ) → Lacks 60 text → Lacks 62 name
    → pieces_of (text ++ (60 ∷ (name ++ (62 ∷ after))))
    ≡ option_map (λ more. plain_pieces text ++ (named name ∷ more)) (pieces_of after)
name_found [] name after plain closed = name_closed name after closed
name_found (byte ∷ text) name after plain closed =
    plain_more byte (text ++ (60 ∷ (name ++ (62 ∷ after)))) (first_differs 60 byte text plain)
    ∙ ap (option_map (before_plain byte)) (name_found text name after (others_lack 60 byte text plain) closed)
    ∙ longer_plain byte text name (pieces_of after)

longer_last : (byte : ℕ) (text : List ℕ) → before_plain byte (plain_pieces text) ≡ plain_pieces (byte ∷ text)
longer_last byte [] = refl
longer_last byte (next ∷ text) = refl

-- a text without names
pub no_name : (text : List ℕ) → Lacks 60 text → pieces_of text ≡ Some (plain_pieces text)
no_name [] plain = refl
no_name (byte ∷ text) plain =
    plain_more byte text (first_differs 60 byte text plain)
    ∙ ap (option_map (before_plain byte)) (no_name text (others_lack 60 byte text plain))
    ∙ ap Some (longer_last byte text)

-- a name that does not end
pub name_open : (text behind : List ℕ) → Lacks 60 text → Lacks 62 behind
    → pieces_of (text ++ (60 ∷ behind)) ≡ None
name_open [] behind plain unclosed = name_unclosed behind unclosed
name_open (byte ∷ text) behind plain unclosed =
    plain_more byte (text ++ (60 ∷ behind)) (first_differs 60 byte text plain)
    ∙ ap (option_map (before_plain byte)) (name_open text behind (others_lack 60 byte text plain) unclosed)

-- ---- the loop

-- the pieces of the whole text, where these were read and this is left
abbrev pub read_on : Pieces → List ℕ → Option Pieces
read_on front rest = option_map (λ more. front ++ more) (pieces_of rest)

gathered : (front plains : Pieces) (name : List ℕ) (later : Option Pieces)
    → option_map (λ more. front ++ more) (option_map (λ more. plains ++ (named name ∷ more)) later)
    ≡ option_map (λ more. ((front ++ plains) ++ (named name ∷ [])) ++ more) later
gathered front plains name None = refl
gathered front plains name (Some more) =
    ap Some (sym (append_assoc (front ++ plains) (named name ∷ []) more
    ∙ append_assoc front plains (named name ∷ more)))

pub read_name : (front first second : Pieces) (rest text behind name after : List ℕ)
    → rest ≡ text ++ (60 ∷ behind) → Lacks 60 text → behind ≡ name ++ (62 ∷ after) → Lacks 62 name
    → first ≡ front ++ plain_pieces text → second ≡ first ++ (named name ∷ [])
    → read_on second after ≡ read_on front rest
read_name front first second rest text behind name after split plain split_behind closed pushed pushed_name =
    let found : pieces_of rest ≡ option_map (λ more. plain_pieces text ++ (named name ∷ more)) (pieces_of after) =
    ap pieces_of (split ∙ ap (λ b. text ++ (60 ∷ b)) split_behind) ∙ name_found text name after plain closed in
    let all : second ≡ (front ++ plain_pieces text) ++ (named name ∷ []) =
    pushed_name ∙ ap (λ f. f ++ (named name ∷ [])) pushed in
    ap (λ f. read_on f after) all
    ∙ sym (gathered front (plain_pieces text) name (pieces_of after))
    ∙ ap (option_map (λ more. front ++ more)) (sym found)

pub read_last : (front all : Pieces) (rest : List ℕ) → Lacks 60 rest → all ≡ front ++ plain_pieces rest
    → read_on front rest ≡ Some all
read_last front all rest plain pushed =
    ap (option_map (λ more. front ++ more)) (no_name rest plain) ∙ ap Some (sym pushed)

pub read_open : (front : Pieces) (rest text behind : List ℕ) → rest ≡ text ++ (60 ∷ behind)
    → Lacks 60 text → Lacks 62 behind → read_on front rest ≡ None
read_open front rest text behind split plain unclosed =
    ap (λ r. option_map (λ more. front ++ more) (pieces_of r)) split
    ∙ ap (option_map (λ more. front ++ more)) (name_open text behind plain unclosed)

-- ---- names that touch

-- Two names touch, where a name or no name stands before.
abbrev pub touch_after : Bool → Pieces → Bool
touch_after follows_name [] = false
touch_after follows_name (piece ∷ pieces) = (follows_name && is_name piece) || touch_after (is_name piece) pieces

touch_behind : (first : PatternPiece) (pieces : Pieces)
    → has_touching_names (first ∷ pieces) ≡ touch_after (is_name first) pieces
touch_behind first [] = refl
touch_behind first (second ∷ pieces) =
    ap (λ t. (is_name first && is_name second) || t) (touch_behind second pieces)

pub touch_at_all : (pieces : Pieces) → touch_after false pieces ≡ has_touching_names pieces
touch_at_all [] = refl
touch_at_all (first ∷ pieces) = sym (touch_behind first pieces)

pub any_name : (pieces : List Piece)
    → list_any (λ piece. is_name (pattern_piece piece)) pieces ≡ list_any is_name (map pattern_piece pieces)
any_name [] = refl
any_name (piece ∷ pieces) = ap (λ t. is_name (pattern_piece piece) || t) (any_name pieces)
