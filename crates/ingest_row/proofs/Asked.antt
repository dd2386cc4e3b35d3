-- What a list of pieces asks for, piece by piece.
use Rattle.std.proofs.Common.{◌≡◌, ◌∙◌, ◌<◌, ◌==◌, ◌∷◌, [], ◌++◌, List, ℕ, true, false, Some, None, is_some, cond}
use Rattle.std.proofs.Common.{length, map, get_or, refl, ap, arith, Bor}
use Rattle.std.proofs.lemmas.Grind.{common_steps}
use Rattle.std.proofs.lemmas.List.Elements.{filter_map-append}
use Rattle.std.proofs.lemmas.List.Folds.{list_all_at, list_all-map}
use Rattle.std.specs.List.{list_all, list_any, filter_map, position_or_len}
use Rattle.log_model.specs.Field.{Field}
use Rattle.ingest_row.specs.Ingest.{is_named}
use Rattle.ingest_row.specs.Asked.{extra_of, extras_of}

lacks : (c : ℕ) (bytes : List ℕ) → position_or_len (λ b. b == c) bytes ≡ length bytes
    → list_any (λ b. b == c) bytes ≡ false
lacks c [] h = refl
lacks c (byte ∷ bytes) h = let rest = lacks c bytes in grind (arith, common_steps)

-- a piece with no `=` is not a field
pub extra_none : (piece : List ℕ) → position_or_len (λ b. b == 61) piece ≡ length piece → extra_of piece ≡ None
unfolding extra_of
extra_none piece none_found = let h = lacks 61 piece none_found in grind (arith, common_steps)

-- a piece that is a field has a name
extra_named : (piece : List ℕ) (field : Field) → extra_of piece ≡ Some field → is_named field ≡ true
unfolding extra_of
extra_named piece field is = grind (arith, common_steps)

all_named : (pieces : List (List ℕ)) → list_all is_named (filter_map extra_of pieces) ≡ true
all_named [] = refl
all_named (piece ∷ pieces) = let h = extra_named piece in let rest = all_named pieces in grind (arith, common_steps)

-- what is added has names
pub extras_named : (pieces : List (List ℕ)) (fields : List Field) → extras_of pieces ≡ Some fields
    → list_all is_named fields ≡ true
unfolding extras_of
extras_named pieces fields is = let h = all_named pieces in grind (arith, common_steps)

-- where one piece is not a field, nothing is asked for
pub extras_none : (pieces : List (Bor (List ℕ))) (i : ℕ) (other : Bor (List ℕ))
    → i < length pieces → extra_of (get_or pieces i other).now ≡ None
    → extras_of (map (λ piece. piece.now) pieces) ≡ None
unfolding extras_of
extras_none pieces i other within bad =
    let texts = map (λ (piece : Bor (List ℕ)). piece.now) pieces in
    let is_field = λ (text : List ℕ). is_some (extra_of text) in
    ap (λ all. cond all (Some (filter_map extra_of texts)) None)
    (list_all-map is_field (λ piece. piece.now) pieces
    ∙ list_all_at (λ piece. is_field piece.now) pieces i other within (ap is_some bad))

-- one more piece that is a field
pub extras_push : (pieces : List (List ℕ)) (piece : List ℕ) (fields : List Field) (field : Field)
    → extras_of pieces ≡ Some fields → extra_of piece ≡ Some field
    → extras_of (pieces ++ piece ∷ []) ≡ Some (fields ++ field ∷ [])
unfolding extras_of
extras_push pieces piece fields field so_far is = grind (arith, common_steps, filter_map-append)
