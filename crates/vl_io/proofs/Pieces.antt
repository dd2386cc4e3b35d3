-- Reading in pieces, over plain lists.
use Rattle.std.proofs.Common.{◌≡◌, ℕ, zero, suc, ◌+◌, ◌-◌, ◌<◌, min, List, [], ◌∷◌, ◌++◌, length, take, drop, get_or, All, sym, ap, ◌∙◌, arith}
use Rattle.std.proofs.lemmas.List.{take-append-drop, drop-drop, nil_from_length, take_rest}

-- a piece at the front of a buffer, and the bytes after it
pub piece_taken : (left bytes piece : List ℕ) (at n : ℕ) → drop at bytes ≡ left → piece ≡ take n
    (take (length bytes - at) (drop at bytes))
    → left ≡ piece ++ drop (at + n) bytes
piece_taken left bytes piece at n here front =
    sym here ∙ sym (take-append-drop n (drop at bytes)) ∙ ap (λ l. take n (drop at bytes) ++ l) (drop-drop n at bytes)
    ∙ ap (λ l. l ++ drop (at + n) bytes) (sym (front ∙ ap (take n) (take_rest bytes at)))

-- the limit on a read is at least 1
pub limit_positive : (pieces : List ℕ) (call room : ℕ) → All (λ piece. 0 < piece) pieces → 0 < room
    → 0 < get_or pieces call room
limit_positive [] call room positive some = some
limit_positive (x ∷ xs) zero room positive some = positive 0 room (omega arith)
limit_positive (x ∷ xs) (suc call) room positive some = limit_positive xs call room
    (λ k d h. positive (suc k) d (omega arith)) some

-- a read into a buffer with room gives nothing only where nothing is left
pub nothing_left : (left bytes pieces : List ℕ) (call at room n : ℕ) → drop at bytes ≡ left → All
    (λ piece. 0 < piece) pieces → 0 < room
    → n ≡ min (min (get_or pieces call room) room) (length left) → n ≡ 0 → drop (at + n) bytes ≡ []
nothing_left left bytes pieces call at room n here positive some e z =
    let limit = limit_positive pieces call room positive some in
    let none : left ≡ [] = nil_from_length left (omega arith) in
    sym (drop-drop n at bytes) ∙ ap (drop n) (here ∙ none) ∙ ap (λ k. drop k []) z
