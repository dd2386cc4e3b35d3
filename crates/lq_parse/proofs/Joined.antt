-- Names with commas between, one after another.
use Rattle.std.proofs.Common.{◌≡◌, ℕ, zero, suc, ◌+◌, ◌<◌, List, [], ◌∷◌, ◌++◌, take, length, get_or, sym, ap}
use Rattle.std.proofs.Common.{◌∙◌, ◌-◌, ◌≤◌, drop, subst, arith, add-one, append_assoc}
use Rattle.std.proofs.lemmas.List.{append-nil, take_all}
use Rattle.std.specs.List.{join_with_byte}
use Rattle.lq_grammar.specs.Values.{Bytes}

-- names that each stand after a comma
abbrev pub commas : List Bytes → Bytes
commas [] = []
commas (x ∷ xs) = 44 ∷ (x ++ commas xs)

pub joined : (x : Bytes) (xs : List Bytes) → join_with_byte 44 (x ∷ xs) ≡ x ++ commas xs
joined x [] = sym (append-nil x)
joined x (y ∷ xs) = ap (λ (l : Bytes). x ++ 44 ∷ l) (joined y xs)

pub one_more : (xs : List Bytes) (i : ℕ) (d : Bytes) → i < length xs
    → commas (take (i + 1) xs) ≡ commas (take i xs) ++ 44 ∷ get_or xs i d
one_more xs i d h = ap (λ (n : ℕ). commas (take n xs)) (add-one i) ∙ further xs i h
  where
    further : (xs : List Bytes) (i : ℕ) → i < length xs
        → commas (take (suc i) xs) ≡ commas (take i xs) ++ 44 ∷ get_or xs i d
    further [] i h = absurd (omega arith)
    further (x ∷ xs) zero h = ap (λ (l : Bytes). 44 ∷ l) (append-nil x)
    further (x ∷ xs) (suc i) h =
        ap (λ (l : Bytes). 44 ∷ (x ++ l)) (further xs i (omega arith))
        ∙ ap (λ (l : Bytes). 44 ∷ l) (sym (append_assoc x (commas (take i xs)) (44 ∷ get_or xs i d)))

pub one_text : (others : List Bytes) (i : ℕ) (d start text a b name : Bytes) → i < length others
    → text ≡ start ++ commas (take i others) → a ≡ text ++ 44 ∷ [] → b ≡ a ++ name → name ≡ get_or others i d
    → b ≡ start ++ commas (take (i + 1) others)
one_text others i d start text a b name h before comma more is =
    more ∙ ap (λ (l : Bytes). l ++ name) comma ∙ append_assoc text (44 ∷ []) name
    ∙ ap (λ (l : Bytes). l ++ 44 ∷ name) before ∙ append_assoc start (commas (take i others)) (44 ∷ name)
    ∙ ap (λ (l : Bytes). start ++ (commas (take i others) ++ 44 ∷ l)) is
    ∙ ap (λ (l : Bytes). start ++ l) (sym (one_more others i d h))

pub whole_text : (names : List Bytes) (i : ℕ) (d text start a name : Bytes) → 1 ≤ length names
    → length (take (length names - 1) (drop 1 names)) ≤ i
    → text ≡ a ++ commas (take i (take (length names - 1) (drop 1 names))) → a ≡ start ++ name
    → name ≡ get_or names 0 d → text ≡ start ++ join_with_byte 44 names
whole_text [] i d text start a name some over is begins first = absurd (omega arith)
whole_text (x ∷ xs) i d text start a name some over is begins first =
    let all : take (length (x ∷ xs) - 1) xs ≡ xs = take_all (length (x ∷ xs) - 1) xs (omega arith) in
    let most : length xs ≤ i = subst (λ (l : List Bytes). length l ≤ i) all over in
    is ∙ ap (λ (l : List Bytes). a ++ commas (take i l)) all
    ∙ ap (λ (l : List Bytes). a ++ commas l) (take_all i xs most)
    ∙ ap (λ (l : Bytes). l ++ commas xs) (begins ∙ ap (λ (l : Bytes). start ++ l) first)
    ∙ append_assoc start x (commas xs) ∙ ap (λ (l : Bytes). start ++ l) (sym (joined x xs))
