-- A word among the entries of a list.
use Rattle.std.proofs.Common.{◌≡◌, ℕ, ◌+◌, ◌<◌, ◌≤◌, Bool, true, false, cond, List, drop, map, length}
use Rattle.std.proofs.Common.{get_or, IsTrue, ◌↔◌, refl, sym, ap, ◌∙◌, add-one, drop-cons}
use Rattle.std.proofs.lemmas.Bool.{false_from_ne_true}
use Rattle.std.proofs.lemmas.List.{drop_all}
use Rattle.std.proofs.lemmas.Slice.Eq.{bytes_eq-Decides}
use Rattle.std.specs.Str.{bytes_eq}
use denote.Ref.{Bor}
use Rattle.lq_grammar.specs.declared.role.Role.{Role}
use Rattle.lq_grammar.specs.declared.role.Role.TheVariants.{Bare}
use Rattle.lq_grammar.specs.Values.{Bytes}
use Rattle.lq_grammar.specs.Items.{role_in, entry_of}

abbrev Entry : Type 0
Entry = Bor Bytes × Role

pub tested : (b : Bool) (x y : Bytes) → (IsTrue b ↔ (x ≡ y)) → bytes_eq x y ≡ b
tested true x y test = (bytes_eq-Decides x y).1 (test.0 refl)
tested false x y test =
    false_from_ne_true (bytes_eq x y) (λ h. let e : IsTrue false = test.1 ((bytes_eq-Decides x y).0 h) in absurd cc)

entered : (entries : List Entry) (i : ℕ) (d : Entry) (word : Bytes) → i < length entries
    → role_in (map entry_of (drop i entries)) word
    ≡ cond (bytes_eq word (entry_of (get_or entries i d)).0) (get_or entries i d).1
    (role_in (map entry_of (drop (i + 1) entries)) word)
entered entries i d word h = ap (λ (l : List Entry). role_in (map entry_of l) word) (drop-cons entries i d h)
    ∙ ap (λ (n : ℕ). cond (bytes_eq word (entry_of (get_or entries i d)).0) (get_or entries i d).1 (role_in (map entry_of (drop n entries)) word)) (sym (add-one i))

pub over : (entries : List Entry) (i : ℕ) (word : Bytes) → length entries ≤ i → role_in (map entry_of (drop i entries)) word ≡ Bare
over entries i word h = ap (λ (l : List Entry). role_in (map entry_of l) word) (drop_all i entries h)

pub found : (entries : List Entry) (i : ℕ) (d : Entry) (word : Bytes) (role : Role) → i < length entries
    → bytes_eq word (entry_of (get_or entries i d)).0 ≡ true → role_in (map entry_of (drop i entries)) word ≡ role
    → (get_or entries i d).1 ≡ role
found entries i d word role h e before =
    sym (entered entries i d word h ∙ ap (λ (b : Bool). cond b (get_or entries i d).1 (role_in (map entry_of (drop (i + 1) entries)) word)) e) ∙ before

pub passed : (entries : List Entry) (i : ℕ) (d : Entry) (word : Bytes) (role : Role) → i < length entries
    → bytes_eq word (entry_of (get_or entries i d)).0 ≡ false → role_in (map entry_of (drop i entries)) word ≡ role
    → role_in (map entry_of (drop (i + 1) entries)) word ≡ role
passed entries i d word role h e before =
    sym (entered entries i d word h ∙ ap (λ (b : Bool). cond b (get_or entries i d).1 (role_in (map entry_of (drop (i + 1) entries)) word)) e) ∙ before
