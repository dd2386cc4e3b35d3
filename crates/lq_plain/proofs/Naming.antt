-- Named values, and sorted lists of them.
use Rattle.std.proofs.Common.{◌≡◌, ℕ, suc, Bool, true, false, ◌&&◌, List, [], ◌∷◌, length, refl, arith, ap, ◌∙◌}
use Rattle.std.proofs.lemmas.Bool.{eqb-true}
use Rattle.std.proofs.lemmas.List.Filters.{All-dedup}
use Rattle.std.specs.Bool.{◌==◌}
use Rattle.std.specs.List.{All, list_all}
use Rattle.std.specs.Ordering.{is_eq}
use Rattle.std.specs.declared.cmp.Ordering.{Ordering}
use Rattle.log_model.specs.Field.{IsFieldList, field_value, is_filled, without}
use Rattle.lq_ast.proofs.Sorted.{all_at, all_from_places, all_sorted}
use Rattle.lq_ast.specs.Records.{Record}
use Rattle.lq_ast.specs.Tuples.{Tuple, distinct_by, sorted_by, tuple_cmp, tuple_of}
use Rattle.lq_plain.specs.Named.{IsNamed}

and_right : (a b : Bool) → (a && b) ≡ true → b ≡ true
and_right true b h = h
and_right false b h = absurd cc

pub no_bytes : (text : List ℕ) → (length text == 0) ≡ true → text ≡ []
no_bytes [] e = refl
no_bytes (byte ∷ bytes) e = let none = eqb-true (suc (length bytes)) 0 e in absurd (omega arith)

-- ---- every field has a name

no_nameless : (r : Record) → list_all is_filled r ≡ true → field_value r [] ≡ []
no_nameless [] filled = refl
no_nameless (([], value) ∷ r) filled = absurd cc
no_nameless (((byte ∷ bytes), value) ∷ r) filled =
    no_nameless r (and_right (is_filled (byte ∷ bytes, value)) (list_all is_filled r) filled)

named_from : (names : List (List ℕ)) (r : Record) → field_value r [] ≡ [] → IsNamed names (tuple_of names r)
named_from [] r none = tt
named_from (name ∷ names) r none = (λ e. ap (field_value r) e ∙ none, named_from names r none)

pub values_named : (names : List (List ℕ)) (r : Record) → IsFieldList r → IsNamed names (tuple_of names r)
values_named names r rules = named_from names r (no_nameless r rules.filled)

nothing_removed : (r : Record) → list_all is_filled r ≡ true → without r [] ≡ r
nothing_removed [] filled = refl
nothing_removed (([], value) ∷ r) filled = absurd cc
nothing_removed (((byte ∷ bytes), value) ∷ r) filled =
    ap (λ l. (byte ∷ bytes, value) ∷ l)
    (nothing_removed r (and_right (is_filled (byte ∷ bytes, value)) (list_all is_filled r) filled))

-- Every field has a name, so none without one can be removed.
pub no_field_removed : (r : Record) → IsFieldList r → without r [] ≡ r
no_field_removed r rules = nothing_removed r rules.filled

-- ---- sorted lists

pub All-sorted_by : {A : Type 0} (order : A → A → Ordering) (P : A → Type 0) (xs : List A) → All P xs
    → All P (sorted_by order xs)
All-sorted_by order P xs all =
    all_at P (sorted_by order xs) (all_sorted order P xs (all_from_places P xs all))

pub All-distinct_by : (P : Tuple → Type 0) (xs : List Tuple) → All P xs → All P (distinct_by tuple_cmp xs)
All-distinct_by P xs all =
    All-dedup (λ x y. is_eq (tuple_cmp x y)) P (sorted_by tuple_cmp xs) (All-sorted_by tuple_cmp P xs all)
