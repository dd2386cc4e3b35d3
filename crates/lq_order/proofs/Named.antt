-- Values that have names.
use Rattle.std.proofs.Common.{◌≡◌, ℕ, suc, Bool, true, false, not, ◌&&◌, cond, List, [], ◌∷◌, length, map, zip, bytes_eq}
use Rattle.std.proofs.Common.{Option, Some, None, is_some, refl, sym, ap, ◌∙◌, arith}
use Rattle.std.proofs.lemmas.Bool.{ltb-true}
use Rattle.std.specs.BTreeMap.{insert_entry}
use Rattle.std.specs.List.{list_all}
use Rattle.std.specs.Ordering.{match_ordering}
use Rattle.std.specs.declared.cmp.Ordering.TheVariants.{Equal, Greater, Less}
use Rattle.log_model.specs.Field.{Field, IsFieldList, bytes_cmp, field_value, is_empty, is_filled, set_all, set_field}
use Rattle.log_model.specs.Field.{without}
use Rattle.lq_ast.proofs.Sorted.{split_bool}
use Rattle.lq_ast.specs.Records.{Record, put_fields}
use Rattle.lq_ast.specs.Tuples.{Tuple, tuple_of}
use Rattle.lq_order.specs.Groups.{IsNamed, named}

and_right : (a b : Bool) → (a && b) ≡ true → b ≡ true
and_right true b h = h
and_right false b h = absurd cc

empty_is : (name : List ℕ) → is_empty name ≡ true → name ≡ []
empty_is [] e = refl
empty_is (byte ∷ bytes) e = let short = ltb-true (suc (length bytes)) 1 e in absurd (omega arith)

no_nameless : (r : Record) → list_all is_filled r ≡ true → field_value r [] ≡ []
no_nameless [] filled = refl
no_nameless (([], value) ∷ r) filled = absurd cc
no_nameless (((byte ∷ bytes), value) ∷ r) filled =
    no_nameless r (and_right (is_filled (byte ∷ bytes, value)) (list_all is_filled r) filled)

named_same : (name value : List ℕ) → (is_empty name ≡ true → value ≡ []) → named (name, value) ≡ (name, value)
named_same name value none =
    ap (λ v. (name, v))
    (split_bool (is_empty name) (λ t. cond t [] value ≡ value) (λ e. sym (none e)) (λ e. refl))

names_told : (names : List (List ℕ)) (r : Record) → field_value r [] ≡ [] → IsNamed names (tuple_of names r)
names_told [] r none = refl
names_told (name ∷ names) r none =
    let one = named_same name (field_value r name) (λ e. ap (field_value r) (empty_is name e) ∙ none) in
    let others = names_told names r none in
    λ i. one i ∷ others i

pub values_named : (names : List (List ℕ)) (r : Record) → IsFieldList r → IsNamed names (tuple_of names r)
values_named names r rules = names_told names r (no_nameless r rules.filled)

-- ---- texts of tuples that are not wholly empty

pub some_full : {A : Type 0} (x : A) (empty : Bool) → is_some (Some x) ≡ not empty → empty ≡ false
some_full x true e = absurd cc
some_full x false e = refl

pub none_empty : {A : Type 0} (o : Option A) (empty : Bool) → ((x : A) → o ≡ Some x → ⊥) → is_some o ≡ not empty
    → empty ≡ true
none_empty (Some x) empty out e = absurd (out x refl)
none_empty None true out e = refl
none_empty None false out e = absurd cc

-- ---- fields that are set one after another

has_name : Field → Bool
has_name field = not (is_empty field.0)

-- No field of the record lacks a name.
AreNamed : Record → Type 0
AreNamed r = list_all has_name r ≡ true

and_both : (a b : Bool) → a ≡ true → b ≡ true → (a && b) ≡ true
and_both a b ha hb = (λ i. ha i && hb i)

and_left : (a b : Bool) → (a && b) ≡ true → a ≡ true
and_left true b h = refl
and_left false b h = absurd cc

nothing_removed : (r : Record) → AreNamed r → without r [] ≡ r
unfolding has_name AreNamed
nothing_removed [] h = refl
nothing_removed (([], value) ∷ r) h = absurd cc
nothing_removed (((byte ∷ bytes), value) ∷ r) h =
    ap (λ l. (byte ∷ bytes, value) ∷ l) (nothing_removed r (and_right (has_name (byte ∷ bytes, value)) (list_all has_name r) h))

removed_named : (r : Record) (name : List ℕ) → AreNamed r → AreNamed (without r name)
unfolding has_name AreNamed
removed_named [] name h = refl
removed_named (field ∷ r) name h =
    let first = and_left (has_name field) (list_all has_name r) h in
    let rest = and_right (has_name field) (list_all has_name r) h in
    elim (bytes_eq name field.0) as (λ t. list_all has_name (cond t r (field ∷ without r name)) ≡ true) [
      | true ↦ rest
      | false ↦ and_both (has_name field) (list_all has_name (without r name)) first (removed_named r name rest)
    ]

inserted_named : (r : Record) (name value : List ℕ) → is_empty name ≡ false → AreNamed r
    → AreNamed (insert_entry bytes_cmp r name value)
unfolding has_name AreNamed
inserted_named [] name value some h = and_both (not (is_empty name)) true (ap not some) refl
inserted_named (field ∷ r) name value some h =
    let first = and_left (has_name field) (list_all has_name r) h in
    let rest = and_right (has_name field) (list_all has_name r) h in
    elim (bytes_cmp name field.0) as
    (λ o. list_all has_name (match_ordering o ((name, value) ∷ field ∷ r) ((field.0, value) ∷ r)
    (field ∷ insert_entry bytes_cmp r name value)) ≡ true) [
      | Less ↦ and_both (not (is_empty name)) (list_all has_name (field ∷ r)) (ap not some) h
      | Equal ↦ and_both (has_name field) (list_all has_name r) first rest
      | Greater ↦ and_both (has_name field) (list_all has_name (insert_entry bytes_cmp r name value)) first
          (inserted_named r name value some rest)
    ]

set_named : (r : Record) (name value : List ℕ) → is_empty name ≡ false → AreNamed r → AreNamed (set_field r name value)
set_named r name [] some h = removed_named r name h
set_named r name (byte ∷ bytes) some h = inserted_named r name (byte ∷ bytes) some h

-- Values that have names are set as values are put.
put_alike : (r : Record) (fields : List Field) → AreNamed r → map named fields ≡ fields
    → put_fields r fields ≡ set_all r fields
unfolding has_name AreNamed
put_alike r [] h each = refl
put_alike r ((name, value) ∷ fields) h each =
    let one : named (name, value) ≡ (name, value) = cc in
    let others : map named fields ≡ fields = cc in
    split_bool (is_empty name)
    (λ t. cond t [] value ≡ value
    → put_fields (cond t r (set_field r name value)) fields ≡ set_all (set_field r name value) fields)
    (λ e none.
    let same : set_field r name value ≡ r =
    ap (λ v. set_field r name v) (sym none) ∙ ap (λ n. without r n) (empty_is name e) ∙ nothing_removed r h in
    put_alike r fields h others ∙ ap (λ s. set_all s fields) (sym same))
    (λ e some. put_alike (set_field r name value) fields (set_named r name value e h) others)
    (ap (λ f. f.1) one)

pub named_put : (names : List (List ℕ)) (t : Tuple) → IsNamed names t
    → put_fields [] (zip names t) ≡ set_all [] (zip names t)
unfolding has_name AreNamed
named_put names t h = put_alike [] (zip names t) refl h
