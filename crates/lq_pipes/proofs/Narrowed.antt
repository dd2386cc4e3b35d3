-- Records of some of their fields only.
use Rattle.std.proofs.Common.{◌≡◌, ℕ, Bool, true, false, not, ◌||◌, cond, List, [], ◌∷◌, ◌++◌}
use Rattle.std.proofs.Common.{refl, sym, ap, ◌∙◌, filter, map, fold, bytes_eq, unwrap_or, arith}
use Rattle.std.specs.BTreeMap.{insert_entry}
use Rattle.std.specs.List.{AllByRecursion}
use Rattle.std.specs.List.Sorted.{IsStrictlySortedBy}
use Rattle.std.specs.Map.{keys_of}
use Rattle.std.specs.Ordering.{is_eq, match_ordering}
use Rattle.std.specs.declared.cmp.Ordering.{Ordering}
use Rattle.std.specs.declared.cmp.Ordering.TheVariants.{Less, Equal, Greater}
use Rattle.std.proofs.lemmas.List.Folds.{list_any-append}
use Rattle.std.proofs.lemmas.Map.Entries.{lookup-filter-keys}
use Rattle.std.proofs.lemmas.Map.Text.{is_eq-slice_cmp}
use Rattle.std.proofs.lemmas.Slice.Eq.{bytes_eq-Decides}
use Rattle.log_model.specs.Field.{Field, bytes_cmp, field_value, is_empty, set_field, without}
use Rattle.lq_ast.specs.Records.{Record, copied, copy_fields, is_one_of, only_fields, put_field, rename_fields, renamed}
use Rattle.lq_ast.specs.Records.{without_fields}
use Rattle.lq_ast.specs.Stage.{NamePair}
use Rattle.lq_ast.proofs.Sorted.{split_bool}
use Rattle.vl_row.specs.Place.{AllAbove, IsInOrder}
use Rattle.vl_row.proofs.NameOrder.{less_from_greater}
use Rattle.vl_row.proofs.Sorted.{above_from, gap}

-- ---- names

-- Each of the names is one of the others.
pub record Covers (more names : List (List ℕ)) : Type 0 where
  pub each : (name : List ℕ) → is_one_of names name ≡ true → is_one_of more name ≡ true

true_or : (a b : Bool) → a ≡ true → (a || b) ≡ true
true_or true b h = refl
true_or false b h = absurd cc

or_true : (a b : Bool) → b ≡ true → (a || b) ≡ true
or_true true b h = refl
or_true false b h = h

pub covers_first : (first others more : List (List ℕ)) → Covers more (first ++ others) → Covers more first
covers_first first others more covers = record {
  each = λ name one. covers.each name
      (list_any-append (bytes_eq name) first others ∙ true_or (is_one_of first name) (is_one_of others name) one);
}

pub covers_others : (first others more : List (List ℕ)) → Covers more (first ++ others) → Covers more others
covers_others first others more covers = record {
  each = λ name one. covers.each name
      (list_any-append (bytes_eq name) first others ∙ or_true (is_one_of first name) (is_one_of others name) one);
}

itself : (name : List ℕ) → bytes_eq name name ≡ true
itself name = (bytes_eq-Decides name name).1 refl

pub covers_head : (name : List ℕ) (names more : List (List ℕ)) → Covers more (name ∷ names) → is_one_of more name ≡ true
covers_head name names more covers = covers.each name (true_or (bytes_eq name name) (is_one_of names name)
    (itself name))

pub covers_tail : (name : List ℕ) (names more : List (List ℕ)) → Covers more (name ∷ names) → Covers more names
covers_tail name names more covers = covers_others (name ∷ []) names more covers

pub covers_itself : (names : List (List ℕ)) → Covers names names
covers_itself names = record { each = λ name one. one }

pub same_one : (names : List (List ℕ)) (a b : List ℕ) → bytes_eq a b ≡ true → is_one_of names b ≡ is_one_of names a
same_one names a b e = sym (ap (is_one_of names) ((bytes_eq-Decides a b).0 e))

-- ---- fields that are left out

pub value_kept : (names : List (List ℕ)) (r : Record) (name : List ℕ) → is_one_of names name ≡ true
    → field_value (only_fields names r) name ≡ field_value r name
value_kept names r name one =
    ap (λ found. unwrap_or found []) (lookup-filter-keys (bytes_eq name) (is_one_of names) true
    (λ k same. same_one names name k same ∙ one) r)

not_covered : (more names : List (List ℕ)) → Covers more names → (name : List ℕ) → is_one_of more name ≡ false
    → is_one_of names name ≡ false
not_covered more names covers name out =
    split_bool (is_one_of names name) (λ t. t ≡ false)
    (λ one. let both : true ≡ false = sym (covers.each name one) ∙ out in absurd cc)
    (λ e. refl)

pub only_twice : (more names : List (List ℕ)) → Covers more names → (r : Record)
    → only_fields names (only_fields more r) ≡ only_fields names r
only_twice more names covers [] = refl
only_twice more names covers (field ∷ r) =
    split_bool (is_one_of more field.0)
    (λ t. only_fields names (cond t (field ∷ only_fields more r) (only_fields more r)) ≡ only_fields names (field ∷ r))
    (λ one. ap (λ l. cond (is_one_of names field.0) (field ∷ l) l) (only_twice more names covers r))
    (λ out. only_twice more names covers r
    ∙ ap (λ t. cond t (field ∷ only_fields names r) (only_fields names r)) (sym
    (not_covered more names covers field.0 out)))

filters_turned : {A : Type 0} (p q : A → Bool) (xs : List A) → filter p (filter q xs) ≡ filter q (filter p xs)
filters_turned p q [] = refl
filters_turned p q (x ∷ xs) = at (p x) (q x) refl refl (filters_turned p q xs)
  where
    at : (s t : Bool) → p x ≡ s → q x ≡ t → filter p (filter q xs) ≡ filter q (filter p xs)
        → filter p (cond t (x ∷ filter q xs) (filter q xs)) ≡ filter q (cond s (x ∷ filter p xs) (filter p xs))
    at true true e f same =
        ap (λ b. cond b (x ∷ filter p (filter q xs)) (filter p (filter q xs))) e ∙ ap (λ l. x ∷ l) same
        ∙ sym (ap (λ b. cond b (x ∷ filter q (filter p xs)) (filter q (filter p xs))) f)
    at true false e f same = same ∙ sym (ap (λ b. cond b (x ∷ filter q (filter p xs)) (filter q (filter p xs))) f)
    at false true e f same = ap (λ b. cond b (x ∷ filter p (filter q xs)) (filter p (filter q xs))) e ∙ same
    at false false e f same = same

pub deleted_kept : (more names gone : List (List ℕ)) → Covers more names → (r : Record)
    → only_fields names (without_fields gone (only_fields more r)) ≡ only_fields names (without_fields gone r)
deleted_kept more names gone covers r =
    let p = λ (field : Field). is_one_of names field.0 in
    let q = λ (field : Field). not (is_one_of gone field.0) in
    filters_turned p q (only_fields more r) ∙ ap (filter q) (only_twice more names covers r) ∙ sym
    (filters_turned p q r)

-- ---- fields in order

pub all_filtered : {A : Type 0} (P : A → Type 0) (p : A → Bool) (xs : List A) → AllByRecursion P xs
    → AllByRecursion P (filter p xs)
all_filtered P p [] h = tt
all_filtered P p (x ∷ xs) h =
    let rest = all_filtered P p xs h.1 in
    elim (p x) as (λ b. AllByRecursion P (cond b (x ∷ filter p xs) (filter p xs))) [ true ↦ (h.0, rest) | false ↦ rest ]

pub in_order_rest : (field : Field) (r : Record) → IsInOrder (field ∷ r) → IsInOrder r
unfolding IsStrictlySortedBy
in_order_rest field r s = s.1

-- a name that comes before a field comes before those after it
pub all_above : (field : Field) (r : Record) (name : List ℕ) → IsInOrder (field ∷ r) → bytes_cmp name field.0 ≡ Less
    → AllAbove (field ∷ r) name
all_above field r name s less = above_from (field ∷ r) name 0 field s (omega arith) refl less

pub inserted_first : (r : Record) (name value : List ℕ) → AllAbove r name
    → insert_entry bytes_cmp r name value ≡ (name, value) ∷ r
inserted_first r name value above = (gap r name 0 (omega arith) tt above).inserted value

insert_at : List ℕ → List ℕ → Field → Record → Ordering → Record
insert_at name value field r order =
    match_ordering order ((name, value) ∷ field ∷ r) ((field.0, value) ∷ r) (field
    ∷ insert_entry bytes_cmp r name value)

named_alike : (name : List ℕ) (field : Field) → bytes_cmp name field.0 ≡ Equal → name ≡ field.0
named_alike name field e =
    (bytes_eq-Decides name field.0).0 (sym (is_eq-slice_cmp name field.0) ∙ ap is_eq e)

pub inserted_kept : (names : List (List ℕ)) (name value : List ℕ) (r : Record) → IsInOrder r
    → only_fields names (insert_entry bytes_cmp r name value)
    ≡ cond (is_one_of names name) (insert_entry bytes_cmp (only_fields names r) name value) (only_fields names r)
inserted_kept names name value [] s = refl
inserted_kept names name value (field ∷ r) s =
    at (bytes_cmp name field.0) refl (inserted_kept names name value r (in_order_rest field r s))
  where
    kept : Record
    kept = only_fields names r

    at : (order : Ordering) → bytes_cmp name field.0 ≡ order
        → only_fields names (insert_entry bytes_cmp r name value)
        ≡ cond (is_one_of names name) (insert_entry bytes_cmp (only_fields names r) name value) (only_fields names r)
        → only_fields names (match_ordering order ((name, value) ∷ field ∷ r) ((field.0, value) ∷ r)
        (field ∷ insert_entry bytes_cmp r name value))
        ≡ cond (is_one_of names name) (insert_entry bytes_cmp (only_fields names (field ∷ r)) name value)
        (only_fields names (field ∷ r))
    at Less e later =
        let above = all_filtered (λ f. bytes_cmp name f.0 ≡ Less) (λ f. is_one_of names f.0) (field ∷ r)
        (all_above field r name s e) in
        ap (λ l. cond (is_one_of names name) l (only_fields names (field ∷ r)))
        (sym (inserted_first (only_fields names (field ∷ r)) name value above))
    at Equal e later =
        split_bool (is_one_of names field.0)
        (λ t. cond t ((field.0, value) ∷ only_fields names r) (only_fields names r)
        ≡ cond (is_one_of names name) (insert_entry bytes_cmp (cond t (field ∷ only_fields names r)
        (only_fields names r)) name value)
        (cond t (field ∷ only_fields names r) (only_fields names r)))
        (λ one. sym (ap (λ t. cond t (insert_entry bytes_cmp (field ∷ only_fields names r) name value) (field
        ∷ only_fields names r))
        (ap (is_one_of names) (named_alike name field e) ∙ one)
        ∙ ap (λ o. match_ordering o ((name, value) ∷ field ∷ only_fields names r) ((field.0, value)
        ∷ only_fields names r)
        (field ∷ insert_entry bytes_cmp (only_fields names r) name value)) e))
        (λ out. sym (ap (λ t. cond t (insert_entry bytes_cmp (only_fields names r) name value) (only_fields names r))
        (ap (is_one_of names) (named_alike name field e) ∙ out)))
    at Greater e later =
        split_bool (is_one_of names field.0)
        (λ t. cond t (field ∷ only_fields names (insert_entry bytes_cmp r name value)) (only_fields names
        (insert_entry bytes_cmp r name value))
        ≡ cond (is_one_of names name) (insert_entry bytes_cmp (cond t (field ∷ only_fields names r)
        (only_fields names r)) name value)
        (cond t (field ∷ only_fields names r) (only_fields names r)))
        (λ one. ap (λ l. field ∷ l) later
        ∙ elim (is_one_of names name) as
        (λ t. field ∷ cond t (insert_entry bytes_cmp (only_fields names r) name value) (only_fields names r)
        ≡ cond t (insert_entry bytes_cmp (field ∷ only_fields names r) name value) (field ∷ only_fields names r)) [
          | true ↦ sym (ap (λ o. match_ordering o ((name, value) ∷ field ∷ only_fields names r) ((field.0, value)
              ∷ only_fields names r)
              (field ∷ insert_entry bytes_cmp (only_fields names r) name value)) e)
          | false ↦ refl
        ])
        (λ out. later)

either_way : (t : Bool) (r : Record) → r ≡ cond t r r
either_way true r = refl
either_way false r = refl

pub removed_kept : (names : List (List ℕ)) (name : List ℕ) (r : Record)
    → only_fields names (without r name)
    ≡ cond (is_one_of names name) (without (only_fields names r) name) (only_fields names r)
removed_kept names name [] = either_way (is_one_of names name) []
removed_kept names name (field ∷ r) = at (bytes_eq name field.0) refl (removed_kept names name r)
  where
    at : (t : Bool) → bytes_eq name field.0 ≡ t
        → only_fields names (without r name)
        ≡ cond (is_one_of names name) (without (only_fields names r) name) (only_fields names r)
        → only_fields names (cond t r (field ∷ without r name))
        ≡ cond (is_one_of names name) (without (only_fields names (field ∷ r)) name) (only_fields names (field ∷ r))
    at true e later =
        split_bool (is_one_of names field.0)
        (λ t. only_fields names r ≡ cond (is_one_of names name) (without (cond t (field ∷ only_fields names r)
        (only_fields names r)) name)
        (cond t (field ∷ only_fields names r) (only_fields names r)))
        (λ one. sym (ap (λ t. cond t (without (field ∷ only_fields names r) name) (field ∷ only_fields names r))
        (sym (same_one names name field.0 e) ∙ one)
        ∙ ap (λ t. cond t (only_fields names r) (field ∷ without (only_fields names r) name)) e))
        (λ out. sym (ap (λ t. cond t (without (only_fields names r) name) (only_fields names r))
        (sym (same_one names name field.0 e) ∙ out)))
    at false e later =
        split_bool (is_one_of names field.0)
        (λ t. cond t (field ∷ only_fields names (without r name)) (only_fields names (without r name))
        ≡ cond (is_one_of names name) (without (cond t (field ∷ only_fields names r) (only_fields names r)) name)
        (cond t (field ∷ only_fields names r) (only_fields names r)))
        (λ one. ap (λ l. field ∷ l) later
        ∙ elim (is_one_of names name) as
        (λ t. field ∷ cond t (without (only_fields names r) name) (only_fields names r)
        ≡ cond t (without (field ∷ only_fields names r) name) (field ∷ only_fields names r)) [
          | true ↦ sym (ap (λ t. cond t (only_fields names r) (field ∷ without (only_fields names r) name)) e)
          | false ↦ refl
        ])
        (λ out. later)

pub set_kept : (names : List (List ℕ)) (name value : List ℕ) (r : Record) → IsInOrder r
    → only_fields names (set_field r name value)
    ≡ cond (is_one_of names name) (set_field (only_fields names r) name value) (only_fields names r)
set_kept names name [] r s = removed_kept names name r
set_kept names name (byte ∷ bytes) r s = inserted_kept names name (byte ∷ bytes) r s

pub put_kept : (names : List (List ℕ)) (name value : List ℕ) (r : Record) → IsInOrder r
    → only_fields names (put_field r name value)
    ≡ cond (is_one_of names name) (put_field (only_fields names r) name value) (only_fields names r)
put_kept names name value r s =
    let set = set_kept names name value r s in
    elim (is_empty name) as
    (λ t. only_fields names (cond t r (set_field r name value))
    ≡ cond (is_one_of names name) (cond t (only_fields names r) (set_field (only_fields names r) name value))
    (only_fields names r)) [
      | true ↦ either_way (is_one_of names name) (only_fields names r)
      | false ↦ set
    ]

-- ---- what keeps fields in order

each_key : (P : List ℕ → Type 0) (r : Record) → AllByRecursion P (keys_of r) → AllByRecursion (λ f. P f.0) r
each_key P [] h = tt
each_key P (field ∷ r) h = (h.0, each_key P r h.1)

all_keys : (P : List ℕ → Type 0) (r : Record) → AllByRecursion (λ f. P f.0) r → AllByRecursion P (keys_of r)
all_keys P [] h = tt
all_keys P (field ∷ r) h = (h.0, all_keys P r h.1)

pub in_order_first : (field : Field) (r : Record) → IsInOrder (field ∷ r) → AllAbove r field.0
unfolding IsStrictlySortedBy
in_order_first field r s = each_key (λ k. bytes_cmp field.0 k ≡ Less) r s.0

in_order_with : (field : Field) (r : Record) → AllAbove r field.0 → IsInOrder r → IsInOrder (field ∷ r)
unfolding IsStrictlySortedBy
in_order_with field r above s = (all_keys (λ k. bytes_cmp field.0 k ≡ Less) r above, s)

in_order_none : IsInOrder []
unfolding IsStrictlySortedBy
in_order_none = tt

pub in_order_filtered : (p : Field → Bool) (r : Record) → IsInOrder r → IsInOrder (filter p r)
in_order_filtered p [] s = s
in_order_filtered p (field ∷ r) s =
    let rest = in_order_filtered p r (in_order_rest field r s) in
    let above = all_filtered (λ f. bytes_cmp field.0 f.0 ≡ Less) p r (in_order_first field r s) in
    elim (p field) as (λ t. IsInOrder (cond t (field ∷ filter p r) (filter p r))) [
      | true ↦ in_order_with field (filter p r) above rest
      | false ↦ rest
    ]

all_removed : (P : Field → Type 0) (r : Record) (name : List ℕ) → AllByRecursion P r → AllByRecursion P (without r name)
all_removed P [] name h = tt
all_removed P (field ∷ r) name h =
    let rest = all_removed P r name h.1 in
    elim (bytes_eq name field.0) as (λ t. AllByRecursion P (cond t r (field ∷ without r name))) [
      | true ↦ h.1
      | false ↦ (h.0, rest)
    ]

in_order_removed : (r : Record) (name : List ℕ) → IsInOrder r → IsInOrder (without r name)
in_order_removed [] name s = s
in_order_removed (field ∷ r) name s =
    let rest = in_order_removed r name (in_order_rest field r s) in
    let above = all_removed (λ f. bytes_cmp field.0 f.0 ≡ Less) r name (in_order_first field r s) in
    elim (bytes_eq name field.0) as (λ t. IsInOrder (cond t r (field ∷ without r name))) [
      | true ↦ in_order_rest field r s
      | false ↦ in_order_with field (without r name) above rest
    ]

all_inserted : (P : List ℕ → Type 0) (r : Record) (name value : List ℕ) → P name → AllByRecursion (λ f. P f.0) r
    → AllByRecursion (λ f. P f.0) (insert_entry bytes_cmp r name value)
all_inserted P [] name value here h = (here, tt)
all_inserted P (field ∷ r) name value here h =
    let rest = all_inserted P r name value here h.1 in
    elim (bytes_cmp name field.0) as
    (λ o. AllByRecursion (λ f. P f.0) (match_ordering o ((name, value) ∷ field ∷ r) ((field.0, value) ∷ r)
    (field ∷ insert_entry bytes_cmp r name value))) [
      | Less ↦ (here, h)
      | Equal ↦ (h.0, h.1)
      | Greater ↦ (h.0, rest)
    ]

in_order_inserted : (r : Record) (name value : List ℕ) → IsInOrder r → IsInOrder (insert_entry bytes_cmp r name value)
in_order_inserted [] name value s = in_order_with (name, value) [] tt in_order_none
in_order_inserted (field ∷ r) name value s =
    at (bytes_cmp name field.0) refl (in_order_inserted r name value (in_order_rest field r s))
  where
    at : (o : Ordering) → bytes_cmp name field.0 ≡ o → IsInOrder (insert_entry bytes_cmp r name value)
        → IsInOrder (match_ordering o ((name, value) ∷ field ∷ r) ((field.0, value) ∷ r)
        (field ∷ insert_entry bytes_cmp r name value))
    at Less e rest = in_order_with (name, value) (field ∷ r) (all_above field r name s e) s
    at Equal e rest = in_order_with (field.0, value) r (in_order_first field r s) (in_order_rest field r s)
    at Greater e rest = in_order_with field (insert_entry bytes_cmp r name value)
        (all_inserted (λ k. bytes_cmp field.0 k ≡ Less) r name value (less_from_greater name field.0 e)
        (in_order_first field r s)) rest

pub in_order_set : (r : Record) (name value : List ℕ) → IsInOrder r → IsInOrder (set_field r name value)
in_order_set r name [] s = in_order_removed r name s
in_order_set r name (byte ∷ bytes) s = in_order_inserted r name (byte ∷ bytes) s

pub in_order_put : (r : Record) (name value : List ℕ) → IsInOrder r → IsInOrder (put_field r name value)
in_order_put r name value s =
    let set = in_order_set r name value s in
    elim (is_empty name) as (λ t. IsInOrder (cond t r (set_field r name value))) [
      | true ↦ s
      | false ↦ set
    ]

in_order_copied : (r : Record) (pair : NamePair) → IsInOrder r → IsInOrder (copied r pair)
in_order_copied r pair s = in_order_put r pair.1 (field_value r pair.0) s

in_order_renamed : (r : Record) (pair : NamePair) → IsInOrder r → IsInOrder (renamed r pair)
in_order_renamed r pair s =
    let gone = in_order_removed (copied r pair) pair.0 (in_order_copied r pair s) in
    elim (bytes_eq pair.0 pair.1) as (λ t. IsInOrder (cond t r (without (copied r pair) pair.0))) [
      | true ↦ s
      | false ↦ gone
    ]

pub in_order_folded : (g : Record → NamePair → Record) → ((r : Record) (pair : NamePair) → IsInOrder r → IsInOrder
    (g r pair))
    → (pairs : List NamePair) (r : Record) → IsInOrder r → IsInOrder (fold g r pairs)
in_order_folded g keeps [] r s = s
in_order_folded g keeps (pair ∷ pairs) r s = in_order_folded g keeps pairs (g r pair) (keeps r pair s)

-- ---- fields that get other names

copied_kept : (more names : List (List ℕ)) (pair : NamePair) → Covers more (pair.0 ∷ names) → (r : Record) → IsInOrder r
    → only_fields names (copied (only_fields more r) pair) ≡ only_fields names (copied r pair)
copied_kept more names pair covers r s =
    let twice = only_twice more names (covers_tail pair.0 names more covers) r in
    let value = value_kept more r pair.0 (covers_head pair.0 names more covers) in
    put_kept names pair.1 (field_value (only_fields more r) pair.0) (only_fields more r)
    (in_order_filtered (λ f. is_one_of more f.0) r s)
    ∙ (λ i. cond (is_one_of names pair.1) (put_field (twice i) pair.1 (value i)) (twice i))
    ∙ sym (put_kept names pair.1 (field_value r pair.0) r s)

renamed_kept : (more names : List (List ℕ)) (pair : NamePair) → Covers more (pair.0 ∷ names) → (r : Record)
    → IsInOrder r
    → only_fields names (renamed (only_fields more r) pair) ≡ only_fields names (renamed r pair)
renamed_kept more names pair covers r s =
    let twice = only_twice more names (covers_tail pair.0 names more covers) r in
    let copy = copied_kept more names pair covers r s in
    let gone = removed_kept names pair.0 (copied (only_fields more r) pair)
    ∙ (λ i. cond (is_one_of names pair.0) (without (copy i) pair.0) (copy i))
    ∙ sym (removed_kept names pair.0 (copied r pair)) in
    elim (bytes_eq pair.0 pair.1) as
    (λ t. only_fields names (cond t (only_fields more r) (without (copied (only_fields more r) pair) pair.0))
    ≡ only_fields names (cond t r (without (copied r pair) pair.0))) [
      | true ↦ twice
      | false ↦ gone
    ]

abbrev pub KeepsNames : (Record → NamePair → Record) → Type 0
KeepsNames g = (more names : List (List ℕ)) (pair : NamePair) → Covers more (pair.0 ∷ names) → (r : Record)
    → IsInOrder r
    → only_fields names (g (only_fields more r) pair) ≡ only_fields names (g r pair)

folded_kept : (g : Record → NamePair → Record) → ((r : Record) (pair : NamePair) → IsInOrder r → IsInOrder (g r pair))
    → KeepsNames g → (pairs : List NamePair) (more names : List (List ℕ))
    → Covers more (map (λ pair. pair.0) pairs ++ names) → (r : Record) → IsInOrder r
    → only_fields names (fold g (only_fields more r) pairs) ≡ only_fields names (fold g r pairs)
folded_kept g keeps kept [] more names covers r s = only_twice more names covers r
folded_kept g keeps kept (pair ∷ pairs) more names covers r s =
    let later = map (λ (p : NamePair). p.0) pairs ++ names in
    let narrow = in_order_filtered (λ f. is_one_of more f.0) r s in
    sym (folded_kept g keeps kept pairs later names (covers_itself later) (g (only_fields more r) pair)
    (keeps (only_fields more r) pair narrow))
    ∙ ap (λ one. only_fields names (fold g one pairs)) (kept more later pair covers r s)
    ∙ folded_kept g keeps kept pairs later names (covers_itself later) (g r pair) (keeps r pair s)

pub copies_kept : (pairs : List NamePair) (more names : List (List ℕ))
    → Covers more (map (λ pair. pair.0) pairs ++ names) → (r : Record) → IsInOrder r
    → only_fields names (copy_fields pairs (only_fields more r)) ≡ only_fields names (copy_fields pairs r)
copies_kept = folded_kept copied in_order_copied copied_kept

pub renames_kept : (pairs : List NamePair) (more names : List (List ℕ))
    → Covers more (map (λ pair. pair.0) pairs ++ names) → (r : Record) → IsInOrder r
    → only_fields names (rename_fields pairs (only_fields more r)) ≡ only_fields names (rename_fields pairs r)
renames_kept = folded_kept renamed in_order_renamed renamed_kept

pub in_order_copies : (pairs : List NamePair) (r : Record) → IsInOrder r → IsInOrder (copy_fields pairs r)
in_order_copies = in_order_folded copied in_order_copied

pub in_order_renames : (pairs : List NamePair) (r : Record) → IsInOrder r → IsInOrder (rename_fields pairs r)
in_order_renames = in_order_folded renamed in_order_renamed
