-- Two lists of fields that have no name in common, merged.
use Rattle.std.proofs.Common.{◌≡◌, ℕ, Bool, true, false, cond, not, ◌||◌, List, [], ◌∷◌, ◌++◌, filter, reverse, fold}
use Rattle.std.proofs.Common.{bytes_eq, refl, sym, ap, subst, ◌∙◌, IsTrue, ◌+◌, ◌<◌, ◌≤◌, length, drop, get_or}
use Rattle.std.specs.List.{AllByRecursion, list_all, list_any}
use Rattle.std.proofs.lemmas.Bool.{and_parts, false≢true}
use Rattle.std.proofs.lemmas.List.{drop_all, drop_more, reverse-append, reverse-reverse}
use Rattle.std.proofs.lemmas.List.Folds.{list_any-append}
use Rattle.std.proofs.lemmas.List.Sums.{fold-append}
use Rattle.std.proofs.lemmas.Slice.Eq.{bytes_eq-Decides}
use Rattle.log_model.specs.Field.{Field, IsFieldList, field_value, is_empty, is_filled, set_all, set_field}
use Rattle.vl_row.proofs.Sorted.{IsFieldList-nil, filled_each}
use Rattle.vl_row.specs.Names.{is_among, is_unnamed}
use Rattle.field_setter.proofs.Setting.{IsFieldList-set_all, named_len, or_none, reverse_unnamed}
use Rattle.ingest_row.specs.Ingest.{is_named}
use Rattle.ingest_row.specs.Prepared.{AreApart, names_of}
use Rattle.ingest_row.proofs.Adding.{filled_named, named, same_fields, set_later, set_list, sets}
use Rattle.ingest_row.proofs.Places.{has_name, has_value}

-- ---- names of one list alone

has_first : (e : Field) (es : List Field) → has_name (e ∷ es) e.0 ≡ true
has_first e es = ap (λ b. b || has_name es e.0) ((bytes_eq-Decides e.0 e.0).1 refl)

has_more : (e : Field) (es : List Field) (name : List ℕ) → has_name es name ≡ true → has_name (e ∷ es) name ≡ true
has_more e es name h = or_true (bytes_eq name e.0) h
  where
    or_true : (b : Bool) {c : Bool} → c ≡ true → (b || c) ≡ true
    or_true true h = refl
    or_true false h = h

all_weaker : (P Q : Field → Type 0) (xs : List Field) → ((x : Field) → P x → Q x) → AllByRecursion P xs
    → AllByRecursion Q xs
all_weaker P Q [] f each = tt
all_weaker P Q (x ∷ xs) f each = (f x each.0, all_weaker P Q xs f each.1)

each_has : (fields : List Field) → AllByRecursion (λ field. has_name fields field.0 ≡ true) fields
each_has [] = tt
each_has (e ∷ es) = (
  has_first e es,
  all_weaker (λ field. has_name es field.0 ≡ true) (λ field. has_name (e ∷ es) field.0 ≡ true) es
      (λ field h. has_more e es field.0 h) (each_has es),
)

not_listed : (a : Bool) → not (is_empty (cond a [] [])) ≡ false
not_listed true = refl
not_listed false = refl

-- each field that is added has one of the names
each_among : (extra added : List Field) → IsTrue (list_all is_named extra) → added ≡ set_all [] extra
    → IsFieldList added → AllByRecursion (λ field. is_among (names_of extra) field.0 ≡ true) added
each_among extra added are_named is rules =
    all_weaker (λ field. has_name added field.0 ≡ true) (λ field. is_among (names_of extra) field.0 ≡ true) added
    (λ field h. among field.0 (is_among (names_of extra) field.0) refl h) (each_has added)
  where
    among : (q : List ℕ) (b : Bool) → is_among (names_of extra) q ≡ b → has_name added q ≡ true → b ≡ true
    among q true e h = refl
    among q false e h =
        let none : field_value added q ≡ [] =
        ap (λ (l : List Field). field_value l q) is
        ∙ sets extra q (named extra are_named) [] [] IsFieldList-nil IsFieldList-nil
        ∙ ap (λ b. cond b (field_value (set_all [] extra) q) []) e in
        sym (ap (λ t. not (is_empty t)) none) ∙ has_value added q (filled_each added rules) ∙ h

not_true : (b : Bool) → not b ≡ true → b ≡ false
not_true true h = absurd (false≢true h)
not_true false h = refl

kept_step : (p : Field → Bool) (x : Field) (xs : List Field) (b : Bool) → p x ≡ b
    → AllByRecursion (λ field. p field ≡ true) (filter p xs)
    → AllByRecursion (λ field. p field ≡ true) (cond b (x ∷ filter p xs) (filter p xs))
kept_step p x xs true e rest = (e, rest)
kept_step p x xs false e rest = rest

each_kept : (p : Field → Bool) (fields : List Field) → AllByRecursion (λ field. p field ≡ true) (filter p fields)
each_kept p [] = tt
each_kept p (x ∷ xs) = kept_step p x xs (p x) refl (each_kept p xs)

apart_from : (names : List (List ℕ)) (other field : Field) → is_among names other.0 ≡ true
    → is_among names field.0 ≡ false → bytes_eq other.0 field.0 ≡ false
apart_from names other field among none = elim_by (bytes_eq other.0 field.0) refl
  where
    elim_by : (b : Bool) → bytes_eq other.0 field.0 ≡ b → b ≡ false
    elim_by false e = refl
    elim_by true e =
        sym among ∙ ap (is_among names) ((bytes_eq-Decides other.0 field.0).0 e) ∙ none

-- what is left of the fields when the names are gone has no name of what is added
pub apart_is : (fields extra added : List Field) (listed : List (List ℕ)) → IsTrue (list_all is_named extra)
    → added ≡ set_all [] extra
    → ((name : List ℕ) → is_among listed name ≡ is_among (names_of extra) name)
    → AreApart (filter (λ field. not (is_among listed field.0)) fields) added
apart_is fields extra added listed are_named is same =
    let rules = subst IsFieldList (sym is) (IsFieldList-set_all [] extra IsFieldList-nil (named extra are_named)) in
    let left = filter (λ (field : Field). not (is_among listed field.0)) fields in
    all_weaker (λ other. is_among (names_of extra) other.0 ≡ true)
    (λ other. AllByRecursion (λ field. bytes_eq other.0 field.0 ≡ false) left) added
    (λ other among.
    all_weaker (λ field. not (is_among listed field.0) ≡ true) (λ field. bytes_eq other.0 field.0 ≡ false) left
    (λ field kept. apart_from (names_of extra) other field among (sym (same field.0) ∙ not_true _ kept))
    (each_kept (λ field. not (is_among listed field.0)) fields))
    (each_among extra added are_named is rules)

-- ---- one field after another

pub set_alone : (fields : List Field) → IsFieldList fields → set_all [] fields ≡ fields
set_alone fields rules =
    let none = filled_named fields rules.filled in
    let made = IsFieldList-set_all [] fields IsFieldList-nil none in
    same_fields (set_all [] fields) fields made rules
    (λ q. set_list fields [] q rules.ordered none IsFieldList-nil)

all_behind : (P : Field → Type 0) (xs ys : List Field) → AllByRecursion P (xs ++ ys) → AllByRecursion P ys
all_behind P [] ys each = each
all_behind P (x ∷ xs) ys each = all_behind P xs ys each.1

none_before : (xs ys : List Field) → list_any is_unnamed (xs ++ ys) ≡ false
    → (list_any is_unnamed xs ≡ false) × (list_any is_unnamed ys ≡ false)
none_before xs ys none = or_none (list_any is_unnamed xs) (list_any is_unnamed ys)
    (sym (list_any-append is_unnamed xs ys) ∙ none)

none_back : (xs : List Field) → list_any is_unnamed xs ≡ false → list_any is_unnamed (reverse xs) ≡ false
none_back xs none = reverse_unnamed xs (reverse xs) refl none

behind_apart : (old new moved rest : List Field) → old ≡ new ++ moved → AreApart (reverse old) rest
    → AreApart (reverse new) rest
behind_apart old new moved rest is apart =
    all_weaker (λ other. AllByRecursion (λ field. bytes_eq other.0 field.0 ≡ false) (reverse old))
    (λ other. AllByRecursion (λ field. bytes_eq other.0 field.0 ≡ false) (reverse new)) rest
    (λ other each.
    all_behind (λ field. bytes_eq other.0 field.0 ≡ false) (reverse moved) (reverse new)
    (subst (AllByRecursion (λ field. bytes_eq other.0 field.0 ≡ false)) (ap reverse is ∙ reverse-append new moved) each))
    apart

-- how far two lists are merged: the last of the first list are moved, and these of the second are still to be set
pub record Merging (all left rest merged : List Field) : Type 0 where
  pub target : set_all (set_all all (reverse left)) rest ≡ merged
  pub apart : AreApart (reverse left) rest
  pub named : list_any is_unnamed left ≡ false
  pub filled : IsTrue (list_all is_filled rest)
  pub rules : IsFieldList all

pub merging_none : (fields left added all : List Field) → left ≡ reverse fields → all ≡ [] → IsFieldList fields
    → IsFieldList added → AreApart fields added → Merging all left added (set_all fields added)
merging_none fields left added all left_is all_is rules added_rules apart =
    let back : reverse left ≡ fields = ap reverse left_is ∙ reverse-reverse fields in
    record {
      target = ap (λ (l : List Field). set_all l added)
          ((λ i. set_all (all_is i) (back i)) ∙ set_alone fields rules);
      apart = subst (λ (l : List Field). AreApart l added) (sym back) apart;
      named = reverse_unnamed fields left left_is (filled_named fields rules.filled);
      filled = added_rules.filled;
      rules = subst IsFieldList (sym all_is) IsFieldList-nil;
    }

name_of : (x : Field) → is_filled x ≡ true → is_unnamed x ≡ false
name_of x h = left_false (is_unnamed x) _ h
  where
    left_false : (a b : Bool) → not (a || b) ≡ true → a ≡ false
    left_false true b h = absurd (false≢true h)
    left_false false b h = refl

-- the next field of the second list is set
pub merging_more : (all moved_all new_all old new moved rest target : List Field) (x : Field) → old ≡ new ++ moved
    → moved_all ≡ set_all all (reverse moved) → new_all ≡ set_field moved_all x.0 x.1 → IsFieldList new_all
    → Merging all old (x ∷ rest) target → Merging new_all new rest target
merging_more all moved_all new_all old new moved rest target x is moved_is new_is rules before =
    let parts = and_parts (is_filled x) (list_all is_filled rest) before.filled in
    let names = none_before new moved (sym (ap (list_any is_unnamed) is) ∙ before.named) in
    let moved_rules = subst IsFieldList (sym moved_is)
    (IsFieldList-set_all all (reverse moved) before.rules (none_back moved names.1)) in
    let apart = behind_apart old new moved (x ∷ rest) is before.apart in
    let later : set_all new_all (reverse new) ≡ set_field (set_all all (reverse old)) x.0 x.1 =
    ap (λ (l : List Field). set_all l (reverse new)) new_is
    ∙ set_later (reverse new) moved_all x moved_rules (name_of x parts.0) (none_back new names.0) apart.0
    ∙ ap (λ (l : List Field). set_field l x.0 x.1)
    (ap (λ (l : List Field). set_all l (reverse new)) moved_is
    ∙ sym (fold-append (λ (list : List Field) (field : Field). set_field list field.0 field.1) all (reverse moved)
    (reverse new))
    ∙ ap (set_all all) (sym (ap reverse is ∙ reverse-append new moved))) in
    record {
      target = ap (λ (l : List Field). set_all l rest) later ∙ before.target;
      apart = apart.1;
      named = names.0;
      filled = parts.1;
      rules = rules;
    }

next_is : (items : List Field) (at : ℕ) (x : Field) → at < length items → x ≡ get_or items at x
    → drop at items ≡ x ∷ drop (at + 1) items
next_is items at x below is =
    drop_more items at x below ∙ ap (λ (y : Field). y ∷ drop (at + 1) items) (sym is)

pub merging_next : (all moved_all new_all old new moved items target : List Field) (at : ℕ) (x : Field) → at < length items
    → x ≡ get_or items at x → old ≡ new ++ moved → moved_all ≡ set_all all (reverse moved)
    → new_all ≡ set_field moved_all x.0 x.1 → IsFieldList new_all → Merging all old (drop at items) target
    → Merging new_all new (drop (at + 1) items) target
merging_next all moved_all new_all old new moved items target at x below x_is is moved_is new_is rules before =
    merging_more all moved_all new_all old new moved (drop (at + 1) items) target x is moved_is new_is rules
    (subst (λ (rest : List Field). Merging all old rest target) (next_is items at x below x_is) before)

pub next_named : (items : List Field) (at : ℕ) (x : Field) → at < length items → x ≡ get_or items at x
    → IsTrue (list_all is_filled (drop at items)) → 0 < length x.0
next_named items at x below is filled =
    let parts = and_parts (is_filled x) (list_all is_filled (drop (at + 1) items))
    (subst (λ (rest : List Field). IsTrue (list_all is_filled rest)) (next_is items at x below is) filled) in
    named_len x (name_of x parts.0)

pub merging_done : (all left items done target : List Field) (at : ℕ) → length items ≤ at
    → done ≡ set_all all (reverse left) → Merging all left (drop at items) target → done ≡ target
merging_done all left items done target at over is merging =
    is ∙ sym (ap (set_all (set_all all (reverse left))) (drop_all at items over)) ∙ merging.target
