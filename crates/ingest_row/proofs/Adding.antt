-- Fields that are added to those of a line: the last value of each name, set after the fields of these names are gone.
use Rattle.std.proofs.Common.{◌≡◌, ℕ, ◌<◌, Bool, true, false, cond, not, ◌||◌, List, [], ◌∷◌, ◌++◌, length, map, filter}
use Rattle.std.proofs.Common.{bytes_eq, reverse, refl, sym, ap, subst, ◌∙◌, IsTrue, Option, Some, unwrap_or, zero}
use Rattle.std.specs.List.{AllByRecursion, list_all, list_any}
use Rattle.std.specs.Map.{lookup}
use Rattle.std.proofs.lemmas.Bool.{and_parts, false≢true}
use Rattle.std.proofs.lemmas.Slice.Eq.{bytes_eq-Decides}
use Rattle.log_model.specs.Field.{Field, IsFieldList, field_value, is_empty, is_filled, set_all, set_field}
use Rattle.vl_row.proofs.Sorted.{IsFieldList-filter, IsFieldList-nil, filled_each, lookup_at_gap, order_first, order_rest}
use Rattle.vl_row.specs.Place.{AllAbove, IsInOrder}
use Rattle.vl_row.specs.Names.{is_among, is_unnamed}
use Rattle.field_setter.proofs.Setting.{IsFieldList-set_all, IsFieldList-set_field, named_len, or_none, same_values}
use Rattle.field_setter.proofs.Setting.{value_set}
use Rattle.jsonline_in.proofs.Notes.{kept_value}
use Rattle.ingest_row.specs.Ingest.{is_named}
use Rattle.ingest_row.specs.Prepared.{AreApart, names_of}
use Rattle.ingest_row.proofs.Places.{full}

pub named : (fields : List Field) → IsTrue (list_all is_named fields) → list_any is_unnamed fields ≡ false
named [] h = refl
named (x ∷ xs) h =
    let parts = and_parts (is_named x) (list_all is_named xs) h in
    named_step (is_unnamed x) (list_any is_unnamed xs) parts.0 (named xs parts.1)
  where
    named_step : (a b : Bool) → not a ≡ true → b ≡ false → (a || b) ≡ false
    named_step true b n r = absurd (false≢true n)
    named_step false b n r = r

pub filled_named : (fields : List Field) → IsTrue (list_all is_filled fields) → list_any is_unnamed fields ≡ false
filled_named [] h = refl
filled_named (x ∷ xs) h =
    let parts = and_parts (is_filled x) (list_all is_filled xs) h in
    named_step (is_unnamed x) _ (list_any is_unnamed xs) parts.0 (filled_named xs parts.1)
  where
    named_step : (a c b : Bool) → not (a || c) ≡ true → b ≡ false → (a || b) ≡ false
    named_step true c b n r = absurd (false≢true n)
    named_step false c b n r = r

pub same_fields : (xs ys : List Field) → IsFieldList xs → IsFieldList ys
    → ((q : List ℕ) → field_value xs q ≡ field_value ys q) → xs ≡ ys
same_fields xs ys f g h = same_values xs ys f.ordered g.ordered (filled_each xs f) (filled_each ys g) h

-- ---- the value of a name after fields are set

-- a name that is set has the same value then, whatever was there before, and any other keeps its value
sets_step : (b among : Bool) (text here set old other : List ℕ) → set ≡ cond among here (cond b text old)
    → here ≡ cond among here (cond b text other) → set ≡ cond (b || among) here old
sets_step true true text here set old other h g = h
sets_step true false text here set old other h g = h ∙ sym g
sets_step false true text here set old other h g = h
sets_step false false text here set old other h g = h

pub sets : (more : List Field) (q : List ℕ) → list_any is_unnamed more ≡ false → (fields others : List Field)
    → IsFieldList fields → IsFieldList others
    → field_value (set_all fields more) q
    ≡ cond (is_among (names_of more) q) (field_value (set_all others more) q) (field_value fields q)
sets [] q none fields others rules rules_too = refl
sets (x ∷ xs) q none fields others rules rules_too =
    let parts = or_none (is_unnamed x) (list_any is_unnamed xs) none in
    let first = set_field fields x.0 x.1 in
    let second = set_field others x.0 x.1 in
    let first_rules = IsFieldList-set_field fields x.0 x.1 rules (named_len x parts.0) in
    let second_rules = IsFieldList-set_field others x.0 x.1 rules_too (named_len x parts.0) in
    let here = cond (is_among (names_of xs) q) (field_value (set_all second xs) q) in
    sets_step (bytes_eq q x.0) (is_among (names_of xs) q) x.1 (field_value (set_all second xs) q)
    (field_value (set_all first xs) q) (field_value fields q) (field_value others q)
    (sets xs q parts.1 first second first_rules second_rules ∙ ap here (value_set fields x.0 x.1 q rules.ordered))
    (sets xs q parts.1 second second second_rules second_rules ∙ ap here (value_set others x.0 x.1 q rules_too.ordered))

-- after fields in order are set, a name has the value among them, if there is one
set_step : (x : Field) (xs : List Field) (q old : List ℕ) (b : Bool) → bytes_eq q x.0 ≡ b → AllAbove xs x.0
    → unwrap_or (lookup (bytes_eq q) xs) (cond b x.1 old)
    ≡ unwrap_or (cond b (Some x.1) (lookup (bytes_eq q) xs)) old
set_step x xs q old true is above =
    let same : q ≡ x.0 = (bytes_eq-Decides q x.0).0 is in
    ap (λ (o : Option (List ℕ)). unwrap_or o x.1) (lookup_at_gap q xs zero tt (rw same above))
set_step x xs q old false is above = refl

pub set_list : (added fields : List Field) (q : List ℕ) → IsInOrder added → list_any is_unnamed added ≡ false
    → IsFieldList fields
    → field_value (set_all fields added) q ≡ unwrap_or (lookup (bytes_eq q) added) (field_value fields q)
set_list [] fields q order none rules = refl
set_list (x ∷ xs) fields q order none rules =
    let parts = or_none (is_unnamed x) (list_any is_unnamed xs) none in
    set_list xs (set_field fields x.0 x.1) q (order_rest x xs order) parts.1
    (IsFieldList-set_field fields x.0 x.1 rules (named_len x parts.0))
    ∙ ap (unwrap_or (lookup (bytes_eq q) xs)) (value_set fields x.0 x.1 q rules.ordered)
    ∙ set_step x xs q (field_value fields q) (bytes_eq q x.0) refl (order_first x xs order)

no_value_step : (e : Field) (found : Option (List ℕ)) (b : Bool) (v : List ℕ) → is_filled e ≡ true
    → unwrap_or (cond b (Some e.1) found) [] ≡ [] → (unwrap_or found [] ≡ [] → unwrap_or found v ≡ v)
    → unwrap_or (cond b (Some e.1) found) v ≡ v
no_value_step e found true v filled none rest =
    absurd (false≢true (sym (ap (λ t. not (is_empty t)) none) ∙ full e filled))
no_value_step e found false v filled none rest = rest none

-- where a name has no value, none is found
no_value : (fields : List Field) (q v : List ℕ) → AllByRecursion (λ f. is_filled f ≡ true) fields
    → field_value fields q ≡ [] → unwrap_or (lookup (bytes_eq q) fields) v ≡ v
no_value [] q v each none = refl
no_value (e ∷ es) q v each none =
    no_value_step e (lookup (bytes_eq q) es) (bytes_eq q e.0) v each.0 none (no_value es q v each.1)

pub added_is : (fields extra added : List Field) (listed : List (List ℕ)) → IsFieldList fields
    → IsTrue (list_all is_named extra) → added ≡ set_all [] extra
    → ((name : List ℕ) → is_among listed name ≡ is_among (names_of extra) name)
    → set_all (filter (λ field. not (is_among listed field.0)) fields) added ≡ set_all fields extra
added_is fields extra added listed rules are_named is same =
    let none = named extra are_named in
    let left = IsFieldList-filter (λ field. not (is_among listed field.0)) fields rules in
    let added_rules = subst IsFieldList (sym is) (IsFieldList-set_all [] extra IsFieldList-nil none) in
    let added_named = filled_named added added_rules.filled in
    let one = IsFieldList-set_all (filter (λ field. not (is_among listed field.0)) fields) added left added_named in
    let other = IsFieldList-set_all fields extra rules none in
    same_fields (set_all (filter (λ field. not (is_among listed field.0)) fields) added) (set_all fields extra) one other
    (λ q.
    set_list added (filter (λ field. not (is_among listed field.0)) fields) q added_rules.ordered added_named left
    ∙ ap (unwrap_or (lookup (bytes_eq q) added))
    (kept_value (λ name. not (is_among listed name)) fields q
    ∙ ap (λ t. cond (not t) (field_value fields q) []) (same q))
    ∙ by_case q added_rules none (is_among (names_of extra) q) refl
    ∙ sym (sets extra q none fields [] rules IsFieldList-nil))
  where
    by_case : (q : List ℕ) → IsFieldList added → list_any is_unnamed extra ≡ false → (b : Bool)
        → is_among (names_of extra) q ≡ b
        → unwrap_or (lookup (bytes_eq q) added) (cond (not b) (field_value fields q) [])
        ≡ cond b (field_value (set_all [] extra) q) (field_value fields q)
    by_case q added_rules none true among = ap (λ (l : List Field). field_value l q) is
    by_case q added_rules none false among =
        no_value added q (field_value fields q) (filled_each added added_rules)
        (ap (λ (l : List Field). field_value l q) is ∙ sets extra q none [] [] IsFieldList-nil IsFieldList-nil
        ∙ ap (λ b. cond b (field_value (set_all [] extra) q) []) among)

-- ---- in which order they are set

swap_step : (q : List ℕ) (a b : Field) (s t : Bool) (old : List ℕ) → bytes_eq q a.0 ≡ s → bytes_eq q b.0 ≡ t
    → bytes_eq a.0 b.0 ≡ false → cond t b.1 (cond s a.1 old) ≡ cond s a.1 (cond t b.1 old)
swap_step q a b true true old is_a is_b other =
    let same : a.0 ≡ b.0 = sym ((bytes_eq-Decides q a.0).0 is_a) ∙ (bytes_eq-Decides q b.0).0 is_b in
    absurd (false≢true (sym other ∙ (bytes_eq-Decides a.0 b.0).1 same))
swap_step q a b true false old is_a is_b other = refl
swap_step q a b false true old is_a is_b other = refl
swap_step q a b false false old is_a is_b other = refl

swap : (fields : List Field) (a b : Field) → IsFieldList fields → is_unnamed a ≡ false → is_unnamed b ≡ false
    → bytes_eq a.0 b.0 ≡ false
    → set_field (set_field fields a.0 a.1) b.0 b.1 ≡ set_field (set_field fields b.0 b.1) a.0 a.1
swap fields a b rules named_a named_b other =
    let has_a = IsFieldList-set_field fields a.0 a.1 rules (named_len a named_a) in
    let has_b = IsFieldList-set_field fields b.0 b.1 rules (named_len b named_b) in
    let one = IsFieldList-set_field (set_field fields a.0 a.1) b.0 b.1 has_a (named_len b named_b) in
    let two = IsFieldList-set_field (set_field fields b.0 b.1) a.0 a.1 has_b (named_len a named_a) in
    same_fields (set_field (set_field fields a.0 a.1) b.0 b.1) (set_field (set_field fields b.0 b.1) a.0 a.1) one two
    (λ q.
    value_set (set_field fields a.0 a.1) b.0 b.1 q has_a.ordered
    ∙ ap (cond (bytes_eq q b.0) b.1) (value_set fields a.0 a.1 q rules.ordered)
    ∙ swap_step q a b (bytes_eq q a.0) (bytes_eq q b.0) (field_value fields q) refl refl other
    ∙ sym (ap (cond (bytes_eq q a.0) a.1) (value_set fields b.0 b.1 q rules.ordered))
    ∙ sym (value_set (set_field fields b.0 b.1) a.0 a.1 q has_b.ordered))

-- a field whose name is none of those that are set after it can be set last
pub set_later : (more fields : List Field) (x : Field) → IsFieldList fields → is_unnamed x ≡ false
    → list_any is_unnamed more ≡ false → AllByRecursion (λ field. bytes_eq x.0 field.0 ≡ false) more
    → set_all (set_field fields x.0 x.1) more ≡ set_field (set_all fields more) x.0 x.1
set_later [] fields x rules n none apart = refl
set_later (y ∷ ys) fields x rules n none apart =
    let parts = or_none (is_unnamed y) (list_any is_unnamed ys) none in
    ap (λ (l : List Field). set_all l ys) (swap fields x y rules n parts.0 apart.0)
    ∙ set_later ys (set_field fields y.0 y.1) x (IsFieldList-set_field fields y.0 y.1 rules (named_len y parts.0)) n
    parts.1 apart.1
