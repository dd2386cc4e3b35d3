-- The fields of a row's record, one after another.
use Rattle.std.proofs.Common.{◌≡◌, ℕ, ◌+◌, ◌<◌, Bool, true, false, not, ◌||◌, cond, IsTrue}
use Rattle.std.proofs.Common.{List, [], ◌∷◌}
use Rattle.std.proofs.Common.{◌++◌, Some, refl, sym, ap, ◌∙◌, bytes_eq, codes, unwrap_or}
use Rattle.std.proofs.Common.{length, arith}
use Rattle.std.specs.BTreeMap.{insert_entry}
use Rattle.std.specs.List.{list_all}
use Rattle.std.specs.Map.{lookup}
use Rattle.std.specs.Ordering.{is_eq, match_ordering}
use Rattle.std.specs.declared.cmp.Ordering.{Ordering}
use Rattle.std.specs.declared.cmp.Ordering.TheVariants.{Less, Equal, Greater}
use Rattle.std.proofs.lemmas.Bool.{and_from, and_parts, false≢true}
use Rattle.std.proofs.lemmas.List.Folds.{list_any-append}
use Rattle.std.proofs.lemmas.Map.Text.{is_eq-slice_cmp}
use Rattle.std.proofs.lemmas.Slice.Eq.{bytes_eq-Decides}
use Rattle.log_model.specs.Field.{Field, IsFieldList, bytes_cmp, field_value, is_filled, is_empty, set_field, without}
use Rattle.log_model.specs.Moment.{moment_text}
use Rattle.log_model.specs.Row.{Row, IsRow, record_of}
use Rattle.log_model.specs.Stream.{label_text, stream_id}
use Rattle.lq_ast.specs.Records.{Record, is_one_of, only_fields}
use Rattle.lq_ast.proofs.Sorted.{split_bool}
use Rattle.vl_row.specs.Place.{AllAbove, IsInOrder}
use Rattle.std.proofs.Common.{get_or, lit<, take}
use Rattle.log_model.proofs.Labels.{label_text-some, stream_id-some}
use Rattle.lq_pipes.proofs.Walked.{one_more}
use Rattle.std.proofs.lemmas.Bool.Decides.{nat_tests}
use Rattle.vl_row.proofs.Sorted.{gap}
use Rattle.lq_pipes.proofs.Narrowed.{all_filtered, all_above, in_order_first, in_order_rest, in_order_set}
use Rattle.lq_pipes.proofs.Narrowed.{inserted_first}

-- ---- records of rows keep the rules

filled_removed : (r : Record) (name : List ℕ) → IsTrue (list_all is_filled r) → IsTrue (list_all is_filled
    (without r name))
filled_removed [] name h = refl
filled_removed (field ∷ r) name h =
    let parts = and_parts (is_filled field) (list_all is_filled r) h in
    let rest = filled_removed r name parts.1 in
    elim (bytes_eq name field.0) as (λ t. IsTrue (list_all is_filled (cond t r (field ∷ without r name)))) [
      | true ↦ parts.1
      | false ↦ and_from (is_filled field) (list_all is_filled (without r name)) parts.0 rest
    ]

none_empty : (x y : Bool) → not (x || y) ≡ true → (x ≡ false) × (y ≡ false)
none_empty true y h = absurd cc
none_empty false true h = absurd cc
none_empty false false h = (refl, refl)

filled_value : (field : Field) (name value : List ℕ) → is_filled field ≡ true → is_filled (name, value) ≡ true
    → is_filled (field.0, value) ≡ true
filled_value field name value f h =
    let mine = none_empty (is_empty field.0) (is_empty field.1) f in
    let other = none_empty (is_empty name) (is_empty value) h in
    λ i. not (mine.0 i || other.1 i)

filled_inserted : (r : Record) (name value : List ℕ) → is_filled (name, value) ≡ true → IsTrue (list_all is_filled r)
    → IsTrue (list_all is_filled (insert_entry bytes_cmp r name value))
filled_inserted [] name value here h = and_from (is_filled (name, value)) true here refl
filled_inserted (field ∷ r) name value here h =
    let parts = and_parts (is_filled field) (list_all is_filled r) h in
    let rest = filled_inserted r name value here parts.1 in
    elim (bytes_cmp name field.0) as
    (λ o. IsTrue (list_all is_filled (match_ordering o ((name, value) ∷ field ∷ r) ((field.0, value) ∷ r)
    (field ∷ insert_entry bytes_cmp r name value)))) [
      | Less ↦ and_from (is_filled (name, value)) (list_all is_filled (field ∷ r)) here h
      | Equal ↦ and_from (is_filled (field.0, value)) (list_all is_filled r)
          (filled_value field name value parts.0 here) parts.1
      | Greater ↦ and_from (is_filled field) (list_all is_filled (insert_entry bytes_cmp r name value)) parts.0 rest
    ]

filled_pair : (name value : List ℕ) → 0 < length name → 0 < length value → is_filled (name, value) ≡ true
filled_pair name value n v = grind (arith, nat_tests)

list_set : (r : Record) (name value : List ℕ) → 0 < length name → IsFieldList r → IsFieldList (set_field r name value)
list_set r name [] n rules = record {
  ordered = in_order_set r name [] rules.ordered;
  filled = filled_removed r name
      rules.filled;
}
list_set r name (byte ∷ bytes) n rules = record {
  ordered = in_order_set r name (byte ∷ bytes) rules.ordered;
  filled = filled_inserted r name (byte ∷ bytes) (filled_pair name (byte ∷ bytes) n (omega arith)) rules.filled;
}

pub list_of_row : (row : Row) → IsRow row → IsFieldList (record_of row)
list_of_row row rules =
    list_set (set_field (set_field row.fields (codes "_stream") (label_text row.labels)) (codes "_stream_id")
    (stream_id row.labels))
    (codes "_time") (moment_text row.moment) (lit< tt)
    (list_set (set_field row.fields (codes "_stream") (label_text row.labels)) (codes "_stream_id")
    (stream_id row.labels) (lit< tt)
    (list_set row.fields (codes "_stream") (label_text row.labels) (lit< tt) rules.fields))

-- ---- one name more

all_named : (name : List ℕ) (field : Field) (r : Record) → IsInOrder (field ∷ r) → name ≡ field.0 → AllAbove r name
all_named name field r s named = rw named (in_order_first field r s)

names_apart : (a b : List ℕ) → bytes_eq a b ≡ false → bytes_eq b a ≡ false
names_apart a b e =
    split_bool (bytes_eq b a) (λ t. t ≡ false)
    (λ same. let both : true ≡ false = sym ((bytes_eq-Decides a b).1 (sym ((bytes_eq-Decides b a).0 same))) ∙ e
    in absurd cc)
    (λ out. refl)

same_by_order : (name other : List ℕ) (o : Ordering) → bytes_cmp name other ≡ o → bytes_eq name other ≡ is_eq o
same_by_order name other o e = sym (is_eq-slice_cmp name other) ∙ ap is_eq e

or_false : (b : Bool) → (b || false) ≡ b
or_false true = refl
or_false false = refl

or_of_true : (b : Bool) → (b || true) ≡ true
or_of_true true = refl
or_of_true false = refl

one_of_more : (names : List (List ℕ)) (name x : List ℕ) → is_one_of (names ++ name ∷ []) x ≡
    (is_one_of names x || bytes_eq x name)
one_of_more names name x =
    list_any-append (bytes_eq x) names (name ∷ []) ∙ ap (λ t. is_one_of names x || t) (or_false (bytes_eq x name))

one_of_other : (names : List (List ℕ)) (name x : List ℕ) → bytes_eq x name ≡ false
    → is_one_of (names ++ name ∷ []) x ≡ is_one_of names x
one_of_other names name x out =
    one_of_more names name x ∙ ap (λ t. is_one_of names x || t) out ∙ or_false (is_one_of names x)

one_of_last : (names : List (List ℕ)) (name x : List ℕ) → bytes_eq x name ≡ true → is_one_of (names ++ name ∷ []) x
    ≡ true
one_of_last names name x same =
    one_of_more names name x ∙ ap (λ t. is_one_of names x || t) same ∙ or_of_true (is_one_of names x)

same_beyond : (names : List (List ℕ)) (name : List ℕ) (r : Record) → AllAbove r name
    → only_fields (names ++ name ∷ []) r ≡ only_fields names r
same_beyond names name [] above = refl
same_beyond names name (field ∷ r) above =
    let out = names_apart name field.0 (same_by_order name field.0 Less above.0) in
    let test = one_of_other names name field.0 out in
    let rest = same_beyond names name r above.1 in
    λ i. cond (test i) (field ∷ rest i) (rest i)

set_past : (field : Field) (r : Record) (name value : List ℕ) → bytes_cmp name field.0 ≡ Greater
    → set_field (field ∷ r) name value ≡ field ∷ set_field r name value
set_past field r name [] e = ap (λ t. cond t r (field ∷ without r name)) (same_by_order name field.0 Greater e)
set_past field r name (byte ∷ bytes) e =
    ap (λ o. match_ordering o ((name, byte ∷ bytes) ∷ field ∷ r) ((field.0, byte ∷ bytes) ∷ r)
    (field ∷ insert_entry bytes_cmp r name (byte ∷ bytes))) e

set_filled : (r : Record) (name value : List ℕ) → 0 < length value → set_field r name value
    ≡ insert_entry bytes_cmp r name value
set_filled r name [] some = absurd (omega arith)
set_filled r name (byte ∷ bytes) some = refl

value_first : (field : Field) (r : Record) (name : List ℕ) (t : Bool) → bytes_eq name field.0 ≡ t
    → field_value (field ∷ r) name ≡ cond t field.1 (field_value r name)
value_first field r name true e = ap (λ b. unwrap_or (cond b (Some field.1) (lookup (bytes_eq name) r)) []) e
value_first field r name false e = ap (λ b. unwrap_or (cond b (Some field.1) (lookup (bytes_eq name) r)) []) e

some_value : (field : Field) → is_filled field ≡ true → 0 < length field.1
some_value field h =
    let parts = none_empty (is_empty field.0) (is_empty field.1) h in
    let some = parts.1 in grind (arith, nat_tests)

pub only_more : (names : List (List ℕ)) (name : List ℕ) (r : Record) → IsInOrder r → IsTrue (list_all is_filled r)
    → only_fields (names ++ name ∷ []) r ≡ set_field (only_fields names r) name (field_value r name)
only_more names name [] s f = refl
only_more names name (field ∷ r) s f =
    let parts = and_parts (is_filled field) (list_all is_filled r) f in
    at (bytes_cmp name field.0) refl (some_value field parts.0)
    (only_more names name r (in_order_rest field r s) parts.1)
  where
    at : (o : Ordering) → bytes_cmp name field.0 ≡ o → 0 < length field.1
        → only_fields (names ++ name ∷ []) r ≡ set_field (only_fields names r) name (field_value r name)
        → only_fields (names ++ name ∷ []) (field ∷ r)
        ≡ set_field (only_fields names (field ∷ r)) name (field_value (field ∷ r) name)
    at Less e some later =
        let above = all_above field r name s e in
        let kept_above = all_filtered (λ g. bytes_cmp name g.0 ≡ Less) (λ g. is_one_of names g.0) (field ∷ r) above in
        let none = ap (λ o. unwrap_or o []) (gap (field ∷ r) name 0 (omega arith) tt above).missing in
        same_beyond names name (field ∷ r) above
        ∙ sym (gap (only_fields names (field ∷ r)) name 0 (omega arith) tt kept_above).unchanged
        ∙ ap (λ value. set_field (only_fields names (field ∷ r)) name value) (sym none)
    at Equal e some later =
        let same = same_by_order name field.0 Equal e in
        let named = (bytes_eq-Decides name field.0).0 same in
        let above = all_named name field r s named in
        let kept = only_fields names r in
        let kept_above = all_filtered (λ g. bytes_cmp name g.0 ≡ Less) (λ g. is_one_of names g.0) r above in
        let first : only_fields (names ++ name ∷ []) (field ∷ r) ≡ field ∷ kept =
        (λ i. cond (one_of_last names name field.0 ((bytes_eq-Decides field.0 name).1 (sym named)) i)
        (field ∷ same_beyond names name r above i) (same_beyond names name r above i)) in
        let put : insert_entry bytes_cmp (only_fields names (field ∷ r)) name field.1 ≡ field ∷ kept =
        elim (is_one_of names field.0) as
        (λ t. insert_entry bytes_cmp (cond t (field ∷ kept) kept) name field.1 ≡ field ∷ kept) [
          | true ↦ ap (λ o. match_ordering o ((name, field.1) ∷ field ∷ kept) ((field.0, field.1) ∷ kept)
              (field ∷ insert_entry bytes_cmp kept name field.1)) e
          | false ↦ inserted_first kept name field.1 kept_above ∙ ap (λ n. (n, field.1) ∷ kept) named
        ] in
        first ∙ sym put ∙ sym (set_filled (only_fields names (field ∷ r)) name field.1 some)
        ∙ ap (λ value. set_field (only_fields names (field ∷ r)) name value) (sym (value_first field r name true same))
    at Greater e some later =
        let other = same_by_order name field.0 Greater e in
        let test = one_of_other names name field.0 (names_apart name field.0 other) in
        let value = value_first field r name false other in
        let kept = only_fields names r in
        let v = field_value r name in
        (λ i. cond (test i) (field ∷ later i) (later i))
        ∙ elim (is_one_of names field.0) as
        (λ t. cond t (field ∷ set_field kept name v) (set_field kept name v) ≡ set_field (cond t (field
        ∷ kept) kept) name v) [
          | true ↦ sym (set_past field kept name v e)
          | false ↦ refl
        ]
        ∙ ap (λ w. set_field (only_fields names (field ∷ r)) name w) (sym value)

-- ---- values of the record of a row

value_of_first : (field : Field) (r : Record) (name : List ℕ)
    → field_value (field ∷ r) name ≡ cond (bytes_eq name field.0) field.1 (field_value r name)
value_of_first field r name =
    elim (bytes_eq name field.0) as
    (λ t. unwrap_or (cond t (Some field.1) (lookup (bytes_eq name) r)) [] ≡ cond t field.1 (field_value r name)) [
      | true ↦ refl
      | false ↦ refl
    ]

either_first : (s t : Bool) (a b c : List ℕ) → (s ≡ true → t ≡ true → ⊥) → cond s a (cond t b c) ≡ cond t b (cond s a c)
either_first true true a b c h = absurd (h refl refl)
either_first true false a b c h = refl
either_first false true a b c h = refl
either_first false false a b c h = refl

same_first : (s t : Bool) (a b c : List ℕ) → s ≡ t → cond s a c ≡ cond t a (cond s b c)
same_first true true a b c e = refl
same_first false false a b c e = refl
same_first true false a b c e = absurd cc
same_first false true a b c e = absurd cc

value_inserted : (r : Record) (put value name : List ℕ)
    → field_value (insert_entry bytes_cmp r put value) name ≡ cond (bytes_eq name put) value (field_value r name)
value_inserted [] put value name = value_of_first (put, value) [] name
value_inserted (field ∷ r) put value name = at (bytes_cmp put field.0) refl (value_inserted r put value name)
  where
    at : (o : Ordering) → bytes_cmp put field.0 ≡ o
        → field_value (insert_entry bytes_cmp r put value) name ≡ cond (bytes_eq name put) value (field_value r name)
        → field_value (match_ordering o ((put, value) ∷ field ∷ r) ((field.0, value) ∷ r)
        (field ∷ insert_entry bytes_cmp r put value)) name
        ≡ cond (bytes_eq name put) value (field_value (field ∷ r) name)
    at Less e later = value_of_first (put, value) (field ∷ r) name
    at Equal e later =
        let named = (bytes_eq-Decides put field.0).0 (same_by_order put field.0 Equal e) in
        value_of_first (field.0, value) r name
        ∙ same_first (bytes_eq name field.0) (bytes_eq name put) value field.1 (field_value r name)
        (ap (bytes_eq name) (sym named))
        ∙ ap (λ v. cond (bytes_eq name put) value v) (sym (value_of_first field r name))
    at Greater e later =
        let other = same_by_order put field.0 Greater e in
        value_of_first field (insert_entry bytes_cmp r put value) name
        ∙ ap (λ v. cond (bytes_eq name field.0) field.1 v) later
        ∙ either_first (bytes_eq name field.0) (bytes_eq name put) field.1 value (field_value r name)
        (λ s t. let both : put ≡ field.0 = sym ((bytes_eq-Decides name put).0 t) ∙
        (bytes_eq-Decides name field.0).0 s in
        let no : true ≡ false = sym ((bytes_eq-Decides put field.0).1 both) ∙ other in absurd cc)
        ∙ ap (λ v. cond (bytes_eq name put) value v) (sym (value_of_first field r name))

value_set : (r : Record) (put value name : List ℕ) → 0 < length value
    → field_value (set_field r put value) name ≡ cond (bytes_eq name put) value (field_value r name)
value_set r put value name some =
    ap (λ one. field_value one name) (set_filled r put value some) ∙ value_inserted r put value name

moment_text-some : (moment : ℕ) → 0 < length (moment_text moment)
unfolding moment_text
moment_text-some moment = omega arith

pub value_in : (row : Row) (name : List ℕ) → field_value (record_of row) name
    ≡ cond (bytes_eq name (codes "_time")) (moment_text row.moment)
    (cond (bytes_eq name (codes "_stream_id")) (stream_id row.labels)
    (cond (bytes_eq name (codes "_stream")) (label_text row.labels) (field_value row.fields name)))
value_in row name =
    value_set (set_field (set_field row.fields (codes "_stream") (label_text row.labels)) (codes "_stream_id")
    (stream_id row.labels))
    (codes "_time") (moment_text row.moment) name (moment_text-some row.moment)
    ∙ ap (λ v. cond (bytes_eq name (codes "_time")) (moment_text row.moment) v)
    (value_set (set_field row.fields (codes "_stream") (label_text row.labels)) (codes "_stream_id")
    (stream_id row.labels) name
    (stream_id-some row.labels)
    ∙ ap (λ v. cond (bytes_eq name (codes "_stream_id")) (stream_id row.labels) v)
    (value_set row.fields (codes "_stream") (label_text row.labels) name (label_text-some row.labels)))

module _ (row : Row) (name : List ℕ) where
  pub at_time : bytes_eq name (codes "_time") ≡ true → field_value (record_of row) name ≡ moment_text row.moment
  at_time e = value_in row name ∙ ap (λ t. cond t (moment_text row.moment)
      (cond (bytes_eq name (codes "_stream_id")) (stream_id row.labels)
      (cond (bytes_eq name (codes "_stream")) (label_text row.labels) (field_value row.fields name)))) e

  pub at_id : bytes_eq name (codes "_time") ≡ false → bytes_eq name (codes "_stream_id") ≡ true
      → field_value (record_of row) name ≡ stream_id row.labels
  at_id t e = value_in row name ∙ (λ i. cond (t i) (moment_text row.moment)
      (cond (e i) (stream_id row.labels)
      (cond (bytes_eq name (codes "_stream")) (label_text row.labels) (field_value row.fields name))))

  pub at_stream : bytes_eq name (codes "_time") ≡ false → bytes_eq name (codes "_stream_id") ≡ false
      → bytes_eq name (codes "_stream") ≡ true → field_value (record_of row) name ≡ label_text row.labels
  at_stream t d e = value_in row name ∙ (λ i. cond (t i) (moment_text row.moment)
      (cond (d i) (stream_id row.labels) (cond (e i) (label_text row.labels) (field_value row.fields name))))

  pub at_stored : bytes_eq name (codes "_time") ≡ false → bytes_eq name (codes "_stream_id") ≡ false
      → bytes_eq name (codes "_stream") ≡ false → field_value (record_of row) name ≡ field_value row.fields name
  at_stored t d e = value_in row name ∙ (λ i. cond (t i) (moment_text row.moment)
      (cond (d i) (stream_id row.labels) (cond (e i) (label_text row.labels) (field_value row.fields name))))

pub none_kept : (r : Record) → only_fields [] r ≡ []
none_kept [] = refl
none_kept (field ∷ r) = none_kept r

-- one more of the names
pub record_more : (names : List (List ℕ)) (i : ℕ) (name : List ℕ) (r : Record) → IsFieldList r → i < length names
    → name ≡ get_or names i name
    → only_fields (take (i + 1) names) r ≡ set_field (only_fields (take i names) r) name (field_value r name)
record_more names i name r list below is =
    ap (λ ns. only_fields ns r) (one_more names i name below is)
    ∙ only_more (take i names) name r list.ordered list.filled

-- ---- a field that has a value has a name

no_name : (r : Record) → IsTrue (list_all is_filled r) → field_value r [] ≡ []
no_name [] h = refl
no_name (([], value) ∷ r) h = absurd (false≢true h)
no_name ((byte ∷ name, value) ∷ r) h = no_name r (and_parts (is_filled (byte ∷ name, value)) (list_all is_filled r) h).1

pub named_value : (r : Record) (name : List ℕ) → IsFieldList r → 0 < length (field_value r name) → 0 < length name
named_value r [] list some = absurd (omega (arith, ap length (no_name r list.filled), some))
named_value r (byte ∷ name) list some = omega arith
