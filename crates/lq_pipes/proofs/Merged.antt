-- The record of a row is its fields with the three computed ones, each at its place.
use Rattle.std.proofs.Common.{◌≡◌, ◌≢◌, ℕ, ◌<◌, Bool, true, false, not, ◌&&◌, cond, IsTrue, List, [], ◌∷◌, ◌++◌, length}
use Rattle.std.proofs.Common.{codes, refl, ap, sym, ◌∙◌, arith, append_assoc}
use Rattle.std.specs.BTreeMap.{insert_entry}
use Rattle.std.specs.List.{list_all}
use Rattle.std.specs.Ordering.{is_gt, match_ordering, ordering_reverse}
use Rattle.std.specs.declared.cmp.Ordering.TheVariants.{Less, Equal, Greater}
use Rattle.std.proofs.lemmas.Bool.{false≢true}
use Rattle.std.proofs.lemmas.Grind.{flat_map-append}
use Rattle.std.proofs.lemmas.Cmp.{nat_list_cmp_total}
use Rattle.std.proofs.lemmas.Map.Lookups.{exact_bytes}
use Rattle.json.specs.Token.{Token}
use Rattle.log_model.specs.Field.{Field, bytes_cmp, is_reserved, set_field}
use Rattle.log_model.specs.Moment.{moment_text}
use Rattle.log_model.specs.Row.{Row, IsRow, record_of}
use Rattle.log_model.specs.Stream.{label_text, stream_id}
use Rattle.log_model.proofs.Labels.{label_text-some, stream_id-some}
use Rattle.lq_pipes.specs.Merge.{is_after, fields_before, fields_from}
use Rattle.lq_pipes.specs.Tokens.{members_tokens}

abbrev is_stored : Field → Bool
is_stored field = not (is_reserved field.0)

abbrev AreStored : List Field → Type 0
AreStored fields = IsTrue (list_all is_stored fields)

both : (a b : Bool) → (a && b) ≡ true → (a ≡ true) × (b ≡ true)
both true b h = (refl, h)
both false b h = absurd (false≢true h)

stored_parts : (field : Field) (fields : List Field) → AreStored (field ∷ fields)
    → IsTrue (is_stored field) × AreStored fields
stored_parts field fields stored = both (is_stored field) (list_all is_stored fields) stored

not_both : (b : Bool) → b ≡ true → not b ≡ true → ⊥
not_both true h g = false≢true g
not_both false h g = false≢true h

-- a reserved name is not a stored field's
apart : (name : List ℕ) → IsTrue (is_reserved name) → (field : Field) → IsTrue (is_stored field)
    → bytes_cmp name field.0 ≢ Equal
apart name reserved field stored e =
    not_both (is_reserved field.0) (sym (ap is_reserved (exact_bytes name field.0 e)) ∙ reserved) stored

pub insert_new : (name value : List ℕ) → IsTrue (is_reserved name) → (fields : List Field) → AreStored fields →
    insert_entry bytes_cmp fields name value ≡ fields_before name fields ++ (name, value) ∷ fields_from name fields
insert_new name value reserved [] stored = refl
insert_new name value reserved (field ∷ fields) stored =
    let parts = stored_parts field fields stored in
    elim (bytes_cmp name field.0) as (λ order. order ≢ Equal →
    match_ordering order ((name, value) ∷ field ∷ fields) ((field.0, value) ∷ fields) (field ∷ insert_entry bytes_cmp fields name value) ≡
    cond (is_gt order) (field ∷ fields_before name fields) [] ++ (name, value) ∷ cond (is_gt order) (fields_from name fields) (field ∷ fields)) [
      | Less ↦ λ _. refl
      | Equal ↦ λ differ. absurd (differ refl)
      | Greater ↦ λ _. ap (λ later. field ∷ later) (insert_new name value reserved fields parts.1)
    ] (apart name reserved field parts.0)

pub stored_from : (name : List ℕ) (fields : List Field) → AreStored fields → AreStored (fields_from name fields)
stored_from name [] stored = refl
stored_from name (field ∷ fields) stored =
    elim (is_after name field) as (λ after. AreStored (cond after (fields_from name fields) (field ∷ fields))) [
      | true ↦ stored_from name fields (stored_parts field fields stored).1
      | false ↦ stored
    ]

less_from_greater : (x y : List ℕ) → bytes_cmp x y ≡ Greater → bytes_cmp y x ≡ Less
less_from_greater x y e = nat_list_cmp_total.antisymm y x ∙ ap ordering_reverse e

after_trans : (later name : List ℕ) (field : Field) → bytes_cmp later name ≡ Greater → bytes_cmp name field.0 ≡ Greater
    → bytes_cmp later field.0 ≡ Greater
after_trans later name field above after =
    nat_list_cmp_total.antisymm later field.0 ∙
    ap ordering_reverse (nat_list_cmp_total.trans field.0 name later (less_from_greater name field.0 after) (less_from_greater later name above))

insert_past : (field : Field) (later new : List ℕ) (rest : List Field) → bytes_cmp later field.0 ≡ Greater →
    insert_entry bytes_cmp (field ∷ rest) later new ≡ field ∷ insert_entry bytes_cmp rest later new
insert_past field later new rest above =
    ap (λ order. match_ordering order ((later, new) ∷ field ∷ rest) ((field.0, new) ∷ rest) (field ∷ insert_entry bytes_cmp rest later new)) above

-- what comes after a computed field is inserted after it
pub insert_behind : (name value later new : List ℕ) (rest : List Field) → bytes_cmp later name ≡ Greater
    → (fields : List Field) →
    insert_entry bytes_cmp (fields_before name fields ++ (name, value) ∷ rest) later new ≡ fields_before name fields ++ (name, value) ∷ insert_entry bytes_cmp rest later new
insert_behind name value later new rest above [] = insert_past (name, value) later new rest above
insert_behind name value later new rest above (field ∷ fields) =
    elim (bytes_cmp name field.0) as (λ order. bytes_cmp name field.0 ≡ order →
    insert_entry bytes_cmp (cond (is_gt order) (field ∷ fields_before name fields) [] ++ (name, value) ∷ rest) later new ≡
    cond (is_gt order) (field ∷ fields_before name fields) [] ++ (name, value) ∷ insert_entry bytes_cmp rest later new) [
      | Less ↦ λ _. insert_past (name, value) later new rest above
      | Equal ↦ λ _. insert_past (name, value) later new rest above
      | Greater ↦ λ after. insert_past field later new (fields_before name fields ++ (name, value) ∷ rest) (after_trans later name field above after) ∙
          ap (λ behind. field ∷ behind) (insert_behind name value later new rest above fields)
    ] refl

set_filled : (fields : List Field) (name value : List ℕ) → 0 < length value
    → set_field fields name value ≡ insert_entry bytes_cmp fields name value
set_filled fields name [] some = absurd (omega arith)
set_filled fields name (byte ∷ bytes) some = refl

moment_text-some : (moment : ℕ) → 0 < length (moment_text moment)
unfolding moment_text
moment_text-some moment = omega arith

-- three reserved names that ascend, each inserted among stored fields
insert_three : (first second third : Field) → bytes_cmp second.0 first.0 ≡ Greater → bytes_cmp third.0 first.0 ≡ Greater
    → bytes_cmp third.0 second.0 ≡ Greater →
    IsTrue (is_reserved first.0) → IsTrue (is_reserved second.0) → IsTrue (is_reserved third.0) → (fields : List Field) → AreStored fields →
    insert_entry bytes_cmp (insert_entry bytes_cmp (insert_entry bytes_cmp fields first.0 first.1) second.0 second.1) third.0 third.1 ≡
    fields_before first.0 fields ++ first ∷
    (let rest = fields_from first.0 fields in fields_before second.0 rest ++ second ∷
    (let rest = fields_from second.0 rest in fields_before third.0 rest ++ third ∷ fields_from third.0 rest))
insert_three first second third second_first third_first third_second reserved_first reserved_second reserved_third fields stored =
    let rest = fields_from first.0 fields in
    let last = fields_from second.0 rest in
    let stored_rest = stored_from first.0 fields stored in
    let behind : List Field → List Field = λ later. fields_before first.0 fields ++ first ∷ later in
    let with_second : insert_entry bytes_cmp (insert_entry bytes_cmp fields first.0 first.1) second.0 second.1 ≡ behind (fields_before second.0 rest ++ second ∷ last) =
    ap (λ list. insert_entry bytes_cmp list second.0 second.1) (insert_new first.0 first.1 reserved_first fields stored) ∙
    insert_behind first.0 first.1 second.0 second.1 rest second_first fields ∙
    ap behind (insert_new second.0 second.1 reserved_second rest stored_rest) in
    ap (λ list. insert_entry bytes_cmp list third.0 third.1) with_second ∙
    insert_behind first.0 first.1 third.0 third.1 _ third_first fields ∙
    ap behind (insert_behind second.0 second.1 third.0 third.1 last third_second rest ∙
    ap (λ later. fields_before second.0 rest ++ second ∷ later) (insert_new third.0 third.1 reserved_third last (stored_from second.0 rest stored_rest)))

-- three values that are not empty, set one after another, are inserted
set_three : (fields : List Field) (first second third : Field) → 0 < length first.1 → 0 < length second.1
    → 0 < length third.1 →
    set_field (set_field (set_field fields first.0 first.1) second.0 second.1) third.0 third.1 ≡
    insert_entry bytes_cmp (insert_entry bytes_cmp (insert_entry bytes_cmp fields first.0 first.1) second.0 second.1) third.0 third.1
set_three fields first second third some_first some_second some_third =
    set_filled (set_field (set_field fields first.0 first.1) second.0 second.1) third.0 third.1 some_third ∙
    ap (λ list. insert_entry bytes_cmp list third.0 third.1) (
    set_filled (set_field fields first.0 first.1) second.0 second.1 some_second ∙
    ap (λ list. insert_entry bytes_cmp list second.0 second.1) (set_filled fields first.0 first.1 some_first)
    )

-- the computed fields of a row
abbrev stream : Row → Field
stream row = (codes "_stream", label_text row.labels)

abbrev id : Row → Field
id row = (codes "_stream_id", stream_id row.labels)

abbrev time : Row → Field
time row = (codes "_time", moment_text row.moment)

pub record_of-merged : (row : Row) → IsRow row →
    record_of row ≡ fields_before (codes "_stream") row.fields ++ stream row ∷
    (let rest = fields_from (codes "_stream") row.fields in fields_before (codes "_stream_id") rest ++ id row ∷
    (let rest = fields_from (codes "_stream_id") rest in fields_before (codes "_time") rest ++ time row ∷ fields_from (codes "_time") rest))
record_of-merged row rules =
    set_three row.fields (stream row) (id row) (time row) (label_text-some row.labels) (stream_id-some row.labels) (moment_text-some row.moment) ∙
    insert_three (stream row) (id row) (time row) refl refl refl refl refl refl row.fields rules.unreserved

-- its members, written in four pieces
pub tokens-record_of : (row : Row) → IsRow row
    → (fields rest_first rest_second rest_third : List Field) (text id_text moment : List ℕ) (tokens first second third : List Token) →
    fields ≡ row.fields → text ≡ label_text row.labels → id_text ≡ stream_id row.labels → moment ≡ moment_text row.moment →
    first ≡ tokens ++ members_tokens (fields_before (codes "_stream") fields ++ (codes "_stream", text) ∷ []) → rest_first ≡ fields_from (codes "_stream") fields →
    second ≡ first ++ members_tokens (fields_before (codes "_stream_id") rest_first ++ (codes "_stream_id", id_text) ∷ []) → rest_second ≡ fields_from (codes "_stream_id") rest_first →
    third ≡ second ++ members_tokens (fields_before (codes "_time") rest_second ++ (codes "_time", moment) ∷ []) → rest_third ≡ fields_from (codes "_time") rest_second →
    third ++ members_tokens rest_third ≡ tokens ++ members_tokens (record_of row)
tokens-record_of row rules fields rest_first rest_second rest_third text id_text moment tokens first second third f s i m e1 r1 e2 r2 e3 r3 =
    rw (record_of-merged row rules) (rw (e3, e2, e1, r3, r2, r1, f, s, i, m) (simp (flat_map-append, append_assoc)))
