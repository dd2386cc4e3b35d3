-- Fields that are ignored, and a field with a long name, which stays whatever is asked for.
use Rattle.std.proofs.Common.{◌≡◌, ◌≢◌, ℕ, ℤ, ◌<◌, ◌≤◌, Bool, true, false, cond, not, ◌||◌, List, [], ◌∷◌, length}
use Rattle.std.proofs.Common.{filter, fold, Some, refl, sym, ap, subst, ◌∙◌, bytes_eq, unwrap_or, IsTrue, IsFalse}
use Rattle.std.proofs.Common.{arith, inl, inr, is_some}
use Rattle.std.proofs.Common.{pos, ◌≤ℤ◌, codes, nat_lt, int_lt, lit<}
use Rattle.std.proofs.Common.{Option, None, Result, Ok, Err}
use Rattle.std.specs.Prelude.{IfOk, IfErr, MatchOption}
use Rattle.std.specs.List.{list_all, list_any}
use Rattle.std.specs.Map.{lookup}
use Rattle.std.proofs.lemmas.Bool.{and_parts, false_from_ne_true, false≢true}
use Rattle.std.proofs.lemmas.Bool.Decides.{nat_tests}
use Rattle.std.proofs.lemmas.Int.{ints}
use Rattle.std.proofs.lemmas.Slice.Eq.{bytes_eq-Decides}
use Rattle.log_model.specs.Field.{Field, IsFieldList, field_value, is_empty, is_reserved, set_all, set_field, weight}
use Rattle.log_model.specs.Field.{without}
use Rattle.log_model.specs.Row.{Row}
use Rattle.vl_row.specs.Faults.{is_long_named, row_fault, size_fault, stored}
use Rattle.vl_row.specs.Names.{is_among}
use Rattle.vl_row.specs.declared.row.RowFault.TheVariants as row
use Rattle.vl_row.proofs.Sorted.{IsFieldList-filter, IsFieldList-without, filled_each}
use Rattle.field_setter.proofs.Setting.{IsFieldList-set_field, named_len, same_values, value_set}
use Rattle.jsonline_in.specs.Near.{AreKnown, is_short}
use Rattle.jsonline_in.proofs.Notes.{kept_value, not_true, other_name}
use Rattle.ingest_row.specs.Ingest.{AsksShort, IsRowOf, IsTimeOf, Options, is_named, kept, moved, row_fields}
use Rattle.ingest_row.specs.Ingest.{time_text, with_first, with_message}
use Rattle.ingest_row.specs.Refusal.{IsFieldsFault}
use Rattle.ingest_row.specs.declared.kind.LineKind.{LineKind}
use Rattle.ingest_row.specs.declared.kind.LineKind.TheVariants.{BadTime, Memory, NameLong}
use Rattle.ingest_row.proofs.OnlyRow.{one_time}
use Rattle.ingest_row.proofs.Rows.{faulty}

-- ---- what is ignored

twice : (a b : Bool) (v : List ℕ) → cond a [] (cond b [] v) ≡ cond (b || a) [] v
twice true true v = refl
twice true false v = refl
twice false true v = refl
twice false false v = refl

fold_rules : (names : List (List ℕ)) (fields : List Field) → IsFieldList fields
    → IsFieldList (fold without fields names)
fold_rules [] fields rules = rules
fold_rules (n ∷ ns) fields rules = fold_rules ns (without fields n) (IsFieldList-without fields n rules)

fold_value : (names : List (List ℕ)) (fields : List Field) (q : List ℕ) → IsFieldList fields
    → field_value (fold without fields names) q ≡ cond (is_among names q) [] (field_value fields q)
fold_value [] fields q rules = refl
fold_value (n ∷ ns) fields q rules =
    fold_value ns (without fields n) q (IsFieldList-without fields n rules)
    ∙ ap (cond (is_among ns q) []) (value_set fields n [] q rules.ordered)
    ∙ twice (is_among ns q) (bytes_eq q n) (field_value fields q)

turned : (a : Bool) (v : List ℕ) → cond (not a) v [] ≡ cond a [] v
turned true v = refl
turned false v = refl

-- fields whose names are looked up in one list are those that are left out by the names of another
pub removed_is : (names listed : List (List ℕ)) (fields : List Field) → IsFieldList fields
    → ((name : List ℕ) → is_among listed name ≡ is_among names name)
    → filter (λ field. not (is_among listed field.0)) fields ≡ fold without fields names
removed_is names listed fields rules same =
    let left = IsFieldList-filter (λ field. not (is_among listed field.0)) fields rules in
    let other = fold_rules names fields rules in
    same_values (filter (λ field. not (is_among listed field.0)) fields) (fold without fields names) left.ordered
    other.ordered (filled_each (filter (λ field. not (is_among listed field.0)) fields) left)
    (filled_each (fold without fields names) other)
    (λ q.
    kept_value (λ name. not (is_among listed name)) fields q
    ∙ turned (is_among listed q) (field_value fields q)
    ∙ ap (λ t. cond t [] (field_value fields q)) (same q)
    ∙ sym (fold_value names fields q rules))

-- ---- a long name

none_among : (names : List (List ℕ)) (q : List ℕ) → list_all is_short names ≡ true → is_short q ≡ false
    → is_among names q ≡ false
none_among [] q h long = refl
none_among (n ∷ ns) q h long =
    let parts = and_parts (is_short n) (list_all is_short ns) h in
    ap (λ b. b || is_among ns q) (other_name is_short q n long parts.0) ∙ none_among ns q parts.1 long

-- Fields in which this name, which is long, has this value.
record Holds (q value : List ℕ) (fields : List Field) : Type 0 where
  rules : IsFieldList fields
  is : field_value fields q ≡ value

module _ (q value : List ℕ) (long : is_short q ≡ false) where
  holds_set : (fields : List Field) (name text : List ℕ) → 0 < length name → is_short name ≡ true → Holds q value fields
      → Holds q value (set_field fields name text)
  holds_set fields name text n short h = record {
    rules = IsFieldList-set_field fields name text h.rules n;
    is = value_set fields name text q h.rules.ordered
        ∙ ap (λ t. cond t text (field_value fields q)) (other_name is_short q name long short) ∙ h.is;
  }

  holds_without : (fields : List Field) (name : List ℕ) → is_short name ≡ true → Holds q value fields
      → Holds q value (without fields name)
  holds_without fields name short h = record {
    rules = IsFieldList-without fields name h.rules;
    is = value_set fields name [] q h.rules.ordered
        ∙ ap (λ t. cond t [] (field_value fields q)) (other_name is_short q name long short) ∙ h.is;
  }

  holds_all : (more fields : List Field) → list_all (λ field. is_short field.0) more ≡ true
      → list_all is_named more ≡ true → Holds q value fields → Holds q value (set_all fields more)
  holds_all [] fields s n h = h
  holds_all (x ∷ xs) fields s n h =
      let shorts = and_parts (is_short x.0) (list_all (λ field. is_short field.0) xs) s in
      let names = and_parts (is_named x) (list_all is_named xs) n in
      holds_all xs (set_field fields x.0 x.1) shorts.1 names.1
      (holds_set fields x.0 x.1 (named_len x (not_true _ names.0)) shorts.0 h)

  holds_moved : (fields : List Field) (name : List ℕ) → is_short name ≡ true → Holds q value fields
      → Holds q value (moved fields name)
  holds_moved fields name short h =
      holds_set (without fields name) (codes "_msg") (field_value fields name) (lit< tt) refl
      (holds_without fields name short h)

  holds_first : (p : List ℕ → Bool) (names : List (List ℕ)) (fields : List Field) → list_all is_short names ≡ true
      → Holds q value fields → Holds q value (with_first fields (filter p names))
  holds_first p [] fields s h = h
  holds_first p (n ∷ ns) fields s h =
      let parts = and_parts (is_short n) (list_all is_short ns) s in
      elim (p n) as (λ t. Holds q value (with_first fields (cond t (n ∷ filter p ns) (filter p ns)))) [
        | true ↦ holds_moved fields n parts.0 h
        | false ↦ holds_first p ns fields parts.1 h
      ]

  holds_message : (names : List (List ℕ)) (fields : List Field) → list_all is_short names ≡ true
      → Holds q value fields → Holds q value (with_message names fields)
  unfolding with_message
  holds_message names fields s h =
      holds_first (λ name. not (is_empty (field_value fields name))) names fields s h

  holds_kept : (names : List (List ℕ)) (fields : List Field) → list_all is_short names ≡ true
      → Holds q value fields → Holds q value (fold without fields names)
  holds_kept names fields s h = record {
    rules = fold_rules names fields h.rules;
    is = fold_value names fields q h.rules
        ∙ ap (λ t. cond t [] (field_value fields q)) (none_among names q s long) ∙ h.is;
  }

  holds_row : (o : Options) (fields : List Field) → AsksShort o → Holds q value fields
      → Holds q value (row_fields o fields)
  holds_row o fields asks h =
      let a = and_parts (is_short o.time_field) _ asks.short in
      let b = and_parts (list_all is_short o.message_fields) _ a.1 in
      let c = and_parts (list_all is_short o.ignored_fields) _ b.1 in
      holds_all o.extra_fields (with_message o.message_fields (without (kept o fields) o.time_field)) c.1 asks.named
      (holds_message o.message_fields (without (kept o fields) o.time_field) b.0
      (holds_without (kept o fields) o.time_field a.0 (holds_kept o.ignored_fields fields c.0 h)))

-- ---- the fault

not_reserved : (q : List ℕ) → is_short q ≡ false → is_reserved q ≡ false
not_reserved q long =
    ap (λ b. b || (bytes_eq q (codes "_stream") || bytes_eq q (codes "_stream_id")))
    (other_name is_short q (codes "_time") long refl)
    ∙ ap (λ b. b || bytes_eq q (codes "_stream_id")) (other_name is_short q (codes "_stream") long refl)
    ∙ other_name is_short q (codes "_stream_id") long refl

is_long : (q : List ℕ) → is_short q ≡ false → nat_lt 128 (length q) ≡ true
is_long q long = grind (arith, nat_tests)

or_true : (a b : Bool) → b ≡ true → (a || b) ≡ true
or_true true b h = refl
or_true false b h = h

long_step : (e : Field) (es : List Field) (q : List ℕ) (t r : Bool) → bytes_eq q e.0 ≡ t → is_reserved e.0 ≡ r
    → is_short q ≡ false → unwrap_or (cond t (Some e.1) (lookup (bytes_eq q) es)) [] ≢ []
    → (field_value es q ≢ [] → list_any is_long_named (stored es) ≡ true)
    → list_any is_long_named (cond (not r) (e ∷ stored es) (stored es)) ≡ true
long_step e es q true true g h long found rest =
    absurd (false≢true (sym (not_reserved q long) ∙ ap is_reserved ((bytes_eq-Decides q e.0).0 g) ∙ h))
long_step e es q true false g h long found rest =
    let here : nat_lt 128 (length e.0) ≡ true =
    ap (λ n. nat_lt 128 (length n)) (sym ((bytes_eq-Decides q e.0).0 g)) ∙ is_long q long in
    ap (λ b. b || list_any is_long_named (stored es)) here
long_step e es q false true g h long found rest = rest found
long_step e es q false false g h long found rest = or_true (is_long_named e) _ (rest found)

long_named : (fields : List Field) (q : List ℕ) → is_short q ≡ false → field_value fields q ≢ []
    → list_any is_long_named (stored fields) ≡ true
long_named [] q long found = absurd (found refl)
long_named (e ∷ es) q long found =
    long_step e es q (bytes_eq q e.0) (is_reserved e.0) refl refl long found (long_named es q long)

not_before : (time : ℤ) → pos 0 ≤ℤ time → int_lt time (pos 0) ≡ false
not_before time h = grind (arith, ints)

fault_of_long : (time : ℤ) (fields : List Field) (q : List ℕ) → pos 0 ≤ℤ time → is_short q ≡ false
    → field_value fields q ≢ [] → row_fault time fields ≡ Some row.NameLong
fault_of_long time fields q from long found =
    ap (λ b. cond b (Some row.TimeRange) (size_fault (list_any is_long_named (stored fields)) (length (stored fields))
    (weight (stored fields)))) (not_before time from)
    ∙ ap (λ b. size_fault b (length (stored fields)) (weight (stored fields))) (long_named fields q long found)

-- ---- fields of which a long name is known

module _ (o : Options) (now : ℤ) (fields whole : List Field) (q : List ℕ) (asks : AsksShort o)
    (rules : IsFieldList fields) (known : AreKnown false whole fields (Some q)) where
  same_text : time_text o fields ≡ time_text o whole
  same_text =
      let a = and_parts (is_short o.time_field) _ asks.short in
      fold_value o.ignored_fields fields o.time_field rules
      ∙ ap (cond (is_among o.ignored_fields o.time_field) []) (known.found.2 o.time_field a.0)
      ∙ sym (fold_value o.ignored_fields whole o.time_field known.rules)

  pub far_fault : (at : ℤ) (text : List ℕ) (time : ℤ) → at ≡ now → text ≡ time_text o fields → IsTimeOf at text time
      → pos 0 ≤ℤ time → IsFieldsFault NameLong o now whole
  far_fault at text time now_is text_is is from = inr (record {
    time = time;
    is_time = subst (λ (n : ℤ). IsTimeOf n (time_text o whole) time) now_is
        (subst (λ (t : List ℕ). IsTimeOf at t time) (text_is ∙ same_text) is);
    at_fault = fault_of_long time (row_fields o whole) q from known.found.0
        (λ e. known.found.1
        (sym (holds_row q (field_value whole q) known.found.0 o whole asks
        (record { rules = known.rules; is = refl })).is ∙ e));
  })

  pub no_time : (at : ℤ) (text : List ℕ) → at ≡ now → text ≡ time_text o fields
      → ((time : ℤ) → IsTimeOf at text time → ⊥) → IsFieldsFault BadTime o now whole
  no_time at text now_is text_is none = inl (
    refl,
    λ time is. none time
        (subst (λ (t : List ℕ). IsTimeOf at t time) (sym (text_is ∙ same_text))
        (subst (λ (n : ℤ). IsTimeOf n (time_text o whole) time) (sym now_is) is)),
  )

-- ---- what is known of all fields

-- where no name is noted, all fields are known
pub same_whole : (all : Bool) (whole fields : List Field) (far : Option (List ℕ)) → far ≡ None
    → AreKnown all whole fields far → fields ≡ whole
same_whole all whole fields far none known = subst (λ (f : Option (List ℕ)). MatchOption f (fields ≡ whole)
    (λ name. IsFalse (is_short name) × (field_value whole name ≢ [])
    × ((q : List ℕ) → IsTrue (is_short q) → field_value fields q ≡ field_value whole q))) none known.found

-- whether a name is noted
pub is_far : (far : Option (List ℕ)) → is_some far ≡ true → (name : List ℕ) × (far ≡ Some name)
is_far None h = absurd (false≢true h)
is_far (Some name) h = (name, refl)

pub no_far : (far : Option (List ℕ)) → is_some far ≡ false → far ≡ None
no_far None h = refl
no_far (Some name) h = absurd (false≢true (sym h))

some_not_none : (name : List ℕ) → Some name ≡ None → ⊥
some_not_none name e = cc

-- where a name is noted, not all are asked for
pub far_known : (all : Bool) (whole fields : List Field) (far : Option (List ℕ)) (name : List ℕ) → far ≡ Some name
    → AreKnown all whole fields far → (all ≡ false) × AreKnown false whole fields (Some name)
far_known all whole fields far name is known = (
  false_from_ne_true all (λ e. some_not_none name (sym is ∙ known.none e)),
  record {
    rules = known.rules;
    none = λ e. absurd (false≢true e);
    found = subst (λ (f : Option (List ℕ)). MatchOption f (fields ≡ whole)
        (λ n. IsFalse (is_short n) × (field_value whole n ≢ [])
        × ((q : List ℕ) → IsTrue (is_short q) → field_value fields q ≡ field_value whole q))) is known.found;
  },
)

-- fields at fault have no row
pub at_fault : (o : Options) (now : ℤ) (whole : List Field) (kind : LineKind) (row : Row) → kind ≢ Memory
    → IsFieldsFault kind o now whole → IsRowOf o now whole row → ⊥
at_fault o now whole kind row other (inl bad) is = bad.1 is.time is.is_time
at_fault o now whole kind row other (inr h) is =
    faulty kind h.time (row_fields o whole) other h.at_fault
    (ap (λ (t : ℤ). row_fault t (row_fields o whole))
    (one_time now (time_text o whole) h.time is.time h.is_time is.is_time)
    ∙ is.faultless)

-- what holds of any fields of which this is known holds of these
pub row_at_whole : {T E : Type 0} (result : Result T E) (P : List Field → Type 0) (Q : T → List Field → Type 0)
    (whole : List Field) → IfOk result (λ x. (fields : List Field) → P fields → Q x fields) → P whole
    → IfOk result (λ x. Q x whole)
row_at_whole (Ok x) P Q whole h p = h whole p
row_at_whole (Err e) P Q whole h p = tt

pub kind_at_whole : {T E : Type 0} (result : Result T E) (P : List Field → Type 0) (Q : E → List Field → Type 0)
    (whole : List Field) → IfErr result (λ e. (fields : List Field) → P fields → Q e fields) → P whole
    → IfErr result (λ e. Q e whole)
kind_at_whole (Ok x) P Q whole h p = tt
kind_at_whole (Err e) P Q whole h p = h whole p

-- the converse, where the fields are those
pub row_of_whole : {T E : Type 0} (result : Result T E) (all : Bool) (fields : List Field) (far : Option (List ℕ))
    (Q : T → List Field → Type 0) → far ≡ None → IfOk result (λ x. Q x fields)
    → IfOk result (λ x. (whole : List Field) → AreKnown all whole fields far → Q x whole)
row_of_whole (Ok x) all fields far Q none h = λ whole known.
    subst (Q x) (same_whole all whole fields far none known) h
row_of_whole (Err e) all fields far Q none h = tt

pub kind_of_whole : {T E : Type 0} (result : Result T E) (all : Bool) (fields : List Field) (far : Option (List ℕ))
    (Q : E → List Field → Type 0) → far ≡ None → IfErr result (λ e. Q e fields)
    → IfErr result (λ e. (whole : List Field) → AreKnown all whole fields far → Q e whole)
kind_of_whole (Ok x) all fields far Q none h = tt
kind_of_whole (Err e) all fields far Q none h = λ whole known.
    subst (Q e) (same_whole all whole fields far none known) h

pub none_at_whole : {T : Type 0} (result : Result T LineKind) (P : List Field → Type 0)
    (Q : LineKind → List Field → Type 0) (whole : List Field)
    → IfErr result (λ kind. kind ≢ Memory → (fields : List Field) → P fields → Q kind fields) → P whole
    → IfErr result (λ kind. kind ≢ Memory → Q kind whole)
none_at_whole (Ok x) P Q whole h p = tt
none_at_whole (Err kind) P Q whole h p = λ other. h other whole p

pub none_of_whole : {T : Type 0} (result : Result T LineKind) (all : Bool) (fields : List Field)
    (far : Option (List ℕ)) (Q : LineKind → List Field → Type 0) → far ≡ None
    → IfErr result (λ kind. kind ≢ Memory → Q kind fields)
    → IfErr result (λ kind. kind ≢ Memory → (whole : List Field) → AreKnown all whole fields far → Q kind whole)
none_of_whole (Ok x) all fields far Q none h = tt
none_of_whole (Err kind) all fields far Q none h = λ other whole known.
    subst (Q kind) (same_whole all whole fields far none known) (h other)
