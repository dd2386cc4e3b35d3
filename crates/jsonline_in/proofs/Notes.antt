-- What is noted of fields that are set one after another stands for all of them.
use Rattle.std.proofs.Common.{◌≡◌, ◌≢◌, ℕ, zero, ◌<◌, Bool, true, false, cond, not, ◌||◌, ◌&&◌, List, [], ◌∷◌, length}
use Rattle.std.proofs.Common.{filter, Option, Some, None, refl, sym, ap, subst, ◌∙◌, bytes_eq, unwrap_or, IsTrue}
use Rattle.std.proofs.Common.{IsFalse, arith}
use Rattle.std.proofs.Common.{MatchOption}
use Rattle.std.specs.List.{AllByRecursion, list_all}
use Rattle.std.specs.Map.{lookup}
use Rattle.std.proofs.lemmas.Bool.{false≢true}
use Rattle.std.proofs.lemmas.Bool.Decides.{nat_tests}
use Rattle.std.proofs.lemmas.Slice.Eq.{bytes_eq-Decides}
use Rattle.log_model.specs.Field.{Field, IsFieldList, field_value, is_empty, is_filled, set_all, set_field}
use Rattle.vl_row.proofs.Sorted.{IsFieldList-filter, IsFieldList-nil, all_pass, all_without, each_passes, filled_each}
use Rattle.field_setter.proofs.Setting.{IsFieldList-set_field, all_set, same_values, value_set}
use Rattle.jsonline_in.specs.Near.{Noted, is_kept, is_short, is_noted, note, note_all, note_far}

-- ---- fields whose names pass a test

module _ (kept : List ℕ → Bool) where
  pub only_kept : List Field → List Field
  only_kept fields = filter (λ field. kept field.0) fields

  kept_step : (e : Field) (es : List Field) (q : List ℕ) (a b : Bool) → kept e.0 ≡ a → bytes_eq q e.0 ≡ b
      → field_value (filter (λ field. kept field.0) es) q ≡ cond (kept q) (field_value es q) []
      → field_value (cond a (e ∷ filter (λ field. kept field.0) es) (filter (λ field. kept field.0) es)) q
      ≡ cond (kept q) (unwrap_or (cond b (Some e.1) (lookup (bytes_eq q) es)) []) []
  kept_step e es q true true h g rest =
      let same : q ≡ e.0 = (bytes_eq-Decides q e.0).0 g in
      ap (λ t. unwrap_or (cond t (Some e.1) (lookup (bytes_eq q) (filter (λ field. kept field.0) es))) []) g
      ∙ ap (λ t. cond t e.1 []) (sym (ap kept same ∙ h))
  kept_step e es q true false h g rest =
      ap (λ t. unwrap_or (cond t (Some e.1) (lookup (bytes_eq q) (filter (λ field. kept field.0) es))) []) g ∙ rest
  kept_step e es q false true h g rest =
      let same : q ≡ e.0 = (bytes_eq-Decides q e.0).0 g in
      let other : kept q ≡ false = ap kept same ∙ h in
      rest ∙ ap (λ t. cond t (field_value es q) []) other ∙ sym (ap (λ t. cond t e.1 []) other)
  kept_step e es q false false h g rest = rest

  pub kept_value : (fields : List Field) (q : List ℕ)
      → field_value (filter (λ field. kept field.0) fields) q ≡ cond (kept q) (field_value fields q) []
  kept_value [] q =
      let none : List ℕ = [] in
      elim (kept q) as (λ t. none ≡ cond t none none) [ true ↦ refl | false ↦ refl ]
  kept_value (e ∷ es) q = kept_step e es q (kept e.0) (bytes_eq q e.0) refl refl (kept_value es q)

  same_kept : (xs ys : List Field) → IsFieldList xs → IsFieldList ys
      → ((q : List ℕ) → field_value xs q ≡ field_value ys q) → xs ≡ ys
  same_kept xs ys f g h = same_values xs ys f.ordered g.ordered (filled_each xs f) (filled_each ys g) h

  -- a field of a kept name
  pub set_kept : (fields : List Field) (name value : List ℕ) → IsFieldList fields → 0 < length name → kept name ≡ true
      → set_field (filter (λ field. kept field.0) fields) name value
      ≡ filter (λ field. kept field.0) (set_field fields name value)
  set_kept fields name value rules n h =
      let part = IsFieldList-filter (λ field. kept field.0) fields rules in
      let after = IsFieldList-set_field fields name value rules n in
      same_kept (set_field (filter (λ field. kept field.0) fields) name value)
      (filter (λ field. kept field.0) (set_field fields name value))
      (IsFieldList-set_field (filter (λ field. kept field.0) fields) name value part n)
      (IsFieldList-filter (λ field. kept field.0) (set_field fields name value) after)
      (λ q.
      value_set (filter (λ field. kept field.0) fields) name value q part.ordered
      ∙ ap (cond (bytes_eq q name) value) (kept_value fields q)
      ∙ by_case q (bytes_eq q name) refl
      ∙ ap (λ v. cond (kept q) v []) (sym (value_set fields name value q rules.ordered))
      ∙ sym (kept_value (set_field fields name value) q))
    where
      by_case : (q : List ℕ) (t : Bool) → bytes_eq q name ≡ t
          → cond t value (cond (kept q) (field_value fields q) [])
          ≡ cond (kept q) (cond t value (field_value fields q)) []
      by_case q true g =
          let here : kept q ≡ true = ap kept ((bytes_eq-Decides q name).0 g) ∙ h in
          sym (ap (λ t. cond t value []) here)
      by_case q false g = refl

  -- a field of a name that is not kept
  pub set_far : (fields : List Field) (name value : List ℕ) → IsFieldList fields → 0 < length name → kept name ≡ false
      → filter (λ field. kept field.0) fields ≡ filter (λ field. kept field.0) (set_field fields name value)
  set_far fields name value rules n h =
      let after = IsFieldList-set_field fields name value rules n in
      same_kept (filter (λ field. kept field.0) fields) (filter (λ field. kept field.0) (set_field fields name value))
      (IsFieldList-filter (λ field. kept field.0) fields rules)
      (IsFieldList-filter (λ field. kept field.0) (set_field fields name value) after)
      (λ q.
      kept_value fields q
      ∙ by_case q (bytes_eq q name) refl
      ∙ ap (λ v. cond (kept q) v []) (sym (value_set fields name value q rules.ordered))
      ∙ sym (kept_value (set_field fields name value) q))
    where
      by_case : (q : List ℕ) (t : Bool) → bytes_eq q name ≡ t
          → cond (kept q) (field_value fields q) [] ≡ cond (kept q) (cond t value (field_value fields q)) []
      by_case q true g =
          let far : kept q ≡ false = ap kept ((bytes_eq-Decides q name).0 g) ∙ h in
          ap (λ t. cond t (field_value fields q) []) far ∙ sym (ap (λ t. cond t value []) far)
      by_case q false g = refl

-- ---- what is noted

-- What is noted stands for these fields.
pub record StandsFor (noted : Noted) (whole : List Field) : Type 0 where
  pub fields : noted.fields ≡ filter (λ field. is_kept noted field.0) whole
  pub known : noted.sure ≡ true → MatchOption noted.far (IsTrue (list_all (λ field. is_kept noted field.0) whole))
      (λ name. (is_kept noted name ≡ false) × (field_value whole name ≢ []))

pub other_name : (kept : List ℕ → Bool) (one other : List ℕ) → kept one ≡ false → kept other ≡ true
    → bytes_eq one other ≡ false
other_name kept one other h g = by_case (bytes_eq one other) refl
  where
    by_case : (t : Bool) → bytes_eq one other ≡ t → t ≡ false
    by_case false e = refl
    by_case true e = sym (ap kept ((bytes_eq-Decides one other).0 e) ∙ g) ∙ h

and_parts : (a b : Bool) → (a && b) ≡ true → (a ≡ true) × (b ≡ true)
and_parts true b h = (refl, h)
and_parts false b h = absurd (false≢true h)

pub not_true : (b : Bool) → not b ≡ true → b ≡ false
not_true true h = absurd (false≢true h)
not_true false h = refl

not_nil : (byte : ℕ) (bytes : List ℕ) → byte ∷ bytes ≡ [] → ⊥
not_nil byte bytes e = cc

module _ (noted : Noted) (whole : List Field) (rules : IsFieldList whole) (name : List ℕ) (n : 0 < length name) where
  abbrev kept : List ℕ → Bool
  kept q = is_kept noted q

  -- what is known of the names that are not kept
  abbrev IsKnown : List Field → Option (List ℕ) → Type 0
  IsKnown fields far =
      MatchOption far (IsTrue (list_all (λ field. kept field.0) fields))
      (λ q. (kept q ≡ false) × (field_value fields q ≢ []))

  -- another name has the value that it had
  value_stays : (value q : List ℕ) → bytes_eq q name ≡ false
      → field_value (set_field whole name value) q ≡ field_value whole q
  value_stays value q h =
      value_set whole name value q rules.ordered ∙ ap (λ t. cond t value (field_value whole q)) h

  known_kept : (value : List ℕ) (far : Option (List ℕ)) → kept name ≡ true → IsKnown whole far
      → IsKnown (set_field whole name value) far
  known_kept value None h known =
      all_pass (λ field. kept field.0) (set_field whole name value)
      (all_set (λ field. kept field.0 ≡ true) whole name value (each_passes (λ field. kept field.0) whole known) h)
  known_kept value (Some q) h known =
      (known.0, λ e. known.1 (sym (value_stays value q (other_name kept q name known.0 h)) ∙ e))

  known_gone : (far : Option (List ℕ)) → is_noted far name ≡ false → IsKnown whole far
      → IsKnown (set_field whole name []) far
  known_gone None h known =
      all_pass (λ field. kept field.0) (set_field whole name [])
      (all_without (λ field. kept field.0 ≡ true) whole name (each_passes (λ field. kept field.0) whole known))
  known_gone (Some q) h known = (known.0, λ e. known.1 (sym (value_stays [] q h) ∙ e))

  has_value : (byte : ℕ) (bytes q : List ℕ) → field_value whole q ≢ []
      → field_value (set_field whole name (byte ∷ bytes)) q ≢ []
  has_value byte bytes q h e = by_case (bytes_eq q name) refl
    where
      by_case : (t : Bool) → bytes_eq q name ≡ t → ⊥
      by_case true g =
          not_nil byte bytes
          (sym (value_set whole name (byte ∷ bytes) q rules.ordered
          ∙ ap (λ t. cond t (byte ∷ bytes) (field_value whole q)) g) ∙ e)
      by_case false g = h (sym (value_stays (byte ∷ bytes) q g) ∙ e)

  known_new : (byte : ℕ) (bytes : List ℕ) (far : Option (List ℕ)) → kept name ≡ false → IsKnown whole far
      → IsKnown (set_field whole name (byte ∷ bytes)) (Some (unwrap_or far name))
  known_new byte bytes None h known = (
    h,
    λ e. not_nil byte bytes
        (sym (value_set whole name (byte ∷ bytes) name rules.ordered
        ∙ ap (λ t. cond t (byte ∷ bytes) (field_value whole name)) ((bytes_eq-Decides name name).1 refl)) ∙ e),
  )
  known_new byte bytes (Some q) h known = (known.0, has_value byte bytes q known.1)

  stands_kept : (value : List ℕ) → kept name ≡ true → StandsFor noted whole
      → StandsFor (record noted { fields = set_field noted.fields name value }) (set_field whole name value)
  stands_kept value h stands = record {
    fields = ap (λ (f : List Field). set_field f name value) stands.fields
        ∙ set_kept (is_kept noted) whole name value rules n h;
    known = λ sure. known_kept value noted.far h (stands.known sure);
  }

  stands_far : (value : List ℕ) → kept name ≡ false → StandsFor noted whole
      → StandsFor (note_far noted name value) (set_field whole name value)
  stands_far [] h stands = record {
    fields = stands.fields ∙ set_far (is_kept noted) whole name [] rules n h;
    known = λ sure.
        let parts = and_parts noted.sure (not (is_noted noted.far name)) sure in
        known_gone noted.far (not_true (is_noted noted.far name) parts.1) (stands.known parts.0);
  }
  stands_far (byte ∷ bytes) h stands = record {
    fields = stands.fields ∙ set_far (is_kept noted) whole name (byte ∷ bytes) rules n h;
    known = λ sure. known_new byte bytes noted.far h (stands.known sure);
  }

  stands_step : (value : List ℕ) (t : Bool) → kept name ≡ t → StandsFor noted whole
      → StandsFor (cond t (record noted { fields = set_field noted.fields name value }) (note_far noted name value))
      (set_field whole name value)
  stands_step value true h stands = stands_kept value h stands
  stands_step value false h stands = stands_far value h stands

  stands_more : (value : List ℕ) → StandsFor noted whole
      → StandsFor (note noted name value) (set_field whole name value)
  stands_more value stands = stands_step value (kept name) refl stands

abbrev pub AreNamed : List Field → Type 0
AreNamed fields = AllByRecursion (λ field. 0 < length field.0) fields

pub rules_all : (whole more : List Field) → IsFieldList whole → AreNamed more → IsFieldList (set_all whole more)
rules_all whole [] rules named = rules
rules_all whole (x ∷ xs) rules named =
    rules_all (set_field whole x.0 x.1) xs (IsFieldList-set_field whole x.0 x.1 rules named.0) named.1

pub stands_all : (noted : Noted) (whole more : List Field) → IsFieldList whole → AreNamed more → StandsFor noted whole
    → StandsFor (note_all noted more) (set_all whole more)
stands_all noted whole [] rules named stands = stands
stands_all noted whole (x ∷ xs) rules named stands =
    stands_all (note noted x.0 x.1) (set_field whole x.0 x.1) xs
    (IsFieldList-set_field whole x.0 x.1 rules named.0) named.1
    (stands_more noted whole rules x.0 named.0 x.1 stands)
