-- The first of the message's names that has a value, found by the least place of a field's name.
use Rattle.std.proofs.Common.{◌≡◌, ℕ, suc, ◌+◌, Bool, true, false, cond, not, ◌||◌, List, [], ◌∷◌, length, min, filter, fold}
use Rattle.std.proofs.Common.{Option, Some, None, bytes_eq, unwrap_or, refl, sym, ap, ◌∙◌, arith, drop, get_or, ◌<◌, ◌≤◌, zero}
use Rattle.std.specs.List.{AllByRecursion, list_any, slice_get}
use Rattle.std.specs.Map.{lookup}
use Rattle.std.proofs.lemmas.Bool.{false≢true}
use Rattle.std.proofs.lemmas.Bool.Decides.{nat_tests}
use Rattle.std.proofs.lemmas.List.{drop_more}
use Rattle.std.proofs.lemmas.Option.{slice_get_past}
use Rattle.log_model.specs.Field.{Field, IsFieldList, field_value, is_empty, is_filled}
use Rattle.vl_row.proofs.Sorted.{filled_each}
use Rattle.ingest_row.specs.Ingest.{moved, with_first, with_message}
use Rattle.ingest_row.specs.Prepared.{least_place, place_in}

-- fields where this one becomes the message
abbrev pub chosen : List Field → Option (List ℕ) → List Field
chosen fields None = fields
chosen fields (Some name) = moved fields name

abbrev pub has_name : List Field → List ℕ → Bool
has_name fields name = list_any (λ field. bytes_eq name field.0) fields

pub full : (e : Field) → is_filled e ≡ true → not (is_empty e.1) ≡ true
full e h = grind (arith, nat_tests)

value_step : (e : Field) (es : List Field) (name : List ℕ) (t : Bool) → is_filled e ≡ true
    → not (is_empty (field_value es name)) ≡ has_name es name
    → not (is_empty (unwrap_or (cond t (Some e.1) (lookup (bytes_eq name) es)) [])) ≡ (t || has_name es name)
value_step e es name true f rest = full e f
value_step e es name false f rest = rest

-- a name has a value exactly where a field has the name
pub has_value : (fields : List Field) (name : List ℕ) → AllByRecursion (λ f. is_filled f ≡ true) fields
    → not (is_empty (field_value fields name)) ≡ has_name fields name
has_value [] name each = refl
has_value (e ∷ es) name each =
    value_step e es name (bytes_eq name e.0) each.0 (has_value es name each.1)

abbrev least : List (List ℕ) → ℕ → List Field → ℕ
least names from fields = fold (λ low field. min low (place_in names field.0)) from fields

none_below : (low : ℕ) → min 0 low ≡ 0
none_below low = omega arith

stays_none : (names : List (List ℕ)) (fields : List Field) → least names 0 fields ≡ 0
stays_none names [] = refl
stays_none names (e ∷ es) =
    ap (λ low. least names low es) (none_below (place_in names e.0)) ∙ stays_none names es

none_left : (low : ℕ) → min low 0 ≡ 0
none_left low = omega arith

first_step : (name : List ℕ) (names : List (List ℕ)) (from : ℕ) (e : Field) (es : List Field) (t : Bool)
    → (t || has_name es name) ≡ true
    → (has_name es name ≡ true → least (name ∷ names) (min from (cond (not t) (1 + place_in names e.0) 0)) es ≡ 0)
    → least (name ∷ names) (min from (cond (not t) (1 + place_in names e.0) 0)) es ≡ 0
first_step name names from e es true h rest =
    ap (λ low. least (name ∷ names) low es) (none_left from) ∙ stays_none (name ∷ names) es
first_step name names from e es false h rest = rest h

-- where a field has the first name, the least place is that of the first name
first_place : (name : List ℕ) (names : List (List ℕ)) (fields : List Field) (from : ℕ) → has_name fields name ≡ true
    → least (name ∷ names) from fields ≡ 0
first_place name names [] from h = absurd (false≢true h)
first_place name names (e ∷ es) from h =
    first_step name names from e es (bytes_eq name e.0) h (first_place name names es _)

min_suc : (a b : ℕ) → min (suc a) (1 + b) ≡ suc (min a b)
min_suc a b = omega arith

later_step : (name : List ℕ) (names : List (List ℕ)) (from : ℕ) (e : Field) (es : List Field) (t : Bool)
    → (t || has_name es name) ≡ false
    → (has_name es name ≡ false → (low : ℕ) → least (name ∷ names) (suc low) es ≡ suc (least names low es))
    → least (name ∷ names) (min (suc from) (cond (not t) (1 + place_in names e.0) 0)) es
    ≡ suc (least names (min from (place_in names e.0)) es)
later_step name names from e es true h rest = absurd (false≢true (sym h))
later_step name names from e es false h rest =
    ap (λ low. least (name ∷ names) low es) (min_suc from (place_in names e.0))
    ∙ rest h (min from (place_in names e.0))

-- where no field has the first name, the place is one of those after it
later_place : (name : List ℕ) (names : List (List ℕ)) (fields : List Field) (from : ℕ) → has_name fields name ≡ false
    → least (name ∷ names) (suc from) fields ≡ suc (least names from fields)
later_place name names [] from h = refl
later_place name names (e ∷ es) from h =
    later_step name names from e es (bytes_eq name e.0) h (λ rest low. later_place name names es low rest)

module _ (fields : List Field) (each : AllByRecursion (λ f. is_filled f ≡ true) fields) where
  choice_step : (name : List ℕ) (names : List (List ℕ)) (t u : Bool) → t ≡ u → has_name fields name ≡ u
      → with_first fields (filter (λ n. not (is_empty (field_value fields n))) names)
      ≡ chosen fields (slice_get names (least names (length names) fields))
      → with_first fields
      (cond t (name ∷ filter (λ n. not (is_empty (field_value fields n))) names)
      (filter (λ n. not (is_empty (field_value fields n))) names))
      ≡ chosen fields (slice_get (name ∷ names) (least (name ∷ names) (suc (length names)) fields))
  choice_step name names true u e h rest =
      ap (λ i. chosen fields (slice_get (name ∷ names) i))
      (sym (first_place name names fields (suc (length names)) (h ∙ sym e)))
  choice_step name names false u e h rest =
      rest ∙ ap (λ i. chosen fields (slice_get (name ∷ names) i))
      (sym (later_place name names fields (length names) (h ∙ sym e)))

  choice : (names : List (List ℕ))
      → with_first fields (filter (λ n. not (is_empty (field_value fields n))) names)
      ≡ chosen fields (slice_get names (least names (length names) fields))
  choice [] = refl
  choice (name ∷ names) =
      choice_step name names (not (is_empty (field_value fields name))) (has_name fields name)
      (has_value fields name each) refl (choice names)

pub message_at : (names : List (List ℕ)) (fields : List Field) → IsFieldList fields
    → with_message names fields ≡ chosen fields (slice_get names (least_place names fields))
unfolding with_message
message_at names fields rules = choice fields (filled_each fields rules) names

slice_at : (names : List (List ℕ)) (i : ℕ) (name : List ℕ) → i < length names → name ≡ get_or names i name
    → slice_get names i ≡ Some name
slice_at [] i name below is = absurd (omega arith)
slice_at (n ∷ ns) zero name below is = ap Some (sym is)
slice_at (n ∷ ns) (suc i) name below is = slice_at ns i name (omega arith) is

pub chosen_some : (names : List (List ℕ)) (fields : List Field) (place : ℕ) (name : List ℕ) → IsFieldList fields
    → place ≡ least_place names fields → place < length names → name ≡ get_or names place name
    → with_message names fields ≡ moved fields name
chosen_some names fields place name rules is below found =
    message_at names fields rules ∙ ap (λ i. chosen fields (slice_get names i)) (sym is)
    ∙ ap (chosen fields) (slice_at names place name below found)

pub chosen_none : (names : List (List ℕ)) (fields : List Field) (place : ℕ) → IsFieldList fields
    → place ≡ least_place names fields → length names ≤ place → with_message names fields ≡ fields
chosen_none names fields place rules is over =
    message_at names fields rules ∙ ap (λ i. chosen fields (slice_get names i)) (sym is)
    ∙ ap (chosen fields) (slice_get_past names place over)

-- ---- the first place of each name, from the last name on

found_step : (count at : ℕ) (t : Bool) (old : Option ℕ) (rest : ℕ) → unwrap_or old count ≡ (at + 1) + rest
    → unwrap_or (cond t (Some at) old) count ≡ at + cond (not t) (1 + rest) 0
found_step count at true old rest h = omega arith
found_step count at false old rest h = h ∙ next at rest
  where
    next : (a b : ℕ) → (a + 1) + b ≡ a + (1 + b)
    next a b = omega arith

pub found_more : (names : List (List ℕ)) (at : ℕ) (first name q : List ℕ) (old new : Option ℕ) → at < length names
    → first ≡ get_or names at first → name ≡ first → new ≡ cond (bytes_eq name q) (Some at) old
    → unwrap_or old (length names) ≡ (at + 1) + place_in (drop (at + 1) names) q
    → unwrap_or new (length names) ≡ at + place_in (drop at names) q
found_more names at first name q old new below is same made before =
    ap (λ (o : Option ℕ). unwrap_or o (length names)) made
    ∙ found_step (length names) at (bytes_eq name q) old (place_in (drop (at + 1) names) q) before
    ∙ ap (λ (l : List (List ℕ)). at + place_in l q)
    (sym (drop_more names at first below ∙ ap (λ (n : List ℕ). n ∷ drop (at + 1) names) (sym is ∙ sym same)))
