-- What is kept of the fields of a line: all of them, or those whose names are short.
use Rattle.std.specs.Prelude.{◌≡◌, ◌≢◌, ℕ, Bool, true, false, not, ◌&&◌, ◌||◌, List, [], ◌∷◌, length, nat_le, fold}
use Rattle.std.specs.Prelude.{Option, Some, None, unwrap_or, bytes_eq, IsFalse, IsTrue, MatchOption, if◌then◌else◌}
use Rattle.log_model.specs.Field.{Field, IsFieldList, field_value, set_field}

abbrev pub is_short : List ℕ → Bool
is_short name = nat_le (length name) 128

-- Fields that are set one after another. All are kept, or those of short names; of the other names that have a value
-- the first is noted. It is sure as long as that name was not removed.
pub record Noted : Type 0 where
  pub all : Bool
  pub fields : List Field
  pub far : Option (List ℕ)
  pub sure : Bool

-- nothing is noted yet
abbrev pub start : Bool → Noted
start all = record { all = all; fields = []; far = None; sure = true }

abbrev pub is_kept : Noted → List ℕ → Bool
is_kept noted name = noted.all || is_short name

abbrev pub is_noted : Option (List ℕ) → List ℕ → Bool
is_noted None name = false
is_noted (Some far) name = bytes_eq far name

abbrev pub note_far : Noted → List ℕ → List ℕ → Noted
note_far noted name [] = record noted { sure = noted.sure && not (is_noted noted.far name) }
note_far noted name (byte ∷ bytes) = record noted { far = Some (unwrap_or noted.far name) }

abbrev pub note : Noted → List ℕ → List ℕ → Noted
note noted name value =
    if is_kept noted name then record noted { fields = set_field noted.fields name value }
    else note_far noted name value

abbrev pub note_all : Noted → List Field → Noted
note_all noted more = fold (λ old field. note old field.0 field.1) noted more

-- These fields and this name are known of all fields: all of them, or else a name that is not short and has a value,
-- and the values of short names. No name is noted where all are asked for.
pub record AreKnown (all : Bool) (whole fields : List Field) (far : Option (List ℕ)) : Type 0 where
  pub rules : IsFieldList whole
  pub none : all ≡ true → far ≡ None
  pub found : MatchOption far (fields ≡ whole)
      (λ name. IsFalse (is_short name) × (field_value whole name ≢ [])
      × ((q : List ℕ) → IsTrue (is_short q) → field_value fields q ≡ field_value whole q))
