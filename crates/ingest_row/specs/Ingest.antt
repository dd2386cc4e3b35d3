-- How a line of JSON becomes a row (VictoriaLogs, "Data ingestion": HTTP parameters).
use Rattle.std.specs.Prelude.{◌≡◌, ◌⊎◌, ℕ, ℤ, Bool, ◌≤◌, ◌||◌, ◌&&◌, List, [], ◌∷◌, length, filter, fold, bytes_eq}
use Rattle.std.specs.Prelude.{codes, unsigned_abs, None, not, IsTrue, IsFalse}
use Rattle.std.specs.List.{list_all}
use Rattle.log_model.specs.Field.{Field, is_empty, field_value, set_field, set_all, without}
use Rattle.log_model.specs.Row.{Row}
use Rattle.log_model.specs.MomentText.{SpellsMoment, IsMomentInRange}
use Rattle.log_model.specs.ObjectLine.{IsObjectLine}
use Rattle.vl_row.specs.Faults.{stored, labels_of, row_fault}
use Rattle.jsonline_in.specs.Near.{is_short}

-- what is asked for beside the lines
pub record Options : Type 0 where
  pub stream_fields : List (List ℕ)
  pub time_field : List ℕ
  pub message_fields : List (List ℕ)
  pub ignored_fields : List (List ℕ)
  pub extra_fields : List Field

-- nothing: the moment is in `_time`, the message in `_msg`, and rows have no labels
abbrev pub plain : Options
plain = record {
  stream_fields = [];
  time_field = codes "_time";
  message_fields = [];
  ignored_fields = [];
  extra_fields = [];
}

abbrev pub is_named : Field → Bool
is_named field = not (is_empty field.0)

-- whether none of the names of the moment, of the message, of what is ignored and of what is added has more than 128
-- bytes
abbrev pub have_short_names : List ℕ → List (List ℕ) → List (List ℕ) → List Field → Bool
have_short_names time_field message_fields ignored_fields extra_fields =
    is_short time_field && (list_all is_short message_fields && (list_all is_short ignored_fields
    && list_all (λ field. is_short field.0) extra_fields))

-- what is asked for names no long field, and what is added has names
pub record AsksShort (options : Options) : Type 0 where
  pub short : IsTrue (have_short_names options.time_field options.message_fields options.ignored_fields
      options.extra_fields)
  pub named : IsTrue (list_all is_named options.extra_fields)

-- the fields that are not ignored
abbrev pub kept : Options → List Field → List Field
kept options fields = fold without fields options.ignored_fields

-- the text of the moment
abbrev pub time_text : Options → List Field → List ℕ
time_text options fields = field_value (kept options fields) options.time_field

-- an empty text and `0` say no moment of their own
abbrev pub says_now : List ℕ → Bool
says_now text = is_empty text || bytes_eq text (codes "0")

-- the moment of a row whose line has this text for it and came in at the moment `now`
abbrev pub IsTimeOf : ℤ → List ℕ → ℤ → Type 0
IsTimeOf now text time =
    (IsTrue (says_now text) × (time ≡ now)) ⊎ (IsFalse (says_now text) × SpellsMoment text time × IsMomentInRange time)

-- the field of this name becomes the message
abbrev pub moved : List Field → List ℕ → List Field
moved fields name = set_field (without fields name) (codes "_msg") (field_value fields name)

abbrev pub with_first : List Field → List (List ℕ) → List Field
with_first fields [] = fields
with_first fields (name ∷ names) = moved fields name

-- of these fields, the first that has a value becomes the message
unfoldable pub with_message : List (List ℕ) → List Field → List Field
with_message names fields = with_first fields (filter (λ name. not (is_empty (field_value fields name))) names)

-- the fields that a row is made of, out of those that are not ignored
abbrev pub completed : Options → List Field → List Field
completed options fields =
    set_all (with_message options.message_fields (without fields options.time_field)) options.extra_fields

-- the fields that a row is made of, out of those that a line says
abbrev pub row_fields : Options → List Field → List Field
row_fields options fields = completed options (kept options fields)

-- the row of this moment and these fields, whose labels are those with these names
abbrev pub row_at : List (List ℕ) → ℤ → List Field → Row
row_at names time fields =
    record { moment = unsigned_abs time; labels = labels_of names fields; fields = stored fields }

-- the row that these fields make, of a line that came in at the moment `now`
pub record IsRowOf (options : Options) (now : ℤ) (fields : List Field) (row : Row) : Type 0 where
  pub time : ℤ
  pub is_time : IsTimeOf now (time_text options fields) time
  pub faultless : row_fault time (row_fields options fields) ≡ None
  pub is_row : row ≡ row_at options.stream_fields time (row_fields options fields)

-- The line is not too long, and an object that says these fields. Of members with one name the later counts, and an
-- empty value is a missing field.
pub record Says (line : List ℕ) (fields : List Field) : Type 0 where
  pub short : length line ≤ 1_048_576
  pub members : List Field
  pub is_object : IsObjectLine line members
  pub set : fields ≡ set_all [] members

-- the row of a line
pub record IsRowOfLine (options : Options) (now : ℤ) (line : List ℕ) (row : Row) : Type 0 where
  pub fields : List Field
  pub says : Says line fields
  pub is_row : IsRowOf options now fields row
