-- Reading a message from left to right.
use Rattle.std.specs.Prelude.{◌≡◌, ℕ, Bool, true, false, flat_map, map, IfSome, IsTrue, not, ◌&&◌, ◌||◌, ◌==◌, nat_le}
use Rattle.std.specs.Prelude.{List, [], ◌∷◌, ◌++◌, length, take, drop}
use Rattle.std.specs.Prelude.{Option, Some, None, ◌-◌, nat_lt, slice_index, if◌then◌else◌}
use Rattle.std.specs.List.{prefix_len, AllByRecursion}
use Rattle.std.specs.Str.Lossy.{utf8_lossy}
use Rattle.log_model.specs.Field.{Field, set_all, set_field}
use Rattle.syslog_in.specs.Message.{is_special, is_name_byte, Param, IsParam, param_source, param_field, Element}
use Rattle.syslog_in.specs.Message.{IsElement, element_source, data_source}

abbrev pub is_no_blank : ℕ → Bool
is_no_blank byte = not (byte == 32)

abbrev pub part_len : List ℕ → ℕ
part_len text = prefix_len is_no_blank text

-- the bytes up to the first blank, and those after it
abbrev pub first_part : List ℕ → List ℕ
first_part text = take (part_len text) text

abbrev pub behind_part : List ℕ → List ℕ
behind_part text = drop 1 (drop (part_len text) text)

-- ---- structured data

abbrev pub name_len : List ℕ → ℕ
name_len text = prefix_len is_name_byte text

-- a name, and what follows it
unfoldable pub name_at : List ℕ → Option (List ℕ × List ℕ)
name_at text =
    if nat_le 1 (name_len text) && nat_le (name_len text) 32
    then Some (take (name_len text) text, drop (name_len text) text) else None

abbrev pub is_plain : ℕ → Bool
is_plain byte = not (is_special byte)

-- what a backslash and a byte say
abbrev pub escaped_text : ℕ → List ℕ
escaped_text byte = if is_special byte then byte ∷ [] else 92 ∷ byte ∷ []

abbrev pub put : List ℕ → Option (List ℕ × List ℕ) → Option (List ℕ × List ℕ)
put bytes None = None
put bytes (Some (text, rest)) = Some (bytes ++ text, rest)

-- a value and what follows its closing quotation mark, where a backslash may stand before the bytes
unfoldable pub value_from : Bool → List ℕ → Option (List ℕ × List ℕ)
value_from behind [] = None
value_from true (byte ∷ rest) = put (escaped_text byte) (value_from false rest)
value_from false (byte ∷ rest) =
    if byte == 34 then Some ([], rest)
    else (if byte == 93 then None
    else (if byte == 92 then value_from true rest else put (byte ∷ []) (value_from false rest)))

-- the text of a value after its opening quotation mark, and what follows the closing one
abbrev pub value_at : List ℕ → Option (List ℕ × List ℕ)
value_at bytes = value_from false bytes

-- what ends a run of plain bytes
pub data Ending : Type 0 where
  quote : List ℕ → Ending
  escape : ℕ → List ℕ → Ending
  nothing : Ending

abbrev pub behind_backslash : List ℕ → Ending
behind_backslash [] = nothing
behind_backslash (byte ∷ rest) = escape byte rest

abbrev pub ending_at : List ℕ → Ending
ending_at [] = nothing
ending_at (byte ∷ rest) =
    if byte == 34 then quote rest else (if byte == 92 then behind_backslash rest else nothing)

-- What was appended and what was left are the value and what follows it.
abbrev pub GivesValue : Option (List ℕ × List ℕ) → List ℕ → List ℕ → Option (List ℕ) → Type 0
GivesValue None old new found = found ≡ None
GivesValue (Some (text, rest)) old new found = (found ≡ Some rest) × (new ≡ old ++ text)

-- ---- what is set

-- The field of this name has the value, and what follows the value is left.
abbrev pub SetsValue : Option (List ℕ × List ℕ) → List ℕ → List Field → List Field → Option (List ℕ) → Type 0
SetsValue None name old new found = found ≡ None
SetsValue (Some (text, rest)) name old new found =
    (found ≡ Some rest) × (new ≡ set_field old name (utf8_lossy text))

-- Something was found, and its fields were set.
abbrev pub FindsOne : {X : Type 0} → (X → List ℕ → Type 0) → (X → List Field) → List Field → List Field
    → Option (List ℕ) → Type 0
FindsOne {X} Spells fields old new found =
    IfSome found (λ rest. (x : X) × Spells x rest × (new ≡ set_all old (fields x)))

-- What is there is found.
abbrev pub FindsAny : {X : Type 0} → (X → List ℕ → Type 0) → (X → List Field) → List Field → List Field
    → Option (List ℕ) → Type 0
FindsAny {X} Spells fields old new found =
    (x : X) (rest : List ℕ) → Spells x rest → (found ≡ Some rest) × (new ≡ set_all old (fields x))

-- a parameter after the blank before it
pub record SpellsParam (text : List ℕ) (param : Param) (rest : List ℕ) : Type 0 where
  pub is_param : IsParam param
  pub spelled : 32 ∷ text ≡ param_source param ++ rest

abbrev pub param_fields : List ℕ → Param → List Field
param_fields id param = param_field id param ∷ []

-- parameters, each after a blank, and the closing bracket
pub record SpellsParams (text : List ℕ) (params : List Param) (rest : List ℕ) : Type 0 where
  pub are_params : AllByRecursion IsParam params
  pub spelled : text ≡ flat_map param_source params ++ 93 ∷ rest

abbrev pub params_fields : List ℕ → List Param → List Field
params_fields id params = map (param_field id) params

-- an element after its opening bracket
pub record SpellsElement (text : List ℕ) (element : Element) (rest : List ℕ) : Type 0 where
  pub is_element : IsElement element
  pub spelled : 91 ∷ text ≡ element_source element ++ rest

abbrev pub element_fields : Element → List Field
element_fields element = map (param_field element.id) element.params

abbrev pub IsNoBracket : List ℕ → Type 0
IsNoBracket [] = Unit {0}
IsNoBracket (byte ∷ bytes) = byte ≡ 91 → ⊥

-- elements of which the first is after its opening bracket, and no further one
pub record SpellsElements (text : List ℕ) (elements : List Element) (rest : List ℕ) : Type 0 where
  pub are_elements : AllByRecursion IsElement elements
  pub spelled : 91 ∷ text ≡ flat_map element_source elements ++ rest
  pub no_more : IsNoBracket rest

-- structured data, or a part of it
pub record SpellsParameters (text : List ℕ) (elements : List Element) (rest : List ℕ) : Type 0 where
  pub are_elements : AllByRecursion IsElement elements
  pub spelled : text ≡ data_source elements ++ rest

-- a blank or the end
abbrev pub is_end : List ℕ → Bool
is_end [] = true
is_end (byte ∷ bytes) = byte == 32

-- structured data up to a blank or the end
pub record SpellsData (text : List ℕ) (elements : List Element) (rest : List ℕ) : Type 0 where
  pub are_elements : AllByRecursion IsElement elements
  pub spelled : text ≡ data_source elements ++ rest
  pub ends : IsTrue (is_end rest)

-- ---- timestamps

-- `Z` is the last byte
abbrev pub ends_with_zulu : List ℕ → Bool
ends_with_zulu text = nat_le 1 (length text) && (slice_index text (length text - 1) == 90)

abbrev pub is_sign : ℕ → Bool
is_sign byte = (byte == 43) || (byte == 45)

-- a sign is the sixth from the end
abbrev pub ends_with_hours : List ℕ → Bool
ends_with_hours text = nat_le 6 (length text) && is_sign (slice_index text (length text - 6))

abbrev pub ends_with_offset : List ℕ → Bool
ends_with_offset text = ends_with_zulu text || ends_with_hours text

-- `T` stands between date and time, and an offset at the end
abbrev pub has_form : List ℕ → Bool
has_form text = nat_lt 10 (length text) && ((slice_index text 10 == 84) && ends_with_offset text)
