-- Messages of syslog (RFC 5424, section 6).
use Rattle.std.specs.Prelude.{◌≡◌, ℕ, ◌<◌, ◌≤◌, ◌/◌, ◌%◌, Bool, not, ◌&&◌, ◌||◌, ◌==◌, nat_le, List, [], ◌∷◌, ◌++◌}
use Rattle.std.specs.Prelude.{length}
use Rattle.std.specs.Prelude.{drop, slice_index, flat_map, map, Option, Some, None, ℤ, IsTrue, codes, decimal}
use Rattle.std.specs.Prelude.{bytes_eq}
use Rattle.std.specs.Prelude.{if◌then◌else◌}
use Rattle.std.specs.List.{list_all, AllByRecursion}
use Rattle.std.specs.Str.Lossy.{utf8_lossy}
use Rattle.log_model.specs.Field.{Field, set_all}
use Rattle.log_model.specs.MomentText.{IsDecimalCount, IsDateTime, IsMomentInRange, Offset, omitted, zulu, small_zulu}
use Rattle.log_model.specs.MomentText.{ahead, behind}

-- ---- the header (section 6.2)

-- printable ASCII but the blank
abbrev pub is_visible : ℕ → Bool
is_visible byte = nat_le 33 byte && nat_le byte 126

-- PRIVAL: 0 to 191, without zeros ahead
pub record IsPriority (text : List ℕ) (priority : ℕ) : Type 0 where
  pub is_number : IsDecimalCount text priority
  pub few : priority ≤ 191

-- TIME-OFFSET: `Z`, or hours and minutes
abbrev pub IsStated : Offset → Type 0
IsStated omitted = ⊥
IsStated zulu = Unit {0}
IsStated small_zulu = ⊥
IsStated (ahead hours minutes) = Unit {0}
IsStated (behind hours minutes) = Unit {0}

-- FULL-DATE "T" FULL-TIME, where a fraction may have nine digits and the moment is one that is kept
pub record IsTimestamp (text : List ℕ) (moment : ℤ) : Type 0 where
  pub is_date_time : IsDateTime text moment
  pub is_mark : is_date_time.mark ≡ 84
  pub is_offset : IsStated is_date_time.offset
  pub in_range : IsMomentInRange moment

-- NILVALUE
abbrev pub nil : List ℕ
nil = codes "-"

-- NILVALUE, or a moment
abbrev pub IsTime : List ℕ → Option ℤ → Type 0
IsTime text None = text ≡ nil
IsTime text (Some moment) = IsTimestamp text moment

-- one to this many visible bytes; NILVALUE is one of these
pub record IsName (most : ℕ) (text : List ℕ) : Type 0 where
  pub some : 0 < length text
  pub few : length text ≤ most
  pub visible : IsTrue (list_all is_visible text)

-- HOSTNAME, APP-NAME, PROCID and MSGID
pub record NameTexts : Type 0 where
  pub hostname : List ℕ
  pub app_name : List ℕ
  pub proc_id : List ℕ
  pub msg_id : List ℕ

pub record AreNameTexts (names : NameTexts) : Type 0 where
  pub hostname : IsName 255 names.hostname
  pub app_name : IsName 48 names.app_name
  pub proc_id : IsName 128 names.proc_id
  pub msg_id : IsName 32 names.msg_id

pub record Header : Type 0 where
  pub priority_text : List ℕ
  pub priority : ℕ
  pub time_text : List ℕ
  pub time : Option ℤ
  pub names : NameTexts

pub record IsHeader (header : Header) : Type 0 where
  pub priority : IsPriority header.priority_text header.priority
  pub time : IsTime header.time_text header.time
  pub names : AreNameTexts header.names

-- HOSTNAME SP APP-NAME SP PROCID SP MSGID SP, and what follows
abbrev pub names_source : NameTexts → List ℕ → List ℕ
names_source names rest =
    names.hostname ++ 32 ∷ (names.app_name ++ 32 ∷ (names.proc_id ++ 32 ∷ (names.msg_id ++ 32 ∷ rest)))

-- PRI VERSION SP TIMESTAMP SP and the names, and what follows
abbrev pub header_source : Header → List ℕ → List ℕ
header_source header rest =
    60 ∷ (header.priority_text ++ 62 ∷ 49 ∷ 32 ∷ (header.time_text ++ 32 ∷ names_source header.names rest))

-- ---- structured data (section 6.3)

-- the quotation mark, the backslash and the bracket, before which a backslash stands for nothing
abbrev pub is_special : ℕ → Bool
is_special byte = (byte == 34) || (byte == 92) || (byte == 93)

-- A byte, a special one after a backslash, or a backslash before a byte that is not special.
pub data Character : Type 0 where
  plain : ℕ → Character
  escaped : ℕ → Character
  backslash : ℕ → Character

abbrev pub is_character : Character → Bool
is_character (plain byte) = not (is_special byte)
is_character (escaped byte) = is_special byte
is_character (backslash byte) = not (is_special byte)

abbrev pub character_source : Character → List ℕ
character_source (plain byte) = byte ∷ []
character_source (escaped byte) = 92 ∷ byte ∷ []
character_source (backslash byte) = 92 ∷ byte ∷ []

abbrev pub character_text : Character → List ℕ
character_text (plain byte) = byte ∷ []
character_text (escaped byte) = byte ∷ []
character_text (backslash byte) = 92 ∷ byte ∷ []

-- visible but `=`, `]` and the quotation mark
abbrev pub is_name_byte : ℕ → Bool
is_name_byte byte = is_visible byte && not ((byte == 61) || ((byte == 93) || (byte == 34)))

-- SD-NAME
pub record IsDataName (text : List ℕ) : Type 0 where
  pub some : 0 < length text
  pub few : length text ≤ 32
  pub each : IsTrue (list_all is_name_byte text)

pub record Param : Type 0 where
  pub name : List ℕ
  pub value : List Character

pub record IsParam (param : Param) : Type 0 where
  pub name : IsDataName param.name
  pub value : IsTrue (list_all is_character param.value)

-- PARAM-VALUE %d34
abbrev pub value_source : List Character → List ℕ
value_source value = flat_map character_source value ++ 34 ∷ []

-- SP PARAM-NAME "=" %d34 PARAM-VALUE %d34
abbrev pub param_source : Param → List ℕ
param_source param = 32 ∷ (param.name ++ 61 ∷ 34 ∷ value_source param.value)

pub record Element : Type 0 where
  pub id : List ℕ
  pub params : List Param

pub record IsElement (element : Element) : Type 0 where
  pub id : IsDataName element.id
  pub params : AllByRecursion IsParam element.params

-- "[" SD-ID *(SP SD-PARAM) "]"
abbrev pub element_source : Element → List ℕ
element_source element = 91 ∷ (element.id ++ (flat_map param_source element.params ++ 93 ∷ []))

-- NILVALUE, or one element or more
abbrev pub data_source : List Element → List ℕ
data_source [] = nil
data_source (element ∷ elements) = flat_map element_source (element ∷ elements)

-- ---- the message

-- [SP MSG]
abbrev pub msg_source : Option (List ℕ) → List ℕ
msg_source None = []
msg_source (Some msg) = 32 ∷ msg

-- the mark of UTF-8 that MSG may begin with
abbrev pub begins_with_mark : List ℕ → Bool
begins_with_mark msg = (slice_index msg 0 == 239) && ((slice_index msg 1 == 187) && (slice_index msg 2 == 191))

abbrev pub without_mark : List ℕ → List ℕ
without_mark msg = if begins_with_mark msg then drop 3 msg else msg

abbrev pub msg_bytes : Option (List ℕ) → List ℕ
msg_bytes None = []
msg_bytes (Some msg) = without_mark msg

abbrev pub unless_nil : List ℕ → List ℕ
unless_nil text = if bytes_eq text nil then [] else text

-- ---- its fields

abbrev pub named : List ℕ → List ℕ → Field
named name value = (name, value)

-- The facility is what the priority has eights, and the severity what is left.
abbrev pub header_fields : ℕ → NameTexts → List Field
header_fields priority names =
    named (codes "app_name") (unless_nil names.app_name)
    ∷ named (codes "facility") (decimal (priority / 8))
    ∷ named (codes "format") (codes "rfc5424")
    ∷ named (codes "hostname") (unless_nil names.hostname)
    ∷ named (codes "msg_id") (unless_nil names.msg_id)
    ∷ named (codes "priority") (decimal priority)
    ∷ named (codes "proc_id") (unless_nil names.proc_id)
    ∷ named (codes "severity") (decimal (priority % 8))
    ∷ []

-- ID.NAME and the value, with U+FFFD for what is no UTF-8
abbrev pub param_field : List ℕ → Param → Field
param_field id param = named (id ++ 46 ∷ param.name) (utf8_lossy (flat_map character_text param.value))

abbrev pub data_fields : List Element → List Field
data_fields elements = flat_map (λ element. map (param_field element.id) element.params) elements

-- with U+FFFD for what is no UTF-8
abbrev pub msg_field : Option (List ℕ) → Field
msg_field msg = named (codes "_msg") (utf8_lossy (msg_bytes msg))

abbrev pub message_fields : Header → List Element → Option (List ℕ) → List Field
message_fields header elements msg =
    header_fields header.priority header.names ++ (data_fields elements ++ msg_field msg ∷ [])

-- The bytes are a message with this moment, if it has one, and these fields. Later ones of one name count.
pub record IsMessage (bytes : List ℕ) (time : Option ℤ) (fields : List Field) : Type 0 where
  pub header : Header
  pub elements : List Element
  pub msg : Option (List ℕ)
  pub is_header : IsHeader header
  pub are_elements : AllByRecursion IsElement elements
  pub spelled : bytes ≡ header_source header (data_source elements ++ msg_source msg)
  pub time_is : time ≡ header.time
  pub fields_are : fields ≡ set_all [] (message_fields header elements msg)
