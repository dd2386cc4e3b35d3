-- What header fields mean: how the body is framed, whether it is encoded, whether it is form data, and whether the
-- connection closes after it.
use Rattle.std.specs.Prelude.{ℕ, ◌≤◌, ⊤, Bool, true, false, not, ◌&&◌, ◌||◌, ◌==◌, nat_lt, List, [], ◌∷◌, length, take}
use Rattle.std.specs.Prelude.{codes}
use Rattle.std.specs.Prelude.{bytes_eq, Option, None, Some, Result, Ok, Err, if◌then◌else◌}
use Rattle.std.specs.List.{list_all, list_any}
use Rattle.std.specs.Str.Parse.{digits_value}
use Rattle.http1.specs.Fields.{Header, elements_named, has_option, is_number, values_named}
use Rattle.http1.specs.Text.{eq_ignore_case}
use Rattle.http_said.specs.Limits.{body_limit}
use Rattle.http_said.specs.declared.framing.FieldFault.{FieldFault}
use Rattle.http_said.specs.declared.framing.FieldFault.TheVariants as faults
use Rattle.http_said.specs.declared.framing.Coding.{Coding}
use Rattle.http_said.specs.declared.framing.Coding.TheVariants as codings
use Rattle.http_said.specs.declared.framing.Framing.{Framing}
use Rattle.http_said.specs.declared.framing.Framing.TheVariants as framings

-- the values of the fields that frame the body (RFC 9112, sections 6.1 and 6.2), and of Content-Encoding (RFC 9110,
-- section 8.4)
abbrev pub content_lengths : List Header → List (List ℕ)
content_lengths fields = values_named (codes "content-length") fields

abbrev pub transfer_codings : List Header → List (List ℕ)
transfer_codings fields = values_named (codes "transfer-encoding") fields

abbrev pub content_encodings : List Header → List (List ℕ)
content_encodings fields = values_named (codes "content-encoding") fields

-- the media types of the body (RFC 9110, section 8.3)
abbrev pub content_types : List Header → List (List ℕ)
content_types fields = values_named (codes "content-type") fields

-- the first value, if there is one
abbrev pub first_of : List (List ℕ) → Option (List ℕ)
first_of [] = None
first_of (value ∷ values) = Some value

-- the value of 1*DIGIT, if it is below 2^64
abbrev pub number_of : List ℕ → Option ℕ
number_of value = if is_number value then Some (digits_value 10 value) else None

abbrev pub is_above_limit : Option ℕ → Bool
is_above_limit None = false
is_above_limit (Some n) = nat_lt body_limit n

-- a length above the limit
abbrev pub is_large : List ℕ → Bool
is_large value = is_above_limit (number_of value)

-- whether one of the values is not `identity`
abbrev pub is_encoded : List (List ℕ) → Bool
is_encoded encodings = list_any (λ value. not (eq_ignore_case value (codes "identity"))) encodings

-- Whether all values are the same number, with the same digits. True if there are none.
abbrev pub agree : List (List ℕ) → Bool
agree [] = true
agree (value ∷ values) = is_number value && list_all (bytes_eq value) values

-- no value, only `chunked`, or anything else
abbrev pub coding_of : List (List ℕ) → Coding
coding_of [] = codings.Absent
coding_of (coding ∷ []) = if eq_ignore_case coding (codes "chunked") then codings.Chunked else codings.Other
coding_of (first ∷ second ∷ more) = codings.Other

-- the number in the first value
abbrev pub length_of : List (List ℕ) → Option ℕ
length_of [] = None
length_of (value ∷ values) = Some (digits_value 10 value)

-- How the body is framed (RFC 9112, section 6.3), if the lengths agree.
abbrev pub framing_in : Option ℕ → Coding → Result Framing FieldFault
framing_in None codings.Absent = Ok (framings.Sized 0)
framing_in None codings.Chunked = Ok framings.Chunked
framing_in None codings.Other = Err faults.BadLength
framing_in (Some length) codings.Absent = Ok (framings.Sized length)
framing_in (Some length) codings.Chunked = Err faults.BadLength
framing_in (Some length) codings.Other = Err faults.BadLength

-- the same with the test for a Content-Encoding, which is the last error
abbrev pub unless_encoded : Bool → Result Framing FieldFault → Result Framing FieldFault
unless_encoded encoded (Ok framing) = if encoded then Err faults.Coding else Ok framing
unless_encoded encoded (Err fault) = Err fault

-- How the body is framed, or the first error in the order of `FieldFault`.
abbrev pub framing_of : List Header → Result Framing FieldFault
framing_of fields =
    let lengths = content_lengths fields in
    if list_any is_large lengths then Err faults.BodyLarge
    else (if agree lengths
    then unless_encoded (is_encoded (content_encodings fields))
    (framing_in (length_of lengths) (coding_of (transfer_codings fields)))
    else Err faults.BadLength)

-- The connection closes after the request (RFC 9112, section 9.3): the option `close` is given, or the version is
-- HTTP/1.0 without `keep-alive`.
abbrev pub asks_to_close : ℕ → List Header → Bool
asks_to_close minor fields =
    let options = elements_named (codes "connection") fields in
    has_option (codes "close") options || ((minor == 0) && not (has_option (codes "keep-alive") options))

-- 33 bytes
abbrev pub form_type : List ℕ
form_type = codes "application/x-www-form-urlencoded"

abbrev pub begins_form : List ℕ → Bool
begins_form value = bytes_eq (take 33 value) form_type

abbrev pub is_form_type : Option (List ℕ) → Bool
is_form_type None = false
is_form_type (Some value) = begins_form value

-- the first Content-Type begins with the media type of form data
abbrev pub is_form : List Header → Bool
is_form fields = is_form_type (first_of (content_types fields))

-- A Content-Length is within the limit.
abbrev pub IsWithinLimit : Framing → Type 0
IsWithinLimit (framings.Sized length) = length ≤ body_limit
IsWithinLimit framings.Chunked = ⊤
