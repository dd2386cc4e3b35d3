-- The bytes of a response (RFC 9112, sections 2.1 and 4).
use Rattle.std.specs.Prelude.{ℕ, Bool, List, [], ◌∷◌, ◌++◌, length, flat_map, codes, decimal, if◌then◌else◌}
use Rattle.http_reply.specs.declared.status.Delivery.{Delivery}
use Rattle.http_reply.specs.declared.status.Kind.{Kind}
use Rattle.http_reply.specs.declared.status.Kind.TheVariants as kinds
use Rattle.http_reply.specs.declared.status.Methods.{Methods}
use Rattle.http_reply.specs.declared.status.Methods.TheVariants as methods
use Rattle.http_reply.specs.declared.status.Status.{Status}
use Rattle.http_reply.specs.declared.status.Status.TheVariants as statuses

-- ---- values

-- the code and the reason phrase (RFC 9110, section 15; RFC 4918, section 11.5)
abbrev pub status_line : Status → List ℕ
status_line (statuses.Served kind) = codes "200 OK"
status_line statuses.BadRequest = codes "400 Bad Request"
status_line statuses.NotFound = codes "404 Not Found"
status_line (statuses.MethodNotAllowed methods) = codes "405 Method Not Allowed"
status_line statuses.ContentTooLarge = codes "413 Content Too Large"
status_line statuses.UnsupportedMediaType = codes "415 Unsupported Media Type"
status_line statuses.UnprocessableContent = codes "422 Unprocessable Content"
status_line statuses.ServiceUnavailable = codes "503 Service Unavailable"
status_line statuses.InsufficientStorage = codes "507 Insufficient Storage"

-- the media type of the content (RFC 9110, section 8.3)
abbrev pub media_type : Kind → List ℕ
media_type kinds.Text = codes "text/plain; charset=utf-8"
media_type kinds.Json = codes "application/json"
media_type kinds.JsonLines = codes "application/stream+json"

-- every status other than 200 has plain text
abbrev pub kind_of : Status → Kind
kind_of (statuses.Served kind) = kind
kind_of other = kinds.Text

-- the methods that a path allows (RFC 9110, section 10.2.1)
abbrev pub methods_text : Methods → List ℕ
methods_text methods.Get = codes "GET"
methods_text methods.Post = codes "POST"
methods_text methods.GetAndPost = codes "GET, POST"

-- ---- header fields, as names and values

-- a 405 response lists the allowed methods (RFC 9110, section 15.5.6)
abbrev pub allow_fields : Status → List (List ℕ × List ℕ)
allow_fields (statuses.MethodNotAllowed methods) = (codes "Allow", methods_text methods) ∷ []
allow_fields other = []

-- the length of the content (RFC 9112, section 6.2); a response to HEAD has none
abbrev pub length_fields : Bool → ℕ → List (List ℕ × List ℕ)
length_fields bare length = if bare then [] else (codes "Content-Length", decimal length) ∷ []

-- the connection closes after the response (RFC 9112, section 9.6)
abbrev pub close_fields : Bool → List (List ℕ × List ℕ)
close_fields closes = if closes then (codes "Connection", codes "close") ∷ [] else []

-- all header fields, in this order
abbrev pub fields_of : Status → ℕ → Delivery → List (List ℕ × List ℕ)
fields_of status length delivery =
    allow_fields status
    ++ ((codes "Content-Type", media_type (kind_of status))
    ∷ (length_fields delivery.bare length ++ close_fields delivery.closes))

-- ---- bytes

-- the end of a line
abbrev pub line_end : List ℕ
line_end = 13 ∷ 10 ∷ []

-- field-line = field-name ":" OWS field-value OWS (RFC 9112, section 5)
abbrev pub field_line : List ℕ × List ℕ → List ℕ
field_line field = field.0 ++ (codes ": " ++ (field.1 ++ line_end))

-- The status line, the header fields, and an empty line, for content of this length.
unfoldable pub head_bytes : Status → ℕ → Delivery → List ℕ
head_bytes status length delivery =
    codes "HTTP/1.1 "
    ++ (status_line status
    ++ (line_end ++ (flat_map field_line (fields_of status length delivery) ++ line_end)))

-- what follows the head: the content, or nothing
abbrev pub body_bytes : Bool → List ℕ → List ℕ
body_bytes bare content = if bare then [] else content

-- a response with this content
abbrev pub reply_bytes : Status → List ℕ → Delivery → List ℕ
reply_bytes status content delivery =
    head_bytes status (length content) delivery ++ body_bytes delivery.bare content

-- the response when memory runs out
abbrev pub no_memory_bytes : Delivery → List ℕ
no_memory_bytes delivery = reply_bytes statuses.InsufficientStorage (codes "no memory\n") delivery
