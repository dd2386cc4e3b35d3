-- The arguments of a request.
use Rattle.std.specs.Prelude.{ℕ, Bool, ◌&&◌, ◌==◌, List, [], ◌++◌, map, codes, bytes_eq, if◌then◌else◌}
use Rattle.std.specs.Str.Lossy.{utf8_lossy}
use Rattle.std.specs.List.{before_first, after_first}
use Rattle.form_urlencoded.specs.Form.{decode, raw_pairs}

-- the target up to its first question mark (RFC 3986, section 3.3)
abbrev pub path_of : List ℕ → List ℕ
path_of target = before_first (λ b. b == 63) target

-- the target after its first question mark (RFC 3986, section 3.4)
abbrev pub query_of : List ℕ → List ℕ
query_of target = after_first (λ b. b == 63) target

-- the decoded name or value; invalid UTF-8 becomes U+FFFD
abbrev pub decode_text : List ℕ → List ℕ
decode_text piece = utf8_lossy (decode piece)

-- the names and values in form data (URL Standard, section 5.1), in order
abbrev pub arguments : List ℕ → List (List ℕ × List ℕ)
arguments form = map (λ pair. (decode_text pair.0, decode_text pair.1)) (raw_pairs form)

-- a path that also accepts arguments in form data
abbrev pub is_select : List ℕ → Bool
is_select path = bytes_eq path (codes "/select/logsql/query")

abbrev pub is_post : List ℕ → Bool
is_post method = bytes_eq method (codes "POST")

-- the arguments of the target, then those of the body if it is posted form data
abbrev pub arguments_of : List ℕ → List ℕ → Bool → List ℕ → List (List ℕ × List ℕ)
arguments_of method target form body =
    arguments (query_of target)
    ++ (if form && (is_post method && is_select (path_of target)) then arguments body else [])
