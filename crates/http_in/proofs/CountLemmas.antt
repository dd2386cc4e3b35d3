-- How many lines heads and sections have.
use Rattle.std.proofs.Common.{◌≡◌, ℕ, ◌+◌, ◌<◌, ◌≤◌, Bool, true, false, ◌&&◌, cond, List, [], ◌∷◌}
use Rattle.std.proofs.Common.{◌++◌, take, drop, length, get_or, refl, ap, sym, ◌∙◌, arith}
use Rattle.std.proofs.Common.{append_assoc}
use Rattle.std.proofs.Math.Seq.{get_or-append_seam}
use Rattle.std.proofs.Common.{append-nil, length-append}
use Rattle.std.specs.Prelude.{not, ◌==◌, All, IsTrue, codes, flat_map}
use Rattle.std.specs.List.{AllByRecursion}
use Rattle.std.proofs.lemmas.Bool.Decides.{nat_tests}
use Rattle.std.proofs.lemmas.List.{same_from_push, take-append-drop}
use Rattle.std.proofs.lemmas.List.{take-take, take_more}
use Rattle.std.proofs.lemmas.List.{take_at}
use Rattle.std.proofs.lemmas.List.Elements.{All-head, All-tail, recursion_from_All}
use Rattle.httparse.specs.Ascii.{carriage_return, colon, line_feed, space}
use Rattle.httparse.specs.Grammar.{AllPass, EndsInTarget, Field, IsField, IsRequestHead, IsToken, LineEnd}
use Rattle.httparse.specs.Grammar.{RequestHead, crlf, is_token_byte, is_uri_byte}
use Rattle.httparse.specs.Grammar.{is_value_byte}
use Rattle.httparse.specs.Grammar.{lf, print_blank, print_end, print_field, print_request, print_section, print_version}
use Rattle.httparse.specs.Spans.{RequestExceeds, SectionExceeds}
use Rattle.httparse.proofs.GrammarLemmas.{print_request-append}
use Rattle.http_in.specs.Lacks.{EndsHead}
use Rattle.http_in.specs.Message.{BeginsHead}
use Rattle.http_in.specs.Lines.{EndsLine, begins_line, begun_after, ends_line, lines_from, lines_in}

add_to : (e t r s : ℕ) → t ≡ r + s → e + t ≡ e + r + s
add_to e t r s is = omega (arith, is)

pub lines_append : (begun : Bool) (a b : List ℕ) → lines_from begun (a ++ b) ≡ lines_from begun a + lines_from
    (begun_after begun a) b
lines_append begun [] b = omega arith
lines_append begun (x ∷ a) b =
    add_to (ends_line begun x) (lines_from (begins_line begun x) (a ++ b)) (lines_from (begins_line begun x) a)
    (lines_from (begun_after (begins_line begun x) a) b) (lines_append (begins_line begun x) a b)

pub begun_append : (begun : Bool) (a b : List ℕ) → begun_after begun (a ++ b) ≡ begun_after (begun_after begun a) b
begun_append begun [] b = refl
begun_append begun (x ∷ a) b = begun_append (begins_line begun x) a b

-- after a text of which this many lines end and where a line has begun or has not
lines_then : (begun after : Bool) (a b : List ℕ) → begun_after begun a ≡ after
    → lines_from begun (a ++ b) ≡ lines_from begun a + lines_from after b
lines_then begun after a b is =
    lines_append begun a b ∙ ap (λ t. lines_from begun a + lines_from t b) is

begun_then : (begun after : Bool) (a b : List ℕ) → begun_after begun a ≡ after
    → begun_after begun (a ++ b) ≡ begun_after after b
begun_then begun after a b is = begun_append begun a b ∙ ap (λ t. begun_after t b) is

-- fewer bytes have no more lines
pub lines_front : (bytes : List ℕ) (n m : ℕ) → n ≤ m → lines_in (take n bytes) ≤ lines_in (take m bytes)
lines_front bytes n m less =
    let front : List ℕ = take m bytes in
    let split : lines_in front ≡ lines_in (take n bytes ++ drop n front) =
    ap lines_in (sym (take-append-drop n front) ∙ ap (λ l. l ++ drop n front) (take-take n m bytes less)) in
    omega (arith, split, lines_append false (take n bytes) (drop n front))

pub lines_before : (a b : List ℕ) → lines_in a ≤ lines_in (a ++ b)
lines_before a b = omega (arith, lines_append false a b)

pub lines_more : (bytes : List ℕ) (i : ℕ) → i < length bytes
    → lines_in (take (i + 1) bytes) ≡ lines_in (take i bytes) + ends_line (begun_after false (take i bytes))
    (get_or bytes i 0)
lines_more bytes i inside =
    ap lines_in (take_more bytes i 0 inside) ∙ lines_append false (take i bytes) (get_or bytes i 0 ∷ [])
    ∙ ap (λ n. lines_in (take i bytes) + n)
    (plus_none (ends_line (begun_after false (take i bytes)) (get_or bytes i 0)))
  where
    plus_none : (n : ℕ) → n + 0 ≡ n
    plus_none n = omega arith

pub begun_more : (bytes : List ℕ) (i : ℕ) → i < length bytes
    → begun_after false (take (i + 1) bytes) ≡ begins_line (begun_after false (take i bytes)) (get_or bytes i 0)
begun_more bytes i inside =
    ap (begun_after false) (take_more bytes i 0 inside) ∙ begun_append false (take i bytes) (get_or bytes i 0 ∷ [])

-- a line feed ends one line at most
pub lines_feed : (bytes : List ℕ) → lines_in (bytes ++ 10 ∷ []) ≤ lines_in bytes + 1
lines_feed bytes = omega (arith, lines_append false bytes (10 ∷ []), one (begun_after false bytes))
  where
    one : (begun : Bool) → lines_from begun (10 ∷ []) ≤ 1
    one true = omega arith
    one false = omega arith

-- ---- bytes with no line feed

abbrev IsQuiet : ℕ → Type 0
IsQuiet b = (b == line_feed) ≡ false

quiet_ends : (begun : Bool) (b : ℕ) → IsQuiet b → ends_line begun b ≡ 0
quiet_ends begun b quiet = ap (λ t. cond (t && begun) 1 0) quiet

quiet_begun : (b : ℕ) → IsQuiet b → begins_line true b ≡ true
quiet_begun b quiet = ap (λ t. not t && true) quiet

quiet_lines : (begun : Bool) (bytes : List ℕ) → AllByRecursion IsQuiet bytes → lines_from begun bytes ≡ 0
quiet_lines begun [] quiet = refl
quiet_lines begun (b ∷ bytes) quiet =
    both (ends_line begun b) (lines_from (begins_line begun b) bytes) (quiet_ends begun b quiet.0)
    (quiet_lines (begins_line begun b) bytes quiet.1)
  where
    both : (n m : ℕ) → n ≡ 0 → m ≡ 0 → n + m ≡ 0
    both n m x y = omega (arith, x, y)

quiet_after : (bytes : List ℕ) → AllByRecursion IsQuiet bytes → begun_after true bytes ≡ true
quiet_after [] quiet = refl
quiet_after (b ∷ bytes) quiet =
    ap (λ t. begun_after t bytes) (quiet_begun b quiet.0) ∙ quiet_after bytes quiet.1

quiet_append : (a b : List ℕ) → AllByRecursion IsQuiet a → AllByRecursion IsQuiet b → AllByRecursion IsQuiet (a ++ b)
quiet_append [] b x y = y
quiet_append (c ∷ a) b x y = (x.0, quiet_append a b x.1 y)

weaker : (test : ℕ → Bool) (bytes : List ℕ) → ((b : ℕ) → test b ≡ true → IsQuiet b)
    → AllByRecursion (λ b. IsTrue (test b)) bytes → AllByRecursion IsQuiet bytes
weaker test [] f all = tt
weaker test (b ∷ bytes) f all = (f b all.0, weaker test bytes f all.1)

quiet_from : (test : ℕ → Bool) (bytes : List ℕ) → ((b : ℕ) → test b ≡ true → IsQuiet b) → AllPass test bytes
    → AllByRecursion IsQuiet bytes
quiet_from test bytes f all = weaker test bytes f (recursion_from_All (λ b. IsTrue (test b)) bytes all)

token_quiet : (b : ℕ) → is_token_byte b ≡ true → IsQuiet b
unfolding is_token_byte
token_quiet b is = grind (arith, nat_tests)

token_begins : (b : ℕ) → is_token_byte b ≡ true → (b == carriage_return) ≡ false
unfolding is_token_byte
token_begins b is = grind (arith, nat_tests)

uri_quiet : (b : ℕ) → is_uri_byte b ≡ true → IsQuiet b
uri_quiet b is = grind (arith, nat_tests)

value_quiet : (b : ℕ) → is_value_byte b ≡ true → IsQuiet b
value_quiet b is = grind (arith, nat_tests)

-- a line has begun after a token
begins_both : (begun : Bool) (b : ℕ) → IsQuiet b → (b == carriage_return) ≡ false → begins_line begun b ≡ true
begins_both true b x y = quiet_begun b x
begins_both false b x y = ap (λ t. not t && not (b == carriage_return)) x ∙ ap not y

token_after : (begun : Bool) (bytes : List ℕ) → IsToken bytes → begun_after begun bytes ≡ true
token_after begun [] is = absurd (omega (arith, is.0))
token_after begun (b ∷ bytes) is =
    let first = All-head (λ c. IsTrue (is_token_byte c)) b bytes is.1 in
    let rest = All-tail (λ c. IsTrue (is_token_byte c)) b bytes is.1 in
    ap (λ t. begun_after t bytes) (begins_both begun b (token_quiet b first) (token_begins b first))
    ∙ quiet_after bytes (quiet_from is_token_byte bytes token_quiet rest)

-- ---- line ends

end_lines : (end : LineEnd) → lines_from true (print_end end) ≡ 1
end_lines crlf = refl
end_lines lf = refl

end_after : (begun : Bool) (end : LineEnd) → begun_after begun (print_end end) ≡ false
end_after true crlf = refl
end_after true lf = refl
end_after false crlf = refl
end_after false lf = refl

blank_end : (end : LineEnd) → lines_from false (print_end end) ≡ 0
blank_end crlf = refl
blank_end lf = refl

blank_lines : (ends : List LineEnd) → lines_from false (print_blank ends) ≡ 0
blank_lines [] = refl
blank_lines (end ∷ ends) =
    lines_then false false (print_end end) (print_blank ends) (end_after false end)
    ∙ ap (λ n. n + lines_from false (print_blank ends)) (blank_end end) ∙ ap (λ n. 0 + n) (blank_lines ends)

blank_after : (ends : List LineEnd) → begun_after false (print_blank ends) ≡ false
blank_after [] = refl
blank_after (end ∷ ends) =
    begun_then false false (print_end end) (print_blank ends) (end_after false end) ∙ blank_after ends

-- ---- field lines

-- a field line without its end
field_text : Field → List ℕ
field_text f = f.name ++ colon ∷ f.raw

field_quiet : (f : Field) → IsField f → AllByRecursion IsQuiet (field_text f)
unfolding field_text
field_quiet f is =
    quiet_append f.name (colon ∷ f.raw) (quiet_from is_token_byte f.name token_quiet is.name.1)
    (refl, quiet_from is_value_byte f.raw value_quiet is.raw)

field_begun : (begun : Bool) (f : Field) → IsField f → begun_after begun (field_text f) ≡ true
unfolding field_text
field_begun begun f is =
    begun_then begun true f.name (colon ∷ f.raw) (token_after begun f.name is.name)
    ∙ quiet_after (colon ∷ f.raw) (refl, quiet_from is_value_byte f.raw value_quiet is.raw)

field_is : (f : Field) → print_field f ≡ field_text f ++ print_end f.end
unfolding field_text
field_is f = refl

-- a text in one line, and its end
text_lines : (text : List ℕ) (end : LineEnd) → AllByRecursion IsQuiet text → begun_after false text ≡ true
    → lines_in (text ++ print_end end) ≡ 1
text_lines text end quiet begun =
    lines_then false true text (print_end end) begun ∙ ap (λ n. n + lines_from true (print_end end))
    (quiet_lines false text quiet)
    ∙ ap (λ n. 0 + n) (end_lines end)

text_after : (text : List ℕ) (end : LineEnd) → begun_after false (text ++ print_end end) ≡ false
text_after text end = begun_append false text (print_end end) ∙ end_after (begun_after false text) end

fields_after : (fields : List Field) → begun_after false (flat_map print_field fields) ≡ false
fields_after [] = refl
fields_after (f ∷ fields) =
    begun_then false false (print_field f) (flat_map print_field fields)
    (ap (begun_after false) (field_is f) ∙ text_after (field_text f) f.end) ∙ fields_after fields

fields_lines : (fields : List Field) → All IsField fields → lines_in (flat_map print_field fields) ≡ length fields
fields_lines [] all = refl
fields_lines (f ∷ fields) all =
    let is = All-head IsField f fields all in
    let one : lines_in (print_field f) ≡ 1 =
    ap lines_in (field_is f) ∙ text_lines (field_text f) f.end (field_quiet f is) (field_begun false f is) in
    let more = fields_lines fields (All-tail IsField f fields all) in
    let both = lines_then false false (print_field f) (flat_map print_field fields)
    (ap (begun_after false) (field_is f) ∙ text_after (field_text f) f.end) in
    omega (arith, one, more, both)

-- ---- what may stand before field lines: a start line, and nothing in a trailer

pub record IsStart (start : List ℕ) (lines : ℕ) : Type 0 where
  pub count : lines_in start ≡ lines
  pub after : begun_after false start ≡ false

pub no_start : IsStart [] 0
no_start = record { count = refl; after = refl }

-- a start line without its end
start_text : RequestHead → List ℕ
start_text h = h.method ++ space ∷ (h.target ++ space ∷ print_version h.minor)

pub start_of : RequestHead → List ℕ
start_of h = print_blank h.blank ++ (start_text h ++ print_end h.line_end)

regroup_start : (b m t v e s : List ℕ) → b ++ (m ++ 32 ∷ (t ++ 32 ∷ (v ++ (e ++ s))))
    ≡ (b ++ ((m ++ 32 ∷ (t ++ 32 ∷ v)) ++ e)) ++ s
regroup_start b m t v e s =
    sym (append_assoc b ((m ++ 32 ∷ (t ++ 32 ∷ v)) ++ e) s
    ∙ ap (λ l. b ++ l) (append_assoc (m ++ 32 ∷ (t ++ 32 ∷ v)) e s ∙ append_assoc m (32 ∷ (t ++ 32 ∷ v)) (e ++ s)
    ∙ ap (λ l. m ++ 32 ∷ l) (append_assoc t (32 ∷ v) (e ++ s))))

request_is : (h : RequestHead) → print_request h ≡ start_of h ++ print_section h.fields h.last
unfolding start_of start_text
request_is h =
    let section : List ℕ = print_section h.fields h.last in
    sym (append-nil (print_request h)) ∙ print_request-append h []
    ∙ regroup_start (print_blank h.blank) h.method h.target (print_version h.minor) (print_end h.line_end)
    (section ++ [])
    ∙ ap (λ l. start_of h ++ l) (append-nil section)

version_quiet : (minor : ℕ) → minor ≤ 1 → AllByRecursion IsQuiet (print_version minor)
version_quiet minor few =
    quiet_append (codes "HTTP/1.") ((48 + minor) ∷ []) (refl, (refl, (refl, (refl, (refl, (refl, (refl, tt)))))))
    (digit minor few, tt)
  where
    digit : (n : ℕ) → n ≤ 1 → (48 + n == 10) ≡ false
    digit n few = grind (arith, nat_tests)

start_quiet : (h : RequestHead) → IsRequestHead h → AllByRecursion IsQuiet (start_text h)
unfolding start_text
start_quiet h is =
    quiet_append h.method (space ∷ (h.target ++ space ∷ print_version h.minor))
    (quiet_from is_token_byte h.method token_quiet is.method.1) (
      refl,
      quiet_append h.target (space ∷ print_version h.minor)
          (quiet_from is_uri_byte h.target uri_quiet is.target.1) (refl, version_quiet h.minor is.minor),
    )

start_begun : (h : RequestHead) → IsRequestHead h → begun_after false (start_text h) ≡ true
unfolding start_text
start_begun h is =
    begun_then false true h.method (space ∷ (h.target ++ space ∷ print_version h.minor))
    (token_after false h.method is.method)
    ∙ quiet_after (space ∷ (h.target ++ space ∷ print_version h.minor)) (
      refl,
      quiet_append h.target (space ∷ print_version h.minor)
          (quiet_from is_uri_byte h.target uri_quiet is.target.1) (refl, version_quiet h.minor is.minor),
    )

pub is_start : (h : RequestHead) → IsRequestHead h → IsStart (start_of h) 1
unfolding start_of
is_start h is =
    let line : List ℕ = start_text h ++ print_end h.line_end in
    let one = text_lines (start_text h) h.line_end (start_quiet h is) (start_begun h is) in
    let both = lines_then false false (print_blank h.blank) line (blank_after h.blank) in
    record {
      count = omega (arith, one, both, blank_lines h.blank);
      after = begun_then false false (print_blank h.blank) line (blank_after h.blank) ∙ text_after
          (start_text h) h.line_end;
    }

pub started_lines : (start : List ℕ) (lines : ℕ) (fields : List Field) → IsStart start lines → All IsField fields
    → lines_in (start ++ flat_map print_field fields) ≡ lines + length fields
started_lines start lines fields is all =
    let both = lines_then false false start (flat_map print_field fields) is.after in
    omega (arith, both, is.count, fields_lines fields all)

started_after : (start : List ℕ) (lines : ℕ) (fields : List Field) → IsStart start lines
    → begun_after false (start ++ flat_map print_field fields) ≡ false
started_after start lines fields is =
    begun_then false false start (flat_map print_field fields) is.after ∙ fields_after fields

-- ---- too many lines, from too many fields

-- what stands before an empty line has the lines of its fields
before_end : (front text : List ℕ) (last : LineEnd) → front ++ print_end lf ≡ (text ++ print_end last) ++ []
    → lines_in text ≤ lines_in front
before_end front text lf e =
    let same : front ≡ text = (same_from_push front text 10 10 (e ∙ append-nil (text ++ print_end lf))).0 in
    omega (arith, ap lines_in same)
before_end front text crlf e =
    let same : front ≡ text ++ 13 ∷ [] =
    (same_from_push front (text ++ 13 ∷ []) 10 10
    (e ∙ append-nil (text ++ print_end crlf) ∙ sym (append_assoc text (13 ∷ []) (10 ∷ [])))).0 in
    omega (arith, ap lines_in same, lines_before text (13 ∷ []))

pub section_lines : (room : ℕ) (buf : List ℕ) → SectionExceeds room buf → room < lines_in buf
section_lines room buf e =
    let fields = e.3 in
    let text : List ℕ = flat_map print_field fields in
    let fewer = before_end e.0 text lf e.4.1 in
    omega (arith, fewer, fields_lines fields e.4.0, ap lines_in e.2, lines_before e.0 e.1, e.5)

pub request_lines : (room : ℕ) (buf : List ℕ) → RequestExceeds room buf → room + 1 < lines_in buf
request_lines room buf e =
    let h = e.3 in
    let text : List ℕ = start_of h ++ flat_map print_field h.fields in
    let whole : print_request h ≡ text ++ print_end h.last =
    request_is h ∙ sym (append_assoc (start_of h) (flat_map print_field h.fields) (print_end h.last)) in
    let fewer = before_end e.0 text h.last (e.4.1 ∙ ap (λ l. l ++ []) whole) in
    let count = started_lines (start_of h) 1 h.fields (is_start h e.4.0) e.4.0.fields in
    omega (arith, fewer, count, ap lines_in e.2, lines_before e.0 e.1, e.5)

-- a whole head has a line for each field, and one more
pub head_lines : (h : RequestHead) → IsRequestHead h → lines_in (print_request h) ≡ length h.fields + 1
head_lines h is =
    let text : List ℕ = start_of h ++ flat_map print_field h.fields in
    let whole : print_request h ≡ text ++ print_end h.last =
    request_is h ∙ sym (append_assoc (start_of h) (flat_map print_field h.fields) (print_end h.last)) in
    let end = lines_then false false text (print_end h.last) (started_after (start_of h) 1 h.fields (is_start h is)) in
    let count = started_lines (start_of h) 1 h.fields (is_start h is) is.fields in
    omega (arith, ap lines_in whole, end, blank_end h.last, count)

-- a whole section has a line for each field
pub whole_section_lines : (fields : List Field) (last : LineEnd) → All IsField fields
    → lines_in (print_section fields last) ≡ length fields
whole_section_lines fields last all =
    let end = lines_then false false (flat_map print_field fields) (print_end last) (fields_after fields) in
    omega (arith, end, blank_end last, fields_lines fields all)

-- ---- inside a target

pub in_target : (buf : List ℕ) → EndsInTarget buf → lines_in buf ≡ 0
in_target buf e =
    let line : List ℕ = e.1 ++ space ∷ e.2 in
    let quiet = quiet_append e.1 (space ∷ e.2) (quiet_from is_token_byte e.1 token_quiet e.3.1)
    (refl, quiet_from is_uri_byte e.2 uri_quiet e.4) in
    let both = lines_then false false (print_blank e.0) line (blank_after e.0) in
    omega (
      arith,
      ap lines_in (e.5 ∙ append_assoc (print_blank e.0) e.1 (space ∷ e.2)),
      both,
      blank_lines e.0,
      quiet_lines false line quiet,
    )

-- ---- where a head ends

-- a line end, up to its line feed
abbrev feed_front : LineEnd → List ℕ
feed_front crlf = 13 ∷ []
feed_front lf = []

feed_is : (end : LineEnd) → print_end end ≡ feed_front end ++ 10 ∷ []
feed_is crlf = refl
feed_is lf = refl

feed_after : (end : LineEnd) → begun_after false (feed_front end) ≡ false
feed_after crlf = refl
feed_after lf = refl

pub head_ends : (bytes : List ℕ) (h : RequestHead) (after : List ℕ) → BeginsHead bytes h after
    → (at : ℕ) × (at + 1 ≡ length (print_request h)) × EndsHead bytes at
head_ends bytes h after b = (
  length front,
  size,
  record {
    inside = omega (arith, ap length whole, length-append front (10 ∷ after));
    feed = ap (λ l. get_or l (length front) 0) whole ∙ get_or-append_seam front 10 after 0;
    empty = ap (begun_after false) cut
        ∙ begun_then false false body (feed_front h.last) (started_after (start_of h) 1 h.fields is)
        ∙ feed_after h.last;
    lines = omega (
      arith,
      ap lines_in cut,
      lines_before body (feed_front h.last),
      started_lines (start_of h) 1 h.fields is b.reads.0.fields,
    );
  },
)
  where
    is : IsStart (start_of h) 1
    is = is_start h b.reads.0

    body : List ℕ
    body = start_of h ++ flat_map print_field h.fields

    front : List ℕ
    front = body ++ feed_front h.last

    text : print_request h ≡ front ++ 10 ∷ []
    text =
        request_is h ∙ sym (append_assoc (start_of h) (flat_map print_field h.fields) (print_end h.last))
        ∙ ap (λ l. body ++ l) (feed_is h.last) ∙ sym (append_assoc body (feed_front h.last) (10 ∷ []))

    size : length front + 1 ≡ length (print_request h)
    size = omega (arith, ap length text, length-append front (10 ∷ []))

    whole : bytes ≡ front ++ 10 ∷ after
    whole = b.reads.1 ∙ ap (λ l. l ++ after) text ∙ append_assoc front (10 ∷ []) after

    cut : take (length front) bytes ≡ front
    cut = ap (take (length front)) whole ∙ take_at front (10 ∷ after) (length front) refl

-- ---- one byte more

pub lines_next : (bytes : List ℕ) (i ended r : ℕ) (begun : Bool) → i < length bytes → ended ≡ lines_in (take i bytes)
    → begun ≡ begun_after false (take i bytes) → r ≡ ends_line begun (get_or bytes i 0)
    → ended + r ≡ lines_in (take (i + 1) bytes)
lines_next bytes i ended r begun inside count state is =
    let here : r ≡ ends_line (begun_after false (take i bytes)) (get_or bytes i 0) =
    is ∙ ap (λ t. ends_line t (get_or bytes i 0)) state in
    omega (arith, lines_more bytes i inside, here, count)

pub ends_here : (bytes : List ℕ) (i ended r lines : ℕ) (begun : Bool) → i < length bytes → ended ≡ lines_in
    (take i bytes)
    → begun ≡ begun_after false (take i bytes) → r ≡ ends_line begun (get_or bytes i 0) → ended ≤ lines
    → lines < ended + r → EndsLine bytes lines i
ends_here bytes i ended r lines begun inside count state is few many = record {
  inside = inside;
  feed = feed;
  few = omega (arith, count, few);
  many = omega (
    arith,
    many,
    lines_next bytes i ended r begun inside count state is,
    ap lines_in (take_more bytes i 0 inside),
    ap (λ b. lines_in (take i bytes ++ b ∷ [])) feed,
  );
}
  where
    some : 0 < ends_line begun (get_or bytes i 0)
    some = omega (arith, is, few, many)

    feed_from : (b : ℕ) (t : Bool) → 0 < ends_line t b → b ≡ 10
    feed_from b t h = grind (arith, nat_tests)

    feed : get_or bytes i 0 ≡ 10
    feed = feed_from (get_or bytes i 0) begun some
