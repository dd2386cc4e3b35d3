-- What is not whole, and what a reader took because of it.
use Rattle.std.proofs.Common.{◌≡◌, ◌⊎◌, ℕ, ◌+◌, ◌-◌, ◌<◌, ◌≤◌, Bool, true, false, List, [], ◌∷◌, ◌++◌, take, drop}
use Rattle.std.proofs.Common.{length}
use Rattle.std.proofs.Common.{refl, ap, sym, subst, ◌∙◌, inl, inr, arith, append_assoc, append-nil, length-append}
use Rattle.std.specs.Prelude.{◌↔◌, Contains, flat_map, ◌&&◌, ◌||◌, ◌==◌, IsTrue, Option, get_or, nat_le, nat_lt, not}
use Rattle.std.proofs.Math.Seq.{get_or-append_seam}
use Rattle.std.proofs.lemmas.Bool.Decides.{nat_tests}
use Rattle.std.proofs.lemmas.List.{drop-append-le, take-append-drop, take-append-le, take_all}
use Rattle.std.proofs.lemmas.List.{take_at}
use Rattle.vl_io.specs.Bytes.{AddsPiece}
use Rattle.vl_io.proofs.Laws.{Consumes-nil, Consumes-trans}
use Rattle.httparse.specs.Ascii.{line_feed}
use Rattle.httparse.specs.Grammar.{crlf, lf, print_extension, print_field}
use Rattle.httparse.specs.Grammar.{ChunkLine, Field, LineEnd, RequestHead, print_chunk_line, print_request}
use Rattle.httparse.specs.Grammar.{print_section}
use Rattle.http_in.specs.Chunks.{IsLine, IsTrailer}
use Rattle.http_in.specs.Faults.{IsHeadFront, IsInLine, IsInSection}
use Rattle.http_in.specs.Lacks.{AddsIf, EndsHead, IsPlace, LacksHead, LacksLine, LacksSection}
use Rattle.http_in.specs.Limits.{head_limit}
use Rattle.http_in.specs.Lines.{begun_after, ends_line, lines_in}
use Rattle.http_in.specs.Message.{BeginsHead}
use Rattle.http_in.specs.declared.search.Search.{Search}
use Rattle.http_in.proofs.CountLemmas.{head_ends, lines_next}
use Rattle.http_in.proofs.HeadLemmas.{BeginsHead-more, head_some, take_append}

-- ---- what is taken

pub adds_none : {S : Type 0} (left : S → Option (List ℕ)) (short : Type 0) (src : S) (bytes : List ℕ)
    → AddsIf left short src src bytes bytes
adds_none left short src bytes = ([], Consumes-nil (left src), sym (append-nil bytes), inl (refl, refl))

-- one read more, where there was too little
pub adds_more : {S : Type 0} (left : S → Option (List ℕ)) (P : List ℕ → Type 0) (a b c : S) (first before now : List ℕ)
    → ((front later : List ℕ) → P (front ++ later) → P front) → AddsIf left (P first) a b first before
    → AddsPiece (left b) (left c) before now → P before → AddsIf left (P first) a c first now
adds_more left P a b c first before now front p q short = (
  p.0 ++ q.0,
  Consumes-trans (left a) (left b) (left c) p.0 q.0 p.1 q.1,
  q.2 ∙ ap (λ l. l ++ q.0) p.2 ∙ append_assoc first p.0 q.0,
  inr (front first p.0 (subst P p.2 short)),
)

-- ---- what fewer bytes lack

pub lacks_head_front : (front later : List ℕ) → LacksHead (front ++ later) → LacksHead front
lacks_head_front front later none = λ head after b.
    none head (after ++ later) (BeginsHead-more front head after later b)

pub lacks_line_front : (front later : List ℕ) → LacksLine (front ++ later) → LacksLine front
lacks_line_front front later none = λ line after is e.
    none line (after ++ later) is (ap (λ l. l ++ later) e ∙ append_assoc (print_chunk_line line) after later)

pub lacks_section_front : (front later : List ℕ) → LacksSection (front ++ later) → LacksSection front
lacks_section_front front later none = λ fields last after is e.
    none fields last (after ++ later) is
    (ap (λ l. l ++ later) e ∙ append_assoc (print_section fields last) after later)

-- ---- heads

pub no_head_yet : (bytes : List ℕ) → IsHeadFront bytes → LacksHead bytes
no_head_yet bytes is = λ head after b. is.none head after b.reads

pub no_bytes_no_head : LacksHead []
no_bytes_no_head = λ head after b.
    absurd (omega (
      arith,
      ap length b.reads.1,
      length-append (print_request head) after,
      head_some head b.reads.0,
    ))

pub lacks_head_taken : (n : ℕ) (bytes : List ℕ) → LacksHead bytes → LacksHead (take n bytes)
lacks_head_taken n bytes none =
    lacks_head_front (take n bytes) (drop n bytes) (subst LacksHead (sym (take-append-drop n bytes)) none)

-- no head in this many bytes, and none that ends after them
pub lacks_head_from : (bytes : List ℕ) (from : ℕ) → LacksHead (take from bytes)
    → ((at : ℕ) → from ≤ at → EndsHead bytes at → ⊥) → LacksHead bytes
lacks_head_from bytes from none ends = λ head after b. by_test head after b (nat_le (length (print_request head))
    from) refl
  where
    by_test : (head : RequestHead) (after : List ℕ) → BeginsHead bytes head after → (t : Bool)
        → nat_le (length (print_request head)) from ≡ t → ⊥
    by_test head after b true is_short =
        let text : List ℕ = print_request head in
        let fits : length text ≤ from = grind (arith, nat_tests) in
        none head (take (from - length text) after) (record {
          reads = (
            b.reads.0,
            ap (take from) b.reads.1 ∙ take_append from text after
                ∙ ap (λ l. l ++ take (from - length text) after) (take_all from text fits),
          );
          short = b.short;
          few = b.few;
        })
    by_test head after b false is_long =
        let less : from < length (print_request head) = grind (arith, nat_tests) in
        let at = head_ends bytes head after b in
        ends at.0 (omega (arith, less, at.1)) at.2

pub place_more : (search : Search) (bytes later : List ℕ) → IsPlace search bytes → IsPlace search (bytes ++ later)
place_more search bytes later is =
    let same : take search.searched (bytes ++ later) ≡ take search.searched bytes =
    take-append-le search.searched bytes later is.fits in
    record {
      fits = omega (arith, is.fits, length-append bytes later);
      begun = rw same is.begun;
      ended = rw same is.ended;
    }

pub searched_more : (search : Search) (bytes later : List ℕ) → IsPlace search bytes → LacksHead bytes
    → LacksHead (take search.searched (bytes ++ later))
searched_more search bytes later is none =
    subst LacksHead (sym (take-append-le search.searched bytes later is.fits))
    (lacks_head_taken search.searched bytes none)

-- ---- one byte more of the search

or_first : (a b : Bool) → a ≡ true → (a || b) ≡ true
or_first true b is = refl
or_first false b is = cc

or_second : (a b : Bool) → b ≡ true → (a || b) ≡ true
or_second true b is = refl
or_second false b is = is

both_true : (a b c : Bool) → a ≡ true → b ≡ false → c ≡ true → ((a && not b) && c) ≡ true
both_true a b c x y z = rw (x, y, z) refl

pub found_next : (bytes : List ℕ) (from i at : ℕ) (found begun ended empty : Bool)
    → begun ≡ begun_after false (take i bytes) → (0 < lines_in (take i bytes) → ended ≡ true)
    → ((at : ℕ) → from ≤ at → at < i → EndsHead bytes at → IsTrue found)
    → empty ≡ ((get_or bytes i 0 == line_feed) && not begun)
    → from ≤ at → at < i + 1 → EndsHead bytes at → IsTrue (found || (empty && ended))
found_next bytes from i at found begun ended empty state lines before is after inside ends = by_test (nat_lt at i) refl
  where
    by_test : (t : Bool) → nat_lt at i ≡ t → IsTrue (found || (empty && ended))
    by_test true is_before =
        or_first found (empty && ended) (before at after (let e : at < i = grind (arith, nat_tests) in e) ends)
    by_test false is_here =
        let less : i ≤ at = grind (arith, nat_tests) in
        let here : at ≡ i = omega (arith, inside, less) in
        let feed : get_or bytes i 0 ≡ line_feed = ap (λ n. get_or bytes n 0) (sym here) ∙ ends.feed in
        let none : begun ≡ false = state ∙ ap (λ n. begun_after false (take n bytes)) (sym here) ∙ ends.empty in
        let some : ended ≡ true = lines (subst (λ n. 0 < lines_in (take n bytes)) here ends.lines) in
        or_second found (empty && ended)
        (ap (λ e. e && ended) is
        ∙ both_true (get_or bytes i 0 == line_feed) begun ended (ap (λ b. b == line_feed) feed) none some)

pub ended_next : (bytes : List ℕ) (i r : ℕ) (begun ended : Bool) → i < length bytes
    → begun ≡ begun_after false (take i bytes) → (0 < lines_in (take i bytes) → ended ≡ true)
    → r ≡ ends_line begun (get_or bytes i 0) → 0 < lines_in (take (i + 1) bytes) → (ended || nat_lt 0 r) ≡ true
ended_next bytes i r begun ended inside state lines is some = by_test (nat_lt 0 r) refl
  where
    by_test : (t : Bool) → nat_lt 0 r ≡ t → (ended || nat_lt 0 r) ≡ true
    by_test true here = or_second ended (nat_lt 0 r) here
    by_test false none =
        let zero_lines : r ≡ 0 = grind (arith, nat_tests) in
        let next = lines_next bytes i (lines_in (take i bytes)) r begun inside refl state is in
        or_first ended (nat_lt 0 r) (lines (omega (arith, next, zero_lines, some)))

pub lacks_head_unless : (bytes : List ℕ) (from : ℕ) (ends : Bool) → ends ≡ false → LacksHead (take from bytes)
    → ((at : ℕ) → from ≤ at → EndsHead bytes at → IsTrue ends) → LacksHead bytes
lacks_head_unless bytes from ends is none found =
    lacks_head_from bytes from none (λ at after e. never (found at after e) is)
  where
    never : IsTrue ends → ends ≡ false → ⊥
    never is_true is_false = cc

-- before the first byte is searched
pub first_place : (search : Search) (bytes : List ℕ) → IsPlace search [] → IsPlace search bytes
first_place search bytes is = place_more search [] bytes is

pub first_none : (search : Search) (bytes : List ℕ) → search.searched ≡ 0 → LacksHead (take search.searched bytes)
first_none search bytes is = subst (λ n. LacksHead (take n bytes)) (sym is) no_bytes_no_head

-- ---- lines and sections

contains_behind : (front after : List ℕ) → Contains (front ++ line_feed ∷ after) line_feed
contains_behind front after = (
  length front,
  omega (arith, length-append front (line_feed ∷ after)),
  get_or-append_seam front line_feed after
      line_feed,
)

-- a text that ends in a line feed is whole in this many bytes, or its line feed stands after them
feed_where : (n : ℕ) (bytes front after : List ℕ) → bytes ≡ (front ++ line_feed ∷ []) ++ after
    → ((later : List ℕ) × (take n bytes ≡ (front ++ line_feed ∷ []) ++ later)) ⊎ Contains (drop n bytes) line_feed
feed_where n bytes front after e = by_test (nat_le (length text) n) refl
  where
    text : List ℕ
    text = front ++ line_feed ∷ []

    by_test : (t : Bool) → nat_le (length text) n ≡ t
        → ((later : List ℕ) × (take n bytes ≡ text ++ later)) ⊎ Contains (drop n bytes) line_feed
    by_test true is_short =
        let fits : length text ≤ n = grind (arith, nat_tests) in
        inl (
          take (n - length text) after,
          ap (take n) e ∙ take_append n text after
              ∙ ap (λ l. l ++ take (n - length text) after) (take_all n text fits),
        )
    by_test false is_long =
        let less : n < length text = grind (arith, nat_tests) in
        let fits : n ≤ length front = omega (arith, less, length-append front (line_feed ∷ [])) in
        let split : drop n bytes ≡ drop n front ++ line_feed ∷ after =
        ap (drop n) (e ∙ append_assoc front (line_feed ∷ []) after) ∙ drop-append-le n front (line_feed ∷ after) fits in
        inr (subst (λ l. Contains l line_feed) (sym split) (contains_behind (drop n front) after))

line_text : (line : ChunkLine) → (front : List ℕ) × (print_chunk_line line ≡ front ++ line_feed ∷ [])
unfolding print_chunk_line
line_text line =
    let text : List ℕ = line.digits ++ line.pad ++ print_extension line.extension in
    (text ++ 13 ∷ [], sym (append_assoc text (13 ∷ []) (10 ∷ [])))

section_text : (fields : List Field) (last : LineEnd)
    → (front : List ℕ) × (print_section fields last ≡ front ++ line_feed ∷ [])
section_text fields crlf =
    let text : List ℕ = flat_map print_field fields in (text ++ 13 ∷ [], sym (append_assoc text (13 ∷ []) (10 ∷ [])))
section_text fields lf = (flat_map print_field fields, refl)

pub lacks_line_unless : (n : ℕ) (bytes : List ℕ) → LacksLine (take n bytes) → ¬ (Contains (drop n bytes) line_feed)
    → LacksLine bytes
lacks_line_unless n bytes none quiet = λ line after is e.
    by_place line is (line_text line).0 (line_text line).1
    (feed_where n bytes (line_text line).0 after (e ∙ ap (λ l. l ++ after) (line_text line).1))
  where
    by_place : (line : ChunkLine) → IsLine line → (front : List ℕ) → print_chunk_line line ≡ front ++ line_feed ∷ []
        → ((later : List ℕ) × (take n bytes ≡ (front ++ line_feed ∷ []) ++ later)) ⊎ Contains (drop n bytes) line_feed
        → ⊥
    by_place line is front text (inl w) = none line w.0 is (w.1 ∙ ap (λ l. l ++ w.0) (sym text))
    by_place line is front text (inr w) = quiet w

pub lacks_section_unless : (n : ℕ) (bytes : List ℕ) → LacksSection (take n bytes)
    → ¬ (Contains (drop n bytes) line_feed) → LacksSection bytes
lacks_section_unless n bytes none quiet = λ fields last after is e.
    by_place fields last is (section_text fields last).0 (section_text fields last).1
    (feed_where n bytes (section_text fields last).0 after
    (e ∙ ap (λ l. l ++ after) (section_text fields last).1))
  where
    by_place : (fields : List Field) (last : LineEnd) → IsTrailer fields last → (front : List ℕ)
        → print_section fields last ≡ front ++ line_feed ∷ []
        → ((later : List ℕ) × (take n bytes ≡ (front ++ line_feed ∷ []) ++ later)) ⊎ Contains (drop n bytes) line_feed
        → ⊥
    by_place fields last is front text (inl w) = none fields last w.0 is (w.1 ∙ ap (λ l. l ++ w.0) (sym text))
    by_place fields last is front text (inr w) = quiet w

pub no_line_yet : (bytes : List ℕ) → IsInLine bytes → LacksLine bytes
no_line_yet bytes is = λ line after form e. is.1 line after (form.form, e)

pub no_section_yet : (bytes : List ℕ) → IsInSection bytes → LacksSection bytes
no_section_yet bytes is = λ fields last after form e. is.1.none fields last after (form.each, e)

pub no_bytes_no_line : LacksLine []
no_bytes_no_line = λ line after is e.
    absurd (omega (
      arith,
      ap length e,
      length-append (print_chunk_line line) after,
      ap length (line_text line).1,
      length-append (line_text line).0 (line_feed ∷ []),
    ))

pub no_bytes_no_section : LacksSection []
no_bytes_no_section = λ fields last after is e.
    absurd (omega (
      arith,
      ap length e,
      length-append (print_section fields last) after,
      ap length (section_text fields last).1,
      length-append (section_text fields last).0 (line_feed ∷ []),
    ))

-- where all bytes were searched, and more came
pub taken_more : (P : List ℕ → Type 0) (bytes later now : List ℕ) (n : ℕ) → now ≡ bytes ++ later → n ≡ length bytes
    → P bytes → P (take n now)
taken_more P bytes later now n e is p =
    subst P (sym (ap (take n) e ∙ take_at bytes later n (sym is))) p

-- no line feed came, and there are fewer bytes than the limit
pub no_feed : (n : ℕ) (bytes : List ℕ) (ends : Bool) → ends ≡ false
    → (IsTrue ends ↔ (head_limit ≤ length bytes) ⊎ Contains (drop n bytes) line_feed)
    → (length bytes < head_limit) × ¬ (Contains (drop n bytes) line_feed)
no_feed n bytes ends none is = (by_test (nat_le head_limit (length bytes)) refl, λ feed. never (is.1 (inr feed)) none)
  where
    never : IsTrue ends → ends ≡ false → ⊥
    never is_true is_false = cc

    by_test : (t : Bool) → nat_le head_limit (length bytes) ≡ t → length bytes < head_limit
    by_test true long =
        let large : head_limit ≤ length bytes = grind (arith, nat_tests) in
        absurd (never (is.1 (inl large)) none)
    by_test false short = grind (arith, nat_tests)
