-- Heads: what is decided by the first bytes stays decided with more.
use Rattle.std.proofs.Common.{◌≡◌, ℕ, zero, suc, ◌-◌, ◌<◌, ◌≤◌, List, [], ◌∷◌, ◌++◌, map, take, drop, length, ◌+◌}
use Rattle.std.proofs.Common.{ap, sym, subst, ◌∙◌, inl, inr, arith, append_assoc, length-append}
use Rattle.std.specs.Prelude.{Bool, IsTrue, IsUtf8, Result, Ok, Err, IfErr}
use Rattle.std.proofs.lemmas.List.{take-append-drop, take-append-le, drop-append-le, length-drop, length-take}
use Rattle.std.proofs.lemmas.List.{length-map, take_all}
use Rattle.std.proofs.lemmas.Bool.Decides.{nat_tests}
use Rattle.std.proofs.lemmas.List.Elements.{All-weaker}
use Rattle.std.proofs.lemmas.Str.{IsUtf8-from_ascii}
use Rattle.std.proofs.lemmas.Str.Ascii.{IsAscii-from_all}
use Rattle.httparse.specs.Ascii.{line_feed}
use Rattle.httparse.specs.Grammar.{RequestHead, IsRequestHead, ReadsRequest, is_token_byte, print_request}
use Rattle.httparse.specs.Spans.{IsRequestAt, IsRequestOf, IsRequestWithin, IsWithin, header_bytes}
use Rattle.httparse.specs.Spans.{name_and_value, span_bytes}
use Rattle.httparse.specs.declared.spans.HeaderSpan.{HeaderSpan}
use Rattle.httparse.specs.declared.spans.RequestSpans.{RequestSpans}
use Rattle.httparse.specs.declared.spans.Span.{Span}
use Rattle.httparse.proofs.GrammarLemmas.{ReadsRequest-append}
use Rattle.http_in.specs.Faults.{HasBadHead, HasLargeHead, HasUnframed, IsInHead}
use Rattle.http_said.specs.Fields.{asks_to_close, framing_of, is_form}
use Rattle.http_in.specs.Head.{ExplainsHead, HasHeadFault, IsHeadAt}
use Rattle.http_in.specs.Limits.{field_limit, head_limit}
use Rattle.http_in.specs.Lines.{GoesOver}
use Rattle.http_in.specs.Unframed.{request_fault}
use Rattle.http_said.specs.declared.framing.FieldFault.{FieldFault}
use Rattle.http_said.specs.declared.framing.FieldFault.TheVariants as fields
use Rattle.http_in.specs.Message.{BeginsHead, fields_of}
use Rattle.http_in.specs.Progress.{IsOutside}
use Rattle.http_in.specs.declared.head.Head.{Head}
use Rattle.http_said.specs.declared.framing.Framing.{Framing}
use Rattle.http_in.specs.declared.fault.RequestFault.{RequestFault}
use Rattle.http_in.specs.declared.fault.RequestFault.TheVariants as faults
use Rattle.http_said.proofs.FramingLemmas.{framing_within}

pub take_append : (n : ℕ) (xs ys : List ℕ) → take n (xs ++ ys) ≡ take n xs ++ take (n - length xs) ys
take_append n [] ys =
    ap (λ k. take k ys) (let e : n ≡ n - 0 = omega arith in e)
    ∙ sym (ap (λ l. l ++ take (n - 0) ys) (take_all n [] (omega arith)))
take_append zero (x ∷ xs) ys = sym (ap (λ k. take k ys) (let e : 0 - length (x ∷ xs) ≡ 0 = omega arith in e))
take_append (suc n) (x ∷ xs) ys =
    ap (λ l. x ∷ l) (take_append n xs ys)
    ∙ ap (λ k. x ∷ (take n xs ++ take k ys)) (let e : n - length xs ≡ suc n - length (x ∷ xs) = omega arith in e)

-- there are at most as many fields as spans
pub few_fields : (buf : List ℕ) (headers : List HeaderSpan) (r : RequestSpans) (h : RequestHead)
    → IsRequestAt buf headers r h → length headers ≤ field_limit → length h.fields ≤ field_limit
few_fields buf headers r h at room =
    let same : length (map (header_bytes buf) (take r.headers headers)) ≡ length (map name_and_value h.fields) =
    ap length at.fields in
    omega (
      arith,
      same,
      length-map (take r.headers headers)
          (header_bytes buf),
      length-map h.fields name_and_value,
      length-take r.headers headers,
    )

-- a head has a byte
pub head_some : (h : RequestHead) → IsRequestHead h → 0 < length (print_request h)
unfolding print_request
head_some h is = let some = is.method.0 in simp length-append (omega arith)

pub BeginsHead-more : (bytes : List ℕ) (head : RequestHead) (after more : List ℕ) → BeginsHead bytes head after
    → BeginsHead (bytes ++ more) head (after ++ more)
BeginsHead-more bytes head after more b =
    record { reads = ReadsRequest-append bytes head after more b.reads; short = b.short; few = b.few }

pub over_more : (bytes front more : List ℕ) (lines : ℕ) → GoesOver bytes front lines
    → GoesOver (bytes ++ more) front lines
over_more bytes front more lines o = record {
  later = o.later ++ more;
  whole = ap (λ l. l ++ more) o.whole ∙ append_assoc front (line_feed ∷ o.later) more;
  many = o.many;
}

pub large_more : (bytes more : List ℕ) → HasLargeHead bytes → HasLargeHead (bytes ++ more)
large_more bytes more (inl f) =
    inl (omega (arith, length-append bytes more), rw (take-append-le head_limit bytes more f.0) f.1)
large_more bytes more (inr f) =
    inr
    (rw (take_append head_limit bytes more) (record {
      front = f.front;
      is_front = f.is_front;
      over = over_more (take head_limit bytes) f.front (take (head_limit - length bytes) more) (field_limit + 1) f.over;
    }))

pub unframed_more : (bytes more : List ℕ) (fault : FieldFault) → HasUnframed bytes fault
    → HasUnframed (bytes ++ more) fault
unframed_more bytes more fault f = record {
  head = f.head;
  after = f.after ++ more;
  begins = BeginsHead-more bytes f.head f.after more f.begins;
  unframed = f.unframed;
}

pub bad_head_more : (bytes more : List ℕ) → HasBadHead bytes → HasBadHead (bytes ++ more)
bad_head_more bytes more f = record {
  front = f.front;
  later = f.later ++ more;
  whole = ap (λ l. l ++ more) f.whole ∙ append_assoc f.front f.later more;
  short = f.short;
  few = f.few;
  never = f.never;
}

pub HasHeadFault-more : (place : ℕ) (bytes more : List ℕ) (fault : RequestFault) → HasHeadFault place bytes fault
    → HasHeadFault place (bytes ++ more) fault
HasHeadFault-more place bytes more faults.SourceFault f = f
HasHeadFault-more place bytes more (faults.BadHead at) f = (f.0, bad_head_more bytes more f.1)
HasHeadFault-more place bytes more (faults.Cut at) f = f
HasHeadFault-more place bytes more faults.HeadLarge f = large_more bytes more f
HasHeadFault-more place bytes more faults.BodyLarge f = unframed_more bytes more fields.BodyLarge f
HasHeadFault-more place bytes more faults.BadLength f = unframed_more bytes more fields.BadLength f
HasHeadFault-more place bytes more (faults.BadChunk at) f = f
HasHeadFault-more place bytes more faults.Coding f = unframed_more bytes more fields.Coding f
HasHeadFault-more place bytes more faults.Memory f = f

pub span_more : (bytes more : List ℕ) (len : ℕ) (span : Span) → IsWithin len span → len ≤ length bytes
    → span_bytes (bytes ++ more) span ≡ span_bytes bytes span
span_more bytes more len span within fits =
    ap (take (span.end - span.start)) (drop-append-le span.start bytes more (omega arith))
    ∙ take-append-le (span.end - span.start) (drop span.start bytes) more
    (omega (arith, length-drop span.start bytes, within.0, within.1))

pub IsHeadAt-more : (bytes more : List ℕ) (at : Head) → IsHeadAt bytes at → IsHeadAt (bytes ++ more) at
IsHeadAt-more bytes more at h = record {
  head = h.head;
  reads = subst (ReadsRequest (bytes ++ more) h.head) (sym (drop-append-le at.len bytes more h.fits))
      (ReadsRequest-append bytes h.head (drop at.len bytes) more h.reads);
  len = h.len;
  fits = omega (arith, length-append bytes more, h.fits);
  limit = h.limit;
  few = h.few;
  method_within = h.method_within;
  target_within = h.target_within;
  method = span_more bytes more at.len at.method h.method_within h.fits ∙ h.method;
  target = span_more bytes more at.len at.target h.target_within h.fits ∙ h.target;
  framed = h.framed;
  within = h.within;
  form = h.form;
  last = h.last;
}

-- the same of a front of the bytes
pub IsHeadAt-front : (n : ℕ) (bytes : List ℕ) (at : Head) → IsHeadAt (take n bytes) at → IsHeadAt bytes at
IsHeadAt-front n bytes at h =
    subst (λ l. IsHeadAt l at) (take-append-drop n bytes) (IsHeadAt-more (take n bytes) (drop n bytes) at h)

pub explained : (place : ℕ) (bytes : List ℕ) (ended : Type 0) (fault : RequestFault) → HasHeadFault place bytes fault
    → ExplainsHead place bytes ended fault
explained place bytes ended faults.SourceFault f = absurd f
explained place bytes ended (faults.BadHead at) f = f
explained place bytes ended (faults.Cut at) f = absurd f
explained place bytes ended faults.HeadLarge f = f
explained place bytes ended faults.BodyLarge f = f
explained place bytes ended faults.BadLength f = f
explained place bytes ended (faults.BadChunk at) f = absurd f
explained place bytes ended faults.Coding f = f
explained place bytes ended faults.Memory f = absurd f

pub outside_explained : (place : ℕ) (bytes : List ℕ) (ended : Type 0) (fault : RequestFault) → IsInHead bytes
    → IsOutside fault → ExplainsHead place bytes ended fault
outside_explained place bytes ended faults.SourceFault inside f = inside
outside_explained place bytes ended (faults.BadHead at) inside f = absurd f
outside_explained place bytes ended (faults.Cut at) inside f = absurd f
outside_explained place bytes ended faults.HeadLarge inside f = absurd f
outside_explained place bytes ended faults.BodyLarge inside f = absurd f
outside_explained place bytes ended faults.BadLength inside f = absurd f
outside_explained place bytes ended (faults.BadChunk at) inside f = absurd f
outside_explained place bytes ended faults.Coding inside f = absurd f
outside_explained place bytes ended faults.Memory inside f = tt

-- where more is known of the end
pub head_ended : (place : ℕ) (bytes : List ℕ) (P Q : Type 0) (fault : RequestFault) → (P → Q)
    → ExplainsHead place bytes P fault → ExplainsHead place bytes Q fault
head_ended place bytes P Q faults.SourceFault f x = x
head_ended place bytes P Q (faults.BadHead at) f x = x
head_ended place bytes P Q (faults.Cut at) f x = (x.0, x.1, x.2, f x.3)
head_ended place bytes P Q faults.HeadLarge f x = x
head_ended place bytes P Q faults.BodyLarge f x = x
head_ended place bytes P Q faults.BadLength f x = x
head_ended place bytes P Q (faults.BadChunk at) f x = x
head_ended place bytes P Q faults.Coding f x = x
head_ended place bytes P Q faults.Memory f x = x

pub err_ended : {A : Type 0} (result : Result A RequestFault) (place : ℕ) (bytes : List ℕ) (P Q : Type 0) → (P → Q)
    → IfErr result (ExplainsHead place bytes P) → IfErr result (ExplainsHead place bytes Q)
err_ended (Ok x) place bytes P Q f e = tt
err_ended (Err fault) place bytes P Q f e = head_ended place bytes P Q fault f e

-- ---- heads whose fields were read

-- the fields of a head, as the spans give them
fields_at : (buf : List ℕ) (headers : List HeaderSpan) (r : RequestSpans) (h : RequestHead)
    → IsRequestAt buf headers r h
    → map (header_bytes buf) (take r.headers headers) ≡ fields_of h
fields_at buf headers r h at = at.fields

begins_at : (buf : List ℕ) (headers : List HeaderSpan) (r : RequestSpans) (h : RequestHead) → length buf ≤ head_limit
    → length headers ≤ field_limit → IsRequestWithin buf headers r → IsRequestAt buf headers r h
    → BeginsHead buf h (drop r.len buf)
begins_at buf headers r h short room within at = record {
  reads = at.reads;
  short = omega (arith, at.len, within.section.len_fits, short);
  few = few_fields buf headers r h at room;
}

pub by_fault : (place : ℕ) (bytes : List ℕ) (fault : FieldFault) → HasUnframed bytes fault
    → HasHeadFault place bytes (request_fault fault)
by_fault place bytes fields.BodyLarge f = f
by_fault place bytes fields.BadLength f = f
by_fault place bytes fields.Coding f = f

-- the same of a front of the bytes
pub front_fault : (place : ℕ) (bytes front later : List ℕ) (fault : FieldFault) (answer : RequestFault)
    → bytes ≡ front ++ later → answer ≡ request_fault fault → HasUnframed front fault
    → HasHeadFault place bytes answer
front_fault place bytes front later fault answer e is f =
    subst (HasHeadFault place bytes) (sym is)
    (subst (λ l. HasHeadFault place l (request_fault fault)) (sym e)
    (HasHeadFault-more place front later (request_fault fault) (by_fault place front fault f)))

pub framed_fault : (buf : List ℕ) (headers : List HeaderSpan) (r : RequestSpans) (fault : FieldFault)
    → length buf ≤ head_limit → length headers ≤ field_limit → IsRequestWithin buf headers r → IsRequestOf buf headers r
    → Err fault ≡ framing_of (map (header_bytes buf) (take r.headers headers))
    → HasUnframed buf fault
framed_fault buf headers r fault short room within of is = record {
  head = of.0;
  after = drop r.len buf;
  begins = begins_at buf headers r of.0 short room within of.1;
  unframed = sym (is ∙ ap framing_of (fields_at buf headers r of.0 of.1));
}

pub framed_ok : (buf : List ℕ) (headers : List HeaderSpan) (r : RequestSpans) (framing : Framing) (form last : Bool)
    → length buf ≤ head_limit → length headers ≤ field_limit → IsRequestWithin buf headers r → IsRequestOf buf headers r
    → Ok framing ≡ framing_of (map (header_bytes buf) (take r.headers headers))
    → form ≡ is_form (map (header_bytes buf) (take r.headers headers))
    → last ≡ asks_to_close r.version (map (header_bytes buf) (take r.headers headers))
    → IsHeadAt buf (record {
      len = r.len;
      method = r.method;
      target = r.path;
      framing = framing;
      form = form;
      last = last;
    })
framed_ok buf headers r framing form last short room within of is is_the_form is_last =
    let fields = fields_at buf headers r of.0 of.1 in
    let framed : framing_of (fields_of of.0) ≡ Ok framing = sym (is ∙ ap framing_of fields) in
    record {
      head = of.0;
      reads = of.1.reads;
      len = of.1.len;
      fits = within.section.len_fits;
      limit = omega (arith, within.section.len_fits, short);
      few = few_fields buf headers r of.0 of.1 room;
      method_within = within.method;
      target_within = within.path;
      method = of.1.method;
      target = of.1.path;
      framed = framed;
      within = framing_within (fields_of of.0) framing framed;
      form = is_the_form ∙ ap is_form fields;
      last = is_last ∙ ap (asks_to_close r.version) fields ∙ ap (λ v. asks_to_close v (fields_of of.0)) of.1.version;
    }

-- a method is text
method_byte : (b : ℕ) → IsTrue (is_token_byte b) → b < 128
unfolding is_token_byte
method_byte b h = grind (arith, nat_tests)

pub method_text : (bytes : List ℕ) (at : Head) → (h : IsHeadAt bytes at) → IsUtf8 (span_bytes bytes at.method)
method_text bytes at h =
    let m = h.head.method in
    subst IsUtf8 (sym h.method)
    (IsUtf8-from_ascii m
    (IsAscii-from_all m (All-weaker (λ b. IsTrue (is_token_byte b)) (λ b. b < 128) method_byte m h.reads.0.method.1)))
