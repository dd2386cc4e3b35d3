-- From one step of the lexer to the next token of the text.
use Rattle.std.proofs.Common.{◌≡◌, ℕ, ◌+◌, ◌-◌, ◌<◌, ◌≤◌, Bool, true, false, not, ◌&&◌, eqb, List, [], ◌∷◌, ◌++◌, length, chars, Ok, Err, refl, sym, ap, ◌∙◌, subst, arith}
use Rattle.std.specs.Char.{is_whitespace}
use Rattle.std.specs.List.{list_all}
use Rattle.std.specs.Str.{IsUtf8, encode_utf8_all, trim_start}
use Rattle.std.proofs.lemmas.Bool.{eqb-true, ltb-true}
use Rattle.std.proofs.Common.{eq-eqb}
use Rattle.std.proofs.lemmas.List.{append_cancel_right, append-nil}
use Rattle.std.proofs.lemmas.Str.{encodes-append, encodes-chars}
use Rattle.vl_row.specs.Field.{is_empty}
use Rattle.lq_lex.specs.declared.token.Kind.{Kind}
use Rattle.lq_lex.specs.declared.fault.LexFault.{LexFault}
use Rattle.lq_lex.specs.Token.{Token}
use Rattle.lq_lex.specs.Lexing.{width, IsNext, IsSpace, Breaks, IsFaultHere}
use Rattle.lq_lex.specs.Reading.{token_at}
use Rattle.lq_lex.proofs.Widths.{width-append, width-chars}
use Rattle.lq_lex.proofs.Spaces.{SpaceSplit, space_split, chars_trimmed, width_some, token_some}
use Rattle.lq_lex.proofs.TokenLaws.{token_sound, token_fault}

-- the text without its leading white space
record Trimmed (text here : List ℕ) : Type 0 where
  split : SpaceSplit (chars text) (chars here)
  bytes : length text ≡ width split.gap + length here

trimmed : (text here : List ℕ) → IsUtf8 text → IsUtf8 here → here ≡ trim_start text → Trimmed text here
trimmed text here utf8 utf8' is =
    let s : SpaceSplit (chars text) (chars here) = subst (SpaceSplit (chars text)) (sym (chars_trimmed text here utf8 is)) (space_split (chars text)) in
    record { split = s; bytes = sym (width-chars text utf8) ∙ ap width s.parts ∙ width-append s.gap (chars here) ∙ ap (λ (n : ℕ). width s.gap + n) (width-chars here utf8') }

nil_of : {A : Type 0} (l : List A) → length l ≡ 0 → l ≡ []
nil_of [] e = refl
nil_of (x ∷ xs) e = absurd (omega arith)

pub chars_empty : (here : List ℕ) → IsUtf8 here → length here ≡ 0 → chars here ≡ []
chars_empty here utf8 e = by_chars (chars here) (width-chars here utf8)
  where
    by_chars : (cs : List ℕ) → width cs ≡ length here → cs ≡ []
    by_chars [] w = refl
    by_chars (c ∷ cs) w = absurd (omega (arith, width_some c cs))

pub space_at_end : (text here : List ℕ) (before : ℕ) → IsUtf8 text → IsUtf8 here → here ≡ trim_start text → length here ≡ 0 → IsSpace before (chars text)
space_at_end text here before utf8 utf8' is none =
    let t = trimmed text here utf8 utf8' is in
    let parts : chars text ≡ t.split.gap = t.split.parts ∙ ap (λ (l : List ℕ). t.split.gap ++ l) (chars_empty here utf8' none) ∙ append-nil t.split.gap in
    subst (λ (l : List ℕ). list_all is_whitespace l ≡ true) (sym parts) t.split.is_gap

pub not_empty : (here : List ℕ) → IsUtf8 here → 0 < length here → 0 < length (chars here)
not_empty here utf8 some = by_chars (chars here) (width-chars here utf8)
  where
    by_chars : (cs : List ℕ) → width cs ≡ length here → 0 < length cs
    by_chars [] w = absurd (omega arith)
    by_chars (c ∷ cs) w = omega arith

pub breaks_at : (text here : List ℕ) (end : ℕ) (fault : LexFault) → IsUtf8 text → IsUtf8 here → here ≡ trim_start text → 0 < length here → length text ≤ end → token_at end (chars here) ≡ Err fault → Breaks fault (end - length text) (chars text)
breaks_at text here end fault utf8 utf8' is some fits e =
    let t = trimmed text here utf8 utf8' is in
    let w = width-chars here utf8' in
    let place : end - width (chars here) ≡ end - length text + width t.split.gap = omega (arith, t.bytes, w, fits) in
    record {
      gap = t.split.gap;
      rest = chars here;
      spelled = t.split.parts;
      is_gap = t.split.is_gap;
      is_fault = subst (λ (n : ℕ). IsFaultHere fault n (chars here)) place (token_fault end (chars here) fault e t.split.stops (not_empty here utf8' some) (omega (arith, t.bytes, w, fits)));
    }

-- the characters of the token, in bytes
pub bytes_read : (here rest body : List ℕ) → IsUtf8 here → IsUtf8 rest → chars here ≡ body ++ chars rest → here ≡ encode_utf8_all body ++ rest
bytes_read here rest body utf8 utf8' parts =
    sym (encodes-chars here utf8) ∙ ap encode_utf8_all parts ∙ encodes-append body (chars rest) ∙ ap (λ (l : List ℕ). encode_utf8_all body ++ l) (encodes-chars rest utf8')

pub cut_before : (end : ℕ) (here rest : List ℕ) (kind : Kind) → IsUtf8 here → IsUtf8 rest → token_at end (chars here) ≡ Ok (kind, chars rest) → (taken : List ℕ) × (here ≡ taken ++ rest)
cut_before end here rest kind utf8 utf8' e = let s = token_sound end (chars here) (chars rest) kind e in (encode_utf8_all s.body, bytes_read here rest s.body utf8 utf8' s.parts)

full : (c : ℕ) (gap : List ℕ) → is_empty (c ∷ gap) ≡ false
full c gap = by_test (is_empty (c ∷ gap)) refl
  where
    by_test : (b : Bool) → is_empty (c ∷ gap) ≡ b → b ≡ false
    by_test true is = absurd (omega (arith, ltb-true (length (c ∷ gap)) 1 is))
    by_test false is = refl

glued_is : (gap : List ℕ) (text here : List ℕ) → length text ≡ width gap + length here → eqb (length here) (length text) ≡ is_empty gap
glued_is [] text here e = let same : length here ≡ length text = omega (arith, e) in eq-eqb (length here) (length text) same
glued_is (c ∷ gap) text here e = by_test (eqb (length here) (length text)) refl ∙ sym (full c gap)
  where
    by_test : (b : Bool) → eqb (length here) (length text) ≡ b → b ≡ false
    by_test true is = absurd (omega (arith, e, width_some c gap, eqb-true (length here) (length text) is))
    by_test false is = refl

zero_test : (m n : ℕ) → m ≡ n → not (eqb m 0) ≡ not (eqb n 0)
zero_test m n e = ap (λ (k : ℕ). not (eqb k 0)) e

and_same : (a b c d : Bool) → a ≡ c → (c ≡ true → b ≡ d) → (a && b) ≡ (c && d)
and_same a b true d e f = ap (λ (x : Bool). x && b) e ∙ f refl
and_same a b false d e f = ap (λ (x : Bool). x && b) e

empty_gap : (gap : List ℕ) → is_empty gap ≡ true → width gap ≡ 0
empty_gap [] e = refl
empty_gap (c ∷ gap) e = absurd (omega (arith, ltb-true (length (c ∷ gap)) 1 e))

pub next_at : (text here rest span : List ℕ) (end : ℕ) (kind : Kind) (glued : Bool) → IsUtf8 text → IsUtf8 here → IsUtf8 rest → here ≡ trim_start text → length text ≤ end → token_at end (chars here) ≡ Ok (kind, chars rest) → here ≡ span ++ rest
    → glued ≡ eqb (length here) (length text) && not (eqb (end - length here) 0) → IsNext (end - length text) (chars text) (record { kind = kind; span = span; start = end - length here; glued = glued }) (chars rest)
next_at text here rest span end kind glued utf8 utf8' utf8'' is fits e parts g =
    let t = trimmed text here utf8 utf8' is in
    let s = token_sound end (chars here) (chars rest) kind e in
    record {
      gap = t.split.gap;
      body = s.body;
      spelled = t.split.parts ∙ ap (λ (l : List ℕ). t.split.gap ++ l) s.parts;
      is_gap = t.split.is_gap;
      is_token = s.is_token;
      span_is = append_cancel_right span (encode_utf8_all s.body) rest (sym parts ∙ bytes_read here rest s.body utf8' utf8'' s.parts);
      start_is = omega (arith, t.bytes, fits);
      glued_is = g ∙ and_same (eqb (length here) (length text)) _ (is_empty t.split.gap) _ (glued_is t.split.gap text here t.bytes)
          (λ none. zero_test (end - length here) (end - length text) (omega (arith, t.bytes, empty_gap t.split.gap none)));
    }

-- where the next token ends
pub next_ends : (text rest : List ℕ) (end : ℕ) (t : Token) → IsUtf8 text → IsUtf8 rest → length text ≤ end → IsNext (end - length text) (chars text) t (chars rest)
    → (t.start + length t.span ≡ end - length rest) × (length rest < length text)
next_ends text rest end t utf8 utf8' fits n =
    let whole : length text ≡ width n.gap + (width n.body + length rest) =
    sym (width-chars text utf8) ∙ ap width n.spelled ∙ width-append n.gap (n.body ++ chars rest) ∙ ap (λ (k : ℕ). width n.gap + k) (width-append n.body (chars rest))
    ∙ ap (λ (k : ℕ). width n.gap + (width n.body + k)) (width-chars rest utf8') in
    let some = token_some t.kind n.body (chars rest) n.is_token in
    let wide : 0 < width n.body = subst (λ (l : List ℕ). 0 < width l) (sym some.2) (width_some some.0 some.1) in
    let span : length t.span ≡ width n.body = ap length n.span_is in
    (omega (arith, whole, fits, span, n.start_is), omega (arith, whole, wide))

pub not_zero : (here : List ℕ) → eqb (length here) 0 ≡ false → 0 < length here
not_zero [] e = absurd cc
not_zero (c ∷ cs) e = omega arith
