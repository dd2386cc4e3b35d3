-- The tokens of a text, found from the left by computing.
use Rattle.std.proofs.Common.{◌≡◌, ℕ, zero, suc, ◌+◌, ◌-◌, true, not, ◌&&◌, ◌==◌, List, [], ◌∷◌, ◌++◌, length, take}
use Rattle.std.proofs.Common.{Option, Some, None, Result, Ok, Err, refl, sym, ap, ◌∙◌, subst, arith}
use Rattle.std.specs.Char.{is_whitespace}
use Rattle.std.specs.List.{list_all}
use Rattle.std.specs.Option.{option_map}
use Rattle.std.specs.Str.{encode_utf8_all}
use Rattle.std.proofs.Math.Seq.{take-append_seam}
use Rattle.std.proofs.lemmas.List.{append-nil, length-append}
use Rattle.log_model.specs.Field.{is_empty}
use Rattle.lq_lex.specs.declared.token.Kind.{Kind}
use Rattle.lq_lex.specs.declared.fault.LexFault.{LexFault}
use Rattle.lq_lex.specs.Token.{Token}
use Rattle.lq_lex.specs.Lexing.{width, IsToken, IsNext, GoesOn, IsSpace}
use Rattle.lq_lex.specs.Reading.{token_at}
use Rattle.lq_lex.proofs.Spaces.{skip, space_split}
use Rattle.lq_lex.proofs.TokenLaws.{token_sound}

-- what stands before this rest of a text
abbrev pub before_rest : List ℕ → List ℕ → List ℕ
before_rest text rest = take (length text - length rest) text

-- the token after a gap, before which this many bytes stand
abbrev pub token_behind : ℕ → List ℕ → Kind → List ℕ → Token
token_behind before gap kind body = record {
  kind = kind;
  span = encode_utf8_all body;
  start = before + width gap;
  glued = is_empty gap && not (before == 0);
}

-- the tokens after this many bytes, if there are any
abbrev Lexer : Type 0
Lexer = ℕ → List ℕ → Option (List Token)

abbrev then_others : Lexer → Token → List ℕ → Option (List Token)
then_others others t rest = option_map (λ ts. t ∷ ts) (others (t.start + length t.span) rest)

abbrev by_token : Lexer → ℕ → List ℕ → List ℕ → Result (Kind × List ℕ) LexFault → Option (List Token)
by_token others before gap here (Err fault) = None
by_token others before gap here (Ok x) =
    then_others others (token_behind before gap x.0 (before_rest here x.1)) x.1

abbrev by_rest : Lexer → ℕ → List ℕ → List ℕ → Option (List Token)
by_rest others before text [] = Some []
by_rest others before text (c ∷ cs) =
    by_token others before (before_rest text (c ∷ cs)) (c ∷ cs) (token_at 0 (c ∷ cs))

-- The tokens of a text before which this many bytes stand, if it has fewer than the first number.
abbrev pub tokens_in : ℕ → ℕ → List ℕ → Option (List Token)
tokens_in zero before text = None
tokens_in (suc n) before text = by_rest (tokens_in n) before text (skip text)

-- ---- what is found is there

front_is : (text front rest : List ℕ) → text ≡ front ++ rest → before_rest text rest ≡ front
front_is text front rest parts =
    let count : length text - length rest ≡ length front = omega (arith, ap length parts, length-append front rest) in
    ap (λ (n : ℕ). take n text) count ∙ ap (take (length front)) parts ∙ take-append_seam front rest

-- the token after white space
next_is : (before : ℕ) (text here rest : List ℕ) (kind : Kind) → here ≡ skip text → token_at 0 here ≡ Ok (kind, rest)
    → IsNext before text (token_behind before (before_rest text here) kind (before_rest here rest)) rest
next_is before text here rest kind skipped is =
    let split = space_split text in
    let token = token_sound 0 here rest kind is in
    let whole : text ≡ split.gap ++ here = split.parts ∙ ap (λ (l : List ℕ). split.gap ++ l) (sym skipped) in
    let gap = front_is text split.gap here whole in
    let body = front_is here token.body rest token.parts in
    record {
      gap = before_rest text here;
      body = before_rest here rest;
      spelled = whole ∙ ap (λ (l : List ℕ). l ++ here) (sym gap)
          ∙ ap (λ (l : List ℕ). before_rest text here ++ l) (token.parts ∙ ap (λ (l : List ℕ). l ++ rest) (sym body));
      is_gap = subst (λ (l : List ℕ). list_all is_whitespace l ≡ true) (sym gap) split.is_gap;
      is_token = subst (λ (l : List ℕ). IsToken kind l rest) (sym body) token.is_token;
      span_is = refl;
      start_is = refl;
      glued_is = refl;
    }

space_only : (text : List ℕ) → [] ≡ skip text → list_all is_whitespace text ≡ true
space_only text none =
    let split = space_split text in
    let whole : text ≡ split.gap =
    split.parts ∙ ap (λ (l : List ℕ). split.gap ++ l) (sym none) ∙ append-nil split.gap in
    subst (λ (l : List ℕ). list_all is_whitespace l ≡ true) (sym whole) split.is_gap

-- a lexer that finds what is there
abbrev IsSound : Lexer → Type 0
IsSound lexer = (before : ℕ) (text : List ℕ) (ts : List Token) → lexer before text ≡ Some ts
    → GoesOn before text ts IsSpace

some_of : (o : Option (List Token)) (t : Token) (ts : List Token) → option_map (λ ts. t ∷ ts) o ≡ Some ts
    → (us : List Token) × (o ≡ Some us) × (t ∷ us ≡ ts)
some_of None t ts e = absurd cc
some_of (Some us) t ts e = (us, refl, cc)

found_then : (others : Lexer) → IsSound others → (before : ℕ) (text : List ℕ) (t : Token) (rest : List ℕ)
    → IsNext before text t rest → (ts : List Token) → then_others others t rest ≡ Some ts
    → GoesOn before text ts IsSpace
found_then others sound before text t rest first ts e =
    let s = some_of (others (t.start + length t.span) rest) t ts e in
    subst (λ (l : List Token). GoesOn before text l IsSpace) s.2
    (rest, first, sound (t.start + length t.span) rest s.0 s.1)

sound_by_token : (others : Lexer) → IsSound others → (before : ℕ) (text here : List ℕ) → here ≡ skip text
    → (r : Result (Kind × List ℕ) LexFault) → token_at 0 here ≡ r → (ts : List Token)
    → by_token others before (before_rest text here) here r ≡ Some ts → GoesOn before text ts IsSpace
sound_by_token others sound before text here skipped (Err fault) is ts e = absurd cc
sound_by_token others sound before text here skipped (Ok x) is ts e =
    found_then others sound before text (token_behind before (before_rest text here) x.0 (before_rest here x.1)) x.1
    (next_is before text here x.1 x.0 skipped is) ts e

sound_by_rest : (others : Lexer) → IsSound others → (before : ℕ) (text here : List ℕ) → here ≡ skip text
    → (ts : List Token) → by_rest others before text here ≡ Some ts → GoesOn before text ts IsSpace
sound_by_rest others sound before text [] skipped ts e =
    subst (λ (l : List Token). GoesOn before text l IsSpace) (nil_is ts e) (space_only text skipped)
  where
    nil_is : (ts : List Token) → Some [] ≡ Some ts → [] ≡ ts
    nil_is ts e = cc
sound_by_rest others sound before text (c ∷ cs) skipped ts e =
    sound_by_token others sound before text (c ∷ cs) skipped (token_at 0 (c ∷ cs)) refl ts e

pub tokens_sound : (n before : ℕ) (text : List ℕ) (ts : List Token) → tokens_in n before text ≡ Some ts
    → GoesOn before text ts IsSpace
tokens_sound zero before text ts e = absurd cc
tokens_sound (suc n) before text ts e =
    sound_by_rest (tokens_in n) (tokens_sound n) before text (skip text) refl ts e
