-- White space before a token.
use Rattle.std.proofs.Common.{◌≡◌, ℕ, ◌<◌, Bool, true, false, ◌||◌, cond, List, [], ◌∷◌, ◌++◌, chars, refl, sym, ap, ◌∙◌, arith}
use Rattle.std.specs.Char.{is_whitespace}
use Rattle.std.specs.List.{list_all}
use Rattle.std.specs.Str.{IsUtf8, all_scalars, skip_leading_whitespace, trim_start}
use Rattle.std.proofs.lemmas.Bool.{cond-true, cond-false, and_parts, and_from}
use Rattle.std.proofs.lemmas.Str.{chars-encodes, scalars-chars, length-le-encodes}
use Rattle.lq_lex.specs.declared.token.Kind.{Kind}
use Rattle.lq_lex.specs.declared.token.Kind.TheVariants.{Bare, Quoted, Mark}
use Rattle.lq_lex.specs.declared.fault.LexFault.{LexFault}
use Rattle.lq_lex.specs.declared.fault.LexFault.TheVariants.{TooLong, OpenQuote, BadEscape, BadChar, Memory}
use Rattle.lq_lex.specs.Lexing.{begins, IsToken, IsFaultHere, width}
use Rattle.lq_lex.proofs.Classes.{bare_not_space, quote_not_space, mark_not_space}

abbrev pub skip : List ℕ → List ℕ
skip cs = skip_leading_whitespace cs

pub record SpaceSplit (cs rest : List ℕ) : Type 0 where
  pub gap : List ℕ
  pub parts : cs ≡ gap ++ rest
  pub is_gap : list_all is_whitespace gap ≡ true
  pub stops : begins is_whitespace rest ≡ false

pub space_split : (cs : List ℕ) → SpaceSplit cs (skip cs)
space_split [] = record { gap = []; parts = refl; is_gap = refl; stops = refl }
space_split (c ∷ cs) = by_test (is_whitespace c) refl (space_split cs)
  where
    by_test : (b : Bool) → is_whitespace c ≡ b → SpaceSplit cs (skip cs) → SpaceSplit (c ∷ cs) (cond b (skip cs) (c ∷ cs))
    by_test true e s = record { gap = c ∷ s.gap; parts = ap (λ (l : List ℕ). c ∷ l) s.parts; is_gap = and_from (is_whitespace c) (list_all is_whitespace s.gap) e s.is_gap; stops = s.stops }
    by_test false e s = record { gap = []; parts = refl; is_gap = refl; stops = e }

pub skip_again : (gap rest : List ℕ) → list_all is_whitespace gap ≡ true → begins is_whitespace rest ≡ false → skip (gap ++ rest) ≡ rest
skip_again [] [] all stops = refl
skip_again [] (c ∷ rest) all stops = cond-false (is_whitespace c) (skip rest) (c ∷ rest) stops
skip_again (c ∷ gap) rest all stops =
    let p = and_parts (is_whitespace c) (list_all is_whitespace gap) all in
    cond-true (is_whitespace c) (skip (gap ++ rest)) (c ∷ (gap ++ rest)) p.0 ∙ skip_again gap rest p.1 stops

pub skip_all : (cs : List ℕ) → list_all is_whitespace cs ≡ true → skip cs ≡ []
skip_all [] all = refl
skip_all (c ∷ cs) all = let p = and_parts (is_whitespace c) (list_all is_whitespace cs) all in cond-true (is_whitespace c) (skip cs) (c ∷ cs) p.0 ∙ skip_all cs p.1

-- trimming, in characters
scalars_skip : (cs : List ℕ) → all_scalars cs ≡ true → all_scalars (skip cs) ≡ true
scalars_skip [] all = refl
scalars_skip (c ∷ cs) all = by_test (is_whitespace c) (scalars_skip cs (and_parts _ (all_scalars cs) all).1)
  where
    by_test : (b : Bool) → all_scalars (skip cs) ≡ true → all_scalars (cond b (skip cs) (c ∷ cs)) ≡ true
    by_test true e = e
    by_test false e = all

pub chars_trimmed : (text here : List ℕ) → IsUtf8 text → here ≡ trim_start text → chars here ≡ skip (chars text)
unfolding trim_start
chars_trimmed text here utf8 is = ap chars is ∙ chars-encodes (skip (chars text)) (scalars_skip (chars text) (scalars-chars text utf8))

-- neither a token nor an error begins with white space
pub token_begins : (kind : Kind) (body rest : List ℕ) → IsToken kind body rest → begins is_whitespace (body ++ rest) ≡ false
token_begins Bare body rest t = ap (λ (l : List ℕ). begins is_whitespace (l ++ rest)) t.spelled ∙ bare_not_space t.first t.begins_so
token_begins Quoted body rest t = ap (λ (l : List ℕ). begins is_whitespace (l ++ rest)) t.spelled ∙ quote_not_space t.quote t.opens
token_begins (Mark mark) body rest t = ap (λ (l : List ℕ). begins is_whitespace (l ++ rest)) t.0 ∙ mark_not_space mark t.1

first_false : (a b : Bool) → (a || b) ≡ false → a ≡ false
first_false true b e = absurd cc
first_false false b e = refl

pub fault_begins : (fault : LexFault) (before : ℕ) (cs : List ℕ) → IsFaultHere fault before cs → begins is_whitespace cs ≡ false
fault_begins TooLong before cs h = absurd h
fault_begins Memory before cs h = absurd h
fault_begins (OpenQuote at) before cs (e, h) = ap (begins is_whitespace) h.spelled ∙ quote_not_space h.quote h.opens
fault_begins (BadEscape at) before cs (offset, e, h) = ap (begins is_whitespace) h.spelled ∙ quote_not_space h.quote h.opens
fault_begins (BadChar at) before cs (e, h) = ap (begins is_whitespace) h.spelled ∙ first_false (is_whitespace h.bad) _ h.no_token

-- neither a token nor an error is empty
not_nil : (c : ℕ) (cs : List ℕ) → c ∷ cs ≡ [] → ⊥
not_nil c cs e = absurd cc

pub token_some : (kind : Kind) (body rest : List ℕ) → IsToken kind body rest → (c : ℕ) × (cs : List ℕ) × (body ≡ c ∷ cs)
token_some Bare body rest t = (t.first, t.others, t.spelled)
token_some Quoted body rest t = (t.quote, _, t.spelled)
token_some (Mark mark) body rest t = (mark, [], t.0)

pub token_not_nil : (kind : Kind) (body rest : List ℕ) → IsToken kind body rest → body ++ rest ≡ [] → ⊥
token_not_nil kind body rest t e = let s = token_some kind body rest t in not_nil s.0 (s.1 ++ rest) (sym (ap (λ (l : List ℕ). l ++ rest) s.2) ∙ e)

pub fault_not_nil : (fault : LexFault) (before : ℕ) (cs : List ℕ) → IsFaultHere fault before cs → cs ≡ [] → ⊥
fault_not_nil TooLong before cs h e = h
fault_not_nil Memory before cs h e = h
fault_not_nil (OpenQuote at) before cs (i, h) e = not_nil h.quote h.remaining (sym h.spelled ∙ e)
fault_not_nil (BadEscape at) before cs (offset, i, h) e = not_nil h.quote _ (sym h.spelled ∙ e)
fault_not_nil (BadChar at) before cs (i, h) e = not_nil h.bad h.remaining (sym h.spelled ∙ e)

-- characters take bytes
pub width_some : (c : ℕ) (cs : List ℕ) → 0 < width (c ∷ cs)
width_some c cs = omega (arith, length-le-encodes (c ∷ cs))
