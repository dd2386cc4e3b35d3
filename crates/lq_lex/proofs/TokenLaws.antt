-- One token: the lexer accepts exactly the grammar.
use Rattle.std.proofs.Common.{◌≡◌, ℕ, ◌+◌, ◌-◌, ◌<◌, ◌≤◌, Bool, true, false, ◌||◌, cond, List, [], ◌∷◌, ◌++◌, length, Option, Some, None, Result, Ok, Err, refl, sym, ap, ◌∙◌, subst, arith, append_assoc}
use Rattle.std.specs.Char.{is_whitespace}
use Rattle.std.specs.List.{list_all}
use Rattle.std.proofs.lemmas.Bool.{cond-true, cond-false, and_parts, and_from}
use Rattle.std.proofs.Common.{eq-eqb}
use Rattle.lq_lex.specs.declared.token.Kind.{Kind}
use Rattle.lq_lex.specs.declared.token.Kind.TheVariants.{Bare, Quoted, Mark}
use Rattle.lq_lex.specs.declared.fault.LexFault.{LexFault}
use Rattle.lq_lex.specs.declared.fault.LexFault.TheVariants.{TooLong, OpenQuote, BadEscape, BadChar, Memory}
use Rattle.lq_lex.specs.Lexing.{begins, begins_bare, continues_bare, is_quote, is_mark, is_raw, is_piece, Piece, plain, escape, sources, width, IsToken, IsClosed, IsFaultHere}
use Rattle.lq_lex.specs.Reading.{bare_end, quote_end, first_bad, unless_bad, closed_at, token_at}
use Rattle.lq_lex.proofs.Widths.{width-append}
use Rattle.lq_lex.proofs.Classes.{quote_not_bare, quote_not_backslash, mark_not_bare, mark_not_quote}
use Rattle.lq_lex.proofs.Quotes.{closes, quote_found, all_good, none_bad, bad_found, has_bad}

abbrev Answer : Type 0
Answer = Result (Kind × List ℕ) LexFault

abbrev found : Kind × List ℕ → Answer
found x = Ok x

abbrev failed : LexFault → Answer
failed fault = Err fault

ok_inj : (x y : Kind × List ℕ) → found x ≡ found y → x ≡ y
ok_inj x y e = cc

err_inj : (x y : LexFault) → failed x ≡ failed y → x ≡ y
err_inj x y e = cc

ok_err : (x : Kind × List ℕ) (y : LexFault) → found x ≡ failed y → ⊥
ok_err x y e = absurd cc

err_ok : (x : LexFault) (y : Kind × List ℕ) → failed x ≡ found y → ⊥
err_ok x y e = absurd cc

-- ---- bare

record BareSplit (cs rest : List ℕ) : Type 0 where
  others : List ℕ
  parts : cs ≡ others ++ rest
  continues : list_all continues_bare others ≡ true
  stops : begins continues_bare rest ≡ false

bare_split : (cs : List ℕ) → BareSplit cs (bare_end cs)
bare_split [] = record { others = []; parts = refl; continues = refl; stops = refl }
bare_split (c ∷ cs) = by_test (continues_bare c) refl (bare_split cs)
  where
    by_test : (b : Bool) → continues_bare c ≡ b → BareSplit cs (bare_end cs) → BareSplit (c ∷ cs) (cond b (bare_end cs) (c ∷ cs))
    by_test true e s = record { others = c ∷ s.others; parts = ap (λ (l : List ℕ). c ∷ l) s.parts; continues = and_from (continues_bare c) (list_all continues_bare s.others) e s.continues; stops = s.stops }
    by_test false e s = record { others = []; parts = refl; continues = refl; stops = e }

bare_again : (others rest : List ℕ) → list_all continues_bare others ≡ true → begins continues_bare rest ≡ false → bare_end (others ++ rest) ≡ rest
bare_again [] [] all stops = refl
bare_again [] (c ∷ rest) all stops = cond-false (continues_bare c) (bare_end rest) (c ∷ rest) stops
bare_again (c ∷ others) rest all stops =
    let p = and_parts (continues_bare c) (list_all continues_bare others) all in
    cond-true (continues_bare c) (bare_end (others ++ rest)) (c ∷ (others ++ rest)) p.0 ∙ bare_again others rest p.1 stops

-- ---- what the lexer reads is in the grammar

pub record Spelt (kind : Kind) (cs rest : List ℕ) : Type 0 where
  pub body : List ℕ
  pub parts : cs ≡ body ++ rest
  pub is_token : IsToken kind body rest

same_spelt : (k kind : Kind) (cs r rest : List ℕ) → found (k, r) ≡ found (kind, rest) → Spelt k cs r → Spelt kind cs rest
same_spelt k kind cs r rest e s =
    let p = ok_inj (k, r) (kind, rest) e in
    subst (λ (x : Kind × List ℕ). Spelt x.0 cs x.1) p s

bare_spelt : (c : ℕ) (cs : List ℕ) → begins_bare c ≡ true → Spelt Bare (c ∷ cs) (bare_end cs)
bare_spelt c cs is =
    let s = bare_split cs in
    record { body = c ∷ s.others; parts = ap (λ (l : List ℕ). c ∷ l) s.parts; is_token = record { first = c; others = s.others; spelled = refl; begins_so = is; continues = s.continues; longest = s.stops } }

quoted_spelt : (c : ℕ) (cs rest : List ℕ) → is_quote c ≡ true → quote_end c false cs ≡ Some rest → first_bad c cs ≡ None → Spelt Quoted (c ∷ cs) rest
quoted_spelt c cs rest is end none =
    let s = closes c cs rest end in
    record {
      body = c ∷ (sources s.pieces ++ c ∷ []);
      parts = ap (λ (l : List ℕ). c ∷ l) (s.spelled ∙ sym (append_assoc (sources s.pieces) (c ∷ []) rest));
      is_token = record { quote = c; pieces = s.pieces; opens = is; are_pieces = all_good c s.pieces rest (quote_not_backslash c is) s.are_raw (sym (ap (first_bad c) s.spelled) ∙ none); spelled = refl };
    }

pub token_sound : (end : ℕ) (cs rest : List ℕ) (kind : Kind) → token_at end cs ≡ Ok (kind, rest) → Spelt kind cs rest
unfolding token_at
token_sound end [] rest kind e = absurd (err_ok (BadChar end) (kind, rest) e)
token_sound end (c ∷ cs) rest kind e = by_class (begins_bare c) refl (is_quote c) refl (is_mark c) refl e
  where
    by_bad : is_quote c ≡ true → (r : List ℕ) → quote_end c false cs ≡ Some r → (b : Option (List ℕ)) → first_bad c cs ≡ b → unless_bad end r b ≡ Ok (kind, rest) → Spelt kind (c ∷ cs) rest
    by_bad is r ends None none e = same_spelt Quoted kind (c ∷ cs) r rest e (quoted_spelt c cs r is ends none)
    by_bad is r ends (Some bad) some e = absurd (err_ok (BadEscape (end - width bad)) (kind, rest) e)

    by_end : is_quote c ≡ true → (q : Option (List ℕ)) → quote_end c false cs ≡ q → closed_at end c cs q ≡ Ok (kind, rest) → Spelt kind (c ∷ cs) rest
    by_end is None none e = absurd (err_ok (OpenQuote (end - width (c ∷ cs))) (kind, rest) e)
    by_end is (Some r) ends e = by_bad is r ends (first_bad c cs) refl e

    by_class : (b : Bool) → begins_bare c ≡ b → (q : Bool) → is_quote c ≡ q → (m : Bool) → is_mark c ≡ m
        → cond b (Ok (Bare, bare_end cs)) (cond q (closed_at end c cs (quote_end c false cs)) (cond m (Ok (Mark c, cs)) (Err (BadChar (end - width (c ∷ cs)))))) ≡ Ok (kind, rest) → Spelt kind (c ∷ cs) rest
    by_class true is q quote m mark e = same_spelt Bare kind (c ∷ cs) (bare_end cs) rest e (bare_spelt c cs is)
    by_class false is true quote m mark e = by_end quote (quote_end c false cs) refl e
    by_class false is false quote true mark e = same_spelt (Mark c) kind (c ∷ cs) cs rest e (record { body = c ∷ []; parts = refl; is_token = (refl, mark) })
    by_class false is false quote false mark e = absurd (err_ok (BadChar (end - width (c ∷ cs))) (kind, rest) e)

same_fault : (f fault : LexFault) (before : ℕ) (cs : List ℕ) → failed f ≡ failed fault → IsFaultHere f before cs → IsFaultHere fault before cs
same_fault f fault before cs e h = subst (λ (x : LexFault). IsFaultHere x before cs) (err_inj f fault e) h

not_closed : (c : ℕ) (cs : List ℕ) → is_quote c ≡ true → quote_end c false cs ≡ None → IsClosed c cs → ⊥
not_closed c cs is none h =
    let read = ap (quote_end c false) h.spelled ∙ quote_found c h.pieces h.rest (quote_not_backslash c is) (eq-eqb c c refl) h.are_raw in
    differ (sym read ∙ none)
  where
    differ : Some h.rest ≡ None → ⊥
    differ e = absurd cc

bad_escape : (end c : ℕ) (cs rest bad : List ℕ) → is_quote c ≡ true → width (c ∷ cs) ≤ end → quote_end c false cs ≡ Some rest → first_bad c cs ≡ Some bad → IsFaultHere (BadEscape (end - width bad)) (end - width (c ∷ cs)) (c ∷ cs)
bad_escape end c cs rest bad is fits ends some =
    let s = closes c cs rest ends in
    let b = has_bad c cs bad some in
    let parts : cs ≡ sources b.pieces ++ 92 ∷ b.escape_value ∷ b.remaining = b.spelled ∙ ap (λ (l : List ℕ). sources b.pieces ++ l) b.bad_is in
    let offset = width (c ∷ sources b.pieces) in
    let whole : width (c ∷ cs) ≡ offset + width bad = ap (λ (l : List ℕ). width (c ∷ l)) b.spelled ∙ width-append (c ∷ sources b.pieces) bad in (
      offset,
      omega (arith, whole, fits),
      record {
        quote = c;
        pieces = b.pieces;
        bad = b.escape_value;
        remaining = b.remaining;
        spelled = ap (λ (l : List ℕ). c ∷ l) parts;
        opens = is;
        are_pieces = b.are_pieces;
        has_escapes = b.slash;
        is_bad = b.is_bad;
        closed = subst (IsClosed c) parts (record { pieces = s.pieces; rest = rest; are_raw = s.are_raw; spelled = s.spelled });
        offset_is = refl;
      },
    )

or_false : (a b : Bool) → a ≡ false → b ≡ false → (a || b) ≡ false
or_false a b e f = cc

pub token_fault : (end : ℕ) (cs : List ℕ) (fault : LexFault) → token_at end cs ≡ Err fault → begins is_whitespace cs ≡ false → 0 < length cs → width cs ≤ end → IsFaultHere fault (end - width cs) cs
unfolding token_at
token_fault end [] fault e space some fits = absurd (omega arith)
token_fault end (c ∷ cs) fault e space some fits = by_class (begins_bare c) refl (is_quote c) refl (is_mark c) refl e
  where
    before : ℕ
    before = end - width (c ∷ cs)

    by_bad : is_quote c ≡ true → (r : List ℕ) → quote_end c false cs ≡ Some r → (b : Option (List ℕ)) → first_bad c cs ≡ b → unless_bad end r b ≡ Err fault → IsFaultHere fault (end - width (c ∷ cs)) (c ∷ cs)
    by_bad is r ends None none e = absurd (ok_err (Quoted, r) fault e)
    by_bad is r ends (Some bad) some-bad e = same_fault (BadEscape (end - width bad)) fault (end - width (c ∷ cs)) (c ∷ cs) e (bad_escape end c cs r bad is fits ends some-bad)

    by_end : is_quote c ≡ true → (q : Option (List ℕ)) → quote_end c false cs ≡ q → closed_at end c cs q ≡ Err fault → IsFaultHere fault (end - width (c ∷ cs)) (c ∷ cs)
    by_end is None none e = same_fault (OpenQuote (end - width (c ∷ cs))) fault (end - width (c ∷ cs)) (c ∷ cs) e (refl, record { quote = c; remaining = cs; spelled = refl; opens = is; never = not_closed c cs is none })
    by_end is (Some r) ends e = by_bad is r ends (first_bad c cs) refl e

    by_class : (b : Bool) → begins_bare c ≡ b → (q : Bool) → is_quote c ≡ q → (m : Bool) → is_mark c ≡ m
        → cond b (Ok (Bare, bare_end cs)) (cond q (closed_at end c cs (quote_end c false cs)) (cond m (Ok (Mark c, cs)) (Err (BadChar (end - width (c ∷ cs)))))) ≡ Err fault → IsFaultHere fault (end - width (c ∷ cs)) (c ∷ cs)
    by_class true is q quote m mark e = absurd (ok_err (Bare, bare_end cs) fault e)
    by_class false is true quote m mark e = by_end quote (quote_end c false cs) refl e
    by_class false is false quote true mark e = absurd (ok_err (Mark c, cs) fault e)
    by_class false is false quote false mark e = same_fault (BadChar (end - width (c ∷ cs))) fault (end - width (c ∷ cs)) (c ∷ cs) e
        (refl, record { bad = c; remaining = cs; spelled = refl; no_token = or_false (is_whitespace c) _ space (or_false (begins_bare c) _ is (or_false (is_quote c) (is_mark c) quote mark)) })

-- ---- the lexer reads what is in the grammar

bare_read : (end first : ℕ) (others rest : List ℕ) → begins_bare first ≡ true → list_all continues_bare others ≡ true → begins continues_bare rest ≡ false → token_at end (first ∷ (others ++ rest)) ≡ Ok (Bare, rest)
unfolding token_at
bare_read end first others rest is all stops = cond-true (begins_bare first) (Ok (Bare, bare_end (others ++ rest))) _ is ∙ ap (λ (l : List ℕ). Ok (Bare, l)) (bare_again others rest all stops)

quote_read : (end quote : ℕ) (cs : List ℕ) → is_quote quote ≡ true → token_at end (quote ∷ cs) ≡ closed_at end quote cs (quote_end quote false cs)
unfolding token_at
quote_read end quote cs is = cond-false (begins_bare quote) (Ok (Bare, bare_end cs)) _ (quote_not_bare quote is) ∙ cond-true (is_quote quote) (closed_at end quote cs (quote_end quote false cs)) _ is

quoted_read : (end quote : ℕ) (pieces : List Piece) (rest : List ℕ) → is_quote quote ≡ true → list_all (is_piece quote) pieces ≡ true → list_all (is_raw quote) pieces ≡ true → token_at end (quote ∷ (sources pieces ++ quote ∷ rest)) ≡ Ok (Quoted, rest)
quoted_read end quote pieces rest is good raw =
    let cs = sources pieces ++ quote ∷ rest in
    quote_read end quote cs is ∙ ap (closed_at end quote cs) (quote_found quote pieces rest (quote_not_backslash quote is) (eq-eqb quote quote refl) raw)
    ∙ ap (unless_bad end rest) (none_bad quote pieces rest (quote_not_backslash quote is) (eq-eqb quote quote refl) good)

mark_read : (end mark : ℕ) (rest : List ℕ) → is_mark mark ≡ true → token_at end (mark ∷ rest) ≡ Ok (Mark mark, rest)
unfolding token_at
mark_read end mark rest is =
    cond-false (begins_bare mark) (Ok (Bare, bare_end rest)) _ (mark_not_bare mark is) ∙ cond-false (is_quote mark) (closed_at end mark rest (quote_end mark false rest)) _ (mark_not_quote mark is)
    ∙ cond-true (is_mark mark) (Ok (Mark mark, rest)) _ is

raw_of : (quote : ℕ) (pieces : List Piece) → list_all (is_piece quote) pieces ≡ true → list_all (is_raw quote) pieces ≡ true
raw_of quote [] good = refl
raw_of quote (plain c ∷ pieces) good =
    let p = and_parts (is_piece quote (plain c)) (list_all (is_piece quote) pieces) good in
    and_from (is_raw quote (plain c)) (list_all (is_raw quote) pieces) p.0 (raw_of quote pieces p.1)
raw_of quote (escape c ∷ pieces) good =
    let p = and_parts (is_piece quote (escape c)) (list_all (is_piece quote) pieces) good in
    and_from (is_raw quote (escape c)) (list_all (is_raw quote) pieces) (and_parts (is_raw quote (escape c)) _ p.0).0 (raw_of quote pieces p.1)

pub token_again : (end : ℕ) (kind : Kind) (body rest : List ℕ) → IsToken kind body rest → token_at end (body ++ rest) ≡ Ok (kind, rest)
token_again end Bare body rest t = ap (λ (l : List ℕ). token_at end (l ++ rest)) t.spelled ∙ bare_read end t.first t.others rest t.begins_so t.continues t.longest
token_again end Quoted body rest t =
    ap (λ (l : List ℕ). token_at end (l ++ rest)) t.spelled ∙ ap (λ (l : List ℕ). token_at end (t.quote ∷ l)) (append_assoc (sources t.pieces) (t.quote ∷ []) rest)
    ∙ quoted_read end t.quote t.pieces rest t.opens t.are_pieces (raw_of t.quote t.pieces t.are_pieces)
token_again end (Mark mark) body rest t = ap (λ (l : List ℕ). token_at end (l ++ rest)) t.0 ∙ mark_read end mark rest t.1

open_read : (end quote : ℕ) (cs : List ℕ) → is_quote quote ≡ true → (IsClosed quote cs → ⊥) → token_at end (quote ∷ cs) ≡ Err (OpenQuote (end - width (quote ∷ cs)))
open_read end quote cs is never = quote_read end quote cs is ∙ by_end (quote_end quote false cs) refl
  where
    by_end : (q : Option (List ℕ)) → quote_end quote false cs ≡ q → closed_at end quote cs q ≡ Err (OpenQuote (end - width (quote ∷ cs)))
    by_end None none = refl
    by_end (Some rest) ends = let s = closes quote cs rest ends in absurd (never (record { pieces = s.pieces; rest = rest; are_raw = s.are_raw; spelled = s.spelled }))

bad_char_read : (end c : ℕ) (cs : List ℕ) → (is_whitespace c || (begins_bare c || (is_quote c || is_mark c))) ≡ false → token_at end (c ∷ cs) ≡ Err (BadChar (end - width (c ∷ cs)))
unfolding token_at
bad_char_read end c cs e = by_class (is_whitespace c) refl (begins_bare c) refl (is_quote c) refl (is_mark c) refl e
  where
    by_class : (s : Bool) → is_whitespace c ≡ s → (b : Bool) → begins_bare c ≡ b → (q : Bool) → is_quote c ≡ q → (m : Bool) → is_mark c ≡ m → (s || (b || (q || m))) ≡ false
        → cond b (Ok (Bare, bare_end cs)) (cond q (closed_at end c cs (quote_end c false cs)) (cond m (Ok (Mark c, cs)) (Err (BadChar (end - width (c ∷ cs)))))) ≡ Err (BadChar (end - width (c ∷ cs)))
    by_class true space b is q quote m mark e = absurd cc
    by_class false space true is q quote m mark e = absurd cc
    by_class false space false is true quote m mark e = absurd cc
    by_class false space false is false quote true mark e = absurd cc
    by_class false space false is false quote false mark e = refl

pub fault_again : (end before : ℕ) (cs : List ℕ) (fault : LexFault) → end ≡ before + width cs → IsFaultHere fault before cs → token_at end cs ≡ Err fault
fault_again end before cs TooLong e h = absurd h
fault_again end before cs Memory e h = absurd h
fault_again end before cs (OpenQuote at) e (at_is, h) =
    ap (token_at end) h.spelled ∙ open_read end h.quote h.remaining h.opens h.never ∙ ap (λ (n : ℕ). Err (OpenQuote n)) (let same : end - width (h.quote ∷ h.remaining) ≡ at = omega (arith, ap width h.spelled) in same)
fault_again end before cs (BadChar at) e (at_is, h) =
    ap (token_at end) h.spelled ∙ bad_char_read end h.bad h.remaining h.no_token ∙ ap (λ (n : ℕ). Err (BadChar n)) (let same : end - width (h.bad ∷ h.remaining) ≡ at = omega (arith, ap width h.spelled) in same)
fault_again end before cs (BadEscape at) e (offset, at_is, h) =
    let bad = 92 ∷ h.bad ∷ h.remaining in
    let inside = sources h.pieces ++ bad in
    let whole : width (h.quote ∷ inside) ≡ width (h.quote ∷ sources h.pieces) + width bad = width-append (h.quote ∷ sources h.pieces) bad in
    let same : end - width bad ≡ at = omega (arith, ap width h.spelled, whole, h.offset_is) in
    let slash = quote_not_backslash h.quote h.opens in
    ap (token_at end) h.spelled ∙ quote_read end h.quote inside h.opens
    ∙ ap (closed_at end h.quote inside) (ap (quote_end h.quote false) h.closed.spelled ∙ quote_found h.quote h.closed.pieces h.closed.rest slash (eq-eqb h.quote h.quote refl) h.closed.are_raw)
    ∙ ap (unless_bad end h.closed.rest) (bad_found h.quote h.pieces h.bad h.remaining slash h.has_escapes h.is_bad h.are_pieces)
    ∙ ap (λ (n : ℕ). Err (BadEscape n)) same
