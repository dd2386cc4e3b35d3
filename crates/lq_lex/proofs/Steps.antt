-- The lexer, one character at a time.
use Rattle.std.proofs.Common.{◌≡◌, ℕ, ◌-◌, Bool, true, false, eqb, List, [], ◌∷◌, length, chars, Some, None, Ok, Err, refl, sym, ap, ◌∙◌}
use Rattle.std.specs.Str.{IsUtf8}
use Rattle.std.proofs.lemmas.Bool.{cond-true, cond-false}
use Rattle.lq_lex.specs.declared.token.Kind.TheVariants.{Bare, Mark}
use Rattle.lq_lex.specs.declared.fault.LexFault.TheVariants.{OpenQuote, BadChar}
use Rattle.lq_lex.specs.Lexing.{begins_bare, continues_bare, is_quote, is_mark, is_backslash, is_escape}
use Rattle.lq_lex.specs.Reading.{bare_end, quote_end, first_bad, closed_at, token_at}
use Rattle.lq_lex.proofs.Widths.{width-is}

-- ---- bare

pub bare_none : (text : List ℕ) → chars text ≡ [] → bare_end (chars text) ≡ chars text
bare_none text e = ap bare_end e ∙ sym e

pub bare_stop : (text cs : List ℕ) (c : ℕ) → chars text ≡ c ∷ cs → continues_bare c ≡ false → bare_end (chars text) ≡ chars text
bare_stop text cs c e no-more = ap bare_end e ∙ cond-false (continues_bare c) (bare_end cs) (c ∷ cs) no-more ∙ sym e

pub bare_more : (text cs : List ℕ) (c : ℕ) → chars text ≡ c ∷ cs → continues_bare c ≡ true → bare_end (chars text) ≡ bare_end cs
bare_more text cs c e more = ap bare_end e ∙ cond-true (continues_bare c) (bare_end cs) (c ∷ cs) more

pub ruleset bare_steps = (bare_none, bare_stop, bare_more)

-- ---- quoted

pub quote_none : (text : List ℕ) (quote : ℕ) (backslash : Bool) → chars text ≡ [] → quote_end quote backslash (chars text) ≡ None
quote_none text quote backslash e = ap (quote_end quote backslash) e

pub quote_behind : (text cs : List ℕ) (quote c : ℕ) → chars text ≡ c ∷ cs → quote_end quote true (chars text) ≡ quote_end quote false cs
quote_behind text cs quote c e = ap (quote_end quote true) e

pub quote_close : (text cs : List ℕ) (quote c : ℕ) → chars text ≡ c ∷ cs → eqb c quote ≡ true → quote_end quote false (chars text) ≡ Some cs
quote_close text cs quote c e is = ap (quote_end quote false) e ∙ cond-true (eqb c quote) (Some cs) (quote_end quote (is_backslash quote c) cs) is

pub quote_more : (text cs : List ℕ) (quote c : ℕ) → chars text ≡ c ∷ cs → eqb c quote ≡ false → quote_end quote false (chars text) ≡ quote_end quote (is_backslash quote c) cs
quote_more text cs quote c e is = ap (quote_end quote false) e ∙ cond-false (eqb c quote) (Some cs) (quote_end quote (is_backslash quote c) cs) is

pub ruleset quote_steps = (quote_none, quote_behind, quote_close, quote_more)

-- ---- escapes

pub bad_none : (text : List ℕ) (quote : ℕ) → chars text ≡ [] → first_bad quote (chars text) ≡ None
bad_none text quote e = ap (first_bad quote) e

pub bad_last : (text remaining : List ℕ) (quote c : ℕ) → chars text ≡ c ∷ chars remaining → chars remaining ≡ [] → first_bad quote (chars text) ≡ None
bad_last text remaining quote c e f = ap (first_bad quote) (e ∙ ap (λ (l : List ℕ). c ∷ l) f)

pub bad_close : (text cs : List ℕ) (quote c : ℕ) → chars text ≡ c ∷ cs → eqb c quote ≡ true → first_bad quote (chars text) ≡ None
bad_close text cs quote c e is = ap (first_bad quote) e ∙ by_case cs
  where
    by_case : (cs : List ℕ) → first_bad quote (c ∷ cs) ≡ None
    by_case [] = refl
    by_case (d ∷ ds) = cond-true (eqb c quote) None _ is

pub bad_plain : (text cs : List ℕ) (quote c : ℕ) → chars text ≡ c ∷ cs → eqb c quote ≡ false → is_backslash quote c ≡ false → first_bad quote (chars text) ≡ first_bad quote cs
bad_plain text cs quote c e is plain = ap (first_bad quote) e ∙ by_case cs
  where
    by_case : (cs : List ℕ) → first_bad quote (c ∷ cs) ≡ first_bad quote cs
    by_case [] = refl
    by_case (d ∷ ds) = cond-false (eqb c quote) None _ is ∙ cond-false (is_backslash quote c) _ (first_bad quote (d ∷ ds)) plain

pub bad_good : (text remaining cs : List ℕ) (quote c d : ℕ) → chars text ≡ c ∷ chars remaining → chars remaining ≡ d ∷ cs → eqb c quote ≡ false → is_backslash quote c ≡ true → is_escape d ≡ true
    → first_bad quote (chars text) ≡ first_bad quote cs
bad_good text remaining cs quote c d e f is escape good =
    ap (first_bad quote) (e ∙ ap (λ (l : List ℕ). c ∷ l) f) ∙ cond-false (eqb c quote) None _ is ∙ cond-true (is_backslash quote c) _ (first_bad quote (d ∷ cs)) escape
    ∙ cond-true (is_escape d) (first_bad quote cs) (Some (c ∷ d ∷ cs)) good

pub bad_here : (text remaining cs : List ℕ) (quote c d : ℕ) → chars text ≡ c ∷ chars remaining → chars remaining ≡ d ∷ cs → eqb c quote ≡ false → is_backslash quote c ≡ true → is_escape d ≡ false
    → first_bad quote (chars text) ≡ Some (chars text)
bad_here text remaining cs quote c d e f is escape bad =
    ap (first_bad quote) (e ∙ ap (λ (l : List ℕ). c ∷ l) f) ∙ cond-false (eqb c quote) None _ is ∙ cond-true (is_backslash quote c) _ (first_bad quote (d ∷ cs)) escape
    ∙ cond-false (is_escape d) (first_bad quote cs) (Some (c ∷ d ∷ cs)) bad ∙ ap Some (sym (e ∙ ap (λ (l : List ℕ). c ∷ l) f))

pub ruleset bad_steps = (bad_none, bad_last, bad_close, bad_plain, bad_good, bad_here)

-- ---- tokens

pub token_none : (text : List ℕ) (end : ℕ) → chars text ≡ [] → token_at end (chars text) ≡ Err (BadChar end)
unfolding token_at
token_none text end e = ap (token_at end) e

pub token_bare : (text cs : List ℕ) (end c : ℕ) → chars text ≡ c ∷ cs → begins_bare c ≡ true → token_at end (chars text) ≡ Ok (Bare, bare_end cs)
unfolding token_at
token_bare text cs end c e is = ap (token_at end) e ∙ cond-true (begins_bare c) (Ok (Bare, bare_end cs)) _ is

pub token_quoted : (text cs : List ℕ) (end c : ℕ) → chars text ≡ c ∷ cs → begins_bare c ≡ false → is_quote c ≡ true → token_at end (chars text) ≡ closed_at end c cs (quote_end c false cs)
unfolding token_at
token_quoted text cs end c e is quote = ap (token_at end) e ∙ cond-false (begins_bare c) (Ok (Bare, bare_end cs)) _ is ∙ cond-true (is_quote c) (closed_at end c cs (quote_end c false cs)) _ quote

pub token_mark : (text cs : List ℕ) (end c : ℕ) → chars text ≡ c ∷ cs → begins_bare c ≡ false → is_quote c ≡ false → is_mark c ≡ true → token_at end (chars text) ≡ Ok (Mark c, cs)
unfolding token_at
token_mark text cs end c e is quote mark =
    ap (token_at end) e ∙ cond-false (begins_bare c) (Ok (Bare, bare_end cs)) _ is ∙ cond-false (is_quote c) (closed_at end c cs (quote_end c false cs)) _ quote ∙ cond-true (is_mark c) (Ok (Mark c, cs)) _ mark

pub token_bad : (text cs : List ℕ) (end c : ℕ) → IsUtf8 text → chars text ≡ c ∷ cs → begins_bare c ≡ false → is_quote c ≡ false → is_mark c ≡ false → token_at end (chars text) ≡ Err (BadChar (end - length text))
unfolding token_at
token_bad text cs end c utf8 e is quote mark =
    ap (token_at end) e ∙ cond-false (begins_bare c) (Ok (Bare, bare_end cs)) _ is ∙ cond-false (is_quote c) (closed_at end c cs (quote_end c false cs)) _ quote ∙ cond-false (is_mark c) (Ok (Mark c, cs)) _ mark
    ∙ ap (λ (n : ℕ). Err (BadChar (end - n))) (width-is text (c ∷ cs) utf8 e)

pub ruleset token_steps = (token_none, token_bare, token_quoted, token_mark, token_bad)

pub open_at : (text remaining : List ℕ) (quote end : ℕ) → IsUtf8 text → chars text ≡ quote ∷ chars remaining → quote_end quote false (chars remaining) ≡ None
    → closed_at end quote (chars remaining) (quote_end quote false (chars remaining)) ≡ Err (OpenQuote (end - length text))
open_at text remaining quote end utf8 e none = ap (closed_at end quote (chars remaining)) none ∙ ap (λ (n : ℕ). Err (OpenQuote (end - n))) (width-is text (quote ∷ chars remaining) utf8 e)
