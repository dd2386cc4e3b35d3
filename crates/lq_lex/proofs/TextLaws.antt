-- How a quoted string is unescaped, one run without escapes at a time.
use Rattle.std.proofs.Common.{◌≡◌, ℕ, ◌<◌, ◌≤◌, Bool, true, false, not, cond, eqb, List, [], ◌∷◌, ◌++◌, length, map, chars, IsUtf8, refl, sym, ap, ◌∙◌, subst, arith, append_assoc}
use Rattle.std.specs.Str.{encode_utf8_all}
use Rattle.std.specs.List.{list_all}
use Rattle.std.proofs.lemmas.Bool.{cond-true, cond-false, and_parts, eqb-true}
use Rattle.std.proofs.lemmas.List.{append_cancel_right, append-nil, length-append}
use Rattle.std.proofs.lemmas.Str.{encodes-append, length-le-encodes}
use Rattle.lq_lex.specs.declared.token.Kind.{Kind}
use Rattle.lq_lex.specs.declared.token.Kind.TheVariants.{Quoted}
use Rattle.lq_lex.specs.Lexing.{Piece, plain, escape, is_raw, is_piece, is_backslash, is_escape, sources, value, escape_value, width, IsQuoted}
use Rattle.lq_lex.specs.Texts.{unescape, quoted_content, plain_end, content}
use Rattle.lq_lex.proofs.Nexts.{bytes_read, not_empty, chars_empty}
use Rattle.lq_lex.proofs.Widths.{width-chars}

-- ---- the end of a run

stops : (quote c : ℕ) (cs : List ℕ) → is_backslash quote c ≡ true → plain_end quote (c ∷ cs) ≡ c ∷ cs
stops quote c [] e = refl
stops quote c (d ∷ ds) e = cond-true (is_backslash quote c) (c ∷ d ∷ ds) (plain_end quote (d ∷ ds)) e

goes : (quote c : ℕ) (cs : List ℕ) → is_backslash quote c ≡ false → 0 < length cs → plain_end quote (c ∷ cs) ≡ plain_end quote cs
goes quote c [] e some = absurd (omega arith)
goes quote c (d ∷ ds) e some = cond-false (is_backslash quote c) (c ∷ d ∷ ds) (plain_end quote (d ∷ ds)) e

pub end_none : (text : List ℕ) (quote : ℕ) → chars text ≡ [] → plain_end quote (chars text) ≡ chars text
end_none text quote e = ap (plain_end quote) e ∙ sym e

pub end_last : (text remaining : List ℕ) (quote c : ℕ) → chars text ≡ c ∷ chars remaining → IsUtf8 remaining → eqb (length remaining) 0 ≡ true → plain_end quote (chars text) ≡ chars text
end_last text remaining quote c e utf8 none =
    let last : chars text ≡ c ∷ [] = e ∙ ap (λ (l : List ℕ). c ∷ l) (chars_empty remaining utf8 (eqb-true (length remaining) 0 none)) in
    ap (plain_end quote) last ∙ sym last

pub end_slash : (text remaining : List ℕ) (quote c : ℕ) → chars text ≡ c ∷ chars remaining → is_backslash quote c ≡ true → plain_end quote (chars text) ≡ chars text
end_slash text remaining quote c e slash = ap (plain_end quote) e ∙ stops quote c (chars remaining) slash ∙ sym e

zero_false : (l : List ℕ) → eqb (length l) 0 ≡ false → 0 < length l
zero_false [] e = absurd cc
zero_false (c ∷ cs) e = omega arith

pub end_more : (text remaining : List ℕ) (quote c : ℕ) → chars text ≡ c ∷ chars remaining → IsUtf8 remaining → eqb (length remaining) 0 ≡ false → is_backslash quote c ≡ false → plain_end quote (chars text) ≡ plain_end quote (chars remaining)
end_more text remaining quote c e utf8 some none = ap (plain_end quote) e ∙ goes quote c (chars remaining) none (not_empty remaining utf8 (zero_false remaining some))

pub ruleset end_steps = (end_none, end_last, end_slash, end_more)

-- ---- what a run is

record IsRun (quote : ℕ) (cs rest : List ℕ) : Type 0 where
  run : List ℕ
  parts : cs ≡ run ++ rest
  value_is : unescape quote cs ≡ run ++ unescape quote rest

run_of : (quote : ℕ) (cs : List ℕ) → IsRun quote cs (plain_end quote cs)
run_of quote [] = record { run = []; parts = refl; value_is = refl }
run_of quote (c ∷ []) = record { run = []; parts = refl; value_is = refl }
run_of quote (c ∷ d ∷ ds) = by_test (is_backslash quote c) refl (run_of quote (d ∷ ds))
  where
    by_test : (b : Bool) → is_backslash quote c ≡ b → IsRun quote (d ∷ ds) (plain_end quote (d ∷ ds)) → IsRun quote (c ∷ d ∷ ds) (cond b (c ∷ d ∷ ds) (plain_end quote (d ∷ ds)))
    by_test true e r = record { run = []; parts = refl; value_is = refl }
    by_test false e r = record {
      run = c ∷ r.run;
      parts = ap (λ (l : List ℕ). c ∷ l) r.parts;
      value_is = cond-false (is_backslash quote c) (escape_value d ∷ unescape quote ds) (c ∷ unescape quote (d ∷ ds)) e ∙ ap (λ (l : List ℕ). c ∷ l) r.value_is;
    }

-- two characters remain after a run only if the first is a backslash
ends_so : (quote : ℕ) (cs : List ℕ) (s c : ℕ) (after : List ℕ) → plain_end quote cs ≡ s ∷ c ∷ after → is_backslash quote s ≡ true
ends_so quote [] s c after e = absurd cc
ends_so quote (x ∷ []) s c after e = absurd cc
ends_so quote (x ∷ d ∷ ds) s c after e = by_test (is_backslash quote x) refl (ends_so quote (d ∷ ds) s c after)
  where
    head : List ℕ → ℕ
    head [] = 0
    head (y ∷ ys) = y

    by_test : (b : Bool) → is_backslash quote x ≡ b → (plain_end quote (d ∷ ds) ≡ s ∷ c ∷ after → is_backslash quote s ≡ true) → is_backslash quote s ≡ true
    by_test true is ih =
        let same : x ∷ d ∷ ds ≡ s ∷ c ∷ after = sym (cond-true (is_backslash quote x) (x ∷ d ∷ ds) (plain_end quote (d ∷ ds)) is) ∙ e in
        let first : x ≡ s = cc in
        subst (λ (y : ℕ). is_backslash quote y ≡ true) first is
    by_test false is ih = ih (sym (cond-false (is_backslash quote x) (x ∷ d ∷ ds) (plain_end quote (d ∷ ds)) is) ∙ e)

-- ---- the same in bytes

pub record Ran (quote : ℕ) (rest here : List ℕ) : Type 0 where
  pub run : List ℕ
  pub bytes : rest ≡ encode_utf8_all run ++ here
  pub value_is : unescape quote (chars rest) ≡ run ++ unescape quote (chars here)
  pub ends : (s c : ℕ) (after : List ℕ) → chars here ≡ s ∷ c ∷ after → is_backslash quote s ≡ true

pub ran : (quote : ℕ) (rest here : List ℕ) → IsUtf8 rest → IsUtf8 here → chars here ≡ plain_end quote (chars rest) → Ran quote rest here
ran quote rest here utf8 utf8' e =
    let r : IsRun quote (chars rest) (chars here) = subst (IsRun quote (chars rest)) (sym e) (run_of quote (chars rest)) in
    record { run = r.run; bytes = bytes_read rest here r.run utf8 utf8' r.parts; value_is = r.value_is; ends = λ s c after is. ends_so quote (chars rest) s c after (sym e ∙ is) }

pub cut_run : (quote : ℕ) (rest here : List ℕ) → IsUtf8 rest → IsUtf8 here → chars here ≡ plain_end quote (chars rest) → (taken : List ℕ) × (rest ≡ taken ++ here)
cut_run quote rest here utf8 utf8' e = let r = ran quote rest here utf8 utf8' e in (encode_utf8_all r.run, r.bytes)

pub cut_one : (remaining after : List ℕ) (c : ℕ) → IsUtf8 remaining → IsUtf8 after → chars remaining ≡ c ∷ chars after → (taken : List ℕ) × (remaining ≡ taken ++ after)
cut_one remaining after c utf8 utf8' e = (encode_utf8_all (c ∷ []), bytes_read remaining after (c ∷ []) utf8 utf8' e)

pub one_is : (remaining after own : List ℕ) (c : ℕ) → IsUtf8 remaining → IsUtf8 after → chars remaining ≡ c ∷ chars after → remaining ≡ own ++ after → own ≡ encode_utf8_all (c ∷ [])
one_is remaining after own c utf8 utf8' e is = append_cancel_right own (encode_utf8_all (c ∷ [])) after (sym is ∙ bytes_read remaining after (c ∷ []) utf8 utf8' e)

-- this was appended, and the rest follows
pub done : (quote : ℕ) (rest here taken out longer whole : List ℕ) → IsUtf8 rest → IsUtf8 here → chars here ≡ plain_end quote (chars rest) → rest ≡ taken ++ here → longer ≡ out ++ taken → unescape quote (chars here) ≡ []
    → out ++ encode_utf8_all (unescape quote (chars rest)) ≡ whole → longer ≡ whole
done quote rest here taken out longer whole utf8 utf8' e parts appended none before =
    let r = ran quote rest here utf8 utf8' e in
    let took : taken ≡ encode_utf8_all r.run = append_cancel_right taken (encode_utf8_all r.run) here (sym parts ∙ r.bytes) in
    let left : unescape quote (chars rest) ≡ r.run = r.value_is ∙ ap (λ (l : List ℕ). r.run ++ l) none ∙ append-nil r.run in
    appended ∙ ap (λ (l : List ℕ). out ++ l) (took ∙ ap encode_utf8_all (sym left)) ∙ before

pub none_left : (here remaining : List ℕ) (quote s : ℕ) → chars here ≡ s ∷ chars remaining → chars remaining ≡ [] → unescape quote (chars here) ≡ []
none_left here remaining quote s e none = ap (unescape quote) (e ∙ ap (λ (l : List ℕ). s ∷ l) none)

pub nothing_left : (here : List ℕ) (quote : ℕ) → chars here ≡ [] → unescape quote (chars here) ≡ []
nothing_left here quote e = ap (unescape quote) e

pub again : (quote : ℕ) (rest here remaining after taken out longer longest own whole : List ℕ) (s c : ℕ) → IsUtf8 rest → IsUtf8 here → chars here ≡ plain_end quote (chars rest) → rest ≡ taken ++ here → longer ≡ out ++ taken
    → chars here ≡ s ∷ chars remaining → chars remaining ≡ c ∷ chars after → longest ≡ longer ++ own → own ≡ encode_utf8_all (escape_value c ∷ [])
    → out ++ encode_utf8_all (unescape quote (chars rest)) ≡ whole → longest ++ encode_utf8_all (unescape quote (chars after)) ≡ whole
again quote rest here remaining after taken out longer longest own whole s c utf8 utf8' e parts appended first second more own_is before =
    let r = ran quote rest here utf8 utf8' e in
    let two : chars here ≡ s ∷ c ∷ chars after = first ∙ ap (λ (l : List ℕ). s ∷ l) second in
    let took : taken ≡ encode_utf8_all r.run = append_cancel_right taken (encode_utf8_all r.run) here (sym parts ∙ r.bytes) in
    let here_is : unescape quote (chars here) ≡ escape_value c ∷ unescape quote (chars after) =
    ap (unescape quote) two ∙ cond-true (is_backslash quote s) (escape_value c ∷ unescape quote (chars after)) (s ∷ unescape quote (c ∷ chars after)) (r.ends s c (chars after) two) in
    let left : unescape quote (chars rest) ≡ r.run ++ (escape_value c ∷ unescape quote (chars after)) = r.value_is ∙ ap (λ (l : List ℕ). r.run ++ l) here_is in
    let bytes : encode_utf8_all (unescape quote (chars rest)) ≡ taken ++ (own ++ encode_utf8_all (unescape quote (chars after))) =
    ap encode_utf8_all left ∙ encodes-append r.run (escape_value c ∷ unescape quote (chars after))
    ∙ ap (λ (l : List ℕ). encode_utf8_all r.run ++ l) (encodes-append (escape_value c ∷ []) (unescape quote (chars after)))
    ∙ ap (λ (l : List ℕ). l ++ (encode_utf8_all (escape_value c ∷ []) ++ encode_utf8_all (unescape quote (chars after)))) (sym took)
    ∙ ap (λ (l : List ℕ). taken ++ (l ++ encode_utf8_all (unescape quote (chars after)))) (sym own_is) in
    ap (λ (l : List ℕ). l ++ encode_utf8_all (unescape quote (chars after))) (more ∙ ap (λ (l : List ℕ). l ++ own) appended)
    ∙ append_assoc (out ++ taken) own (encode_utf8_all (unescape quote (chars after)))
    ∙ append_assoc out taken (own ++ encode_utf8_all (unescape quote (chars after)))
    ∙ ap (λ (l : List ℕ). out ++ l) (sym bytes) ∙ before

pub fewer : (quote : ℕ) (rest here remaining after : List ℕ) → IsUtf8 rest → IsUtf8 here → chars here ≡ plain_end quote (chars rest) → length remaining < length here → length after < length remaining → length after < length rest
fewer quote rest here remaining after utf8 utf8' e one two = let r = ran quote rest here utf8 utf8' e in omega (arith, ap length r.bytes, length-append (encode_utf8_all r.run) here)

-- ---- the values of pieces

values : (quote : ℕ) (pieces : List Piece) → list_all (is_piece quote) pieces ≡ true → unescape quote (sources pieces ++ quote ∷ []) ≡ map value pieces
values quote [] good = refl
values quote (plain c ∷ pieces) good =
    let p = and_parts (is_piece quote (plain c)) (list_all (is_piece quote) pieces) good in
    let q = and_parts (not (eqb c quote)) (not (is_backslash quote c)) p.0 in
    one (sources pieces) q.1 ∙ ap (λ (l : List ℕ). c ∷ l) (values quote pieces p.1)
  where
    not_true : (b : Bool) → not b ≡ true → b ≡ false
    not_true true e = absurd cc
    not_true false e = refl

    one : (cs : List ℕ) → not (is_backslash quote c) ≡ true → unescape quote (c ∷ (cs ++ quote ∷ [])) ≡ c ∷ unescape quote (cs ++ quote ∷ [])
    one [] e = cond-false (is_backslash quote c) (escape_value quote ∷ []) (c ∷ []) (not_true (is_backslash quote c) e)
    one (d ∷ ds) e = cond-false (is_backslash quote c) (escape_value d ∷ unescape quote (ds ++ quote ∷ [])) (c ∷ unescape quote (d ∷ (ds ++ quote ∷ []))) (not_true (is_backslash quote c) e)
values quote (escape d ∷ pieces) good =
    let p = and_parts (is_piece quote (escape d)) (list_all (is_piece quote) pieces) good in
    let q = and_parts (is_raw quote (escape d)) (is_escape d) p.0 in
    cond-true (is_backslash quote 92) (escape_value d ∷ unescape quote (sources pieces ++ quote ∷ [])) (92 ∷ unescape quote (d ∷ (sources pieces ++ quote ∷ []))) q.0 ∙ ap (λ (l : List ℕ). escape_value d ∷ l) (values quote pieces p.1)

pub quoted_is : (kind : Kind) (span : List ℕ) → (q : IsQuoted (chars span)) → kind ≡ Quoted → content kind span ≡ encode_utf8_all (map value q.pieces)
quoted_is kind span q is = ap (λ (k : Kind). content k span) is ∙ ap (λ (cs : List ℕ). encode_utf8_all (quoted_content cs)) q.spelled ∙ ap encode_utf8_all (values q.quote q.pieces q.are_pieces)

-- ---- the last character

pub one_left : (here : List ℕ) (quote : ℕ) → IsUtf8 here → length here ≤ 1 → unescape quote (chars here) ≡ []
one_left here quote utf8 short = by_chars (chars here) (width-chars here utf8)
  where
    by_chars : (cs : List ℕ) → width cs ≡ length here → unescape quote cs ≡ []
    by_chars [] w = refl
    by_chars (c ∷ []) w = refl
    by_chars (c ∷ d ∷ ds) w = absurd (omega (arith, length-le-encodes (c ∷ d ∷ ds)))
