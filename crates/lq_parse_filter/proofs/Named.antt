-- A filter that begins with a name and a colon, and one that does not.
use Rattle.std.proofs.Common.{◌≡◌, ℕ, suc, Bool, true, false, cond, ◌&&◌, List, [], ◌∷◌, ◌++◌, length, drop, Some}
use Rattle.std.proofs.Common.{◌||◌, Option, Ok, Err, refl, sym, ap, ◌∙◌, ◌⊎◌, inl, inr}
use Rattle.std.proofs.lemmas.Bool.{cond-true, cond-false, false_from_ne_true}
use Rattle.grammar.specs.Rule.{Token, Class, has, next, both}
use Rattle.grammar.specs.Spelling.{◌>>=◌}
use Rattle.grammar.specs.Reading.{Answer, stuck, mapped}
use Rattle.grammar.proofs.Sets.{inside, inside_next, not_both}
use Rattle.lq_grammar.specs.declared.role.Role.TheVariants.{In, I, Seq, LenRange, StringRange, Range, Quoted, Colon}
use Rattle.lq_grammar.specs.declared.scope.Scope.{Scope}
use Rattle.lq_grammar.specs.Roles.{any, plain_words, common_names}
use Rattle.lq_grammar.specs.Values.{Bytes, Reason, Filtering, named, field_named}
use Rattle.lq_grammar.specs.LogsQL.{Parse, End, mark, text, ended, colon, alone, inner, led, range_led, word_led}
use Rattle.lq_grammar.specs.LogsQL.{mark_leaf, bare_end, quoted_end, in_end, i_end, seq_end, len_range_end}
use Rattle.lq_grammar.specs.LogsQL.{string_range_end, range_end, word_unit, ◌|||◌}
use Rattle.lq_grammar.specs.Clauses.{at}
use Rattle.lq_parse_filter.proofs.Firsts.{next_append}

abbrev Tokens : Type 0
Tokens = List (Token Bytes)

abbrev Read : Type 0 → Type 0
Read A = Answer Bytes Reason A

abbrev colons : Class
colons = any (Colon ∷ [])

abbrev commons : Class
commons = any common_names

abbrev word_at : Bool → Token Bytes → Tokens → Read Bytes
word_at b t ts = cond b (Ok (t.content, ts)) (Err (stuck (suc (length ts))))

abbrev colon_at : Bool → Tokens → Read (Unit {0})
colon_at b ts = cond b (Ok (tt, ts)) (Err (stuck (suc (length ts))))

-- no token of the class stands there, or no colon after it
abbrev Unnamed : Class → Tokens → Type 0
Unnamed class u = (next class u ≡ false) ⊎ (next colons (drop 1 u) ≡ false)

-- what stands before the last of the words
abbrev i_rest : End → Parse Filtering
i_rest end =
    ended (text (any (I ∷ []))) (end i_end) ||| ended (text (any (Seq ∷ []))) (end seq_end) ||| range_led end

abbrev seq_rest : End → Parse Filtering
seq_rest end = ended (text (any (Seq ∷ []))) (end seq_end) ||| range_led end

abbrev string_rest : End → Parse Filtering
string_rest end =
    ended (text (any (StringRange ∷ []))) (end string_range_end)
    ||| ended (text (any (Range ∷ []))) (end range_end) ||| word_led end

abbrev range_rest : End → Parse Filtering
range_rest end = ended (text (any (Range ∷ []))) (end range_end) ||| word_led end

abbrev quoted_rest : End → Parse Filtering
quoted_rest end = ended (text (any (Quoted ∷ []))) (end quoted_end) ||| mark_leaf

module _ (depth : ℕ) (scope : Scope) where
  abbrev behind_colon : Parse (Bytes → Filtering)
  behind_colon = both (λ _ filter name. named name filter) (mark colons) (inner scope)

  abbrev ended_at : Parse (Bytes → Filtering) → Bool → Token Bytes → Tokens → Read Filtering
  ended_at end b t ts = word_at b t ts >>= λ x. at depth end x.1 >>= λ y. Ok (y.0 x.0, y.1)

  -- ---- no name with a colon

  ended_same : (class : Class) (end : Parse (Bytes → Filtering)) (u : Tokens) → Unnamed class u
      → at depth (ended (text class) (colon scope end)) u ≡ at depth (ended (text class) end) u
  ended_same class end [] h = refl
  ended_same class end (t ∷ ts) (inl out) =
      ap (λ (b : Bool). ended_at (colon scope end) b t ts) out ∙ sym (ap (λ (b : Bool). ended_at end b t ts) out)
  ended_same class end (t ∷ ts) (inr out) = by_test (has class t)
    where
      same : at depth (colon scope end) ts ≡ at depth end ts
      same = cond-false (next colons ts) (at depth behind_colon ts) (at depth end ts) out

      by_test : (b : Bool) → ended_at (colon scope end) b t ts ≡ ended_at end b t ts
      by_test true = ap (λ (r : Read (Bytes → Filtering)). r >>= λ y. Ok (y.0 t.content, y.1)) same
      by_test false = refl

  step : (class : Class) (end : Parse (Bytes → Filtering)) (b d : Parse Filtering) (u : Tokens) → Unnamed class u
      → at depth b u ≡ at depth d u
      → at depth (ended (text class) (colon scope end) ||| b) u ≡ at depth (ended (text class) end ||| d) u
  step class end b d u h same =
      ap (λ (r : Read Filtering). cond (next (class ++ []) u) r (at depth b u)) (ended_same class end u h)
      ∙ ap (λ (r : Read Filtering). cond (next (class ++ []) u) (at depth (ended (text class) end) u) r) same

  narrow : (class : Class) (u : Tokens) → inside class commons ≡ true → Unnamed commons u → Unnamed class u
  narrow class u p (inl out) =
      inl (false_from_ne_true (next class u) (λ h. not_both (next commons u) (inside_next class commons u p h) out))
  narrow class u p (inr out) = inr out

  led_same : (u : Tokens) → Unnamed commons u → at depth (led (colon scope)) u ≡ at depth (led alone) u
  unfolding led range_led word_led
  led_same u h =
      step (any (In ∷ [])) in_end (i_rest (colon scope)) (i_rest alone) u (narrow (any (In ∷ [])) u refl h)
      (step (any (I ∷ [])) i_end (seq_rest (colon scope)) (seq_rest alone) u (narrow (any (I ∷ [])) u refl h)
      (step (any (Seq ∷ [])) seq_end (range_led (colon scope)) (range_led alone) u
      (narrow (any (Seq ∷ [])) u refl h)
      (step (any (LenRange ∷ [])) len_range_end (string_rest (colon scope)) (string_rest alone) u
      (narrow (any (LenRange ∷ [])) u refl h)
      (step (any (StringRange ∷ [])) string_range_end (range_rest (colon scope)) (range_rest alone) u
      (narrow (any (StringRange ∷ [])) u refl h)
      (step (any (Range ∷ [])) range_end (word_led (colon scope)) (word_led alone) u
      (narrow (any (Range ∷ [])) u refl h)
      (step (any plain_words) bare_end (quoted_rest (colon scope)) (quoted_rest alone) u
      (narrow (any plain_words) u refl h)
      (step (any (Quoted ∷ [])) quoted_end mark_leaf mark_leaf u (narrow (any (Quoted ∷ [])) u refl h) refl)))))))

  unnamed : (b c : Bool) → (b && c) ≡ false → (b ≡ false) ⊎ (c ≡ false)
  unnamed true c e = inr e
  unnamed false c e = inl refl

  pub unit_unnamed : (u : Tokens) → (next commons u && next colons (drop 1 u)) ≡ false
      → at depth (word_unit scope) u ≡ at depth (led alone) u
  unfolding word_unit
  unit_unnamed u h = led_same u (unnamed (next commons u) (next colons (drop 1 u)) h)

  -- ---- a name with a colon

  module _ (t c : Token Bytes) (w : Tokens) (is_colon : has colons c ≡ true) where
    abbrev inside_name : Read Filtering
    inside_name = mapped (named t.content) (at depth (inner scope) w)

    abbrev under : Read (Bytes → Filtering) → Read Filtering
    under r = r >>= λ y. Ok (y.0 t.content, y.1)

    abbrev naming : Read Filtering → Read (Bytes → Filtering)
    naming r = r >>= λ y. Ok ((λ (name : Bytes). named name y.0), y.1)

    twice : (r : Read Filtering) → under (naming r) ≡ mapped (named t.content) r
    twice (Ok x) = refl
    twice (Err stop) = refl

    one_named : (class : Class) (end : Parse (Bytes → Filtering)) → has class t ≡ true
        → at depth (ended (text class) (colon scope end)) (t ∷ c ∷ w) ≡ inside_name
    one_named class end h =
        ap (λ (b : Bool). ended_at (colon scope end) b t (c ∷ w)) h
        ∙ ap under (cond-true (has colons c) (at depth behind_colon (c ∷ w)) (at depth end (c ∷ w)) is_colon)
        ∙ ap (λ (b : Bool). under (colon_at b w >>= λ x. naming (at depth (inner scope) x.1))) is_colon
        ∙ twice (at depth (inner scope) w)

    choose : (class others : Class) (end : Parse (Bytes → Filtering)) (b : Parse Filtering)
        → next (class ++ others) (t ∷ c ∷ w) ≡ true
        → (next others (t ∷ c ∷ w) ≡ true → at depth b (t ∷ c ∷ w) ≡ inside_name)
        → at depth (ended (text class) (colon scope end) ||| b) (t ∷ c ∷ w) ≡ inside_name
    choose class others end b h rest = by_test (has class t) refl
      where
        none : (k : Class) → k ++ [] ≡ k
        none [] = refl
        none (x ∷ k) = ap (λ (l : Class). x ∷ l) (none k)

        chosen : at depth (ended (text class) (colon scope end) ||| b) (t ∷ c ∷ w)
            ≡ cond (has class t) (at depth (ended (text class) (colon scope end)) (t ∷ c ∷ w)) (at depth b (t ∷ c ∷ w))
        chosen =
            ap (λ (k : Class). cond (next k (t ∷ c ∷ w)) (at depth (ended (text class) (colon scope end)) (t ∷ c ∷ w))
            (at depth b (t ∷ c ∷ w))) (none class)

        by_test : (x : Bool) → has class t ≡ x
            → at depth (ended (text class) (colon scope end) ||| b) (t ∷ c ∷ w) ≡ inside_name
        by_test true e =
            chosen ∙ cond-true (has class t) (at depth (ended (text class) (colon scope end)) (t ∷ c ∷ w))
            (at depth b (t ∷ c ∷ w)) e ∙ one_named class end e
        by_test false e =
            chosen ∙ cond-false (has class t) (at depth (ended (text class) (colon scope end)) (t ∷ c ∷ w))
            (at depth b (t ∷ c ∷ w)) e
            ∙ rest (sym (next_append class others (t ∷ c ∷ w)
            ∙ ap (λ (y : Bool). y || next others (t ∷ c ∷ w)) e) ∙ h)

    never : next [] (t ∷ c ∷ w) ≡ true → at depth mark_leaf (t ∷ c ∷ w) ≡ inside_name
    never h = absurd cc

    abbrev quotes : Class
    quotes = any (Quoted ∷ []) ++ []

    abbrev plains : Class
    plains = any plain_words ++ quotes

    abbrev ranges : Class
    ranges = any (Range ∷ []) ++ plains

    abbrev strings : Class
    strings = any (StringRange ∷ []) ++ ranges

    abbrev lengths : Class
    lengths = any (LenRange ∷ []) ++ strings

    abbrev sequences : Class
    sequences = any (Seq ∷ []) ++ lengths

    abbrev folds : Class
    folds = any (I ∷ []) ++ sequences

    led_named : has commons t ≡ true → at depth (led (colon scope)) (t ∷ c ∷ w) ≡ inside_name
    unfolding led range_led word_led
    led_named h =
        choose (any (In ∷ [])) folds in_end (i_rest (colon scope))
        (inside_next commons (any (In ∷ []) ++ folds) (t ∷ c ∷ w) refl h)
        (λ a. choose (any (I ∷ [])) sequences i_end (seq_rest (colon scope)) a
        (λ a. choose (any (Seq ∷ [])) lengths seq_end (range_led (colon scope)) a
        (λ a. choose (any (LenRange ∷ [])) strings len_range_end (string_rest (colon scope)) a
        (λ a. choose (any (StringRange ∷ [])) ranges string_range_end (range_rest (colon scope)) a
        (λ a. choose (any (Range ∷ [])) plains range_end (word_led (colon scope)) a
        (λ a. choose (any plain_words) quotes bare_end (quoted_rest (colon scope)) a
        (λ a. choose (any (Quoted ∷ [])) [] quoted_end mark_leaf a never)))))))

    fielded : (field : Option Bytes) (r : Read Filtering) → mapped (λ made. made field) (mapped (named t.content) r)
        ≡ mapped (λ made. made (Some (field_named t.content))) r
    fielded field (Ok x) = refl
    fielded field (Err stop) = refl

    pub unit_named : (field : Option Bytes) → has commons t ≡ true
        → mapped (λ made. made field) (at depth (word_unit scope) (t ∷ c ∷ w))
        ≡ mapped (λ made. made (Some (field_named t.content))) (at depth (inner scope) w)
    unfolding word_unit
    unit_named field h = ap (mapped (λ made. made field)) (led_named h) ∙ fielded field (at depth (inner scope) w)

pub name_read : (depth : ℕ) (scope : Scope) (u rest : Tokens) (field : Option Bytes) (name inside : Bytes)
    → ((t : Token Bytes) × (c : Token Bytes) × (u ≡ t ∷ c ∷ rest) × (has commons t ≡ true) × (has colons c ≡ true)
    × (name ≡ t.content))
    → inside ≡ field_named name → mapped (λ made. made field) (at depth (word_unit scope) u)
    ≡ mapped (λ made. made (Some inside)) (at depth (inner scope) rest)
name_read depth scope u rest field name inside (t, c, is, h, k, e) f =
    ap (λ (l : Tokens). mapped (λ made. made field) (at depth (word_unit scope) l)) is
    ∙ unit_named depth scope t c rest k field h
    ∙ ap (λ (n : Bytes). mapped (λ made. made (Some (field_named n))) (at depth (inner scope) rest)) (sym e)
    ∙ ap (λ (n : Bytes). mapped (λ made. made (Some n)) (at depth (inner scope) rest)) (sym f)
