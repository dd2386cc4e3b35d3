-- Values of parameters, run by run.
use Rattle.std.proofs.Common.{◌≡◌, ℕ, ◌+◌, ◌<◌, Bool, true, false, cond, ◌||◌, ◌==◌, List, [], ◌∷◌, ◌++◌}
use Rattle.std.proofs.Common.{length, take}
use Rattle.std.proofs.Common.{drop, Option, Some, None, refl, sym, ap, subst, arith, ◌∙◌, ◌⊎◌, inl, inr}
use Rattle.std.specs.Prelude.{flat_map, IsTrue}
use Rattle.std.specs.List.{prefix_len, list_all}
use Rattle.std.proofs.Math.Numerals.{one-add}
use Rattle.std.proofs.lemmas.Bool.{cases_Bool, or_parts, eqb-true, and_parts, and_from, not-true, not-false}
use Rattle.std.proofs.lemmas.Bool.{or_from, false≢true, not_from_false}
use Rattle.time_text.proofs.Counts.{some_is}
use Rattle.std.proofs.lemmas.List.{append_assoc, append-nil, length-drop}
use Rattle.syslog_in.specs.Message.{is_special, Character, plain, escaped, backslash, is_character, character_source}
use Rattle.syslog_in.specs.Message.{character_text}
use Rattle.syslog_in.specs.Message.{value_source}
use Rattle.syslog_in.specs.DataReading.{is_plain, escaped_text, put, value_from, value_at, Ending, quote, escape}
use Rattle.syslog_in.specs.DataReading.{nothing}
use Rattle.syslog_in.specs.DataReading.{behind_backslash, ending_at, GivesValue}

abbrev Found : Type 0
Found = Option (List ℕ × List ℕ)

put_put : (front back : List ℕ) (o : Found) → put front (put back o) ≡ put (front ++ back) o
put_put front back None = refl
put_put front back (Some x) = ap (λ (t : List ℕ). Some (t, x.1)) (sym (append_assoc front back x.0))

put_nil : (o : Found) → put [] o ≡ o
put_nil None = refl
put_nil (Some x) = refl

-- what a value is after the end of a run
abbrev after_run : Ending → Found
after_run (quote rest) = Some ([], rest)
after_run (escape byte rest) = put (escaped_text byte) (value_at rest)
after_run nothing = None

value_quote : (rest : List ℕ) → value_at (34 ∷ rest) ≡ Some ([], rest)
unfolding value_from
value_quote rest = refl

value_nothing : value_at [] ≡ None
unfolding value_from
value_nothing = refl

value_escape : (byte : ℕ) (rest : List ℕ) → value_at (92 ∷ byte ∷ rest) ≡ put (escaped_text byte) (value_at rest)
unfolding value_from
value_escape byte rest = refl

value_plain : (byte : ℕ) (rest : List ℕ) → is_plain byte ≡ true
    → value_at (byte ∷ rest) ≡ put (byte ∷ []) (value_at rest)
unfolding value_from
value_plain byte rest h =
    let special = not-true (is_special byte) h in
    let parts = or_parts ((byte == 34) || (byte == 92)) (byte == 93) special in
    let more = or_parts (byte == 34) (byte == 92) parts.0 in
    rw (more.0, parts.1, more.1) refl

behind_is : (bytes : List ℕ) → value_from true bytes ≡ after_run (behind_backslash bytes)
unfolding value_from
behind_is [] = refl
behind_is (byte ∷ rest) = refl

-- where a byte is special, nothing is skipped
value_special : (byte : ℕ) (rest : List ℕ) → is_plain byte ≡ false
    → value_at (byte ∷ rest) ≡ after_run (ending_at (byte ∷ rest))
unfolding value_from
value_special byte rest h = by_quote (cases_Bool (byte == 34)) (cases_Bool (byte == 92)) (cases_Bool (byte == 93))
  where
    by_quote : (byte == 34 ≡ true) ⊎ (byte == 34 ≡ false) → (byte == 92 ≡ true) ⊎ (byte == 92 ≡ false)
        → (byte == 93 ≡ true) ⊎ (byte == 93 ≡ false)
        → value_from false (byte ∷ rest) ≡ after_run (ending_at (byte ∷ rest))
    by_quote (inl q) b c = rw q refl
    by_quote (inr q) (inl b) c =
        let no_bracket : byte == 93 ≡ false = ap (λ (n : ℕ). n == 93) (eqb-true byte 92 b) in
        rw (q, no_bracket, b) (behind_is rest)
    by_quote (inr q) (inr b) (inl c) = rw (q, c, b) refl
    by_quote (inr q) (inr b) (inr c) =
        let none : is_special byte ≡ false = or_from ((byte == 34) || (byte == 92)) (byte == 93) (or_from (byte == 34)
        (byte == 92) q b) c in
        absurd (false≢true (sym none ∙ not-false (is_special byte) h))

pub value_run : (bytes : List ℕ)
    → value_at bytes ≡ put (take (prefix_len is_plain bytes) bytes) (after_run (ending_at (drop
    (prefix_len is_plain bytes) bytes)))
value_run [] = value_nothing
value_run (byte ∷ bytes) = by_case (is_plain byte) refl (value_run bytes)
  where
    by_case : (b : Bool) → is_plain byte ≡ b
        → value_at bytes ≡ put (take (prefix_len is_plain bytes) bytes) (after_run (ending_at (drop
        (prefix_len is_plain bytes) bytes)))
        → value_at (byte ∷ bytes) ≡ put (take (cond b (1 + prefix_len is_plain bytes) 0) (byte ∷ bytes))
        (after_run (ending_at (drop (cond b (1 + prefix_len is_plain bytes) 0) (byte ∷ bytes))))
    by_case true is more =
        let n = prefix_len is_plain bytes in
        rw (one-add n) (value_plain byte bytes is ∙ ap (put (byte ∷ [])) more
        ∙ put_put (byte ∷ []) (take n bytes) (after_run (ending_at (drop n bytes))))
    by_case false is more = value_special byte bytes is ∙ sym (put_nil (after_run (ending_at (byte ∷ bytes))))

-- a value without backslashes
pub plain_value : (bytes rest : List ℕ) → quote rest ≡ ending_at (drop (prefix_len is_plain bytes) bytes)
    → value_at bytes ≡ Some (take (prefix_len is_plain bytes) bytes, rest)
plain_value bytes rest is =
    let run = take (prefix_len is_plain bytes) bytes in
    value_run bytes ∙ ap (λ (e : Ending). put run (after_run e)) (sym is)
    ∙ ap (λ (t : List ℕ). Some (t, rest)) (append-nil run)

-- so far the value has this text
pub record ReadSoFar (text rest old new : List ℕ) : Type 0 where
  pub read : List ℕ
  pub value : value_at text ≡ put read (value_at rest)
  pub appended : new ≡ old ++ read

pub none_read : (text old : List ℕ) → ReadSoFar text text old old
none_read text old = record { read = []; value = sym (put_nil (value_at text)); appended = sym (append-nil old) }

module _ (text rest old new : List ℕ) (h : ReadSoFar text rest old new) where
  abbrev run : List ℕ
  run = take (prefix_len is_plain rest) rest

  abbrev after : List ℕ
  after = drop (prefix_len is_plain rest) rest

  read_run : (ending : Ending) → ending ≡ ending_at after → value_at text ≡ put (h.read ++ run) (after_run ending)
  read_run ending is =
      h.value ∙ ap (put h.read) (value_run rest) ∙ put_put h.read run (after_run (ending_at after))
      ∙ ap (λ (e : Ending). put (h.read ++ run) (after_run e)) (sym is)

  pub at_quote : (end out : List ℕ) → quote end ≡ ending_at after → out ≡ new ++ run
      → GivesValue (value_at text) old out (Some end)
  at_quote end out is out_is =
      rw (read_run (quote end) is) (
        refl,
        out_is ∙ ap (λ (t : List ℕ). t ++ run) h.appended ∙ append_assoc old h.read run
            ∙ ap (λ (t : List ℕ). old ++ t) (sym (append-nil (h.read ++ run))),
      )

  pub at_nothing : (out : List ℕ) → nothing ≡ ending_at after → GivesValue (value_at text) old out None
  at_nothing out is = rw (read_run nothing is) refl

  pub at_escape : (byte : ℕ) (next out out₂ : List ℕ) → escape byte next ≡ ending_at after → out ≡ new ++ run
      → out₂ ≡ out ++ escaped_text byte → ReadSoFar text next old out₂
  at_escape byte next out out₂ is out_is out₂_is = record {
    read = (h.read ++ run) ++ escaped_text byte;
    value = read_run (escape byte next) is ∙ put_put (h.read ++ run) (escaped_text byte) (value_at next);
    appended = out₂_is ∙ ap (λ (t : List ℕ). t ++ escaped_text byte) (out_is ∙ ap (λ (t : List ℕ). t ++ run) h.appended
        ∙ append_assoc old h.read run) ∙ append_assoc old (h.read ++ run) (escaped_text byte);
  }

  ending_shorter : (bytes : List ℕ) (byte : ℕ) (next : List ℕ) → escape byte next ≡ ending_at bytes
      → length next < length bytes
  ending_shorter [] byte next is = absurd cc
  ending_shorter (first ∷ bytes) byte next is =
      elim (cases_Bool (first == 34)) [
        | inl q ↦ let wrong = rw q at is in absurd cc
        | inr q ↦ elim (cases_Bool (first == 92)) [
          | inl b ↦ behind bytes (rw (q, b) at is)
          | inr b ↦ let wrong = rw (q, b) at is in absurd cc
        ]
      ]
    where
      behind : (more : List ℕ) → escape byte next ≡ behind_backslash more → length next < length (first ∷ more)
      behind [] e = absurd cc
      behind (second ∷ more) e = let same : next ≡ more = cc in omega (arith, ap length same)

  pub escape_shorter : (byte : ℕ) (next : List ℕ) → escape byte next ≡ ending_at after → length next < length rest
  escape_shorter byte next is =
      omega (arith, ending_shorter after byte next is, length-drop (prefix_len is_plain rest) rest)

-- ---- values are read again

character_again : (c : Character) (rest : List ℕ) → is_character c ≡ true
    → value_at (character_source c ++ rest) ≡ put (character_text c) (value_at rest)
character_again (plain byte) rest h = value_plain byte rest h
character_again (escaped byte) rest h =
    let text : escaped_text byte ≡ byte ∷ [] = rw h refl in
    value_escape byte rest ∙ ap (λ (t : List ℕ). put t (value_at rest)) text
character_again (backslash byte) rest h =
    let other = not-true (is_special byte) h in
    let text : escaped_text byte ≡ 92 ∷ byte ∷ [] = rw other refl in
    value_escape byte rest ∙ ap (λ (t : List ℕ). put t (value_at rest)) text

pub value_again : (value : List Character) (rest : List ℕ) → list_all is_character value ≡ true
    → value_at (value_source value ++ rest) ≡ Some (flat_map character_text value, rest)
value_again [] rest h = value_quote rest
value_again (c ∷ value) rest h =
    let parts = and_parts (is_character c) (list_all is_character value) h in
    ap value_at (ap (λ (t : List ℕ). t ++ rest) (append_assoc (character_source c) (flat_map character_source value)
    (34 ∷ []))
    ∙ append_assoc (character_source c) (value_source value) rest)
    ∙ character_again c (value_source value ++ rest) parts.0
    ∙ ap (put (character_text c)) (value_again value rest parts.1)

-- ---- and are spelled as they are read

abbrev found_of : List ℕ → List ℕ → Found
found_of text rest = Some (text, rest)

pub record SpellsValue (bytes text rest : List ℕ) : Type 0 where
  pub value : List Character
  pub is_value : IsTrue (list_all is_character value)
  pub spelled : bytes ≡ value_source value ++ rest
  pub text_is : text ≡ flat_map character_text value

abbrev pub pair : List ℕ → List ℕ → List ℕ × List ℕ
pair a b = (a, b)

put_some : (front : List ℕ) (o : Found) (text rest : List ℕ) → put front o ≡ found_of text rest
    → (back : List ℕ) × (o ≡ found_of back rest) × (text ≡ front ++ back)
put_some front None text rest e = absurd cc
put_some front (Some x) text rest e =
    let same = some_is (pair (front ++ x.0) x.1) (pair text rest) e in
    let t = ap (λ (p : List ℕ × List ℕ). p.0) same in
    let r = ap (λ (p : List ℕ × List ℕ). p.1) same in
    (x.0, ap (λ (l : List ℕ). found_of x.0 l) r, sym t)

one_more : (c : Character) (bytes text rest : List ℕ) → is_character c ≡ true → SpellsValue bytes text rest
    → SpellsValue (character_source c ++ bytes) (character_text c ++ text) rest
one_more c bytes text rest is h = record {
  value = c ∷ h.value;
  is_value = and_from _ _ is h.is_value;
  spelled = ap (λ (t : List ℕ). character_source c ++ t) h.spelled
      ∙ sym (append_assoc (character_source c) (value_source h.value) rest)
      ∙ ap (λ (t : List ℕ). t ++ rest) (sym (append_assoc (character_source c) (flat_map character_source h.value)
      (34 ∷ [])));
  text_is = ap (λ (t : List ℕ). character_text c ++ t) h.text_is;
}

-- a byte after a backslash, as the character that both are
abbrev escape_of : ℕ → Bool → Character
escape_of byte true = escaped byte
escape_of byte false = backslash byte

escape_is : (byte : ℕ) (b : Bool) → is_special byte ≡ b → (is_character (escape_of byte b) ≡ true)
    × (character_source (escape_of byte b) ≡ 92 ∷ byte ∷ []) × (character_text (escape_of byte b) ≡ escaped_text byte)
escape_is byte true h = (h, refl, rw h refl)
escape_is byte false h = (not_from_false _ h, refl, rw h refl)

plain_is : (byte : ℕ) → byte == 34 ≡ false → byte == 92 ≡ false → byte == 93 ≡ false → is_plain byte ≡ true
plain_is byte q b c =
    not_from_false _ (or_from ((byte == 34) || (byte == 92)) (byte == 93) (or_from (byte == 34) (byte == 92) q b) c)

-- after a backslash, and not
takes : (behind : Bool) (bytes text rest : List ℕ) → value_from behind bytes ≡ found_of text rest
    → SpellsValue (cond behind (92 ∷ bytes) bytes) text rest
unfolding value_from
takes true [] text rest e = absurd cc
takes false [] text rest e = absurd cc
takes true (byte ∷ bytes) text rest e =
    let found = put_some (escaped_text byte) (value_from false bytes) text rest e in
    let later = takes false bytes found.0 rest found.1 in
    let escape = escape_is byte (is_special byte) refl in
    let whole = one_more (escape_of byte (is_special byte)) bytes found.0 rest escape.0 later in
    subst (λ (t : List ℕ). SpellsValue t text rest) (ap (λ (t : List ℕ). t ++ bytes) escape.1)
    (subst (λ (t : List ℕ). SpellsValue (character_source (escape_of byte (is_special byte)) ++ bytes) t rest)
    (ap (λ (t : List ℕ). t ++ found.0) escape.2 ∙ sym found.2) whole)
takes false (byte ∷ bytes) text rest e =
    by_byte (cases_Bool (byte == 34)) (cases_Bool (byte == 93)) (cases_Bool (byte == 92)) e
    (takes true bytes text rest) (takes false bytes)
  where
    nothing_read : byte ≡ 34 → bytes ≡ rest → [] ≡ text → SpellsValue (byte ∷ bytes) text rest
    nothing_read q same none = record {
      value = [];
      is_value = refl;
      spelled = ap (λ (c : ℕ). c ∷ bytes) q ∙ ap (λ (t : List ℕ). 34 ∷ t) same;
      text_is = sym none;
    }

    by_byte : (byte == 34 ≡ true) ⊎ (byte == 34 ≡ false) → (byte == 93 ≡ true) ⊎ (byte == 93 ≡ false)
        → (byte == 92 ≡ true) ⊎ (byte == 92 ≡ false) → value_from false (byte ∷ bytes) ≡ found_of text rest
        → (value_from true bytes ≡ found_of text rest → SpellsValue (92 ∷ bytes) text rest)
        → ((t r : List ℕ) → value_from false bytes ≡ found_of t r → SpellsValue bytes t r)
        → SpellsValue (byte ∷ bytes) text rest
    by_byte (inl q) c b is behind_it later =
        let same = some_is (pair [] bytes) (pair text rest) (rw q at is) in
        nothing_read (eqb-true byte 34 q) (ap (λ (p : List ℕ × List ℕ). p.1) same) (ap (λ (p : List ℕ
        × List ℕ). p.0) same)
    by_byte (inr q) (inl c) b is behind_it later = let wrong = rw (q, c) at is in absurd cc
    by_byte (inr q) (inr c) (inl b) is behind_it later =
        subst (λ (x : ℕ). SpellsValue (x ∷ bytes) text rest) (sym (eqb-true byte 92 b)) (behind_it (rw (q, c, b) at is))
    by_byte (inr q) (inr c) (inr b) is behind_it later =
        let found = put_some (byte ∷ []) (value_from false bytes) text rest (rw (q, c, b) at is) in
        subst (λ (t : List ℕ). SpellsValue (byte ∷ bytes) t rest) (sym found.2)
        (one_more (plain byte) bytes found.0 rest (plain_is byte q b c) (later found.0 rest found.1))

pub value_takes : (bytes text rest : List ℕ) → value_at bytes ≡ Some (text, rest) → SpellsValue bytes text rest
value_takes bytes text rest e = takes false bytes text rest e
