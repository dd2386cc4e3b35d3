-- Characters and strings, as readers take them.
use Rattle.std.proofs.Common.{◌≡◌, ℕ, ◌<◌, Bool, true, List, [], ◌∷◌, ◌++◌, length, Option, Some, None, Ok, refl, sym}
use Rattle.std.proofs.Common.{ap, subst, ◌∙◌, append_assoc, arith}
use Rattle.std.specs.Prelude.{flat_map}
use Rattle.std.specs.Char.{is_ascii_hexdigit}
use Rattle.std.proofs.lemmas.Bool.{and_from}
use Rattle.std.proofs.lemmas.List.{length-append}
use Rattle.log_model.specs.Json.{is_plain}
use Rattle.log_model.specs.Token.{Character, plain, short, unicode, is_short, is_character, are_characters, source}
use Rattle.jsonline_in.specs.Reading.{Reader, ◌>>=◌, gives, chosen, one_of, unicode_at, short_at, escape_at, plain_at}
use Rattle.jsonline_in.specs.Reading.{some_of, character_at, put_character, characters_at}
use Rattle.jsonline_in.proofs.Good.{Reach, shallow, any, Good, good_both, good_gives, good_made, good_behind}
use Rattle.jsonline_in.proofs.Good.{good_chosen, reads_of}
use Rattle.jsonline_in.proofs.Steps.{IsOne, good_one_of}
use Rattle.jsonline_in.proofs.Turns.{Shrinks, good_turns}

-- ---- characters

abbrev is_hex : ℕ → Bool
is_hex = is_ascii_hexdigit

abbrev hex : Reader ℕ
hex = one_of is_ascii_hexdigit

good_hex : Good (λ reach. IsOne is_hex) hex
good_hex = good_one_of is_hex 48 refl

-- the digits that are left, with their character
pub record IsFourth (a b c : ℕ) (character : Character) (text : List ℕ) : Type 0 where
  pub d : ℕ
  pub is : is_hex d ≡ true
  pub made : character ≡ unicode a b c d
  pub spelled : text ≡ d ∷ []

pub record IsThird (a b : ℕ) (character : Character) (text : List ℕ) : Type 0 where
  pub c : ℕ
  pub tail : List ℕ
  pub is : is_hex c ≡ true
  pub more : IsFourth a b c character tail
  pub spelled : text ≡ c ∷ tail

pub record IsSecond (a : ℕ) (character : Character) (text : List ℕ) : Type 0 where
  pub b : ℕ
  pub tail : List ℕ
  pub is : is_hex b ≡ true
  pub more : IsThird a b character tail
  pub spelled : text ≡ b ∷ tail

-- the character, after these bytes of its own
pub record IsBehind (prefix : List ℕ) (character : Character) (text : List ℕ) : Type 0 where
  pub is : is_character character ≡ true
  pub spelled : prefix ++ text ≡ source character

cons_of : (test : ℕ → Bool) (x : ℕ) (a b : List ℕ) → IsOne test x a → a ++ b ≡ x ∷ b
cons_of test x a b p = ap (λ (t : List ℕ). t ++ b) p.spelled

fourth_zero : (a b c : ℕ) → IsFourth a b c (unicode a b c 48) (48 ∷ [])
fourth_zero a b c = record { d = 48; is = refl; made = refl; spelled = refl }

third_zero : (a b : ℕ) → IsThird a b (unicode a b 48 48) (48 ∷ 48 ∷ [])
third_zero a b = record { c = 48; tail = 48 ∷ []; is = refl; more = fourth_zero a b 48; spelled = refl }

second_zero : (a : ℕ) → IsSecond a (unicode a 48 48 48) (48 ∷ 48 ∷ 48 ∷ [])
second_zero a = record { b = 48; tail = 48 ∷ 48 ∷ []; is = refl; more = third_zero a 48; spelled = refl }

good_fourth : (a b c : ℕ) → Good (λ reach. IsFourth a b c) (λ bytes. hex bytes >>= λ d. Ok (unicode a b c d.0, d.1))
good_fourth a b c = good_made (λ reach. IsOne is_hex) (λ reach. IsFourth a b c) (unicode a b c) hex
    (λ reach d text p. record { d = d; is = p.passes; made = refl; spelled = p.spelled }) good_hex

abbrev fourth : ℕ → ℕ → ℕ → Reader Character
fourth a b c bytes = hex bytes >>= λ d. Ok (unicode a b c d.0, d.1)

good_third : (a b : ℕ) → Good (λ reach. IsThird a b) (λ bytes. hex bytes >>= λ c. fourth a b c.0 c.1)
good_third a b = good_both (λ reach. IsOne is_hex) (λ c reach. IsFourth a b c) (λ reach. IsThird a b)
    (record {
      join = λ reach c x y b' p q. record {
        c = c;
        tail = b';
        is = p.passes;
        more = q;
        spelled = cons_of is_hex c x b'
            p;
      };
      widen = λ x t p. p;
      some = λ reach c x p. (unicode a b c 48, 48 ∷ [], fourth_zero a b c);
    }) hex (λ c. fourth a b c) good_hex (λ c. good_fourth a b c)

abbrev third : ℕ → ℕ → Reader Character
third a b bytes = hex bytes >>= λ c. fourth a b c.0 c.1

good_second : (a : ℕ) → Good (λ reach. IsSecond a) (λ bytes. hex bytes >>= λ b. third a b.0 b.1)
good_second a = good_both (λ reach. IsOne is_hex) (λ b reach. IsThird a b) (λ reach. IsSecond a)
    (record {
      join = λ reach b x y b' p q. record {
        b = b;
        tail = b';
        is = p.passes;
        more = q;
        spelled = cons_of is_hex b x b'
            p;
      };
      widen = λ x t p. p;
      some = λ reach b x p. (unicode a b 48 48, 48 ∷ 48 ∷ [], third_zero a b);
    }) hex (λ b. third a b) good_hex (λ b. good_third a b)

abbrev second : ℕ → Reader Character
second a bytes = hex bytes >>= λ b. third a b.0 b.1

unicode_of : (a : ℕ) (text tail : List ℕ) (character : Character) → is_hex a ≡ true → IsSecond a character tail
    → text ≡ a ∷ tail → IsBehind (92 ∷ 117 ∷ []) character text
unicode_of a text tail character is s e =
    let t = s.more in
    let f = t.more in
    record {
      is = ap is_character f.made ∙ and_from _ _ is (and_from _ _ s.is (and_from _ _ t.is f.is));
      spelled = ap (λ (x : List ℕ). 92 ∷ 117 ∷ x) (e ∙ ap (λ (x : List ℕ). a ∷ x)
          (s.spelled ∙ ap (λ (x : List ℕ). s.b ∷ x) (t.spelled ∙ ap (λ (x : List ℕ). t.c ∷ x) f.spelled)))
          ∙ ap source (sym f.made);
    }

good_unicode : Good (λ reach. IsBehind (92 ∷ 117 ∷ [])) unicode_at
unfolding unicode_at
good_unicode = good_both (λ reach. IsOne is_hex) (λ a reach. IsSecond a) (λ reach. IsBehind (92 ∷ 117 ∷ []))
    (record {
      join = λ reach a x y b p q. unicode_of a (x ++ b) b y p.passes q (cons_of is_hex a x b p);
      widen = λ x t p. p;
      some = λ reach a x p. (unicode a 48 48 48, 48 ∷ 48 ∷ 48 ∷ [], second_zero a);
    }) hex (λ a. second a) good_hex (λ a. good_second a)

good_short : Good (λ reach. IsBehind (92 ∷ [])) short_at
unfolding short_at
good_short = good_made (λ reach. IsOne is_short) (λ reach. IsBehind (92 ∷ [])) short (one_of is_short)
    (λ reach b text p. record { is = p.passes; spelled = ap (λ (x : List ℕ). 92 ∷ x) p.spelled })
    (good_one_of is_short 34 refl)

pub good_escape : Good (λ reach. IsBehind (92 ∷ [])) escape_at
unfolding escape_at
good_escape = good_chosen 117 (λ reach. IsBehind (92 ∷ [])) unicode_at short_at
    (good_behind 117 (λ reach. IsBehind (92 ∷ 117 ∷ [])) (λ reach. IsBehind (92 ∷ [])) unicode_at
    (λ reach x text p. record { is = p.is; spelled = p.spelled }) (unicode 48 48 48 48) (48 ∷ 48 ∷ 48 ∷ 48 ∷ [])
    (record { is = refl; spelled = refl }) good_unicode)
    (λ bytes none. good_short bytes)

good_plain : Good (λ reach. IsBehind []) plain_at
unfolding plain_at
good_plain = good_made (λ reach. IsOne is_plain) (λ reach. IsBehind []) plain (one_of is_plain)
    (λ reach b text p. record { is = p.passes; spelled = p.spelled }) (good_one_of is_plain 32 refl)

-- a character, or the end of the string
abbrev pub IsTurn : Reach → Option Character → List ℕ → Type 0
IsTurn reach None text = text ≡ 34 ∷ []
IsTurn reach (Some character) text = IsBehind [] character text

good_solid : Good (λ reach. IsBehind []) (chosen 92 escape_at plain_at)
good_solid = good_chosen 92 (λ reach. IsBehind []) escape_at plain_at
    (good_behind 92 (λ reach. IsBehind (92 ∷ [])) (λ reach. IsBehind []) escape_at
    (λ reach x text p. record { is = p.is; spelled = p.spelled }) (short 34) (34 ∷ [])
    (record { is = refl; spelled = refl }) good_escape)
    (λ bytes none. good_plain bytes)

pub good_character : Good IsTurn character_at
unfolding character_at
good_character = good_chosen 34 IsTurn (gives None) (some_of (chosen 92 escape_at plain_at))
    (good_behind 34 (λ reach x text. (x ≡ None) × (text ≡ [])) IsTurn (gives None)
    (λ reach x text p. subst (λ (o : Option Character). IsTurn reach o (34 ∷ text)) (sym p.0)
    (ap (λ (t : List ℕ). 34 ∷ t) p.1)) None [] (refl, refl)
    (good_gives (λ reach x text. (x ≡ None) × (text ≡ [])) None (refl, refl)))
    (λ bytes none. good_made (λ reach. IsBehind []) IsTurn Some (chosen 92 escape_at plain_at) (λ reach x text p. p)
    good_solid bytes)

-- ---- strings

source_long : (character : Character) → 0 < length (source character)
source_long (plain byte) = omega arith
source_long (short byte) = omega arith
source_long (unicode a b c d) = omega arith

pub character_shrinks : Shrinks put_character [] character_at
character_shrinks bytes x rest e =
    let r = reads_of IsTurn character_at good_character bytes (Some x) rest e in
    omega (arith, ap length r.parts, length-append r.text rest, ap length r.inside.spelled, source_long x)

-- after the opening quotation mark
pub record IsTail (characters : List Character) (text : List ℕ) : Type 0 where
  pub are : are_characters characters ≡ true
  pub spelled : text ≡ flat_map source characters ++ 34 ∷ []

one_more : (x : Character) (a : List ℕ) (xs : List Character) (b : List ℕ) → IsBehind [] x a → IsTail xs b
    → IsTail (x ∷ xs) (a ++ b)
one_more x a xs b p q = record {
  are = and_from _ _ p.is q.are;
  spelled = ap (λ (t : List ℕ). t ++ b) p.spelled ∙ ap (λ (t : List ℕ). source x ++ t) q.spelled
      ∙ sym (append_assoc (source x) (flat_map source xs) (34 ∷ []));
}

pub good_characters : Good (λ reach. IsTail) characters_at
unfolding characters_at
good_characters = good_turns put_character [] character_at character_shrinks IsTurn (λ reach. IsTail)
    (λ reach text e. record { are = refl; spelled = e })
    (λ reach x a xs b p q. one_more x a xs b p q)
    (λ o a p. widen o a p)
    (λ reach. ([], 34 ∷ [], record { are = refl; spelled = refl }))
    good_character
  where
    widen : (o : Option Character) (a : List ℕ) → IsTurn shallow o a → IsTurn any o a
    widen None a p = p
    widen (Some x) a p = p
