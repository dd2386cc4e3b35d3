-- What is spelled is read: tokens.
use Rattle.std.proofs.Common.{◌≡◌, ℕ, ◌+◌, Bool, true, false, cond, eqb, ◌||◌, List, [], ◌∷◌, ◌++◌, length, Option}
use Rattle.std.proofs.Common.{Some, None, Result, Ok, refl, sym, ap, ◌∙◌, ◌⊎◌, inl, inr, append_assoc, arith}
use Rattle.std.specs.Prelude.{flat_map}
use Rattle.std.specs.List.{prefix_len, list_all}
use Rattle.std.specs.Char.{is_ascii_digit, is_ascii_hexdigit}
use Rattle.std.proofs.lemmas.Bool.{and_parts, and_cases, or_cases, leb-true, eqb-true, cond-false, false_from_ne_true}
use Rattle.std.proofs.lemmas.List.{drop_at}
use Rattle.log_model.specs.Token.{Character, plain, short, unicode, is_short, is_character, are_characters, source}
use Rattle.log_model.specs.Token.{are_digits, is_whole, is_fraction, is_sign, is_signed, is_e, is_exponent, IsNumber}
use Rattle.log_model.specs.Token.{Scalar, number, literal, Literal, truth, falsehood, null, scalar_source}
use Rattle.jsonline_in.specs.Reading.{past, Fault, ◌>>=◌, gives, fails, chosen, chosen_by, expect, unicode_at}
use Rattle.jsonline_in.specs.Reading.{short_at, escape_at, character_at, characters_at, digits_end, whole_end}
use Rattle.jsonline_in.specs.Reading.{fraction_end, signed_end, exponent_end, unsigned_end, number_end, number_at}
use Rattle.jsonline_in.specs.Reading.{word_end, literal_of, made_by, bare_at}
use Rattle.jsonline_in.proofs.Good.{past_again}
use Rattle.jsonline_in.proofs.Steps.{run_again, one_again, digits_or}
use Rattle.jsonline_in.proofs.Numbers.{prefix_is}
use Rattle.jsonline_in.proofs.Decoding.{done, one_plain, turned, goes_on}

-- ---- one byte that is not the one that is looked for

pub past_other : (byte first : ℕ) (rest : List ℕ) → eqb first byte ≡ false → past byte (first ∷ rest) ≡ None
past_other byte first rest e = ap (λ (t : Bool). cond t (Some rest) None) e

-- a byte that passes a test that another fails is not that one
pub differs : (test : ℕ → Bool) (first byte : ℕ) → test first ≡ true → test byte ≡ false → eqb first byte ≡ false
differs test first byte e f = false_from_ne_true (eqb first byte)
    (λ (s : eqb first byte ≡ true). absurd (let same : test first ≡ test byte = ap test (eqb-true first byte s) in
    cc))

-- ---- characters

short_again : (byte : ℕ) (rest : List ℕ) → is_short byte ≡ true → escape_at (byte ∷ rest) ≡ Ok (short byte, rest)
unfolding escape_at short_at
short_again byte rest e =
    let other = past_other 117 byte rest (differs is_short byte 117 e refl) in
    let one = one_again is_short byte rest e in
    rw (other, one) refl

unicode_again : (a b c d : ℕ) (rest : List ℕ) → is_character (unicode a b c d) ≡ true
    → escape_at (117 ∷ a ∷ b ∷ c ∷ d ∷ rest) ≡ Ok (unicode a b c d, rest)
unfolding escape_at unicode_at
unicode_again a b c d rest e =
    let p = and_parts _ _ e in
    let q = and_parts _ _ p.1 in
    let r = and_parts _ _ q.1 in
    let one = one_again is_ascii_hexdigit a (b ∷ c ∷ d ∷ rest) p.0 in
    let two = one_again is_ascii_hexdigit b (c ∷ d ∷ rest) q.0 in
    let three = one_again is_ascii_hexdigit c (d ∷ rest) r.0 in
    let four = one_again is_ascii_hexdigit d rest r.1 in
    rw (one, two, three, four) refl

abbrev as_some : Result (Character × List ℕ) Fault → Result (Option Character × List ℕ) Fault
as_some r = r >>= λ x. Ok (Some x.0, x.1)

character_again : (character : Character) (rest : List ℕ) → is_character character ≡ true
    → character_at (source character ++ rest) ≡ Ok (Some character, rest)
unfolding character_at
character_again (plain byte) rest e = one_plain byte rest e
character_again (short byte) rest e = ap as_some (short_again byte rest e)
character_again (unicode a b c d) rest e = ap as_some (unicode_again a b c d rest e)

pub characters_again : (characters : List Character) (rest : List ℕ) → are_characters characters ≡ true
    → characters_at ((flat_map source characters ++ 34 ∷ []) ++ rest) ≡ Ok (characters, rest)
unfolding character_at
characters_again [] rest e = turned (34 ∷ rest)
characters_again (character ∷ characters) rest e =
    let p = and_parts (is_character character) (are_characters characters) e in
    let tail = (flat_map source characters ++ 34 ∷ []) ++ rest in
    let regrouped : (flat_map source (character ∷ characters) ++ 34 ∷ []) ++ rest ≡ source character ++ tail
    = ap (λ (t : List ℕ). t ++ rest) (append_assoc (source character) (flat_map source characters) (34 ∷ []))
    ∙ append_assoc (source character) (flat_map source characters ++ 34 ∷ []) rest in
    ap characters_at regrouped ∙ turned (source character ++ tail) ∙ ap goes_on (character_again character tail p.0)
    ∙ ap (λ (r : Result (List Character × List ℕ) Fault). r >>= λ xs. Ok (character ∷ xs.0, xs.1))
    (characters_again characters rest p.1)

-- ---- numbers

-- a byte that goes on with a number
abbrev pub is_numeric : ℕ → Bool
is_numeric byte = is_ascii_digit byte || (eqb byte 46 || is_e byte)

-- nothing follows, or a byte that does not go on with a number
abbrev pub Calm : List ℕ → Type 0
Calm [] = Unit {0}
Calm (byte ∷ rest) = is_numeric byte ≡ false

-- nothing follows, or no digit
abbrev NoDigit : List ℕ → Type 0
NoDigit rest = prefix_len is_ascii_digit rest ≡ 0

calm_digit : (rest : List ℕ) → Calm rest → NoDigit rest
calm_digit [] calm = refl
calm_digit (byte ∷ rest) calm = cond-false (is_ascii_digit byte) (1 + prefix_len is_ascii_digit rest) 0
    (first (is_ascii_digit byte) _ calm)
  where
    first : (a b : Bool) → (a || b) ≡ false → a ≡ false
    first true b e = e
    first false b e = refl

calm_point : (byte : ℕ) → is_numeric byte ≡ true → (rest : List ℕ) → Calm rest → past byte rest ≡ None
calm_point byte is [] calm = refl
calm_point byte is (first ∷ rest) calm = past_other byte first rest
    (false_from_ne_true (eqb first byte) (λ (s : eqb first byte ≡ true). absurd
    (let same : is_numeric first ≡ is_numeric byte = ap is_numeric (eqb-true first byte s) in cc)))

digits_again : (digits rest : List ℕ) → are_digits digits ≡ true → NoDigit rest
    → digits_end (digits ++ rest) ≡ done rest
unfolding digits_end
digits_again [] rest e none = absurd cc
digits_again (digit ∷ digits) rest e none =
    let all = digit ∷ digits in
    let n : prefix_len is_ascii_digit (all ++ rest) ≡ length all = run_again is_ascii_digit all rest e ∙ omega arith in
    let some : eqb (prefix_len is_ascii_digit (all ++ rest)) 0 ≡ false = false_from_ne_true _
    (λ (t : eqb (prefix_len is_ascii_digit (all ++ rest)) 0 ≡ true). absurd
    (omega (arith, n, eqb-true (prefix_len is_ascii_digit (all ++ rest)) 0 t))) in
    ap (digits_or (all ++ rest)) some ∙ ap done (drop_at all rest (prefix_len is_ascii_digit (all ++ rest)) (sym n))

whole_again : (whole rest : List ℕ) → is_whole whole ≡ true → NoDigit rest → whole_end (whole ++ rest) ≡ done rest
unfolding whole_end
whole_again [] rest e none = absurd cc
whole_again (digit ∷ digits) rest e none = by_case (eqb digit 48) refl e
  where
    none_left : (digits : List ℕ) → list_all (λ _. false) digits ≡ true → digits ≡ []
    none_left [] h = refl
    none_left (x ∷ xs) h = absurd cc

    by_case : (b : Bool) → eqb digit 48 ≡ b → cond b (list_all (λ _. false) digits) (are_digits (digit ∷ digits)) ≡
        true → chosen_by (gives tt) digits_end (digit ∷ (digits ++ rest))
        (cond (eqb digit 48) (Some (digits ++ rest)) None) ≡ done rest
    by_case true same h = ap (λ (t : Bool). chosen_by (gives tt) digits_end (digit ∷ (digits ++ rest))
        (cond t (Some (digits ++ rest)) None)) same ∙ ap (λ (t : List ℕ). done (t ++ rest)) (none_left digits h)
    by_case false same h = ap (λ (t : Bool). chosen_by (gives tt) digits_end (digit ∷ (digits ++ rest))
        (cond t (Some (digits ++ rest)) None)) same ∙ digits_again (digit ∷ digits) rest h none

fraction_again : (fraction rest : List ℕ) → is_fraction fraction ≡ true → NoDigit rest → past 46 rest ≡ None
    → fraction_end (fraction ++ rest) ≡ done rest
unfolding fraction_end
fraction_again [] rest e none point = ap (chosen_by digits_end (gives tt) rest) point
fraction_again (point ∷ digits) rest e none other =
    let p = and_parts (eqb point 46) (are_digits digits) e in
    ap (λ (t : Bool). chosen_by digits_end (gives tt) (point ∷ (digits ++ rest))
    (cond t (Some (digits ++ rest)) None)) p.0 ∙ digits_again digits rest p.1 none

signed_again : (signed rest : List ℕ) → is_signed signed ≡ true → NoDigit rest → signed_end (signed ++ rest) ≡ done rest
unfolding signed_end
signed_again [] rest e none = absurd cc
signed_again (sign ∷ digits) rest e none = by_plus (eqb sign 43) refl
  where
    by_minus : eqb sign 43 ≡ false → (b : Bool) → eqb sign 45 ≡ b
        → chosen 45 digits_end digits_end (sign ∷ (digits ++ rest)) ≡ done rest
    by_minus none_plus true is = ap (λ (t : Bool). chosen_by digits_end digits_end (sign ∷ (digits ++ rest))
        (cond t (Some (digits ++ rest)) None)) is ∙ digits_again digits rest
        (let s : is_sign sign ≡ true = rw (none_plus, is) refl in ap
        (λ (t : Bool). cond t (are_digits digits) (are_digits (sign ∷ digits))) (sym s) ∙ e) none
    by_minus none_plus false is = ap (λ (t : Bool). chosen_by digits_end digits_end (sign ∷ (digits ++ rest))
        (cond t (Some (digits ++ rest)) None)) is ∙ digits_again (sign ∷ digits) rest
        (let s : is_sign sign ≡ false = rw (none_plus, is) refl in ap
        (λ (t : Bool). cond t (are_digits digits) (are_digits (sign ∷ digits))) (sym s) ∙ e) none

    by_plus : (b : Bool) → eqb sign 43 ≡ b → chosen 43 digits_end (chosen 45 digits_end digits_end)
        (sign ∷ (digits ++ rest)) ≡ done rest
    by_plus true is = ap (λ (t : Bool). chosen_by digits_end (chosen 45 digits_end digits_end)
        (sign ∷ (digits ++ rest)) (cond t (Some (digits ++ rest)) None)) is
        ∙ digits_again digits rest (let s : is_sign sign ≡ true = rw is refl in ap
        (λ (t : Bool). cond t (are_digits digits) (are_digits (sign ∷ digits))) (sym s) ∙ e) none
    by_plus false is = ap (λ (t : Bool). chosen_by digits_end (chosen 45 digits_end digits_end)
        (sign ∷ (digits ++ rest)) (cond t (Some (digits ++ rest)) None)) is ∙ by_minus is (eqb sign 45) refl

exponent_again : (exponent rest : List ℕ) → is_exponent exponent ≡ true → Calm rest
    → exponent_end (exponent ++ rest) ≡ done rest
unfolding exponent_end
exponent_again [] rest e calm = ap (chosen_by signed_end (chosen 69 signed_end (gives tt)) rest)
    (calm_point 101 refl rest calm) ∙ ap (chosen_by signed_end (gives tt) rest) (calm_point 69 refl rest calm)
exponent_again (letter ∷ signed) rest e calm = by_small (eqb letter 101) refl
  where
    p : (is_e letter ≡ true) × (is_signed signed ≡ true)
    p = and_parts (is_e letter) (is_signed signed) e

    big : (a b : Bool) → (a || b) ≡ true → b ≡ false → a ≡ true
    big true b h k = refl
    big false b h k = absurd cc

    by_small : (b : Bool) → eqb letter 101 ≡ b → chosen 101 signed_end (chosen 69 signed_end (gives tt))
        (letter ∷ (signed ++ rest)) ≡ done rest
    by_small true is = ap (λ (t : Bool). chosen_by signed_end (chosen 69 signed_end (gives tt))
        (letter ∷ (signed ++ rest)) (cond t (Some (signed ++ rest)) None)) is
        ∙ signed_again signed rest p.1 (calm_digit rest calm)
    by_small false is =
        ap (λ (t : Bool). chosen_by signed_end (chosen 69 signed_end (gives tt)) (letter ∷ (signed ++ rest))
        (cond t (Some (signed ++ rest)) None)) is
        ∙ ap (λ (t : Bool). chosen_by signed_end (gives tt) (letter ∷ (signed ++ rest))
        (cond t (Some (signed ++ rest)) None)) (big (eqb letter 69) (eqb letter 101) p.0 is)
        ∙ signed_again signed rest p.1 (calm_digit rest calm)

tail_free : (exponent rest : List ℕ) → is_exponent exponent ≡ true → Calm rest → NoDigit (exponent ++ rest)
    × (past 46 (exponent ++ rest) ≡ None)
tail_free [] rest e calm = (calm_digit rest calm, calm_point 46 refl rest calm)
tail_free (letter ∷ signed) rest e calm =
    let p = and_parts (is_e letter) (is_signed signed) e in (
      cond-false (is_ascii_digit letter) (1 + prefix_len is_ascii_digit (signed ++ rest)) 0 (no_digit letter p.0),
      past_other 46 letter (signed ++ rest) (differs is_e letter 46 p.0 refl),
    )
  where
    no_digit : (letter : ℕ) → is_e letter ≡ true → is_ascii_digit letter ≡ false
    no_digit letter is = false_from_ne_true (is_ascii_digit letter)
        (λ (s : is_ascii_digit letter ≡ true). grind (arith, and_cases, or_cases, leb-true, eqb-true))

fraction_free : (fraction tail : List ℕ) → is_fraction fraction ≡ true → NoDigit tail → NoDigit (fraction ++ tail)
fraction_free [] tail e none = none
fraction_free (point ∷ digits) tail e none =
    let p = and_parts (eqb point 46) (are_digits digits) e in
    let same : point ≡ 46 = eqb-true point 46 p.0 in
    cond-false (is_ascii_digit point) (1 + prefix_len is_ascii_digit (digits ++ tail)) 0 (ap is_ascii_digit same)

pub whole_digit : (digit : ℕ) (digits : List ℕ) → is_whole (digit ∷ digits) ≡ true → is_ascii_digit digit ≡ true
whole_digit digit digits e = by_case (eqb digit 48) refl e
  where
    by_case : (b : Bool) → eqb digit 48 ≡ b → cond b (list_all (λ _. false) digits) (are_digits (digit ∷ digits)) ≡
        true → is_ascii_digit digit ≡ true
    by_case true same h = ap is_ascii_digit (eqb-true digit 48 same)
    by_case false same h = (and_parts (is_ascii_digit digit) (list_all is_ascii_digit digits) h).0

module _ (whole fraction exponent rest : List ℕ) (is_w : is_whole whole ≡ true) (is_f : is_fraction fraction ≡ true)
    (is_x : is_exponent exponent ≡ true) (calm : Calm rest) where
  unsigned_again : unsigned_end (whole ++ (fraction ++ (exponent ++ rest))) ≡ done rest
  unfolding unsigned_end
  unsigned_again =
      let tail = tail_free exponent rest is_x calm in
      let w = whole_again whole (fraction ++ (exponent ++ rest)) is_w
      (fraction_free fraction (exponent ++ rest) is_f tail.0) in
      let f = fraction_again fraction (exponent ++ rest) is_f tail.0 tail.1 in
      let x = exponent_again exponent rest is_x calm in
      rw (w, f, x) refl

  no_minus : past 45 (whole ++ (fraction ++ (exponent ++ rest))) ≡ None
  no_minus = by_whole whole is_w
    where
      by_whole : (whole : List ℕ) → is_whole whole ≡ true → past 45 (whole ++ (fraction ++ (exponent ++ rest))) ≡ None
      by_whole [] e = absurd cc
      by_whole (digit ∷ digits) e = past_other 45 digit (digits ++ (fraction ++ (exponent ++ rest)))
          (differs is_ascii_digit digit 45 (whole_digit digit digits e) refl)

regrouped : (whole fraction exponent rest : List ℕ) → (whole ++ (fraction ++ exponent)) ++ rest ≡ whole
    ++ (fraction ++ (exponent ++ rest))
regrouped whole fraction exponent rest = append_assoc whole (fraction ++ exponent) rest
    ∙ ap (λ (t : List ℕ). whole ++ t) (append_assoc fraction exponent rest)

number_ends : (token rest : List ℕ) → IsNumber token → Calm rest → number_end (token ++ rest) ≡ done rest
unfolding number_end
number_ends token rest n calm = by_sign n.minus n.minus_is n.spelled
  where
    by_sign : (minus : List ℕ) → (minus ≡ []) ⊎ (minus ≡ 45 ∷ []) → token ≡ minus
        ++ (n.whole ++ (n.fraction ++ n.exponent)) → chosen 45 unsigned_end unsigned_end (token ++ rest) ≡ done rest
    by_sign minus (inl none) e =
        let text : token ++ rest ≡ n.whole ++ (n.fraction ++ (n.exponent ++ rest)) = ap (λ (t : List ℕ). t ++ rest)
        (e ∙ ap (λ (t : List ℕ). t ++ (n.whole ++ (n.fraction ++ n.exponent))) none)
        ∙ regrouped n.whole n.fraction n.exponent rest in
        let un = unsigned_again n.whole n.fraction n.exponent rest n.whole_is n.fraction_is n.exponent_is calm in
        ap (λ (t : List ℕ). chosen 45 unsigned_end unsigned_end t) text
        ∙ ap (chosen_by unsigned_end unsigned_end (n.whole ++ (n.fraction ++ (n.exponent ++ rest))))
        (no_minus n.whole n.fraction n.exponent rest n.whole_is n.fraction_is n.exponent_is calm) ∙ un
    by_sign minus (inr one) e =
        let text : token ++ rest ≡ 45 ∷ (n.whole ++ (n.fraction ++ (n.exponent ++ rest))) = ap
        (λ (t : List ℕ). t ++ rest) (e ∙ ap (λ (t : List ℕ). t ++ (n.whole ++ (n.fraction ++ n.exponent))) one)
        ∙ ap (λ (t : List ℕ). 45 ∷ t) (regrouped n.whole n.fraction n.exponent rest) in
        ap (λ (t : List ℕ). chosen 45 unsigned_end unsigned_end t) text
        ∙ unsigned_again n.whole n.fraction n.exponent rest n.whole_is n.fraction_is n.exponent_is calm

number_again : (token rest : List ℕ) → IsNumber token → Calm rest → number_at (token ++ rest) ≡ Ok (token, rest)
unfolding number_at
number_again token rest n calm =
    let e = number_ends token rest n calm in
    let f = prefix_is token rest in
    rw (e, f) refl

-- ---- words and scalars

expect_again : (byte : ℕ) (rest : List ℕ) → expect byte (byte ∷ rest) ≡ done rest
unfolding expect
expect_again byte rest = ap (chosen_by (gives tt) fails (byte ∷ rest)) (past_again byte rest)

pub expects : (byte : ℕ) (rest : List ℕ) → expect byte (byte ∷ rest) ≡ done rest
expects byte rest = expect_again byte rest

word_again : (word rest : List ℕ) → word_end word (word ++ rest) ≡ done rest
word_again [] rest = refl
word_again (letter ∷ word) rest = ap (λ (r : Result (Unit {0} × List ℕ) Fault). r >>= λ x. word_end word x.1)
    (expect_again letter (word ++ rest)) ∙ word_again word rest

-- a byte that a number begins with
abbrev pub begins_number : ℕ → Bool
begins_number byte = is_ascii_digit byte || eqb byte 45

pub record BeginsNumber (text : List ℕ) : Type 0 where
  pub byte : ℕ
  pub rest : List ℕ
  pub is : begins_number byte ≡ true
  pub spelled : text ≡ byte ∷ rest

pub number_begins : (token : List ℕ) → IsNumber token → BeginsNumber token
number_begins token n = by_sign n.minus n.minus_is n.spelled
  where
    by_whole : (whole : List ℕ) → is_whole whole ≡ true → token ≡ whole ++ (n.fraction ++ n.exponent)
        → BeginsNumber token
    by_whole [] is e = absurd cc
    by_whole (digit ∷ digits) is e = record {
      byte = digit;
      rest = digits
          ++ (n.fraction ++ n.exponent);
      is = ap (λ (t : Bool). t || eqb digit 45) (whole_digit digit digits is);
      spelled = e;
    }

    by_sign : (minus : List ℕ) → (minus ≡ []) ⊎ (minus ≡ 45 ∷ []) → token ≡ minus
        ++ (n.whole ++ (n.fraction ++ n.exponent)) → BeginsNumber token
    by_sign minus (inl none) e = by_whole n.whole n.whole_is
        (e ∙ ap (λ (t : List ℕ). t ++ (n.whole ++ (n.fraction ++ n.exponent))) none)
    by_sign minus (inr one) e = record {
      byte = 45;
      rest = n.whole
          ++ (n.fraction ++ n.exponent);
      is = refl;
      spelled = e
          ∙ ap (λ (t : List ℕ). t ++ (n.whole ++ (n.fraction ++ n.exponent))) one;
    }

-- what a number is not
pub not_number : (byte : ℕ) (token rest : List ℕ) → BeginsNumber token → begins_number byte ≡ false
    → past byte (token ++ rest) ≡ None
not_number byte token rest b none = ap (λ (t : List ℕ). past byte (t ++ rest)) b.spelled
    ∙ past_other byte b.byte (b.rest ++ rest) (differs begins_number b.byte byte b.is none)

abbrev as_number : Result (List ℕ × List ℕ) Fault → Result (Scalar × List ℕ) Fault
as_number r = r >>= λ x. Ok (number x.0, x.1)

pub number_bare : (token rest : List ℕ) → IsNumber token → Calm rest → bare_at (token ++ rest) ≡ Ok (number token, rest)
unfolding bare_at
number_bare token rest n calm =
    let b = number_begins token n in
    let text = token ++ rest in
    ap (chosen_by (literal_of truth (word_end (114 ∷ 117 ∷ 101 ∷ [])))
    (chosen 102 (literal_of falsehood (word_end (97 ∷ 108 ∷ 115 ∷ 101 ∷ [])))
    (chosen 110 (literal_of null (word_end (117 ∷ 108 ∷ 108 ∷ []))) (made_by number number_at))) text)
    (not_number 116 token rest b refl)
    ∙ ap (chosen_by (literal_of falsehood (word_end (97 ∷ 108 ∷ 115 ∷ 101 ∷ [])))
    (chosen 110 (literal_of null (word_end (117 ∷ 108 ∷ 108 ∷ []))) (made_by number number_at)) text)
    (not_number 102 token rest b refl)
    ∙ ap (chosen_by (literal_of null (word_end (117 ∷ 108 ∷ 108 ∷ []))) (made_by number number_at) text)
    (not_number 110 token rest b refl)
    ∙ ap as_number (number_again token rest n calm)

abbrev as_literal : Literal → Result (Unit {0} × List ℕ) Fault → Result (Scalar × List ℕ) Fault
as_literal word r = r >>= λ x. Ok (literal word, x.1)

pub literal_bare : (word : Literal) (rest : List ℕ) → bare_at (scalar_source (literal word) ++ rest) ≡ Ok
    (literal word, rest)
unfolding bare_at
literal_bare truth rest = ap (as_literal truth) (word_again (114 ∷ 117 ∷ 101 ∷ []) rest)
literal_bare falsehood rest = ap (as_literal falsehood) (word_again (97 ∷ 108 ∷ 115 ∷ 101 ∷ []) rest)
literal_bare null rest = ap (as_literal null) (word_again (117 ∷ 108 ∷ 108 ∷ []) rest)
