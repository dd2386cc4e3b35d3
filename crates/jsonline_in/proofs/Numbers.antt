-- Numbers, as readers take them.
use Rattle.std.proofs.Common.{◌≡◌, ℕ, ◌-◌, Bool, true, false, cond, eqb, List, [], ◌∷◌, ◌++◌, length, Some, None}
use Rattle.std.proofs.Common.{Result, Ok, Err, refl, sym, ap, subst, ◌∙◌, ◌⊎◌, inl, inr, arith}
use Rattle.std.specs.Char.{is_ascii_digit}
use Rattle.std.specs.List.{list_all}
use Rattle.std.proofs.lemmas.Bool.{and_parts, and_cases, or_cases, leb-true, eqb-true, cond-false, false_from_ne_true}
use Rattle.std.proofs.lemmas.List.{length-append, take_at}
use Rattle.log_model.specs.Token.{are_digits, is_whole, is_fraction, is_sign, is_signed, is_exponent, IsNumber}
use Rattle.jsonline_in.specs.Reading.{past, Fault, deep, stuck, ◌>>=◌, gives, chosen, behind, prefix_of, digits_end}
use Rattle.jsonline_in.specs.Reading.{whole_end, fraction_end, signed_end, exponent_end, unsigned_end, number_end}
use Rattle.jsonline_in.specs.Reading.{number_at}
use Rattle.jsonline_in.proofs.Good.{Reach, GoodAt, Good, good_both, good_gives, good_behind, good_chosen, good_wider}
use Rattle.jsonline_in.proofs.Steps.{good_digits_at, good_digits}

-- ---- what digits are

pub digit_no_sign : (byte : ℕ) → is_ascii_digit byte ≡ true → is_sign byte ≡ false
digit_no_sign byte e = false_from_ne_true (is_sign byte)
    (λ (s : is_sign byte ≡ true). grind (arith, and_cases, or_cases, leb-true, eqb-true))

digits_are_signed : (text : List ℕ) → are_digits text ≡ true → is_signed text ≡ true
digits_are_signed [] e = absurd cc
digits_are_signed (digit ∷ digits) e = cond-false (is_sign digit) (are_digits digits) (are_digits (digit ∷ digits))
    (digit_no_sign digit (and_parts (is_ascii_digit digit) (list_all is_ascii_digit digits) e).0) ∙ e

digits_are_whole : (bytes : List ℕ) → past 48 bytes ≡ None → (text rest : List ℕ) → bytes ≡ text ++ rest
    → are_digits text ≡ true → is_whole text ≡ true
digits_are_whole bytes none [] rest parts e = absurd cc
digits_are_whole bytes none (digit ∷ digits) rest parts e = by_case (eqb digit 48) refl
  where
    by_case : (b : Bool) → eqb digit 48 ≡ b → cond b (list_all (λ _. false) digits) (are_digits (digit ∷ digits)) ≡ true
    by_case false same = e
    by_case true same = absurd (let here : past 48 bytes ≡ Some (digits ++ rest) = ap (past 48) parts
        ∙ ap (λ (t : Bool). cond t (Some (digits ++ rest)) None) same in cc)

-- ---- the parts of a number

good_whole : Good (λ reach x text. is_whole text ≡ true) whole_end
unfolding whole_end
good_whole = good_chosen 48 (λ reach x text. is_whole text ≡ true) (gives tt) digits_end
    (good_behind 48 (λ reach x text. text ≡ []) (λ reach x text. is_whole text ≡ true) (gives tt)
    (λ reach x text e. ap (λ (t : List ℕ). is_whole (48 ∷ t)) e) tt [] refl
    (good_gives (λ reach x text. text ≡ []) tt refl))
    (λ bytes none. good_digits_at (λ text. is_whole text ≡ true) bytes (digits_are_whole bytes none) refl)

good_fraction : Good (λ reach x text. is_fraction text ≡ true) fraction_end
unfolding fraction_end
good_fraction = good_chosen 46 (λ reach x text. is_fraction text ≡ true) digits_end (gives tt)
    (good_behind 46 (λ reach x text. are_digits text ≡ true) (λ reach x text. is_fraction text ≡ true) digits_end
    (λ reach x text e. e) tt (48 ∷ []) refl (good_digits (λ text. are_digits text ≡ true) (λ text e. e)))
    (λ bytes none. good_gives (λ reach x text. is_fraction text ≡ true) tt refl bytes)

-- after a sign
good_sign : (sign : ℕ) → is_sign sign ≡ true → Good (λ reach x text. is_signed text ≡ true) (behind sign digits_end)
good_sign sign is = good_behind sign (λ reach x text. are_digits text ≡ true) (λ reach x text. is_signed text ≡ true)
    digits_end
    (λ reach x text e. ap (λ (b : Bool). cond b (are_digits text) (are_digits (sign ∷ text))) is ∙ e) tt (48 ∷ [])
    refl (good_digits (λ text. are_digits text ≡ true) (λ text e. e))

good_signed : Good (λ reach x text. is_signed text ≡ true) signed_end
unfolding signed_end
good_signed = good_chosen 43 (λ reach x text. is_signed text ≡ true) digits_end (chosen 45 digits_end digits_end)
    (good_sign 43 refl)
    (λ bytes none. good_chosen 45 (λ reach x text. is_signed text ≡ true) digits_end digits_end (good_sign 45 refl)
    (λ bytes none. good_digits (λ text. is_signed text ≡ true) digits_are_signed bytes) bytes)

good_exponent : Good (λ reach x text. is_exponent text ≡ true) exponent_end
unfolding exponent_end
good_exponent = good_chosen 101 (λ reach x text. is_exponent text ≡ true) signed_end (chosen 69 signed_end (gives tt))
    (good_behind 101 (λ reach x text. is_signed text ≡ true) (λ reach x text. is_exponent text ≡ true) signed_end
    (λ reach x text e. e) tt (48 ∷ []) refl good_signed)
    (λ bytes none. good_chosen 69 (λ reach x text. is_exponent text ≡ true) signed_end (gives tt)
    (good_behind 69 (λ reach x text. is_signed text ≡ true) (λ reach x text. is_exponent text ≡ true) signed_end
    (λ reach x text e. e) tt (48 ∷ []) refl good_signed)
    (λ bytes none. good_gives (λ reach x text. is_exponent text ≡ true) tt refl bytes) bytes)

-- ---- the number

pub record HasTail (text : List ℕ) : Type 0 where
  pub fraction : List ℕ
  pub exponent : List ℕ
  pub fraction_is : is_fraction fraction ≡ true
  pub exponent_is : is_exponent exponent ≡ true
  pub spelled : text ≡ fraction ++ exponent

pub record IsUnsigned (text : List ℕ) : Type 0 where
  pub whole : List ℕ
  pub tail : List ℕ
  pub whole_is : is_whole whole ≡ true
  pub has_tail : HasTail tail
  pub spelled : text ≡ whole ++ tail

good_tail : Good (λ reach x text. HasTail text) (λ bytes. fraction_end bytes >>= λ x. exponent_end x.1)
good_tail = good_both (λ reach x text. is_fraction text ≡ true) (λ o reach x text. is_exponent text ≡ true)
    (λ reach x text. HasTail text)
    (record {
      join = λ reach x a y b p q. record {
        fraction = a;
        exponent = b;
        fraction_is = p;
        exponent_is = q;
        spelled =
            refl;
      };
      widen = λ x a p. p;
      some = λ reach x a p. (tt, [], refl);
    })
    fraction_end (λ x. exponent_end) good_fraction (λ x. good_exponent)

good_unsigned : Good (λ reach x text. IsUnsigned text) unsigned_end
unfolding unsigned_end
good_unsigned = good_both (λ reach x text. is_whole text ≡ true) (λ o reach x text. HasTail text)
    (λ reach x text. IsUnsigned text)
    (record {
      join = λ reach x a y b p q. record { whole = a; tail = b; whole_is = p; has_tail = q; spelled = refl };
      widen = λ x a p. p;
      some = λ reach x a p. (
        tt,
        [],
        record {
          fraction = [];
          exponent = [];
          fraction_is = refl;
          exponent_is = refl;
          spelled = refl;
        },
      );
    })
    whole_end (λ x bytes. fraction_end bytes >>= λ y. exponent_end y.1) good_whole (λ x. good_tail)

number_of : (minus text : List ℕ) → (minus ≡ []) ⊎ (minus ≡ 45 ∷ []) → IsUnsigned text → IsNumber (minus ++ text)
number_of minus text sign u = record {
  minus = minus;
  whole = u.whole;
  fraction = u.has_tail.fraction;
  exponent = u.has_tail.exponent;
  minus_is = sign;
  whole_is = u.whole_is;
  fraction_is = u.has_tail.fraction_is;
  exponent_is = u.has_tail.exponent_is;
  spelled = ap (λ (t : List ℕ). minus ++ t) (u.spelled ∙ ap (λ (t : List ℕ). u.whole ++ t) u.has_tail.spelled);
}

zero_unsigned : IsUnsigned (48 ∷ [])
zero_unsigned = record {
  whole = 48 ∷ [];
  tail = [];
  whole_is = refl;
  has_tail = record
      { fraction = []; exponent = []; fraction_is = refl; exponent_is = refl; spelled = refl };
  spelled = refl;
}

abbrev pub IsNumberEnd : Reach → Unit {0} → List ℕ → Type 0
IsNumberEnd reach x text = IsNumber text

pub good_number_end : Good IsNumberEnd number_end
unfolding number_end
good_number_end = good_chosen 45 (λ reach x text. IsNumber text) unsigned_end unsigned_end
    (good_behind 45 (λ reach x text. IsUnsigned text) (λ reach x text. IsNumber text) unsigned_end
    (λ reach x text u. number_of (45 ∷ []) text (inr refl) u) tt (48 ∷ []) zero_unsigned good_unsigned)
    (λ bytes none. unsigned_at bytes)
  where
    unsigned_at : Good (λ reach x text. IsNumber text) unsigned_end
    unsigned_at = good_wider (λ reach x text. IsUnsigned text) (λ reach x text. IsNumber text)
        (λ reach x text u. number_of [] text (inl refl) u) unsigned_end good_unsigned

-- the token that was read
pub record IsNumberToken (token text : List ℕ) : Type 0 where
  pub number : IsNumber token
  pub spelled : text ≡ token

pub prefix_is : (text rest : List ℕ) → prefix_of (text ++ rest) rest ≡ text
prefix_is text rest = take_at text rest (length (text ++ rest) - length rest) (omega (arith, length-append text rest))

abbrev token_of : List ℕ → Result (Unit {0} × List ℕ) Fault → Result (List ℕ × List ℕ) Fault
token_of bytes result = result >>= λ end. Ok (prefix_of bytes end.1, end.1)

pub good_number : Good (λ reach. IsNumberToken) number_at
unfolding number_at
good_number bytes = by_case (number_end bytes) (good_number_end bytes)
  where
    by_case : (result : Result (Unit {0} × List ℕ) Fault)
        → GoodAt (λ reach x text. IsNumber text) number_end bytes result
        → GoodAt (λ reach. IsNumberToken) number_at bytes (token_of bytes result)
    by_case (Ok x) h = record {
      text = h.text;
      parts = h.parts;
      inside = let same : prefix_of bytes x.1 ≡ h.text = ap (λ (t : List ℕ). prefix_of t x.1) h.parts
          ∙ prefix_is h.text x.1 in record { number = subst IsNumber (sym same) h.inside; spelled = sym same };
      again = λ other s. ap (token_of (h.text ++ other)) (h.again other s)
          ∙ ap (λ (t : List ℕ). Ok (t, other)) (prefix_is h.text other ∙ sym (prefix_is h.text x.1)
          ∙ ap (λ (t : List ℕ). prefix_of t x.1) (sym h.parts));
    }
    by_case (Err deep) h = record {
      text = h.text;
      stop = h.stop;
      parts = h.parts;
      some = h.some;
      x = h.text
          ++ h.more;
      more = h.more;
      inside = record { number = h.inside; spelled = refl };
      again = λ other. ap
          (token_of (h.text ++ other)) (h.again other);
    }
    by_case (Err (stuck left)) h = record {
      text = h.text;
      stop = h.stop;
      parts = h.parts;
      left_is = h.left_is;
      x =
          h.text ++ h.more;
      more = h.more;
      inside = record { number = h.inside; spelled = refl };
      again = λ other s. ap
          (token_of (h.text ++ other)) (h.again other s);
    }
