-- The smallest readers.
use Rattle.std.proofs.Common.{◌≡◌, ℕ, suc, ◌+◌, Bool, true, false, cond, eqb, List, [], ◌∷◌, ◌++◌, length, take, drop}
use Rattle.std.proofs.Common.{Result, Ok, Err, refl, sym, ap, ◌∙◌, arith, inl, inr}
use Rattle.std.specs.List.{prefix_len, list_all}
use Rattle.std.specs.Char.{is_ascii_digit}
use Rattle.std.proofs.lemmas.Bool.{eqb-true, eq-eqb, and_parts, and_from, cond-true, cond-false, cases_Bool}
use Rattle.std.proofs.lemmas.Bool.{false_from_ne_true}
use Rattle.std.proofs.lemmas.List.{take-append-drop, drop_at}
use Rattle.std.proofs.lemmas.List.Folds.{length-prefix_len}
use Rattle.std.proofs.Math.Seq.{drop-append-add}
use Rattle.log_model.specs.Json.{is_space, IsSpace}
use Rattle.log_model.specs.Token.{are_digits}
use Rattle.jsonline_in.specs.Reading.{after_space, Fault, stuck, Reader, gives, expect, one_of, digits_end, word_end}
use Rattle.jsonline_in.proofs.Good.{SameHead, GoodAt, Good, good_both, good_gives, good_behind}

-- ---- one byte

pub good_expect : (byte : ℕ) → Good (λ reach x text. text ≡ byte ∷ []) (expect byte)
unfolding expect
good_expect byte = good_behind byte (λ reach x text. text ≡ []) (λ reach x text. text ≡ byte ∷ []) (gives tt)
    (λ reach x text e. ap (λ (t : List ℕ). byte ∷ t) e) tt [] refl (good_gives (λ reach x text. text ≡ []) tt refl)

-- the byte that was read
pub record IsOne (test : ℕ → Bool) (byte : ℕ) (text : List ℕ) : Type 0 where
  pub spelled : text ≡ byte ∷ []
  pub passes : test byte ≡ true

module _ (test : ℕ → Bool) where
  pub one_again : (byte : ℕ) (rest : List ℕ) → test byte ≡ true → one_of test (byte ∷ rest) ≡ Ok (byte, rest)
  unfolding one_of
  one_again byte rest e = rw e refl

  pub one_stops : (byte : ℕ) (rest : List ℕ) → test byte ≡ false
      → one_of test (byte ∷ rest) ≡ Err (stuck (length (byte ∷ rest)))
  unfolding one_of
  one_stops byte rest e = rw e refl

  pub good_one_of : (sample : ℕ) → test sample ≡ true → Good (λ reach. IsOne test) (one_of test)
  unfolding one_of
  good_one_of sample ok [] = record {
    text = [];
    stop = [];
    parts = refl;
    left_is = refl;
    x = sample;
    more = sample ∷
        [];
    inside = record { spelled = refl; passes = ok };
    again = at_end;
  }
    where
      at_end : (other : List ℕ) → SameHead [] other → one_of test ([] ++ other) ≡ Err (stuck (length other))
      at_end [] s = refl
      at_end (y ∷ other) s = absurd s
  good_one_of sample ok (byte ∷ rest) = by_case (test byte) refl
    where
      stops_too : (other : List ℕ) → test byte ≡ false → SameHead (byte ∷ rest) other
          → one_of test other ≡ Err (stuck (length other))
      stops_too [] e s = absurd s
      stops_too (y ∷ other) e s = one_stops y other (ap test (sym s) ∙ e)

      by_case : (b : Bool) → test byte ≡ b → GoodAt (λ reach. IsOne test) (one_of test) (byte ∷ rest)
          (cond b (Ok (byte, rest)) (Err (stuck (length (byte ∷ rest)))))
      by_case true e = record {
        text = byte ∷ [];
        parts = refl;
        inside = record { spelled = refl; passes = e };
        again = λ other s. one_again byte other e;
      }
      by_case false e = record {
        text = [];
        stop = byte ∷ rest;
        parts = refl;
        left_is = refl;
        x = sample;
        more =
            sample ∷ [];
        inside = record { spelled = refl; passes = ok };
        again = λ other s. stops_too other e s;
      }

-- ---- runs

module _ (test : ℕ → Bool) where
  pub run_passes : (bytes : List ℕ) → list_all test (take (prefix_len test bytes) bytes) ≡ true
  run_passes [] = refl
  run_passes (x ∷ xs) =
      elim (cases_Bool (test x)) [
        | inl passes ↦
            let more : cond (test x) (1 + prefix_len test xs) 0 ≡ suc (prefix_len test xs) = cond-true (test x) _ _
            passes ∙ omega arith in
            rw more (and_from _ _ passes (run_passes xs))
        | inr fails ↦
            let none : cond (test x) (1 + prefix_len test xs) 0 ≡ 0 = cond-false (test x) _ _ fails in
            rw none refl
      ]

  pub run_again : (run rest : List ℕ) → list_all test run ≡ true
      → prefix_len test (run ++ rest) ≡ length run + prefix_len test rest
  run_again [] rest e = omega arith
  run_again (x ∷ xs) rest e =
      let parts = and_parts (test x) (list_all test xs) e in
      cond-true (test x) _ _ parts.0 ∙ omega (arith, run_again xs rest parts.1)

  pub none_here : (a b : List ℕ) → SameHead a b → prefix_len test a ≡ 0 → prefix_len test b ≡ 0
  none_here [] [] s e = refl
  none_here [] (y ∷ b) s e = absurd s
  none_here (x ∷ a) [] s e = absurd s
  none_here (x ∷ a) (y ∷ b) s e = by_case (test x) refl e
    where
      by_case : (t : Bool) → test x ≡ t → cond t (1 + prefix_len test a) 0 ≡ 0 → prefix_len test (y ∷ b) ≡ 0
      by_case true same h = absurd (omega arith)
      by_case false same h = cond-false (test y) (1 + prefix_len test b) 0 (ap test (sym s) ∙ same)

  pub none_behind : (bytes : List ℕ) → prefix_len test (drop (prefix_len test bytes) bytes) ≡ 0
  none_behind [] = refl
  none_behind (x ∷ xs) = by_case (none_behind xs) (test x) refl
    where
      by_case : prefix_len test (drop (prefix_len test xs) xs) ≡ 0 → (t : Bool) → test x ≡ t
          → prefix_len test (drop (cond t (1 + prefix_len test xs) 0) (x ∷ xs)) ≡ 0
      by_case before true same = let more : 1 + prefix_len test xs ≡ suc (prefix_len test xs) = omega arith in rw more
          before
      by_case before false same = cond-false (test x) (1 + prefix_len test xs) 0 same

  -- the same run, whatever follows it with the same first byte
  pub same_run : (bytes other : List ℕ) → SameHead (drop (prefix_len test bytes) bytes) other
      → prefix_len test (take (prefix_len test bytes) bytes ++ other) ≡ length (take (prefix_len test bytes) bytes)
  same_run bytes other s =
      let n = prefix_len test bytes in
      omega (
        arith,
        run_again (take n bytes) other (run_passes bytes),
        none_here (drop n bytes) other s
            (none_behind bytes),
      )

  pub after_run : (bytes other : List ℕ) → SameHead (drop (prefix_len test bytes) bytes) other
      → drop (prefix_len test (take (prefix_len test bytes) bytes ++ other))
      (take (prefix_len test bytes) bytes ++ other) ≡ other
  after_run bytes other s = drop_at (take (prefix_len test bytes) bytes) other
      (prefix_len test (take (prefix_len test bytes) bytes ++ other)) (sym (same_run bytes other s))

-- ---- white space

pub space_again : (space rest : List ℕ) → IsSpace space → after_space (space ++ rest) ≡ after_space rest
unfolding after_space
space_again space rest passes = rw (run_again is_space space rest passes)
    (drop-append-add space rest (prefix_len is_space rest))

-- a byte that is none stays
pub space_ends : (byte : ℕ) (rest : List ℕ) → is_space byte ≡ false → after_space (byte ∷ rest) ≡ byte ∷ rest
unfolding after_space
space_ends byte rest other = ap (λ (n : ℕ). drop n (byte ∷ rest))
    (cond-false (is_space byte) (1 + prefix_len is_space rest) 0 other)

-- white space, as a reader
abbrev pub space_at : Reader (Unit {0})
space_at bytes = Ok (tt, after_space bytes)

pub good_space : Good (λ reach x text. IsSpace text) space_at
unfolding after_space
good_space bytes = record {
  text = take (prefix_len is_space bytes) bytes;
  parts = sym (take-append-drop (prefix_len is_space bytes) bytes);
  inside = run_passes is_space bytes;
  again = λ other s. ap (λ (t : List ℕ). Ok (tt, t)) (after_run is_space bytes other s);
}

-- ---- digits

pub run_digits : (bytes : List ℕ) → (prefix_len is_ascii_digit bytes ≡ 0 → ⊥)
    → are_digits (take (prefix_len is_ascii_digit bytes) bytes) ≡ true
run_digits bytes some = by_text (take (prefix_len is_ascii_digit bytes) bytes) refl (run_passes is_ascii_digit bytes)
  where
    by_text : (text : List ℕ) → take (prefix_len is_ascii_digit bytes) bytes ≡ text
        → list_all is_ascii_digit text ≡ true → are_digits text ≡ true
    by_text [] e all = absurd (some (omega (arith, ap length e, length-prefix_len is_ascii_digit bytes)))
    by_text (x ∷ xs) e all = all

abbrev pub digits_or : List ℕ → Bool → Result (Unit {0} × List ℕ) Fault
digits_or bytes none = cond none (Err (stuck (length bytes))) (Ok (tt, drop (prefix_len is_ascii_digit bytes) bytes))

-- Digits are of any kind that they are in where they stand, and that has a zero.
pub good_digits_at : (R : List ℕ → Type 0) (bytes : List ℕ)
    → ((text rest : List ℕ) → bytes ≡ text ++ rest → are_digits text ≡ true → R text) → R (48 ∷ [])
    → GoodAt (λ reach x. R) digits_end bytes (digits_end bytes)
unfolding digits_end
good_digits_at R bytes wider zero_is = by_case (eqb (prefix_len is_ascii_digit bytes) 0) refl
  where
    again_some : (text other : List ℕ) (n : ℕ) → (n ≡ 0 → ⊥) → prefix_len is_ascii_digit (text ++ other) ≡ n
        → n ≡ length text → digits_end (text ++ other) ≡ Ok (tt, other)
    again_some text other n some e f =
        let test : eqb (prefix_len is_ascii_digit (text ++ other)) 0 ≡ false = false_from_ne_true _
        (λ (t : eqb (prefix_len is_ascii_digit (text ++ other)) 0 ≡ true). some (sym e ∙ eqb-true _ 0 t)) in
        ap (digits_or (text ++ other)) test ∙ ap (λ (t : List ℕ). Ok (tt, t))
        (drop_at text other (prefix_len is_ascii_digit (text ++ other)) (sym (e ∙ f)))

    not_zero : (n : ℕ) → eqb n 0 ≡ false → n ≡ 0 → ⊥
    not_zero n e z = absurd (let t : eqb n 0 ≡ true = eq-eqb n 0 z in cc)

    by_case : (b : Bool) → eqb (prefix_len is_ascii_digit bytes) 0 ≡ b
        → GoodAt (λ reach x. R) digits_end bytes (digits_or bytes b)
    by_case true e = record {
      text = [];
      stop = bytes;
      parts = refl;
      left_is = refl;
      x = tt;
      more = 48 ∷ [];
      inside =
          zero_is;
      again = λ other s. ap (digits_or other) (eq-eqb _ 0
          (none_here is_ascii_digit bytes other s (eqb-true (prefix_len is_ascii_digit bytes) 0 e)));
    }
    by_case false e =
        let n = prefix_len is_ascii_digit bytes in
        let text = take n bytes in
        let parts : bytes ≡ text ++ drop n bytes = sym (take-append-drop n bytes) in
        record {
          text = text;
          parts = parts;
          inside = wider text (drop n bytes) parts (run_digits bytes (not_zero n e));
          again = λ other s. again_some text other n (not_zero n e)
              (same_run is_ascii_digit bytes other s ∙ length-prefix_len is_ascii_digit bytes)
              (sym (length-prefix_len is_ascii_digit bytes));
        }

pub good_digits : (R : List ℕ → Type 0) → ((text : List ℕ) → are_digits text ≡ true → R text)
    → Good (λ reach x. R) digits_end
good_digits R wider bytes = good_digits_at R bytes (λ text rest e. wider text) (wider (48 ∷ []) refl)

-- ---- words

pub good_word : (word : List ℕ) → Good (λ reach x text. text ≡ word) (word_end word)
good_word [] = good_gives (λ reach x text. text ≡ []) tt refl
good_word (letter ∷ word) = good_both (λ reach x text. text ≡ letter ∷ []) (λ o reach x text. text ≡ word)
    (λ reach x text. text ≡ letter ∷ word)
    (record {
      join = λ reach x a y b p q. ap (λ (t : List ℕ). t ++ b) p
          ∙ ap (λ (t : List ℕ). letter ∷ t) q;
      widen = λ x a p. p;
      some = λ reach x a p. (tt, word, refl);
    })
    (expect letter) (λ x. word_end word) (good_expect letter) (λ x. good_word word)
