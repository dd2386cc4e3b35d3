-- PRI is read as it is spelled.
use Rattle.std.proofs.Common.{◌≡◌, ℕ, true, false, not, ◌&&◌, ◌||◌, ◌==◌, nat_le, nat_lt}
use Rattle.std.proofs.Common.{List, [], ◌∷◌, ◌++◌}
use Rattle.std.proofs.Common.{length, take, drop, Option, Some, None, refl, sym, ap, arith, ◌∙◌, inl, inr}
use Rattle.std.specs.Prelude.{slice_index}
use Rattle.std.specs.Char.{is_ascii_digit}
use Rattle.std.proofs.Math.ListN.{get_or-append}
use Rattle.std.proofs.lemmas.Bool.{and_parts, and_from, or_cases, or_left, or_right, eqb-true, eqb-false, eq-eqb}
use Rattle.std.proofs.lemmas.Bool.{ne_eqb, leb-true}
use Rattle.std.proofs.lemmas.Bool.{le-leb, le-ltb, cases_Bool, cases_eq, not-true, not_from_false}
use Rattle.std.proofs.lemmas.List.{take-append-drop, take_at, drop_at, get_or-take, length-take-le}
use Rattle.std.proofs.lemmas.List.Sums.{prefix_len-le-length}
use Rattle.time_text.proofs.Counts.{len_again, front_are_digits, some_is}
use Rattle.syslog_in.specs.Parts.{BeginsWithPri}
use Rattle.syslog_in.specs.Framing.{frame_limit}
use Rattle.syslog_in.specs.Reading.{digits_len, number_at, length_at}
use Rattle.syslog_in.specs.HeaderReading.{past, is_priority, closed, with_digits, behind_mark, priority_at}
use Rattle.syslog_in.proofs.Steps.{within_or_beyond}

pub past_some : (byte : ℕ) (bytes rest : List ℕ) → past byte bytes ≡ Some rest → bytes ≡ byte ∷ rest
past_some byte [] rest e = absurd cc
past_some byte (first ∷ bytes) rest e =
    elim (cases_Bool (first == byte)) [
      | inl same ↦
          let is : bytes ≡ rest = let h = rw same at e in cc in
          ap (λ (t : List ℕ). first ∷ t) is ∙ ap (λ (c : ℕ). c ∷ rest) (eqb-true first byte same)
      | inr other ↦ let h = rw other at e in absurd cc
    ]

pub past_again : (byte : ℕ) (rest : List ℕ) → past byte (byte ∷ rest) ≡ Some rest
past_again byte rest = rw (eq-eqb byte byte refl) refl

abbrev numbers : ℕ → ℕ → ℕ × ℕ
numbers digits number = (digits, number)

abbrev found_of : ℕ → ℕ → Option (ℕ × ℕ)
found_of digits number = Some (numbers digits number)

abbrev pub pair : ℕ → List ℕ → ℕ × List ℕ
pair n rest = (n, rest)

digits_some : (inside : List ℕ) (found : Option (ℕ × ℕ)) (x : ℕ × List ℕ) → with_digits inside found ≡ Some x
    → (digits : ℕ) × (number : ℕ) × (found ≡ found_of digits number) × (is_priority digits number inside ≡ true)
    × (number ≡ x.0) × (drop digits inside ≡ 62 ∷ x.1)
digits_some inside None x e = absurd cc
digits_some inside (Some (digits, number)) x e =
    elim (cases_Bool (is_priority digits number inside)) [
      | inl good ↦ mark (past 62 (drop digits inside)) refl good (rw good at e)
      | inr other ↦ let h = rw other at e in absurd cc
    ]
  where
    mark : (o : Option (List ℕ)) → past 62 (drop digits inside) ≡ o → is_priority digits number inside ≡ true
        → closed number o ≡ Some x
        → (d : ℕ) × (n : ℕ) × (found_of digits number ≡ found_of d n) × (is_priority d n inside ≡ true)
        × (n ≡ x.0) × (drop d inside ≡ 62 ∷ x.1)
    mark None is good h = absurd cc
    mark (Some rest) is good h =
        let same : pair number rest ≡ x = cc in
        let n : number ≡ x.0 = ap (λ (p : ℕ × List ℕ). p.0) same in
        let r : rest ≡ x.1 = ap (λ (p : ℕ × List ℕ). p.1) same in
        (digits, number, refl, good, n, past_some 62 (drop digits inside) rest is ∙ ap (λ (t : List ℕ). 62 ∷ t) r)

pub priority_takes : (text : List ℕ) (x : ℕ × List ℕ) → priority_at text ≡ Some x
    → (pri : BeginsWithPri text x.1) × (pri.priority ≡ x.0)
unfolding priority_at
priority_takes text x e = marked (past 60 text) refl e
  where
    marked : (o : Option (List ℕ)) → past 60 text ≡ o → behind_mark o ≡ Some x
        → (pri : BeginsWithPri text x.1) × (pri.priority ≡ x.0)
    marked None is h = absurd cc
    marked (Some inside) is h =
        let found = digits_some inside (length_at inside) x h in
        elim (within_or_beyond inside) [
          | inl within ↦
              let same = some_is (numbers (digits_len inside) (number_at inside)) (numbers found.0 found.1)
              (sym within.1 ∙ found.2) in
              let n : digits_len inside ≡ found.0 = ap (λ (p : ℕ × ℕ). p.0) same in
              let v : number_at inside ≡ found.1 = ap (λ (p : ℕ × ℕ). p.1) same in
              let tests = and_parts (nat_le 1 found.0) (((found.0 == 1) || not
              (slice_index inside 0 == 48)) && nat_le found.1 191) found.3 in
              let more = and_parts ((found.0 == 1) || not (slice_index inside 0 == 48)) (nat_le found.1 191) tests.1 in
              let some = leb-true 1 found.0 tests.0 in
              let digits = take (digits_len inside) inside in
              let count = length-take-le (digits_len inside) inside (prefix_len-le-length is_ascii_digit inside) in (
                record {
                  digits = digits;
                  priority = found.1;
                  is_priority = record {
                    is_number = record {
                      digits = front_are_digits inside (omega (arith, n, some));
                      first = λ zero. elim (or_cases (found.0 == 1) (not (slice_index inside 0 == 48)) more.0) [
                        | inl one ↦ omega (arith, count, n, eqb-true found.0 1 one)
                        | inr other ↦ absurd (eqb-false (slice_index inside 0) 48 (not-true
                            (slice_index inside 0 == 48) other)
                            (sym (get_or-take (digits_len inside) inside 0 0 (omega (arith, n, some))) ∙ zero))
                      ];
                      value = sym v;
                    };
                    few = leb-true found.1 191 more.1;
                  };
                  spelled = past_some 60 text inside is ∙ ap (λ (t : List ℕ). 60 ∷ t)
                      (sym (take-append-drop (digits_len inside) inside)
                      ∙ ap (λ (t : List ℕ). digits ++ t) (ap (λ (k : ℕ). drop k inside) n ∙ found.5));
                },
                found.4,
              )
          | inr beyond ↦ let same = found.2 in let none = beyond.1 in absurd cc
        ]

pub priority_again : (text rest : List ℕ) (pri : BeginsWithPri text rest) → priority_at text ≡ Some (pri.priority, rest)
unfolding priority_at length_at
priority_again text rest pri =
    let inside = pri.digits ++ 62 ∷ rest in
    let number = pri.is_priority.is_number in
    let len : digits_len inside ≡ length pri.digits = len_again pri.digits (62 ∷ rest) number.digits.each refl in
    let front = take_at pri.digits (62 ∷ rest) (length pri.digits) refl in
    let back = drop_at pri.digits (62 ∷ rest) (length pri.digits) refl in
    let few = pri.is_priority.few in
    let value : number_at inside ≡ pri.priority = rw (len, front) (sym number.value) in
    let within : nat_lt frame_limit (number_at inside) ≡ false = le-ltb frame_limit (number_at inside) (omega
    (arith, value, few)) in
    let first : slice_index inside 0 ≡ slice_index pri.digits 0 = get_or-append pri.digits
    (62 ∷ rest) 0 0 number.digits.some in
    let alone : (length pri.digits == 1) || not (slice_index inside 0 == 48) ≡ true =
    elim (cases_eq (slice_index pri.digits 0) 48) [
      | inl zero ↦ or_left _ _ (eq-eqb (length pri.digits) 1 (number.first zero))
      | inr other ↦ or_right _ _ (not_from_false _ (ne_eqb (slice_index inside 0) 48 (λ e. other (sym first ∙ e))))
    ] in
    let test : is_priority (length pri.digits) pri.priority inside ≡ true =
    and_from _ _ (le-leb 1 (length pri.digits) (omega (arith, number.digits.some)))
    (and_from _ _ alone (le-leb pri.priority 191 few)) in
    ap (λ (t : List ℕ). behind_mark (past 60 t)) pri.spelled ∙ rw (within, value, len, test, back) refl
