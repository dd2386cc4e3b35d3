-- Totals of small numbers.
use Rattle.std.proofs.Common.{◌≡◌, ℕ, suc, ◌+◌, ◌*◌, ◌^◌, ◌<◌, ◌≤◌, true, List, [], ◌∷◌}
use Rattle.std.proofs.Common.{length, fold, ℤ, pos, negsuc, ◌+ℤ◌, ◌≤ℤ◌, Option, Some, None, IfSome, refl, ap}
use Rattle.std.proofs.Common.{◌∙◌, arith}
use Rattle.std.specs.Fmt.{signed_decimal}
use Rattle.std.specs.List.{AllByRecursion, cons_option, filter_map}
use Rattle.std.proofs.Math.Nat.{mul-le-mul_right}
use Rattle.std.proofs.lemmas.Bool.{lt-ltb}
use Rattle.std.proofs.lemmas.Int.{ints}
use Rattle.std.specs.Prelude.{int_le, int_lt, neg_ℤ, ◌&&◌}
use Rattle.log_model.specs.Field.{field_value}
use Rattle.log_model.specs.Order.{number_of}
use Rattle.lq_ast.specs.Records.{Record}
use Rattle.lq_ast.specs.Statistics.{sum_text, total, values}

-- a number in 0 to `most`
pub record IsSmall (most : ℕ) (number : ℤ) : Type 0 where
  pub size : ℕ
  pub is : number ≡ pos size
  pub few : size ≤ most

pub small_from : (most : ℕ) (number : ℤ) → pos 0 ≤ℤ number → number ≤ℤ pos most → IsSmall most number
small_from most (pos n) low high = record { size = n; is = refl; few = omega (arith, ints) }
small_from most (negsuc n) low high = absurd (omega (arith, ints))

-- what a record has in a field
abbrev pub HasSmall : ℕ → List ℕ → Record → Type 0
HasSmall most field r = IfSome (number_of (field_value r field)) (IsSmall most)

later_most : (most n : ℕ) → suc n * most ≡ most + n * most
later_most most n = omega arith

-- the total, which is at most this many times the most
record IsTotal (most : ℕ) (start : ℕ) (numbers : List ℤ) (sum : ℤ) : Type 0 where
  pub more : ℕ
  pub is : sum ≡ pos (start + more)
  pub few : more ≤ length numbers * most

total_from : (most start : ℕ) (numbers : List ℤ) → AllByRecursion (IsSmall most) numbers
    → IsTotal most start numbers (fold (λ sum n. sum +ℤ n) (pos start) numbers)
total_from most start [] small = record { more = 0; is = ap pos (omega arith); few = omega arith }
total_from most start (n ∷ ns) small =
    let first = small.0 in
    let later = total_from most (start + first.size) ns small.1 in
    let begun : pos start +ℤ n ≡ pos (start + first.size) = ap (λ z. pos start +ℤ z) first.is in
    record {
      more = first.size + later.more;
      is = ap (λ z. fold (λ sum m. sum +ℤ m) z ns) begun ∙ later.is ∙ ap pos (omega arith);
      few = omega (arith, first.few, later.few, later_most most (length ns));
    }

in_range : (most : ℕ) (numbers : List ℤ) (sum : ℤ) → IsTotal most 0 numbers sum → length numbers * most < 2 ^ 63
    → int_le (neg_ℤ (pos (2 ^ 63))) sum && int_lt sum (pos (2 ^ 63)) ≡ true
in_range most numbers sum t small = rw t.is (lt-ltb (0 + t.more) (2 ^ 63) (omega (arith, t.few)))

-- the sum has a text
pub sum_fits : (most : ℕ) (numbers : List ℤ) → AllByRecursion (IsSmall most) numbers → length numbers * most < 2 ^ 63
    → (text : List ℕ) × (sum_text numbers ≡ Some text)
sum_fits most [] small few = ([], refl)
sum_fits most (n ∷ ns) small few =
    let sum = total (n ∷ ns) in
    let fits = in_range most (n ∷ ns) sum (total_from most 0 (n ∷ ns) small) few in
    (signed_decimal sum, rw fits refl)

-- ---- numbers of records

record AreNumbers (most bound : ℕ) (numbers : List ℤ) : Type 0 where
  pub small : AllByRecursion (IsSmall most) numbers
  pub few : length numbers ≤ bound

one_number : (most bound : ℕ) (numbers : List ℤ) (found : Option ℤ) → IfSome found (IsSmall most)
    → AreNumbers most bound numbers → AreNumbers most (suc bound) (cons_option found numbers)
one_number most bound numbers None h later = record { small = later.small; few = omega (arith, later.few) }
one_number most bound numbers (Some n) h later = record { small = (h, later.small); few = omega (arith, later.few) }

are_numbers : (most : ℕ) (field : List ℕ) (records : List Record) → AllByRecursion (HasSmall most field) records
    → AreNumbers most (length records) (filter_map number_of (values (field ∷ []) records))
are_numbers most field [] h = record { small = tt; few = omega arith }
are_numbers most field (r ∷ rs) h =
    one_number most (length rs) (filter_map number_of (values (field ∷ []) rs)) (number_of (field_value r field)) h.0
    (are_numbers most field rs h.1)

-- the sum of a field over records has a text
pub field_sum_fits : (most : ℕ) (field : List ℕ) (records : List Record) → AllByRecursion (HasSmall most field) records
    → length records * most < 2 ^ 63
    → (text : List ℕ) × (sum_text (filter_map number_of (values (field ∷ []) records)) ≡ Some text)
field_sum_fits most field records small few =
    let numbers = are_numbers most field records small in
    sum_fits most (filter_map number_of (values (field ∷ []) records)) numbers.small
    (omega (arith, mul-le-mul_right most numbers.few))
