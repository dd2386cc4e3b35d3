-- Numbers among the words.
use Rattle.std.proofs.Common.{◌≡◌, ℕ, ◌^◌, ◌<◌, ◌≤◌, List, Option, Some, IfNone, Result, Ok, Err, ℤ, pos, to_z, of_z}
use Rattle.std.proofs.Common.{sym, ◌∙◌, arith}
use Rattle.std.proofs.lemmas.Fmt.{decimal_injective}
use Rattle.std.proofs.lemmas.Int.{ints, to_z-of_z}
use Rattle.std.proofs.lemmas.Option.{same_Some}
use Rattle.std.specs.Int.{FitsUnsignedBits, w64}
use Rattle.std.specs.Prelude.{decimal, nat_abs}
use Rattle.std.specs.Result.{OkIff, result_ok}
use Rattle.log_model.specs.Order.{IsIntegerText}
use Rattle.log_model.proofs.ValueOrder.{number_of-is}
use Rattle.command_line.specs.Asked.{IsNumber}

-- a value is one number
pub one_number : (least most : ℕ) (value : Option (List ℕ)) (m n : ℕ) → most < 2 ^ 64
    → IsNumber least most value m → IsNumber least most value n → m ≡ n
one_number least most value m n small a b =
    decimal_injective m n (omega (arith, a.few)) (omega (arith, b.few)) (same_Some _ _ (sym a.spelled ∙ b.spelled))

-- a number that is spelled so is each number that the value is
pub same_number : (least most m n : ℕ) (text : List ℕ) → (text ≡ decimal m) × (m < 2 ^ 63) → most < 2 ^ 63
    → IsNumber least most (Some text) n → (m ≡ n) × (least ≤ n) × (n ≤ most)
same_number least most m n text spelled small h =
    let same = sym spelled.0 ∙ same_Some text (decimal n) h.spelled in
    (decimal_injective m n (omega (arith, spelled.1)) (omega (arith, h.few)) same, h.enough, h.few)

-- the decimal text of a number is that of an integer
integer_text : (text : List ℕ) (n : ℕ) → n < 2 ^ 63 → text ≡ decimal n → IsIntegerText text (pos n)
integer_text text n small spelled = record { spelled = spelled; fits = omega (arith, ints) }

-- what is not an integer is not a number
pub no_natural : (text : List ℕ) → ((z : ℤ) → IsIntegerText text z → ⊥)
    → (n : ℕ) → n < 2 ^ 63 → text ≡ decimal n → ⊥
no_natural text none n small spelled = none (pos n) (integer_text text n small spelled)

-- a text is one integer
same_integer : (text : List ℕ) (y z : ℤ) → IsIntegerText text y → IsIntegerText text z → y ≡ z
same_integer text y z a b = same_Some y z (sym (number_of-is text y a) ∙ number_of-is text z b)

-- an integer that is below zero is not a number
pub below_zero : {E : Type 0} (text : List ℕ) (z : ℤ) (r : Result ℕ E) → IsIntegerText text z
    → OkIff r (FitsUnsignedBits 64 (to_z w64 (of_z w64 z))) (nat_abs (to_z w64 (of_z w64 z)))
    → IfNone (result_ok r) ((n : ℕ) → n < 2 ^ 63 → text ≡ decimal n → ⊥)
below_zero text z (Ok m) is tried = tt
below_zero text z (Err e) is tried = λ n small spelled.
    let natural = integer_text text n small spelled in
    let same = same_integer text z (pos n) is natural in
    let fits : FitsUnsignedBits 64 (pos n) = omega arith in
    tried (rw (same, to_z-of_z w64 (pos n) natural.fits) fits)
