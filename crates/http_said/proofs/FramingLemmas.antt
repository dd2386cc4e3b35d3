-- An accepted Content-Length is within the limit.
use Rattle.std.proofs.Common.{◌≡◌, ℕ, ◌≤◌, Bool, true, false, ◌&&◌, ◌||◌, cond, List, [], ◌∷◌, refl, ap, sym}
use Rattle.std.proofs.Common.{◌∙◌, arith}
use Rattle.std.specs.Prelude.{None, Some, Result, Ok, Err, nat_lt}
use Rattle.std.specs.List.{list_any}
use Rattle.std.specs.Str.Parse.{digits_value}
use Rattle.std.proofs.lemmas.Bool.Decides.{nat_tests}
use Rattle.http1.specs.Fields.{Header, is_number}
use Rattle.http_said.specs.Fields.{agree, coding_of, transfer_codings, content_encodings, framing_in, framing_of}
use Rattle.http_said.specs.Fields.{is_above_limit, is_encoded, is_large, length_of, content_lengths, unless_encoded}
use Rattle.http_said.specs.Fields.{IsWithinLimit}
use Rattle.http_said.specs.Limits.{body_limit}
use Rattle.http_said.specs.declared.framing.FieldFault.{FieldFault}
use Rattle.http_said.specs.declared.framing.FieldFault.TheVariants as faults
use Rattle.http_said.specs.declared.framing.Coding.{Coding}
use Rattle.http_said.specs.declared.framing.Coding.TheVariants as codings
use Rattle.http_said.specs.declared.framing.Framing.{Framing}
use Rattle.http_said.specs.declared.framing.Framing.TheVariants as framings

or_left : (a b : Bool) → (a || b) ≡ false → a ≡ false
or_left true b e = cc
or_left false b e = refl

and_left : (a b : Bool) → (a && b) ≡ true → a ≡ true
and_left true b e = refl
and_left false b e = cc

small : (n : ℕ) → nat_lt body_limit n ≡ false → n ≤ body_limit
small n e = grind (arith, nat_tests)

-- a number within the limit
number_small : (v : List ℕ) (t : Bool) → is_number v ≡ t → t ≡ true
    → is_above_limit (cond t (Some (digits_value 10 v)) None) ≡ false → digits_value 10 v ≤ body_limit
number_small v true is e large = small (digits_value 10 v) large
number_small v false is e large = cc

first_small : (v : List ℕ) (vs : List (List ℕ)) → list_any is_large (v ∷ vs) ≡ false → agree (v ∷ vs) ≡ true
    → digits_value 10 v ≤ body_limit
first_small v vs large ok =
    let number = and_left (is_number v) _ ok in
    number_small v true number refl
    (ap (λ t. is_above_limit (cond t (Some (digits_value 10 v)) None)) (sym number) ∙ or_left (is_large v)
    (list_any is_large vs) large)

in_length : (lengths : List (List ℕ)) (c : Coding) (f : Framing) → list_any is_large lengths ≡ false
    → agree lengths ≡ true
    → framing_in (length_of lengths) c ≡ Ok f → IsWithinLimit f
in_length [] codings.Absent (framings.Sized n) large ok e = let none : n ≡ 0 = cc in omega (arith, none)
in_length [] codings.Absent framings.Chunked large ok e = tt
in_length [] codings.Chunked (framings.Sized n) large ok e = cc
in_length [] codings.Chunked framings.Chunked large ok e = tt
in_length [] codings.Other f large ok e = cc
in_length (v ∷ vs) codings.Absent (framings.Sized n) large ok e =
    let is : n ≡ digits_value 10 v = cc in
    omega (arith, is, first_small v vs large ok)
in_length (v ∷ vs) codings.Absent framings.Chunked large ok e = tt
in_length (v ∷ vs) codings.Chunked f large ok e = cc
in_length (v ∷ vs) codings.Other f large ok e = cc

encoded_ok : (encoded : Bool) (r : Result Framing FieldFault) (f : Framing) → unless_encoded encoded r ≡ Ok f → r ≡ Ok f
encoded_ok true (Ok g) f e = cc
encoded_ok false (Ok g) f e = e
encoded_ok encoded (Err g) f e = cc

by_tests : (lengths : List (List ℕ)) (c : Coding) (encoded large ok : Bool) (f : Framing)
    → list_any is_large lengths ≡ large
    → agree lengths ≡ ok
    → cond large (Err faults.BodyLarge)
    (cond ok (unless_encoded encoded (framing_in (length_of lengths) c)) (Err faults.BadLength)) ≡ Ok f
    → IsWithinLimit f
by_tests lengths c encoded true ok f a b e = cc
by_tests lengths c encoded false false f a b e = cc
by_tests lengths c encoded false true f a b e = in_length lengths c f a b
    (encoded_ok encoded (framing_in (length_of lengths) c) f e)

pub framing_within : (fields : List Header) (f : Framing) → framing_of fields ≡ Ok f → IsWithinLimit f
framing_within fields f e =
    by_tests (content_lengths fields) (coding_of (transfer_codings fields))
    (is_encoded (content_encodings fields)) _ _ f refl refl e
