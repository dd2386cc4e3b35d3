-- What is written of a column is read again.
use Rattle.std.proofs.Common.{◌≡◌, ℕ, ◌<◌, ◌≤◌, ◌^◌, Bool, true, ltb, leb, List, [], ◌∷◌, ◌++◌}
use Rattle.std.proofs.Common.{length, Ok, refl, sym, ap, subst, ◌∙◌, arith, inl, inr}
use Rattle.std.specs.Prelude.{◌&&◌, replicate, sum_by, IsUtf8}
use Rattle.std.specs.List.{flat_map, list_all, AllByRecursion}
use Rattle.std.specs.Str.{is_utf8}
use Rattle.std.specs.Int.{w8, w16, w32, from_le_bytes}
use Rattle.std.proofs.lemmas.Bool.{cases_Bool, leb-true, ltb-true}
use Rattle.std.proofs.lemmas.List.{append_assoc, length-map}
use Rattle.std.proofs.lemmas.List.Concat.{flat_map-cons}
use Rattle.std.proofs.lemmas.Nat.{from_le_bytes-to_le_bytes_2, from_le_bytes-to_le_bytes_4}
use Rattle.std.proofs.lemmas.Str.{IsUtf8-from_is_utf8}
use Rattle.byte_format.specs.Format.{value, exactly, many, front}
use Rattle.byte_format.specs.Items.{number, number_that, any_number, text}
use Rattle.byte_format.specs.Written.{text_bytes}
use Rattle.byte_format.proofs.Cases.{both_true}
use Rattle.byte_format.proofs.Readings.{front-followed, front-item}
use Rattle.byte_format.proofs.Texts.{text-again}
use Rattle.byte_format.proofs.Turns.{many-again}
use Rattle.col_codec.specs.Ints.{ints, int_spelling}
use Rattle.col_codec.specs.Again.{ints-again}
use Rattle.col_codec.specs.TextLaws.{texts-again}
use Rattle.block_column.specs.Body.{body, code_below, constant_body, is_kind}
use Rattle.block_column.specs.Body.{dictionary_body, dictionary_steps, integers_body, kind_item}
use Rattle.block_column.specs.Kinds.{Kind, constant, integers, dictionary, plain, kind_of, is_constant, are_integers}
use Rattle.block_model.specs.Distinct.{code_of, codes_of, distinct, is_short}
use Rattle.block_column.specs.Kinds.{fits_dictionary, first_of, integers_in, body_of}
use Rattle.block_column.specs.Kinds.{code_of_kind, dictionary_bytes, integer_of}
use Rattle.block_column.proofs.BodyLaws.{dictionary-steps, integers-read}
use Rattle.block_model.proofs.Distinct.{codes-stand, codes-stand-below, distinct-pass}
use Rattle.block_column.proofs.KindLaws.{constant-is, first-small, integers-are, is-constant, is-integers}
use Rattle.block_column.proofs.KindLaws.{is-dictionary, is-plain}

pub kind-again : (kind : Kind) (rest : List ℕ) → front kind_item ((code_of_kind kind ∷ []) ++ rest)
    ≡ Ok (code_of_kind kind, rest)
kind-again constant rest = front-item (exactly 1) (λ bytes. is_kind (from_le_bytes w8 bytes)) (λ bytes. value
    (from_le_bytes w8 bytes)) (0 ∷ []) rest refl refl
kind-again integers rest = front-item (exactly 1) (λ bytes. is_kind (from_le_bytes w8 bytes)) (λ bytes. value
    (from_le_bytes w8 bytes)) (1 ∷ []) rest refl refl
kind-again dictionary rest = front-item (exactly 1) (λ bytes. is_kind (from_le_bytes w8 bytes)) (λ bytes. value
    (from_le_bytes w8 bytes)) (2 ∷ []) rest refl refl
kind-again plain rest = front-item (exactly 1) (λ bytes. is_kind (from_le_bytes w8 bytes)) (λ bytes. value
    (from_le_bytes w8 bytes)) (3 ∷ []) rest refl refl

first-utf8 : (ts : List (List ℕ)) → list_all is_utf8 ts ≡ true → is_constant ts ≡ true → IsUtf8 (first_of ts)
first-utf8 [] h e = absurd cc
first-utf8 (t ∷ ts) h e = IsUtf8-from_is_utf8 t (both_true (is_utf8 t) (list_all is_utf8 ts) h).0

constant-again : (ts : List (List ℕ)) (rest : List ℕ) → list_all is_utf8 ts ≡ true → sum_by length ts < 2 ^ 32
    → is_constant ts ≡ true
    → front (constant_body (length ts)) (text_bytes w32 (first_of ts) ++ rest) ≡ Ok (ts, rest)
constant-again ts rest utf8 small e =
    let narrow : length (first_of ts) < 2 ^ 32 = omega (arith, first-small ts, small) in
    let read : front (text w32) (text_bytes w32 (first_of ts) ++ rest) ≡ Ok (first_of ts, rest) =
    text-again w32 (first_of ts) rest refl (from_le_bytes-to_le_bytes_4 (length (first_of ts)) narrow)
    (first-utf8 ts utf8 e) in
    front-followed (text w32) (λ t. value (replicate (length ts) t)) (text_bytes w32 (first_of ts) ++ rest)
    ∙ rw read (ap (λ (l : List (List ℕ)). Ok (l, rest)) (constant-is ts e))

integers-again : (ts : List (List ℕ)) (rest : List ℕ) → are_integers ts ≡ true
    → front (integers_body (length ts)) (int_spelling (integers_in ts) ++ rest) ≡ Ok (ts, rest)
integers-again ts rest e =
    let are = integers-are ts e in
    let count : length (integers_in ts) ≡ length ts = length-map ts integer_of in
    let read : front (ints (length ts)) (int_spelling (integers_in ts) ++ rest) ≡ Ok (integers_in ts, rest) =
    ap (λ (n : ℕ). front (ints n) (int_spelling (integers_in ts) ++ rest)) (sym count)
    ∙ ints-again (integers_in ts) rest are.1 in
    integers-read (length ts) (int_spelling (integers_in ts) ++ rest)
    ∙ rw read (ap (λ (l : List (List ℕ)). Ok (l, rest)) are.0)

byte-again : (test : ℕ → Bool) (n : ℕ) (rest : List ℕ) → n < 256 → test n ≡ true
    → front (number_that w8 test) ((n ∷ []) ++ rest) ≡ Ok (n, rest)
byte-again test n rest lt good =
    let back : from_le_bytes w8 (n ∷ []) ≡ n = omega arith in
    front-item (exactly 1) (λ bytes. test (from_le_bytes w8 bytes)) (λ bytes. value (from_le_bytes w8 bytes))
    (n ∷ []) rest refl (ap test back ∙ good)
    ∙ ap (λ (m : ℕ). Ok (m, rest)) back

-- a text of a dictionary
record IsHeld (t : List ℕ) : Type 0 where
  utf8 : IsUtf8 t
  short : length t ≤ 256

held-again : (t rest : List ℕ) → IsHeld t → front (text w16) (text_bytes w16 t ++ rest) ≡ Ok (t, rest)
held-again t rest h =
    let narrow : length t < 2 ^ 16 = omega (arith, h.short) in
    text-again w16 t rest refl (from_le_bytes-to_le_bytes_2 (length t) narrow) h.utf8

are-held : (ts : List (List ℕ)) → list_all is_utf8 ts ≡ true → list_all is_short ts ≡ true → AllByRecursion IsHeld ts
are-held [] h e = tt
are-held (t ∷ ts) h e =
    let p = both_true (is_utf8 t) (list_all is_utf8 ts) h in
    let q = both_true (is_short t) (list_all is_short ts) e in (
      record { utf8 = IsUtf8-from_is_utf8 t p.0; short = leb-true (length t) 256 q.0 },
      are-held ts p.1 q.1,
    )

record IsCode (count code : ℕ) : Type 0 where
  narrow : code < 256
  below : ltb code count ≡ true

code-again : (count code : ℕ) (rest : List ℕ) → IsCode count code
    → front (code_below count) ((code ∷ []) ++ rest) ≡ Ok (code, rest)
code-again count code rest h = byte-again (λ n. ltb n count) code rest h.narrow h.below

are-codes : (count : ℕ) (codes : List ℕ) → count ≤ 255 → list_all (λ code. ltb code count) codes ≡ true
    → AllByRecursion (IsCode count) codes
are-codes count [] few e = tt
are-codes count (code ∷ codes) few e =
    let p = both_true (ltb code count) (list_all (λ code. ltb code count) codes) e in
    let lt = ltb-true code count p.0 in
    (record { narrow = omega (arith, lt, few); below = p.0 }, are-codes count codes few p.1)

abbrev put_code : ℕ → List ℕ
put_code code = code ∷ []

put-codes : (codes : List ℕ) → flat_map put_code codes ≡ codes
put-codes [] = refl
put-codes (code ∷ codes) = flat_map-cons put_code code codes ∙ ap (λ (l : List ℕ). code ∷ l) (put-codes codes)

codes-again : (count : ℕ) (codes rest : List ℕ) → count ≤ 255 → list_all (λ code. ltb code count) codes ≡ true
    → front (many (length codes) (code_below count)) (codes ++ rest) ≡ Ok (codes, rest)
codes-again count codes rest few e =
    ap (λ (l : List ℕ). front (many (length codes) (code_below count)) (l ++ rest)) (sym (put-codes codes))
    ∙ many-again (code_below count) put_code (IsCode count) (λ code r h. code-again count code r h) codes rest
    (are-codes count codes few e)

dictionary-again : (ts : List (List ℕ)) (rest : List ℕ) → list_all is_utf8 ts ≡ true → fits_dictionary ts ≡ true
    → front (dictionary_body (length ts)) (dictionary_bytes (distinct ts) (codes_of ts) ++ rest) ≡ Ok (ts, rest)
unfolding dictionary_steps
dictionary-again ts rest utf8 e =
    let parts = both_true (leb (length (distinct ts)) 255) (list_all is_short ts) e in
    let few = leb-true (length (distinct ts)) 255 parts.0 in
    let codes = codes_of ts in
    let held = flat_map (text_bytes w16) (distinct ts) in
    let regrouped : dictionary_bytes (distinct ts) (codes_of ts) ++ rest
    ≡ (length (distinct ts) ∷ []) ++ (flat_map (text_bytes w16) (distinct ts) ++ (codes_of ts ++ rest)) =
    append_assoc (length (distinct ts) ∷ []) (flat_map (text_bytes w16) (distinct ts) ++ codes_of ts) rest
    ∙ ap (λ (l : List ℕ). (length (distinct ts) ∷ []) ++ l) (append_assoc (flat_map (text_bytes w16) (distinct ts))
    (codes_of ts) rest) in
    let first : front (number w8) ((length (distinct ts) ∷ []) ++ (held ++ (codes ++ rest)))
    ≡ Ok (length (distinct ts), held ++ (codes ++ rest)) = byte-again any_number (length (distinct ts))
    (held ++ (codes ++ rest)) (omega (arith, few)) refl in
    let second : front (many (length (distinct ts)) (text w16)) (held ++ (codes ++ rest))
    ≡ Ok (distinct ts, codes ++ rest) = many-again (text w16) (text_bytes w16) IsHeld (λ t r h. held-again t r h)
    (distinct ts) (codes ++ rest) (are-held (distinct ts) (distinct-pass is_utf8 ts utf8)
    (distinct-pass is_short ts parts.1)) in
    let count : length codes ≡ length ts = length-map ts (code_of (distinct ts)) in
    let third : front (many (length ts) (code_below (length (distinct ts)))) (codes ++ rest) ≡ Ok (codes, rest) =
    ap (λ (n : ℕ). front (many n (code_below (length (distinct ts)))) (codes ++ rest)) (sym count)
    ∙ codes-again (length (distinct ts)) codes rest few (codes-stand-below ts) in
    ap (front (dictionary_body (length ts))) regrouped
    ∙ dictionary-steps (length ts) ((length (distinct ts) ∷ []) ++ (held ++ (codes ++ rest)))
    ∙ rw (first, second, third) (ap (λ (l : List (List ℕ)). Ok (l, rest)) (codes-stand ts))

-- the body is read in the kind that it was written in
abbrev pub IsBodyAgain : List (List ℕ) → List ℕ → Kind → Type 0
IsBodyAgain ts rest kind = front (body (length ts) (code_of_kind kind)) (body_of kind ts ++ rest) ≡ Ok (ts, rest)

pub body-again : (ts : List (List ℕ)) (rest : List ℕ) → list_all is_utf8 ts ≡ true → sum_by length ts < 2 ^ 32
    → IsBodyAgain ts rest (kind_of ts)
unfolding body_of
body-again ts rest utf8 small =
    elim (cases_Bool (is_constant ts)) [
      | inl a ↦ subst (IsBodyAgain ts rest) (sym (is-constant ts a)) (constant-again ts rest utf8 small a)
      | inr a ↦ elim (cases_Bool (are_integers ts)) [
        | inl b ↦ subst (IsBodyAgain ts rest) (sym (is-integers ts a b)) (integers-again ts rest b)
        | inr b ↦ elim (cases_Bool (fits_dictionary ts)) [
          | inl d ↦ subst (IsBodyAgain ts rest) (sym (is-dictionary ts a b d)) (dictionary-again ts rest utf8 d)
          | inr d ↦ subst (IsBodyAgain ts rest) (sym (is-plain ts a b d)) (texts-again ts rest utf8 small)
        ]
      ]
    ]
