-- The body of a column is read item by item.
use Rattle.std.proofs.Common.{◌≡◌, ℕ, zero, suc, ◌<◌, ◌≤◌, Bool, true, List, [], ◌∷◌, ◌++◌, map, Ok, Result, ◌∙◌, refl, sym, ap, arith}
use Rattle.std.proofs.Common.{length, take, drop, get_or, append_assoc}
use Rattle.std.specs.Prelude.{nat_lt}
use Rattle.std.specs.Fmt.{signed_decimal}
use Rattle.std.specs.Int.{w8, w16, byte_len, from_le_bytes}
use Rattle.std.specs.List.{list_all}
use Rattle.std.specs.Str.{is_utf8}
use Rattle.std.proofs.lemmas.List.{append-nil, length-drop, length-take}
use Rattle.std.proofs.lemmas.List.Folds.{list_all-append}
use Rattle.byte_format.specs.Format.{value, counted, exactly, followed, is_good, many, front, one_more, repeated, size_in, ◌>>=◌}
use Rattle.byte_format.specs.Gives.{Stops}
use Rattle.byte_format.specs.declared.Stop.{Stop}
use Rattle.byte_format.specs.declared.Stop.TheVariants as stops
use Rattle.byte_format.specs.Items.{number, text}
use Rattle.byte_format.proofs.Readings.{front-again, front-followed, front-item}
use Rattle.byte_format.proofs.Turns.{one-read}
use Rattle.byte_format.proofs.Cases.{bind_same, both_true, chosen, ok_is}
use Rattle.col_codec.specs.Ints.{ints}
use Rattle.block_column.specs.Body.{code_below, dictionary_body, dictionary_steps, integers_body}
use Rattle.block_model.specs.Distinct.{text_at}

pub dictionary-steps : (rows : ℕ) (bytes : List ℕ) → front (dictionary_body rows) bytes ≡ dictionary_steps rows bytes
unfolding dictionary_body dictionary_steps
dictionary-steps rows bytes =
    front-followed (number w8) (λ count. followed (many count (text w16)) (λ held.
    followed (many rows (code_below count)) (λ codes. value (map (text_at held) codes)))) bytes
    ∙ bind_same (front (number w8) bytes) _ _ (λ count.
    front-followed (many count.0 (text w16)) (λ held. followed (many rows (code_below count.0)) (λ codes. value
    (map (text_at held) codes))) count.1
    ∙ bind_same (front (many count.0 (text w16)) count.1) _ _ (λ held.
    front-followed (many rows (code_below count.0)) (λ codes. value (map (text_at held.0) codes)) held.1))

pub integers-read : (rows : ℕ) (bytes : List ℕ)
    → front (integers_body rows) bytes ≡ front (ints rows) bytes >>= λ x. Ok (map signed_decimal x.0, x.1)
integers-read rows bytes = front-followed (ints rows) (λ xs. value (map signed_decimal xs)) bytes

pub stops-behind : {X Y : Type 0} (e : Stop) (r : Result X ℕ) (f : X → Result Y ℕ) → Stops e r → Stops e (r >>= f)
stops-behind stops.Memory r f s = tt
stops-behind (stops.Left left) r f s = rw s refl

pub one-more-passes : (p : ℕ → Bool) (xs : List ℕ) (x : ℕ) → list_all p xs ≡ true → p x ≡ true
    → list_all p (xs ++ x ∷ []) ≡ true
one-more-passes p xs x all one = rw (list_all-append p xs (x ∷ []), all, one) refl

-- ---- a text after its length in two bytes has fewer than 65,536

abbrev size_of : List ℕ → ℕ
size_of b = size_in (counted (byte_len w16) (from_le_bytes w16)) b

abbrev is_text : List ℕ → Bool
is_text bytes = is_utf8 (drop (byte_len w16) bytes)

low-number : (b : List ℕ) → ((i : ℕ) → get_or b i 0 < 256) → from_le_bytes w16 (take 2 b) < 65536
low-number [] h = omega arith
low-number (x ∷ []) h = omega (arith, h 0)
low-number (x ∷ y ∷ b) h = omega (arith, h 0, h 1)

pub text-short : (b t rest : List ℕ) → ((i : ℕ) → get_or b i 0 < 256) → front (text w16) b ≡ Ok (t, rest)
    → length t < 65536
text-short b t rest h e =
    let size = size_of b in
    let g = chosen (is_good (counted (byte_len w16) (from_le_bytes w16)) is_text b) (Ok (
      drop (byte_len w16) (take (size_of b) b),
      drop (size_of b) b,
    )) (length b) (t, rest) e in
    let same = ok_is (drop (byte_len w16) (take (size_of b) b), drop (size_of b) b) (t, rest) g.1 in
    omega (
      arith,
      low-number b h,
      length-drop (byte_len w16) (take (size_of b) b),
      length-take (size_of b) b,
      ap (λ (z : List ℕ × List ℕ). length z.0) same,
    )

-- ---- codes that are all there are themselves

codes-from : (count n : ℕ) (acc b : List ℕ) → n ≤ length b → list_all (λ code. nat_lt code count) (take n b) ≡ true
    → front (repeated n (one_more (code_below count)) acc) b ≡ Ok (acc ++ take n b, drop n b)
codes-from count zero acc b le e = ap (λ (l : List ℕ). Ok (l, b)) (sym (append-nil acc))
codes-from count (suc n) acc [] le e = absurd (omega (arith, le))
codes-from count (suc n) acc (x ∷ b) le e =
    let parts = both_true (nat_lt x count) (list_all (λ code. nat_lt code count) (take n b)) e in
    let back : from_le_bytes w8 (x ∷ []) ≡ x = omega arith in
    let one : front (code_below count) (x ∷ b) ≡ Ok (x, b) =
    front-item (exactly 1) (λ bytes. nat_lt (from_le_bytes w8 bytes) count) (λ bytes. value (from_le_bytes w8 bytes))
    (x ∷ []) b refl (ap (λ (m : ℕ). nat_lt m count) back ∙ parts.0)
    ∙ ap (λ (m : ℕ). Ok (m, b)) back in
    front-again n (one_more (code_below count)) acc (acc ++ x ∷ []) (x ∷ b) b (one-read (code_below count) acc x (x ∷ b)
    b one)
    ∙ codes-from count n (acc ++ x ∷ []) b (omega (arith, le)) parts.1
    ∙ ap (λ (l : List ℕ). Ok (l, drop n b)) (append_assoc acc (x ∷ []) (take n b))

pub codes-read : (count n : ℕ) (b : List ℕ) → n ≤ length b → list_all (λ code. nat_lt code count) (take n b) ≡ true
    → front (many n (code_below count)) b ≡ Ok (take n b, drop n b)
codes-read count n b le e = codes-from count n [] b le e
