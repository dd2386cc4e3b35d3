-- Filters of words, and filters in bytes.
use Rattle.std.proofs.Common.{◌≡◌, ℕ, ◌*◌, ◌/◌, ◌%◌, ◌<◌, ◌^◌, Bool, true, false, cond, eqb, get_or, List, [], ◌∷◌}
use Rattle.std.proofs.Common.{◌+◌, ◌++◌, ◌≤◌, zero, suc, take, drop, length, Ok, Result, refl, sym, ap, ◌∙◌, arith}
use Rattle.std.specs.Prelude.{bit_or}
use Rattle.std.specs.Int.{from_le_bytes, w32, w64}
use Rattle.std.specs.List.{fold}
use Rattle.std.proofs.Math.ListN.{length-set}
use Rattle.std.proofs.lemmas.List.{drop-drop, length-drop, length-replicate}
use Rattle.byte_format.specs.Format.{exactly, value, followed, many, front, one_more, repeated, ◌>>=◌}
use Rattle.byte_format.specs.Gives.{Stops}
use Rattle.byte_format.specs.declared.Stop.{Stop}
use Rattle.byte_format.specs.declared.Stop.TheVariants as stops
use Rattle.byte_format.specs.Items.{any_number, number}
use Rattle.byte_format.proofs.Cases.{bind_assoc, bind_same}
use Rattle.byte_format.proofs.Readings.{front-again, front-followed, good-made}
use Rattle.byte_format.proofs.Turns.{one-read}
use Rattle.token_bloom.specs.Bits.{bit_count, fnv, places, with_bit, with_bits}
use Rattle.token_bloom.specs.Filter.{empty_filter, with_word, words_for}
use Rattle.word_filter.specs.Words.{filter_item, filter_steps, skipped}

pub filter-steps : (bytes : List ℕ) → front filter_item bytes ≡ filter_steps bytes
unfolding filter_item filter_steps
filter-steps bytes =
    front-followed (number w32) (λ count. followed (many count (number w64)) (λ filter. value count)) bytes
    ∙ bind_same (front (number w32) bytes) _ _ (λ count.
    front-followed (many count.0 (number w64)) (λ filter. value count.0) count.1
    ∙ sym (bind_assoc (front (many count.0 (number w64)) count.1) (λ filter. Ok filter.1)
    (λ (rest : List ℕ). Ok (count.0, rest))))

-- where the first reader stops, both do
pub stops-behind : {X Y : Type 0} (e : Stop) (r : Result X ℕ) (f : X → Result Y ℕ) → Stops e r → Stops e (r >>= f)
stops-behind stops.Memory r f s = tt
stops-behind (stops.Left left) r f s = rw s refl

-- words that are added make no filter longer
bits-length : (filter bits : List ℕ) → length (with_bits filter bits) ≡ length filter
bits-length filter [] = refl
bits-length filter (b ∷ bits) =
    bits-length (with_bit filter b) bits
    ∙ length-set filter (b / 64) (bit_or (get_or filter (b / 64) 0) (1 * 2 ^ (b % 64) % 2 ^ 64))

pub word-length : (filter word : List ℕ) → length (with_word filter word) ≡ length filter
word-length filter word = by (eqb (length filter) 0)
  where
    by : (none : Bool) → length (cond none filter (with_bits filter (places (bit_count filter) (fnv word))))
        ≡ length filter
    by true = refl
    by false = bits-length filter (places (bit_count filter) (fnv word))

words-length : (filter : List ℕ) (words : List (List ℕ)) → length (fold with_word filter words) ≡ length filter
words-length filter [] = refl
words-length filter (word ∷ words) = words-length (with_word filter word) words ∙ word-length filter word

pub small-filter : (n : ℕ) (words : List (List ℕ)) → n < 2 ^ 32
    → length (fold with_word (empty_filter n) words) < 2 ^ 32
small-filter n words small =
    omega (arith, words-length (empty_filter n) words, length-replicate {A = ℕ} (words_for n) 0, small)

-- where all are there, they are skipped at once
passed : (n : ℕ) (acc b : List ℕ) → 8 * n ≤ length b
    → (numbers : List ℕ) × (front (repeated n (one_more (number w64)) acc) b ≡ Ok (numbers, drop (8 * n) b))
passed zero acc b le = (acc, refl)
passed (suc n) acc b le =
    let first : List ℕ = acc ++ from_le_bytes w64 (take 8 b) ∷ [] in
    let one : front (number w64) b ≡ Ok (from_le_bytes w64 (take 8 b), drop 8 b) =
    rw (good-made (exactly 8) (λ bytes. any_number (from_le_bytes w64 bytes)) b (omega (arith, le)) refl) refl in
    let next = passed n (acc ++ from_le_bytes w64 (take 8 b) ∷ []) (drop 8 b) (omega (arith, le, length-drop 8 b)) in
    let on : 8 + 8 * n ≡ 8 * suc n = omega arith in (
      next.0,
      front-again n (one_more (number w64)) acc (acc ++ from_le_bytes w64 (take 8 b) ∷ []) b (drop 8 b) (one-read
          (number w64) acc (from_le_bytes w64 (take 8 b)) b (drop 8 b) one)
          ∙ next.1
          ∙ ap (λ (l : List ℕ). Ok (next.0, l)) (drop-drop (8 * n) 8 b ∙ ap (λ (k : ℕ). drop k b) on),
    )

pub skipped-all : (n : ℕ) (b : List ℕ) → 8 * n ≤ length b → skipped n b ≡ Ok (drop (8 * n) b)
skipped-all n b le = let p = passed n [] b le in rw p.1 refl
