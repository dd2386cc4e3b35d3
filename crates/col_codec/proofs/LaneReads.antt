-- Reading the differences of integers.
use Rattle.std.proofs.Common.{◌≡◌, ℕ, zero, suc, ◌≤◌, ◌<◌, true, List, [], ◌∷◌, ◌++◌, length, take, drop, map, Ok, Err}
use Rattle.std.proofs.Common.{refl, sym, ap, ◌∙◌, arith, append_assoc, ℤ, w8}
use Rattle.std.specs.Int.{Width, byte_len, from_le_bytes}
use Rattle.std.specs.List.{list_all}
use Rattle.std.proofs.lemmas.List.{append-nil, map-append}
use Rattle.std.proofs.lemmas.List.Folds.{list_all-append, list_all-map}
use Rattle.byte_format.specs.Format.{Format, value, exactly, front, many, repeated, one_more, is_good}
use Rattle.byte_format.specs.Items.{any_number, number}
use Rattle.byte_format.proofs.Cases.{bind_ok, both_true, chosen, ok_is}
use Rattle.byte_format.proofs.Readings.{front-again, front-followed, front-item, front-stops, good-made, good-parts}
use Rattle.byte_format.proofs.Turns.{one-read, one-stops}
use Rattle.col_codec.specs.Ints.{int_above, is_i64, sum_in}
use Rattle.col_codec.specs.Lanes.{sum_of}

-- a number is read where its sum is, if the sum fits
above-number : (w : Width) (least : ℤ) (b r : List ℕ) (n : ℕ) → front (number w) b ≡ Ok (n, r)
    → is_i64 (sum_of least n) ≡ true → front (int_above w least) b ≡ Ok (sum_of least n, r)
above-number w least b r n e fits =
    let g = chosen (is_good (exactly (byte_len w)) (λ bytes. any_number (from_le_bytes w bytes)) b) (Ok (
      from_le_bytes w (take (byte_len w) b),
      drop (byte_len w) b,
    )) (length b) (n, r) e in
    let p = good-parts (exactly (byte_len w)) (λ bytes. any_number (from_le_bytes w bytes)) b g.0 in
    let same = ok_is (from_le_bytes w (take (byte_len w) b), drop (byte_len w) b) (n, r) g.1 in
    let form : is_i64 (sum_in w least (take (byte_len w) b)) ≡ true = ap (λ (z : ℕ
    × List ℕ). is_i64 (sum_of least z.0)) same ∙ fits in
    rw (good-made (exactly (byte_len w)) (λ bytes. is_i64 (sum_in w least bytes)) b p.0 form) (ap (λ (z : ℕ
    × List ℕ). Ok (sum_of least z.0, z.1)) same)

-- one value more is read, and the others after it
after-one : {A : Type 0} (f : Format A) (n : ℕ) (acc : List A) (b : List ℕ) (y : List A × List ℕ)
    → front (repeated (suc n) (one_more f) acc) b ≡ Ok y
    → (x : A × List ℕ) × (front f b ≡ Ok x) × (front (repeated n (one_more f) (acc ++ x.0 ∷ [])) x.1 ≡ Ok y)
after-one {A = A} f n acc b y e =
    let s = bind_ok (front (one_more f acc) b) (λ t. front (repeated n (one_more f) t.0) t.1) y (sym (front-followed
    (one_more f acc) (λ t. repeated n (one_more f) t) b) ∙ e) in
    let t = bind_ok (front f b) (λ x. Ok (acc ++ x.0 ∷ [], x.1)) s.0 (sym (front-followed f (λ x. value
    (acc ++ x ∷ [])) b) ∙ s.1) in
    let made : (acc ++ t.0.0 ∷ [], t.0.1) ≡ s.0 = ok_is (acc ++ t.0.0 ∷ [], t.0.1) s.0 t.2 in (
      t.0,
      t.1,
      ap (λ (z : List A × List ℕ). front (repeated n (one_more f) z.0) z.1) made ∙ s.2,
    )

-- what was read stays
repeated-kept : {A : Type 0} (f : Format A) (n : ℕ) (acc : List A) (b : List ℕ) (y : List A × List ℕ)
    → front (repeated n (one_more f) acc) b ≡ Ok y → (more : List A) × (y.0 ≡ acc ++ more)
repeated-kept {A = A} f zero acc b y e =
    ([], ap (λ (z : List A × List ℕ). z.0) (sym (ok_is (acc, b) y e)) ∙ sym (append-nil acc))
repeated-kept f (suc n) acc b y e =
    let one = after-one f n acc b y e in
    let next = repeated-kept f n (acc ++ one.0.0 ∷ []) one.0.1 y one.2 in
    (one.0.0 ∷ next.0, next.1 ∙ append_assoc acc (one.0.0 ∷ []) next.0)

sums-from : (w : Width) (least : ℤ) (n : ℕ) (acc b : List ℕ) (y : List ℕ × List ℕ)
    → front (repeated n (one_more (number w)) acc) b ≡ Ok y
    → list_all (λ m. is_i64 (sum_of least m)) y.0 ≡ true
    → front (repeated n (one_more (int_above w least)) (map (sum_of least) acc)) b
    ≡ Ok (map (sum_of least) y.0, y.1)
sums-from w least zero acc b y e fits =
    ap (λ (z : List ℕ × List ℕ). Ok (map (sum_of least) z.0, z.1)) (ok_is (acc, b) y e)
sums-from w least (suc n) acc b y e fits =
    let one = after-one (number w) n acc b y e in
    let x = one.0.0 in
    let kept = repeated-kept (number w) n (acc ++ one.0.0 ∷ []) one.0.1 y one.2 in
    let all : list_all (λ m. is_i64 (sum_of least m)) ((acc ++ one.0.0 ∷ []) ++ kept.0) ≡ true =
    ap (list_all (λ m. is_i64 (sum_of least m))) (sym kept.1) ∙ fits in
    let first = both_true (list_all (λ m. is_i64 (sum_of least m)) (acc ++ one.0.0 ∷ [])) (list_all
    (λ m. is_i64 (sum_of least m)) kept.0) (sym (list_all-append (λ m. is_i64 (sum_of least m)) (acc ++ one.0.0 ∷ [])
    kept.0) ∙ all) in
    let last = both_true (list_all (λ m. is_i64 (sum_of least m)) acc) (list_all (λ m. is_i64 (sum_of least m))
    (one.0.0 ∷ [])) (sym (list_all-append (λ m. is_i64 (sum_of least m)) acc (one.0.0 ∷ [])) ∙ first.0) in
    let alone = both_true (is_i64 (sum_of least one.0.0)) true last.1 in
    let read = above-number w least b one.0.1 one.0.0 one.1 alone.0 in
    front-again n (one_more (int_above w least)) (map (sum_of least) acc) (map (sum_of least) acc
    ++ sum_of least one.0.0 ∷ []) b one.0.1 (one-read (int_above w least) (map (sum_of least) acc)
    (sum_of least one.0.0) b one.0.1 read)
    ∙ ap (λ (l : List ℤ). front (repeated n (one_more (int_above w least)) l) one.0.1) (sym (map-append (sum_of least)
    acc (one.0.0 ∷ [])))
    ∙ sums-from w least n (acc ++ one.0.0 ∷ []) one.0.1 y one.2 fits

pub sums-read : (w : Width) (least : ℤ) (rows : ℕ) (b ns rest : List ℕ) → front (many rows (number w)) b
    ≡ Ok (ns, rest) → list_all is_i64 (map (sum_of least) ns) ≡ true
    → front (many rows (int_above w least)) b ≡ Ok (map (sum_of least) ns, rest)
sums-read w least rows b ns rest e fits =
    sums-from w least rows [] b (ns, rest) e (sym (list_all-map is_i64 (sum_of least) ns) ∙ fits)

-- ---- bytes are themselves

byte-read : (x : ℕ) (b : List ℕ) → front (number w8) (x ∷ b) ≡ Ok (x, b)
byte-read x b =
    let back : from_le_bytes w8 (x ∷ []) ≡ x = omega arith in
    front-item (exactly 1) (λ bytes. any_number (from_le_bytes w8 bytes)) (λ bytes. value (from_le_bytes w8 bytes))
    (x ∷ []) b refl refl
    ∙ ap (λ (m : ℕ). Ok (m, b)) back

bytes-from : (n : ℕ) (acc b : List ℕ) → n ≤ length b
    → front (repeated n (one_more (number w8)) acc) b ≡ Ok (acc ++ take n b, drop n b)
bytes-from zero acc b le = ap (λ (l : List ℕ). Ok (l, b)) (sym (append-nil acc))
bytes-from (suc n) acc [] le = absurd (omega (arith, le))
bytes-from (suc n) acc (x ∷ b) le =
    front-again n (one_more (number w8)) acc (acc ++ x ∷ []) (x ∷ b) b (one-read (number w8) acc x (x ∷ b) b (byte-read x b))
    ∙ bytes-from n (acc ++ x ∷ []) b (omega (arith, le))
    ∙ ap (λ (l : List ℕ). Ok (l, drop n b)) (append_assoc acc (x ∷ []) (take n b))

pub bytes-read : (n : ℕ) (b : List ℕ) → n ≤ length b → front (many n (number w8)) b ≡ Ok (take n b, drop n b)
bytes-read n b le = bytes-from n [] b le

short-from : (n : ℕ) (acc b : List ℕ) → length b < n → front (repeated n (one_more (number w8)) acc) b ≡ Err 0
short-from zero acc b lt = absurd (omega (arith, lt))
short-from (suc n) acc [] lt = front-stops n (one_more (number w8)) acc [] 0 (one-stops (number w8) acc [] 0 refl)
short-from (suc n) acc (x ∷ b) lt =
    front-again n (one_more (number w8)) acc (acc ++ x ∷ []) (x ∷ b) b (one-read (number w8) acc x (x ∷ b) b (byte-read x b))
    ∙ short-from n (acc ++ x ∷ []) b (omega (arith, lt))

pub bytes-short : (n : ℕ) (b : List ℕ) → length b < n → front (many n (number w8)) b ≡ Err 0
bytes-short n b lt = short-from n [] b lt
