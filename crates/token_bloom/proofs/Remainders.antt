-- How often a number of bits goes into a hash, found by a multiplication to within one.
use Rattle.std.proofs.Common.{◌≡◌, ℕ, ◌+◌, ◌*◌, ◌/◌, ◌%◌, ◌-◌, ◌<◌, ◌≤◌, ◌^◌, ap, sym, ◌∙◌, arith}
use Rattle.std.proofs.Math.Nat.{add-mul, mul-add, mul_assoc, mul_right_comm, div-mul-le_self, lt-div-mul-add}
use Rattle.std.proofs.lemmas.Nat.{mod-mul-add, mul-le}

reduced-is : (n y q a : ℕ) → y ≡ a * n + q → q < n → q ≡ y % n
reduced-is n y q a e lt = sym (mod-mul-add a n q lt) ∙ ap (λ (m : ℕ). m % n) (sym e)

-- with products as numbers of their own
no_more : (x a y h : ℕ) → a ≤ y → a ≡ x * 2 ^ 64 → y ≤ h * 2 ^ 64 → x ≤ h
no_more x a y h below is within = omega (arith, below, is, within)

no_less : (x a y z b h : ℕ) → 0 < b → a ≡ x * 2 ^ 64 → y + b ≤ a + 2 ^ 64 * b → h * 2 ^ 64 ≤ y + z → z + b ≤ 2 ^ 64 * b
    → h < x + 2 * b
no_less x a y z b h some is scaled full small = omega (arith, some, is, scaled, full, small)

module _ (h b m q : ℕ) (some : 0 < b) (small : h < 2 ^ 64) (inverse : m ≡ (2 ^ 64 - 1) / b) (is : q
    ≡ h * m / 2 ^ 64) where
  high : m * b < 2 ^ 64
  high = let below : m * b ≤ 2 ^ 64 - 1 = rw inverse (div-mul-le_self (2 ^ 64 - 1) b) in omega (arith, below)

  low : 2 ^ 64 ≤ m * b + b
  low = let above : 2 ^ 64 - 1 < m * b + b = rw inverse (lt-div-mul-add some) in omega (arith, above)

  swapped : (q * 2 ^ 64) * b ≡ (q * b) * 2 ^ 64
  swapped = mul_right_comm q (2 ^ 64) b

  pub goes_in : q * b ≤ h
  goes_in =
      let whole : q * 2 ^ 64 ≤ h * m = omega (arith, is) in
      let scaled : (q * 2 ^ 64) * b ≤ h * (m * b) = rw (← mul_assoc h m b) (mul-le (q * 2 ^ 64) b (h * m) b whole
      (omega arith)) in
      let within : h * (m * b) ≤ h * 2 ^ 64 = mul-le h (m * b) h (2 ^ 64) (omega arith) (omega (arith, high)) in
      no_more (q * b) ((q * 2 ^ 64) * b) (h * (m * b)) h scaled swapped within

  pub within_one : h < q * b + 2 * b
  within_one =
      let whole : h * m + 1 ≤ q * 2 ^ 64 + 2 ^ 64 = omega (arith, is) in
      let scaled : (h * m + 1) * b ≤ (q * 2 ^ 64 + 2 ^ 64) * b = mul-le (h * m + 1) b (q * 2 ^ 64 + 2 ^ 64) b whole
      (omega arith) in
      let left : (h * m + 1) * b ≡ h * (m * b) + b = add-mul (h * m) 1 b ∙ ap (λ n. n + 1 * b) (mul_assoc h m b)
      ∙ omega arith in
      let right : (q * 2 ^ 64 + 2 ^ 64) * b ≡ (q * 2 ^ 64) * b + 2 ^ 64 * b = add-mul (q * 2 ^ 64) (2 ^ 64) b in
      let full : h * 2 ^ 64 ≤ h * (m * b) + h * b =
      rw (← mul-add h (m * b) b) (mul-le h (2 ^ 64) h (m * b + b) (omega arith) low) in
      let one : (h + 1) * b ≤ 2 ^ 64 * b = mul-le (h + 1) b (2 ^ 64) b (omega (arith, small)) (omega arith) in
      let parts : (h + 1) * b ≡ h * b + 1 * b = add-mul h 1 b in
      no_less (q * b) ((q * 2 ^ 64) * b) (h * (m * b)) (h * b) b h some swapped
      (rw (← left, ← right) scaled) full (omega (arith, one, parts))

  pub first_rest : h - q * b < b → h - q * b ≡ h % b
  first_rest below = reduced-is b h (h - q * b) q (omega (arith, goes_in)) below

  pub second_rest : b ≤ h - q * b → h - q * b - b ≡ h % b
  second_rest above = reduced-is b h (h - q * b - b) (q + 1) (omega (arith, goes_in, above, add-mul q 1 b)) (omega
      (arith, within_one, above))
