-- Where a text may be cut: after ASCII bytes, and before what ends a run of plain bytes.
use Rattle.std.proofs.Common.{◌≡◌, ℕ, ◌+◌, ◌-◌, ◌<◌, ◌++◌, Bool, true, false, List, length, get_or, subst, ap, inl}
use Rattle.std.proofs.Common.{inr, arith}
use Rattle.std.specs.Char.{is_ascii_digit, is_ascii_hexdigit}
use Rattle.std.specs.List.{prefix_len}
use Rattle.std.specs.Str.{IsUtf8, IsCharBoundary}
use Rattle.std.proofs.lemmas.Bool.{or_cases, eqb-true, cases_lt, and_cases, leb-true, leb-false, not-false}
use Rattle.std.proofs.lemmas.List.{length-append}
use Rattle.std.proofs.lemmas.List.Sums.{prefix_len_passes, prefix_len_stops, prefix_len-le-length}
use Rattle.std.proofs.lemmas.Str.{IsCharBoundary-start, IsCharBoundary-end, IsCharBoundary-after_ascii}
use Rattle.std.proofs.lemmas.Str.{IsCharBoundary-before_ascii, IsCharBoundary-at_seam}
use Rattle.log_model.specs.Json.{is_space, is_plain}
use Rattle.log_model.specs.Token.{is_short}

-- ---- bytes that are ASCII

space_is_ascii : (byte : ℕ) → is_space byte ≡ true → byte < 128
space_is_ascii byte e = grind (arith, or_cases, eqb-true)

digit_is_ascii : (byte : ℕ) → is_ascii_digit byte ≡ true → byte < 128
digit_is_ascii byte e = grind (arith, and_cases, leb-true)

hex_is_ascii : (byte : ℕ) → is_ascii_hexdigit byte ≡ true → byte < 128
hex_is_ascii byte e = grind (arith, or_cases, and_cases, leb-true)

short_is_ascii : (byte : ℕ) → is_short byte ≡ true → byte < 128
short_is_ascii byte e = grind (arith, or_cases, eqb-true)

stop_is_ascii : (byte : ℕ) → is_plain byte ≡ false → byte < 128
stop_is_ascii byte e = grind (arith, and_cases, or_cases, eqb-true, leb-false, not-false)

-- ---- after one byte

pub byte_cut : (text : List ℕ) → IsUtf8 text → 0 < length text → get_or text 0 0 < 128 → IsCharBoundary text 1
byte_cut text utf8 some ascii = IsCharBoundary-after_ascii text 0 utf8 some ascii

pub hex_cut : (text : List ℕ) → IsUtf8 text → 0 < length text → is_ascii_hexdigit (get_or text 0 0) ≡ true
    → IsCharBoundary text 1
hex_cut text utf8 some hex = byte_cut text utf8 some (hex_is_ascii _ hex)

pub short_cut : (text : List ℕ) → IsUtf8 text → 0 < length text → is_short (get_or text 0 0) ≡ true
    → IsCharBoundary text 1
short_cut text utf8 some is = byte_cut text utf8 some (short_is_ascii _ is)

-- ---- after a run

run_cut : (test : ℕ → Bool) → ((byte : ℕ) → test byte ≡ true → byte < 128) → (text : List ℕ) → IsUtf8 text
    → IsCharBoundary text (prefix_len test text)
run_cut test ascii text utf8 =
    let n = prefix_len test text in
    elim (cases_lt 0 n) [
      | inl some ↦
          let last : n - 1 + 1 ≡ n = omega arith in
          let within : n - 1 < length text = omega (arith, prefix_len-le-length test text) in
          subst (IsCharBoundary text) last (IsCharBoundary-after_ascii text (n - 1) utf8 within
          (ascii _ (prefix_len_passes test text (n - 1) 0 (omega arith))))
      | inr none ↦
          let start : 0 ≡ n = omega arith in
          subst (IsCharBoundary text) start (IsCharBoundary-start text utf8)
    ]

pub space_cut : (text : List ℕ) → IsUtf8 text → IsCharBoundary text (prefix_len is_space text)
space_cut text utf8 = run_cut is_space space_is_ascii text utf8

pub digits_cut : (text : List ℕ) → IsUtf8 text → IsCharBoundary text (prefix_len is_ascii_digit text)
digits_cut text utf8 = run_cut is_ascii_digit digit_is_ascii text utf8

pub plain_cut : (text : List ℕ) → IsUtf8 text → IsCharBoundary text (prefix_len is_plain text)
plain_cut text utf8 =
    let n = prefix_len is_plain text in
    elim (cases_lt n (length text)) [
      | inl within ↦ IsCharBoundary-before_ascii text n within
          (stop_is_ascii _ (prefix_len_stops is_plain text 0 within))
      | inr all ↦
          let whole : length text ≡ n = omega (arith, prefix_len-le-length is_plain text) in
          subst (IsCharBoundary text) whole (IsCharBoundary-end text)
    ]

-- ---- before what is left

pub prefix_cut : (text taken rest : List ℕ) → text ≡ taken ++ rest → IsUtf8 rest
    → IsCharBoundary text (length text - length rest)
prefix_cut text taken rest parts utf8 =
    let n : length taken ≡ length text - length rest = omega (arith, ap length parts, length-append taken rest) in
    subst (IsCharBoundary text) n (IsCharBoundary-at_seam text taken rest parts utf8)
