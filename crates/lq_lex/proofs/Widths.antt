-- The lengths of characters in bytes, and where a text may be split.
use Rattle.std.proofs.Common.{◌≡◌, ℕ, ◌+◌, ◌-◌, ◌<◌, List, ◌∷◌, ◌++◌, length, chars, encode_utf8, sym, ap, ◌∙◌, subst, arith}
use Rattle.std.specs.Str.{IsUtf8, IsCharBoundary, encode_utf8_all}
use Rattle.std.proofs.lemmas.List.{length-append}
use Rattle.std.proofs.lemmas.Str.{encodes-chars, encodes-append, IsCharBoundary-at_seam, chars_past_char, length-encode, len_utf8_bounds}
use Rattle.lq_lex.specs.Lexing.{width}

pub width-chars : (text : List ℕ) → IsUtf8 text → width (chars text) ≡ length text
width-chars text utf8 = ap length (encodes-chars text utf8)

pub width-append : (cs ds : List ℕ) → width (cs ++ ds) ≡ width cs + width ds
width-append cs ds = ap length (encodes-append cs ds) ∙ length-append (encode_utf8_all cs) (encode_utf8_all ds)

-- the characters of a text, by their encoding
pub width-is : (text cs : List ℕ) → IsUtf8 text → chars text ≡ cs → width cs ≡ length text
width-is text cs utf8 is = ap width (sym is) ∙ width-chars text utf8

pub ruleset width_steps = (width-chars, width-is)

pub prefix_cut : (text taken rest : List ℕ) → text ≡ taken ++ rest → IsUtf8 rest → IsCharBoundary text (length text - length rest)
prefix_cut text taken rest parts utf8 =
    let n : length taken ≡ length text - length rest = omega (arith, ap length parts, length-append taken rest) in
    subst (IsCharBoundary text) n (IsCharBoundary-at_seam text taken rest parts utf8)

-- the first character of a text
pub split_is : (text rest : List ℕ) (c : ℕ) → IsUtf8 text → text ≡ encode_utf8 c ++ rest → (chars text ≡ c ∷ chars rest) × (length rest < length text)
split_is text rest c utf8 e =
    (chars_past_char text rest c utf8 e, omega (arith, ap length e, length-append (encode_utf8 c) rest, length-encode c, len_utf8_bounds c))
