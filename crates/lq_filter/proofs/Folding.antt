-- The case folding of ASCII.
use Rattle.std.proofs.Common.{◌≡◌, ℕ, List, IsAscii, encode_utf8_all, map, sym, ap, ◌∙◌}
use Rattle.std.specs.Char.{to_ascii_lowercase}
use Rattle.std.proofs.lemmas.Str.{chars-IsAscii, encodes-IsAscii}
use Rattle.std.proofs.lemmas.Str.Ascii.{All-from_ascii, IsAscii-map, lowercase_ascii}
use Rattle.caseless.specs.Caseless.{default_case_fold}
use Rattle.caseless.proofs.CaselessLemmas.{default_case_fold-ascii}
use Rattle.lq_ast.specs.Phrases.{case_folded}

-- it is the lower case
pub case_folded-ascii : (text : List ℕ) → IsAscii text → map to_ascii_lowercase text ≡ case_folded text
case_folded-ascii text ascii =
    let lower = IsAscii-map to_ascii_lowercase text lowercase_ascii ascii in
    let folded = default_case_fold-ascii text (All-from_ascii text ascii) in
    sym (encodes-IsAscii (map to_ascii_lowercase text) lower)
    ∙ ap encode_utf8_all (sym folded ∙ ap default_case_fold (sym (chars-IsAscii text ascii)))
