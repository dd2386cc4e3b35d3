-- What a pattern is read as.
use Rattle.std.proofs.Common.{◌≡◌, ℕ, Bool, true, false, List, refl}
use Rattle.grammar.specs.Rule.{Token, checked}
use Rattle.lq_ast.specs.PatternText.{pattern_of}
use Rattle.lq_grammar.specs.Clauses.{at}
use Rattle.lq_grammar.specs.LogsQL.{extract_pieces, format_pieces, text}
use Rattle.lq_grammar.specs.Roles.{any, quoted}
use Rattle.lq_grammar.specs.Values.{Bytes, bad_pattern, from_option}
use Rattle.lq_parse.specs.Ends.{pieces}

pub pieces_read : (depth : ℕ) (extracting : Bool) (u : List (Token Bytes)) → at depth (pieces extracting) u
    ≡ at depth (checked (λ text. from_option bad_pattern (pattern_of extracting text)) (text (any quoted))) u
unfolding extract_pieces format_pieces
pieces_read depth true u = refl
pieces_read depth false u = refl
