-- What is written is read again.
use Rattle.std.proofs.Common.{◌≡◌, ℕ, List, [], ◌∷◌, Some, Ok, ap, refl, sym, ◌∙◌}
use Rattle.std.specs.Prelude.{nat_le}
use Rattle.byte_format.specs.Format.{whole}
use Rattle.byte_format.specs.Spelling.{IsReadAgain}
use Rattle.byte_format.proofs.Cases.{some_from}
use Rattle.byte_format_tests.specs.Padded.{padded, padded_writing}

pub is_read_again : (most : ℕ) → IsReadAgain padded (padded_writing most)
is_read_again most n bytes written =
    let same = some_from (nat_le n most) (n ∷ 0 ∷ []) bytes written in
    ap (whole padded) (sym same.1)
