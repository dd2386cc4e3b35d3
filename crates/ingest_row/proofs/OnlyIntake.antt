-- The lines of a body have one list of outcomes.
use Rattle.std.proofs.Common.{◌≡◌, ℕ, ℤ, List, [], ◌∷◌, refl, ap, ◌∙◌}
use Rattle.std.specs.List.{AllZip}
use Rattle.ingest_row.specs.Ingest.{Options}
use Rattle.ingest_row.specs.Intake.{IsIntake, IsOutcome, Outcome, passed_over, read, refused}
use Rattle.log_model.specs.Line.{is_blank, lines_of}
use Rattle.ingest_row.proofs.OnlyKind.{one_kind}
use Rattle.ingest_row.proofs.OnlyRow.{one_row}
use Rattle.ingest_row.proofs.Times.{true_not_false}

one_outcome : (o : Options) (now : ℤ) (line : List ℕ) (one other : Outcome) → IsOutcome o now line one
    → IsOutcome o now line other → one ≡ other
one_outcome o now line passed_over passed_over is is_too = refl
one_outcome o now line passed_over (read row) is is_too = absurd (true_not_false (is_blank line) is is_too.0)
one_outcome o now line passed_over (refused kind) is is_too = absurd (true_not_false (is_blank line) is is_too.0)
one_outcome o now line (read row) passed_over is is_too = absurd (true_not_false (is_blank line) is_too is.0)
one_outcome o now line (read row) (read row_too) is is_too = ap read (one_row o now line row row_too is.1 is_too.1)
one_outcome o now line (read row) (refused kind) is is_too = absurd (is_too.3 row is.1)
one_outcome o now line (refused kind) passed_over is is_too = absurd (true_not_false (is_blank line) is_too is.0)
one_outcome o now line (refused kind) (read row) is is_too = absurd (is.3 row is_too.1)
one_outcome o now line (refused kind) (refused kind_too) is is_too =
    ap refused (one_kind o now line kind kind_too is.1 is_too.1 is.2 is_too.2)

one_list : (o : Options) (now : ℤ) (lines : List (List ℕ)) (one other : List Outcome)
    → AllZip (IsOutcome o now) lines one → AllZip (IsOutcome o now) lines other → one ≡ other
one_list o now [] [] [] all all_too = refl
one_list o now [] [] (y ∷ other) all all_too = absurd all_too
one_list o now [] (x ∷ one) other all all_too = absurd all
one_list o now (line ∷ lines) [] other all all_too = absurd all
one_list o now (line ∷ lines) (x ∷ one) [] all all_too = absurd all_too
one_list o now (line ∷ lines) (x ∷ one) (y ∷ other) all all_too =
    ap (λ (z : Outcome). z ∷ one) (one_outcome o now line x y all.0 all_too.0)
    ∙ ap (λ (rest : List Outcome). y ∷ rest) (one_list o now lines one other all.1 all_too.1)

pub one_intake : (o : Options) (now : ℤ) (body : List ℕ) (one other : List Outcome) → IsIntake o now body one
    → IsIntake o now body other → one ≡ other
one_intake o now body one other given given_too = one_list o now (lines_of body) one other given given_too
