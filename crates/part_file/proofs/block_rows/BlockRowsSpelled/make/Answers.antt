use Rattle.std.proofs.Common.{◌≡◌, false, true}
use Rattle.byte_format.specs.Spelling.{HasSpelling}
use Rattle.block_format.specs.Reading.{block_writing, has_spelling, rows_said}
use Rattle.block_format.proofs.ReadAgain.{is-none}
use Rattle.std.proofs.Common.{None}
use Rattle.part_file.proofs.ItemLaws.{none-of, some-of, some-spelling}
use Rattle.part_file.proofs.block_rows.BlockRowsSpelled.make.Goals as goal

pub returns-clause-some : goal.returns-clause-some
returns-clause-some c =
    some-of c.in_ok-rows.rows (has_spelling (rows_said c.args.self.parts) ≡ false) (λ rows. (rows.items
    ≡ rows_said c.args.self.parts) × (has_spelling rows.items ≡ true)) (λ rows. rows.items
    ≡ rows_said c.args.self.parts) (λ rows h. h.0) c.in_ok-rows.ensures

pub returns-clause-spelled : goal.returns-clause-spelled
returns-clause-spelled c =
    some-of c.in_ok-rows.rows (has_spelling (rows_said c.args.self.parts) ≡ false) (λ rows. (rows.items
    ≡ rows_said c.args.self.parts) × (has_spelling rows.items ≡ true)) (λ rows. HasSpelling (block_writing
    rows.items)) (λ rows h. some-spelling rows.items h.1) c.in_ok-rows.ensures

pub returns-clause-none : goal.returns-clause-none
returns-clause-none c =
    none-of c.in_ok-rows.rows (has_spelling (rows_said c.args.self.parts) ≡ false) (block_writing (rows_said
    c.args.self.parts) ≡ None) (λ rows. (rows.items ≡ rows_said c.args.self.parts) × (has_spelling rows.items ≡ true))
    (λ e. is-none (rows_said c.args.self.parts) e) c.in_ok-rows.ensures
