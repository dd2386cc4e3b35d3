use Rattle.std.proofs.Common.{FitsSigned, w64}
use Rattle.std.proofs.lemmas.Int.{to_z-of_z}
use Rattle.ingest_row.proofs.Far.{kind_at_whole, none_at_whole, row_at_whole}
use Rattle.ingest_row.proofs.OnlyRow.{one_fields}
use Rattle.ingest_row.proofs.RowsOfLines.{SaysOnly, is_row_of_line, no_fields, no_row_of_line, only_row_of_line}
use Rattle.ingest_row.proofs.RowsOfLines.{refused_for_fields}
use Rattle.ingest_row.proofs.line.row_with_room.Goals as goal

says : (c : goal.After-row_of_said) → SaysOnly c.args.line.now c.in_ok-said.ensures.says.0
says c = record {
  says = c.in_ok-said.ensures.says.1;
  only = λ other is. one_fields c.args.line.now other c.in_ok-said.ensures.says.0 is c.in_ok-said.ensures.says.1;
}

pub returns-in_err-said-clause-none : goal.returns-in_err-said-clause-none
returns-in_err-said-clause-none c =
    no_fields c.args.o.now c.args.now c.args.line.now _ _ c.in_err-said.ensures.none c.from_residual.ensures.1

pub returns-clause-read : goal.returns-clause-read
returns-clause-read c =
    let fits : FitsSigned w64 c.args.now = c.ranges.now in
    is_row_of_line c.args.o.now c.args.now c.args.line.now c.in_ok-said.ensures.says.0 _ (says c)
    (row_at_whole c.row_of_said.result _ _ c.in_ok-said.ensures.says.0 (simp to_z-of_z at c.row_of_said.ensures.read)
    c.in_ok-said.ensures.says.2)

pub returns-clause-only : goal.returns-clause-only
returns-clause-only c =
    let fits : FitsSigned w64 c.args.now = c.ranges.now in
    only_row_of_line c.args.o.now c.args.now c.args.line.now c.in_ok-said.ensures.says.0 _ (says c)
    (row_at_whole c.row_of_said.result _ _ c.in_ok-said.ensures.says.0 (simp to_z-of_z at c.row_of_said.ensures.only)
    c.in_ok-said.ensures.says.2)

pub returns-clause-none : goal.returns-clause-none
returns-clause-none c =
    let fits : FitsSigned w64 c.args.now = c.ranges.now in
    no_row_of_line c.args.o.now c.args.now c.args.line.now c.in_ok-said.ensures.says.0 _ (says c)
    (none_at_whole c.row_of_said.result _ _ c.in_ok-said.ensures.says.0 (simp to_z-of_z at c.row_of_said.ensures.none)
    c.in_ok-said.ensures.says.2)

pub returns-clause-refused : goal.returns-clause-refused
returns-clause-refused c =
    let fits : FitsSigned w64 c.args.now = c.ranges.now in
    refused_for_fields c.args.o.now c.args.now c.args.line.now c.in_ok-said.ensures.says.0 _ (says c)
    (kind_at_whole c.row_of_said.result _ _ c.in_ok-said.ensures.says.0 (simp to_z-of_z at c.row_of_said.ensures.fault)
    c.in_ok-said.ensures.says.2)
