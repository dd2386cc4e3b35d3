use Rattle.std.proofs.Common.{◌≡◌, refl, arith, FitsSigned, w64}
use Rattle.std.proofs.lemmas.Int.{ints, to_z-of_z}
use Rattle.ingest_row.specs.Ingest.{kept, row_fields}
use Rattle.ingest_row.proofs.Rows.{SaysMoment, says_it, is_row, only_row, no_row, has_fault, out_of_memory}
use Rattle.ingest_row.proofs.line.row_of_fields.Goals as goal

says : (c : goal.After-row_at) → SaysMoment c.args.o.now c.args.now c.args.fields c.in-Some.time c.in_ok-all.all
says c =
    let fits : FitsSigned w64 c.args.now = c.ranges.now in
    let kept_is : c.remove_ignored.new.fields ≡ kept c.args.o.now c.args.fields = c.remove_ignored.ensures.value in
    says_it _ _ _ _ _ _ _ (to_z-of_z w64 c.args.now fits) (rw (kept_is, c.time_field.ensures) at c.get.ensures)
    (rw kept_is at c.in_ok-all.ensures) c.in-Some.ensures.some.0 c.in-Some.ensures.only

pub returns-in_err-all-clause-fault : goal.returns-in_err-all-clause-fault
returns-in_err-all-clause-fault c =
    let fits : FitsSigned w64 c.args.now = c.ranges.now in
    let kept_is : c.remove_ignored.new.fields ≡ kept c.args.o.now c.args.fields = c.remove_ignored.ensures.value in
    out_of_memory c.args.o.now c.args.now c.args.fields _ _ _
    (says_it _ _ _ _ _ _ (row_fields c.args.o.now c.args.fields) (to_z-of_z w64 c.args.now fits)
    (rw (kept_is, c.time_field.ensures) at c.get.ensures) refl c.in-Some.ensures.some.0 c.in-Some.ensures.only)
    c.from_residual.ensures.1

pub returns-clause-read : goal.returns-clause-read
returns-clause-read c =
    let fits : FitsSigned w64 c.in-Some.time = omega (arith, ints) in
    is_row _ _ _ _ _ _ (says c) (simp to_z-of_z at c.row_at.ensures.faultless) (simp to_z-of_z at c.row_at.ensures.row)

pub returns-clause-only : goal.returns-clause-only
returns-clause-only c =
    let fits : FitsSigned w64 c.in-Some.time = omega (arith, ints) in
    only_row _ _ _ _ _ _ (says c) (simp to_z-of_z at c.row_at.ensures.row)

pub returns-clause-none : goal.returns-clause-none
returns-clause-none c =
    let fits : FitsSigned w64 c.in-Some.time = omega (arith, ints) in
    no_row _ _ _ _ _ _ (says c) (simp to_z-of_z at c.row_at.ensures.fault)

pub returns-clause-fault : goal.returns-clause-fault
returns-clause-fault c =
    let fits : FitsSigned w64 c.in-Some.time = omega (arith, ints) in
    has_fault _ _ _ _ _ _ (says c) (simp to_z-of_z at c.row_at.ensures.fault)
