use Rattle.std.proofs.Common.{◌≡◌, ◌∙◌, false, true, FitsSigned, is_some, sym, w64}
use Rattle.std.proofs.lemmas.Int.{to_z-of_z}
use Rattle.ingest_row.proofs.Far.{at_fault, far_known, is_far, kind_of_whole, no_far, none_of_whole, row_of_whole}
use Rattle.ingest_row.proofs.line.row_of_said.Goals as goal

pub returns-clause-read : goal.returns-clause-read
returns-clause-read c =
    let fits : FitsSigned w64 c.args.now = c.ranges.now in
    let none : is_some c.args.said.far ≡ false = sym c.is_some.ensures ∙ c.if-is_some.false in
    row_of_whole c.row_of_fields.result c.args.all c.args.said.fields c.args.said.far _ (no_far c.args.said.far none)
    (simp to_z-of_z at c.row_of_fields.ensures.read)

pub returns-clause-only : goal.returns-clause-only
returns-clause-only c =
    let fits : FitsSigned w64 c.args.now = c.ranges.now in
    let none : is_some c.args.said.far ≡ false = sym c.is_some.ensures ∙ c.if-is_some.false in
    row_of_whole c.row_of_fields.result c.args.all c.args.said.fields c.args.said.far _ (no_far c.args.said.far none)
    (simp to_z-of_z at c.row_of_fields.ensures.only)

pub returns-clause-none : goal.returns-clause-none
returns-clause-none c =
    let fits : FitsSigned w64 c.args.now = c.ranges.now in
    let none : is_some c.args.said.far ≡ false = sym c.is_some.ensures ∙ c.if-is_some.false in
    none_of_whole c.row_of_fields.result c.args.all c.args.said.fields c.args.said.far _ (no_far c.args.said.far none)
    (simp to_z-of_z at c.row_of_fields.ensures.none)

pub returns-clause-fault : goal.returns-clause-fault
returns-clause-fault c =
    let fits : FitsSigned w64 c.args.now = c.ranges.now in
    let none : is_some c.args.said.far ≡ false = sym c.is_some.ensures ∙ c.if-is_some.false in
    kind_of_whole c.row_of_fields.result c.args.all c.args.said.fields c.args.said.far _ (no_far c.args.said.far none)
    (simp to_z-of_z at c.row_of_fields.ensures.fault)

pub returns-then-is_some-clause-fault : goal.returns-then-is_some-clause-fault
returns-then-is_some-clause-fault c = λ whole known.
    let fits : FitsSigned w64 c.args.now = c.ranges.now in
    let some : is_some c.args.said.far ≡ true = sym c.is_some.ensures ∙ c.if-is_some.true in
    let name = is_far c.args.said.far some in
    let parts = far_known c.args.all whole c.args.said.fields c.args.said.far name.0 name.1 known in
    (simp to_z-of_z at c.kind_of_far.ensures) (c.requires.short parts.0) whole name.0 parts.1

pub returns-then-is_some-clause-none : goal.returns-then-is_some-clause-none
returns-then-is_some-clause-none c = λ other whole known row is.
    let fits : FitsSigned w64 c.args.now = c.ranges.now in
    let some : is_some c.args.said.far ≡ true = sym c.is_some.ensures ∙ c.if-is_some.true in
    let name = is_far c.args.said.far some in
    let parts = far_known c.args.all whole c.args.said.fields c.args.said.far name.0 name.1 known in
    at_fault c.args.o.now c.args.now whole c.kind_of_far.result row other
    ((simp to_z-of_z at c.kind_of_far.ensures) (c.requires.short parts.0) whole name.0 parts.1) is
