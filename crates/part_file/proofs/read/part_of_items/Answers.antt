use Rattle.std.proofs.Common.{map, subst, sym}
use Rattle.std.proofs.lemmas.Bool.{both_ways}
use Rattle.part_model.specs.Part.{ArePartRows}
use Rattle.part_file.specs.Read.{rows_of_items}
use Rattle.part_file.proofs.ReadLaws.{no-rows, none-said, part-said}
use Rattle.part_file.proofs.read.part_of_items.Goals as goal

pub returns-in_default-clause-none : goal.returns-in_default-clause-none
returns-in_default-clause-none c =
    none-said (map rows_of_items c.args.items.now) (rw c.in_default.is at c.in_ok-rows.ensures)

pub returns-then-not-branch-clause-none : goal.returns-then-not-branch-clause-none
returns-then-not-branch-clause-none c =
    let said = (rw c.in-Some.is at c.in_ok-rows.ensures) in
    no-rows (map rows_of_items c.args.items.now) c.in-Some.rows.items said.1 said.0 (λ p. both_ways
    c.in_ok-are_part_rows.field-0 c.if-not-branch.true (c.in_ok-are_part_rows.ensures.1 (subst ArePartRows (sym
    c.as_slice.ensures.value) p)))

pub try_of-requires : goal.try_of-requires
try_of-requires c =
    subst ArePartRows c.as_slice.ensures.value (c.in_ok-are_part_rows.ensures.0 c.if-not-branch.false)

pub returns-clause-some : goal.returns-clause-some
returns-clause-some c =
    let said = (rw c.in-Some.is at c.in_ok-rows.ensures) in
    part-said (map rows_of_items c.args.items.now) c.in-Some.rows.items c.in_ok-part.part said.1 said.0 (subst ArePartRows
    c.as_slice.ensures.value (c.in_ok-are_part_rows.ensures.0 c.if-not-branch.false)) c.rules.ensures c.in_ok-part.ensures

pub returns-clause-spelled : goal.returns-clause-spelled
returns-clause-spelled c = (c.in_ok-to_bytes.field-0.items, c.in_ok-to_bytes.ensures.written)
