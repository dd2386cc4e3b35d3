use Rattle.std.proofs.Common.{◌≡◌, ◌<◌, ◌∙◌, ap, arith, false, length, subst, sym, true, ℕ, List}
use Rattle.std.specs.Prelude.{◌==◌}
use Rattle.lent_row.specs.Cells.{value_text}
use Rattle.block_model.specs.Columns.{Column}
use Rattle.block_format.specs.Reading.{is_named}
use Rattle.block_format.proofs.SaidLaws.{empty-more, nameless, unnamed, without-values}
use Rattle.block_format.proofs.said.is_named.Goals as goal

pub returns-then-not-missing : goal.returns-then-not-missing
returns-then-not-missing c =
    let column : Column = (c.column.inside.name, c.column.inside.values) in
    let lt : c.loop-i.i < length c.column.inside.values = omega (arith, c.loop-i-test.true, c.len-i-end.ensures) in
    let empty : (length c.column.inside.name == 0) ≡ true = ap (λ (l : List ℕ). length l == 0) (sym
    c.as_str.ensures.value) ∙ sym c.is_empty.ensures ∙ c.if-not-is_empty.false in
    sym (subst (λ (k : Column). is_named k ≡ false) c.column.view_is (unnamed column c.loop-i.i (value_text
    c.value.result) (nameless c.column.inside.name c.column.inside.values empty) lt c.value.ensures (sym
    c.is_empty-missing.ensures ∙ c.if-not-missing.true)))

pub returns-then-is_filled_with : goal.returns-then-is_filled_with
returns-then-is_filled_with c =
    let column : Column = (c.column.inside.name, c.column.inside.values) in
    sym (subst (λ (k : Column). is_named k ≡ true) c.column.view_is (without-values column
    (c.is_filled_with.ensures c.if-is_filled_with.true)))

pub loop-i-preserved : goal.loop-i-preserved
loop-i-preserved c =
    let lt : c.loop-i.i < length c.column.inside.values = omega (arith, c.loop-i-test.true, c.len-i-end.ensures) in
    empty-more c.column.inside.values c.loop-i.i (value_text c.value.result) lt c.value.ensures c.loop-i.invariant
    (sym c.is_empty-missing.ensures ∙ c.if-not-missing.false)
