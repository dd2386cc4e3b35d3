use Rattle.std.proofs.Common.{◌∙◌, List, ap, get_or, map, pos, sym, ℕ}
use Rattle.log_model.specs.Field.{Field}
use Rattle.block_model.specs.Columns.{Column, row_of}
use Rattle.block_model.specs.declared.keys.Key.{Key}
use Rattle.block_format.specs.Columns.{lent_column}
use Rattle.block_format.specs.Reading.{is_row}
use Rattle.block_format.proofs.SaidLaws.{found-more, found-none}
use Rattle.block_format.proofs.said.rows_found.Goals as goal

pub returns-in-None : goal.returns-in-None
returns-in-None c =
    let blank : Key = record { time = pos 0; batch = 0; place = 0 } in
    let labels : List Field = c.args.labels.now in
    let keys : List Key = c.args.keys.now in
    let i : ℕ = c.loop-i.i in
    let columns : List Column = map lent_column c.args.columns.now in
    let none = (rw c.in-None.is at c.in_ok-row.ensures) in
    found-none labels columns c.args.keys.now c.loop-i.i blank c.loop-i-test.true
    (ap (λ (f : List Field). is_row (row_of labels (get_or keys i blank) f).row) (sym c.in_ok-fields.ensures) ∙ none)

pub loop-i-preserved : goal.loop-i-preserved
loop-i-preserved c =
    let blank : Key = record { time = pos 0; batch = 0; place = 0 } in
    let columns : List Column = map lent_column c.args.columns.now in
    let made = (rw c.in-Some.is at c.in_ok-row.ensures) in
    found-more c.args.labels.now columns c.args.keys.now c.loop-i.i blank c.in_ok-fields.fields
    c.loop-i.rows.items c.push.new.self.items c.in-Some.row c.loop-i-test.true c.in_ok-fields.ensures
    c.loop-i.invariant made c.in_ok-push-in-Some.ensures.items
