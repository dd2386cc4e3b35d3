use Rattle.std.proofs.Common.{rules, ◌≤◌, ◌-◌, drop, length, lit≤, refl, take}
use Rattle.log_model.specs.Row.{record_of}
use Rattle.lq_pipes.specs.Projector.{projected}
use Rattle.lq_pipes.proofs.Rowwise.{fewer_left, next_piece}
use Rattle.lq_pipes.proofs.row_records.RowRecords.next.Goals as goal

pub returns : goal.returns
returns g c =
    let self = c.args.self.now in
    let left = take (length self.rows.now - self.made) (drop self.made self.rows.now) in
    let some : 1 ≤ length left = search rules in
    let needs = projected self.projector in
    let newer = projected c.records_of.new.projector in (
      next_piece (λ row. record_of (g.R.LentRow.event row)) needs newer self.rows.now left self.made c.min.result 256 self.within refl
          some c.min.ensures (lit≤ tt) c.in_ok-records.records c.records_of.ensures.same c.in_ok-records.ensures.made,
      fewer_left (λ row. record_of (g.R.LentRow.event row)) needs newer self.rows.now left self.made c.min.result 256 self.within refl
          some c.min.ensures (lit≤ tt),
    )
