-- Records of rows that are still to be made.
use Rattle.std.specs.Prelude.{◌≡◌, ◌++◌, ◌<◌, List, [], drop, length, map, Option, Some, None}
use Rattle.log_model.specs.Row.{Row, record_of}
use Rattle.lq_ast.specs.Records.{Record}
use Rattle.lq_pipes.specs.Needs.{narrowed}
use Rattle.lq_pipes.specs.Projector.{projected}
use Rattle.lq_pipes.specs.declared.row_records.RowRecords.{RowRecords}

-- where `event` is the row that a lent one stands for
abbrev pub records_left : {R : Type 0} → (R → Row) → RowRecords R → List Record
records_left event rows =
    map (narrowed (projected rows.projector)) (map (λ row. record_of (event row)) (drop rows.made rows.rows.now))

-- The first of them were made, and some at least; none only where none was left.
abbrev pub MakesNext : {R : Type 0} → (R → Row) → RowRecords R → RowRecords R → Option (List Record) → Type 0
MakesNext event old new None = records_left event old ≡ []
MakesNext event old new (Some records) =
    (records_left event old ≡ records ++ records_left event new)
    × (length (records_left event new) < length (records_left event old))
