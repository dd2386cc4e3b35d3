use Rattle.col_codec.proofs.Writable.{ints-written}
use Rattle.col_codec.proofs.int_column.IntColumnSpelled.take.Goals as goal

pub returns-clause-read : goal.returns-clause-read
returns-clause-read c = ints-written c.args.rows c.args.bytes.now (c.in_ok-column.column, c.in_ok-column.rest.now)
    c.in_ok-column.ensures
