use Rattle.std.proofs.Common.{string_bytes, sym}
use Rattle.jsonline_in.proofs.Copies.{plain_string}
use Rattle.jsonline_in.proofs.text.string.Goals as goal

pub returns-in-Some-clause-read : goal.returns-in-Some-clause-read
returns-in-Some-clause-read c =
    plain_string (string_bytes c.args.out.now) c.args.text.now c.split_run.result.0.now c.split_run.result.1.now
    c.in-Some.rest.now c.split_run.ensures.run c.split_run.ensures.rest (sym c.in-Some.ensures)
