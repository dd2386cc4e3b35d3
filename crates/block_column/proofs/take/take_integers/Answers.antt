use Rattle.std.proofs.Common.{◌∙◌, Ok, map, refl}
use Rattle.std.specs.Fmt.{signed_decimal}
use Rattle.std.proofs.lemmas.List.{length-map}
use Rattle.std.proofs.lemmas.Result.{err_from_is_err_and}
use Rattle.byte_format.specs.Format.{front}
use Rattle.col_codec.specs.Ints.{ints}
use Rattle.col_codec.proofs.Writable.{ints-hold}
use Rattle.block_column.proofs.BodyLaws.{integers-read, stops-behind}
use Rattle.block_column.proofs.take.take_integers.Goals as goal

pub returns-in_err-ints-clause-value : goal.returns-in_err-ints-clause-value
returns-in_err-ints-clause-value c =
    let p = err_from_is_err_and c.from_residual.result c.from_residual.ensures.1 in
    rw (p.1, p.2, integers-read c.args.rows c.args.bytes.now) (stops-behind c.in_err-ints.field-0.0 (front
    (ints c.args.rows) c.args.bytes.now) (λ x. Ok (map signed_decimal x.0, x.1)) c.in_err-ints.ensures)

pub returns-clause-value : goal.returns-clause-value
returns-clause-value c = integers-read c.args.rows c.args.bytes.now ∙ rw c.in_ok-ints.ensures refl

pub returns-clause-count : goal.returns-clause-count
returns-clause-count c =
    length-map c.in_ok-ints.ints signed_decimal
    ∙ (ints-hold c.args.rows c.args.bytes.now (c.in_ok-ints.ints, c.in_ok-ints.rest.now) c.in_ok-ints.ensures).0

pub returns-clause-codes : goal.returns-clause-codes
returns-clause-codes c =
    (ints-hold c.args.rows c.args.bytes.now (c.in_ok-ints.ints, c.in_ok-ints.rest.now) c.in_ok-ints.ensures).1
