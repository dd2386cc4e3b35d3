use Rattle.std.proofs.Common.{◌≡◌, take, subst, arith, inr, refl}
use Rattle.httparse.specs.Grammar.{HasNoChunkLine}
use Rattle.http_in.specs.Limits.{head_limit}
use Rattle.http_in.proofs.LineLemmas.{bad_line, line_at}
use Rattle.http_in.proofs.line.line_in.Goals as goal

pub returns-in-Ok-Complete-clause-found : goal.returns-in-Ok-Complete-clause-found
returns-in-Ok-Complete-clause-found c =
    let whole = rw c.in-Ok-Complete.field-0-is at c.in-Ok-Complete.ensures.complete in
    line_at c.min.result c.args.bytes.now _ whole.0 (omega arith) whole.1

pub returns-in-Ok-Partial-clause-bad : goal.returns-in-Ok-Partial-clause-bad
returns-in-Ok-Partial-clause-bad c =
    let at : c.min.result ≡ head_limit = omega arith in (
      refl,
      inr (
        c.if-bytes-ge-HEAD_LIMIT.true,
        subst
            (λ n. HasNoChunkLine (take n c.args.bytes.now))
            at (rw c.in-Ok-Partial.field-0-is at c.in-Ok-Partial.ensures.partial),
      ),
    )

pub returns-in-Err-clause-bad : goal.returns-in-Err-clause-bad
returns-in-Err-clause-bad c = (refl, bad_line c.min.result c.args.bytes.now (omega arith) c.in-Err.ensures.invalid)
