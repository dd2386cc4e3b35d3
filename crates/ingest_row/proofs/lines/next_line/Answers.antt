use Rattle.std.proofs.Common.{◌≡◌, ◌≢◌, ◌<◌, ℕ, length, ◌+◌, arith, get_or, drop, sym, ap, ◌∙◌, add-one}
use Rattle.std.proofs.Math.Seq.{drop-length}
use mathlib.Core.Bool.{true≢false}
use Rattle.std.proofs.lemmas.Bool.{eqb-true, eq-eqb}
use Rattle.std.proofs.lemmas.List.{take_rest}
use Rattle.log_model.proofs.Lines.{lines_of-at, lines_of-nil, lines_of-rest}
use Rattle.ingest_row.proofs.lines.next_line.Goals as goal

pub returns-then-is_empty-clause-none : goal.returns-then-is_empty-clause-none
returns-then-is_empty-clause-none c =
    lines_of-nil c.args.input.now (eqb-true _ _ (sym c.if-is_empty.ensures))

pub returns-in-Some-clause-line : goal.returns-in-Some-clause-line
returns-in-Some-clause-line c =
    let found = c.in-Some.ensures in
    let whole = take_rest c.args.input.now (c.in-Some.end + 1) in
    rw (whole, add-one) (lines_of-at c.args.input.now c.in-Some.end found.0.high (eqb-true _ _ found.1)
    (λ k below feed. found.0.before k (omega arith) below (eq-eqb _ _ feed)))

pub returns-in-None-clause-line : goal.returns-in-None-clause-line
returns-in-None-clause-line c =
    let input = c.args.input.now in
    let none = λ (k : ℕ) (below : k < length input) (feed : get_or input k 0 ≡ 10). c.in-None.ensures k (omega arith)
    below (eq-eqb _ _ feed) in
    let some : length input ≢ 0 = λ empty. true≢false (sym (eq-eqb _ _ empty) ∙ sym c.if-is_empty.ensures) in
    rw (take_rest input (length input)) (lines_of-rest input (omega arith) none (drop (length input) input)
    (ap length (drop-length input)))
