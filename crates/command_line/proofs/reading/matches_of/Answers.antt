use Rattle.std.proofs.Common.{ap, map, ◌∙◌}
use Rattle.clap.specs.Faults.{fault_of, is_simple_and_free}
use Rattle.command_line.proofs.Matched.{program_is_free, refused}
use Rattle.command_line.proofs.reading.matches_of.Goals as goal

pub returns-in_err-matches-clause-refused : goal.returns-in_err-matches-clause-refused
returns-in_err-matches-clause-refused c =
    let whole = c.in_ok-program.ensures in
    let has = c.in_err-matches.ensures.kinds (ap is_simple_and_free whole ∙ program_is_free) in
    let words = map (λ word. word.now) c.args.words.now in
    refused _ c.in_err-matches.field-0.0 _ _ c.from_residual-in_err-matches.ensures.1 has
    (ap (λ app. fault_of app words) whole)
