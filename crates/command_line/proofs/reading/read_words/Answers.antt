use Rattle.std.proofs.Common.{sym, ◌∙◌}
use Rattle.command_line.proofs.Functional.{complete}
use Rattle.command_line.proofs.reading.read_words.Goals as goal

pub returns-in-Some-clause-complete : goal.returns-in-Some-clause-complete
returns-in-Some-clause-complete c =
    let met = c.in_ok-matches.ensures in
    let named = sym met.found ∙ sym c.in-Some.ensures in
    complete _ _ _ _ met.taken named c.command_of.ensures.read c.command_of.ensures.usage
