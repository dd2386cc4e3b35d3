use Rattle.std.proofs.Common.{is_some, ap, ◌∙◌, arith}
use Rattle.regex.specs.Patterns.{find_str}
use Rattle.lq_ast.specs.Patterns.{is_found}
use Rattle.lq_plain.proofs.Reading.{found_as_read}
use Rattle.lq_plain.proofs.pattern.is_found.Goals as goal

pub returns-in_ok-matcher-in-Ok : goal.returns-in_ok-matcher-in-Ok
returns-in_ok-matcher-in-Ok c =
    let value = c.args.value.now in
    let read = c.in-Ok.ensures in
    c.is_match.ensures.found
    ∙ ap (λ pattern. is_some (find_str pattern value 0)) c.in_ok-matcher-in-Ok.ensures.pattern
    ∙ found_as_read c.in-Ok.regex read.config read.read value (λ k. omega (arith, c.type_inv.value k))
    ∙ ap (λ text. is_found text value) read.source
