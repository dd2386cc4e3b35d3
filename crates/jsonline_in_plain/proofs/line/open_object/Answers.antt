use Rattle.std.proofs.Common.{sym, ap, ◌∙◌}
use Rattle.jsonline_in.specs.Reading.{after_space, past}
use Rattle.jsonline_in.proofs.Objects.{not_opened, nothing_opened}
use Rattle.jsonline_in_plain.proofs.line.open_object.Goals as goal

pub returns-in-None-clause-refused : goal.returns-in-None-clause-refused
returns-in-None-clause-refused c =
    nothing_opened c.args.line.now (ap (λ t. past 123 (after_space t)) (sym c.in-Ok.ensures.cases.0)
    ∙ ap (past 123) (sym c.skip_space.ensures) ∙ sym c.in-None.ensures)

pub returns-in-None-clause-fault : goal.returns-in-None-clause-fault
returns-in-None-clause-fault c = (
  c.in-Ok.ensures.cases.1,
  not_opened c.args.line.now
      (ap (λ t. past 123 (after_space t)) (sym c.in-Ok.ensures.cases.0) ∙ ap (past 123) (sym c.skip_space.ensures)
      ∙ sym c.in-None.ensures),
)
