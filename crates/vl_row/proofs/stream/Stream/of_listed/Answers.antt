use Rattle.std.proofs.Common.{◌≡◌, [], sym, ap, ◌∙◌, arith}
use Rattle.std.proofs.lemmas.Grind.{common_steps}
use Rattle.vl_row.specs.Faults.{labels_of}
use Rattle.vl_row.proofs.Labels.{no_labels}
use Rattle.vl_row.proofs.stream.Stream.of_listed.Goals as goal

pub returns-then-is_empty-clause-ok : goal.returns-then-is_empty-clause-ok
returns-then-is_empty-clause-ok c =
    let none : c.args.names.now ≡ [] = grind (arith, common_steps) in
    c.new.ensures ∙ sym (ap (λ names. labels_of names c.args.fields.now) none ∙ no_labels c.args.fields.now)
