use Rattle.std.proofs.Common.{ap, sym, ◌∙◌, Some}
use Rattle.http_said.proofs.FieldLemmas.{form_kept, form_passed, form_pushed}
use Rattle.http_said.proofs.fields.form_with.Goals as goal

pub returns-in-None : goal.returns-in-None
returns-in-None c before is =
    ap Some c.begins_form.ensures
    ∙ form_pushed before c.args.name.now c.args.value.now (sym c.eq_ignore_case.ensures ∙ c.if-eq_ignore_case.true)
    (sym c.in-None.is ∙ is)

pub returns-in-None-2 : goal.returns-in-None-2
returns-in-None-2 c before is =
    form_passed before c.args.name.now c.args.value.now (sym c.eq_ignore_case.ensures ∙ c.if-eq_ignore_case.false)
    (sym c.in-None.is ∙ is)

pub returns-in-Some : goal.returns-in-Some
returns-in-Some c before is =
    form_kept before c.args.name.now c.args.value.now c.in-Some.form (sym c.in-Some.is ∙ is)
