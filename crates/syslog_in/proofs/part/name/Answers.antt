use Rattle.std.proofs.Common.{length, sym, ap, ◌∙◌, arith}
use Rattle.std.proofs.lemmas.Bool.{eqb-true, eqb-false, false≢true}
use Rattle.syslog_in.specs.Message.{IsName}
use Rattle.syslog_in.proofs.Standing.{stands_here, lacks_name}
use Rattle.syslog_in.proofs.part.name.Goals as goal
use Rattle.syslog_in.proofs.part.name.Goals.{then-is_empty-via-then-is_empty}
use Rattle.syslog_in.proofs.part.name.Goals.{then-is_empty-via-else-is_empty+then-name-most}

pub returns-in_default-clause-lacks : goal.returns-in_default-clause-lacks
returns-in_default-clause-lacks c = lacks_name c.args.most c.args.text.now (λ so.
    false≢true (sym c.in_default.ensures.none ∙ so.visible))

pub returns-then-is_empty-clause-lacks : goal.returns-then-is_empty-clause-lacks
returns-then-is_empty-clause-lacks c = lacks_name c.args.most c.args.text.now (λ so.
    let same = ap length c.in-Some.ensures.part in
    elim c.then-is_empty.branch [
      | then-is_empty-via-then-is_empty w ↦
          let none = eqb-true _ _ (sym c.is_empty.ensures ∙ w.if-is_empty.true) in omega (arith, so.some, same, none)
      | then-is_empty-via-else-is_empty+then-name-most w ↦ omega (arith, so.few, same, w.if-name-most.true)
    ])

pub returns-clause-stands : goal.returns-clause-stands
returns-clause-stands c =
    let text = c.args.text.now in
    let count = ap length c.in-Some.ensures.part in
    let some = eqb-false _ _ (sym c.is_empty.ensures ∙ c.if-is_empty.false) in
    rw c.in-Some.ensures.rest (stands_here (IsName c.args.most) text (record {
      some = omega (arith, count, some);
      few = omega (arith, count, c.if-name-most.false);
      visible = c.in-Some.ensures.visible;
    }))
