use Rattle.syslog_in.proofs.Elements.{one_element, end_one, end_any, stuck_elements, element_shorter}
use Rattle.syslog_in.proofs.data.set_elements.Goals as goal

pub returns-in_default-clause-any : goal.returns-in_default-clause-any
returns-in_default-clause-any c =
    stuck_elements c.args.text.now c.elements.inside.now c.args.fields.now c.elements.fields c.elements.invariant
    c.set_element.new.fields (rw c.in_default.is at c.in_ok-rest.ensures.any)

pub elements-preserved : goal.elements-preserved
elements-preserved c =
    one_element c.args.text.now c.elements.inside.now c.args.fields.now c.elements.fields c.elements.invariant
    c.in-Some.rest.now c.in-Some-past.next.now c.set_element.new.fields c.in-Some-past.ensures
    (rw c.in-Some.is at c.in_ok-rest.ensures.one) (rw c.in-Some.is at c.in_ok-rest.ensures.any)

pub elements-smaller : goal.elements-smaller
elements-smaller c =
    element_shorter c.args.text.now c.elements.inside.now c.args.fields.now c.elements.fields c.elements.invariant
    c.in-Some.rest.now c.in-Some-past.next.now c.set_element.new.fields c.in-Some-past.ensures
    (rw c.in-Some.is at c.in_ok-rest.ensures.one)

pub returns-in-None-clause-one : goal.returns-in-None-clause-one
returns-in-None-clause-one c =
    end_one c.args.text.now c.elements.inside.now c.args.fields.now c.elements.fields c.elements.invariant
    c.in-Some.rest.now c.set_element.new.fields c.in-None.ensures (rw c.in-Some.is at c.in_ok-rest.ensures.one)

pub returns-in-None-clause-any : goal.returns-in-None-clause-any
returns-in-None-clause-any c =
    end_any c.args.text.now c.elements.inside.now c.args.fields.now c.elements.fields c.elements.invariant
    c.in-Some.rest.now c.set_element.new.fields c.in-None.ensures (rw c.in-Some.is at c.in_ok-rest.ensures.any)
