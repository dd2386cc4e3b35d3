use Rattle.std.proofs.Common.{◌-◌, length}
use Rattle.std.proofs.lemmas.Result.{err_from_is_err_and}
use Rattle.lq_lex.proofs.Collecting.{stepped, at_end, one_more, shorter, collects_all, collects_none}
use Rattle.lq_lex.proofs.lex.collect.Goals as goal

pub returns-in_err-token : goal.returns-in_err-token
returns-in_err-token c =
    let p = err_from_is_err_and c.from_residual.result c.from_residual.ensures.1 in
    rw (p.1, p.2) (collects_none c.args.text.now c.others.rest.now c.others.list.items _ (c.others.invariant.1, c.others.invariant.2) c.in_err-token.ensures)

pub others-smaller : goal.others-smaller
others-smaller c =
    let before = length c.args.text.now - length c.others.rest.now in
    shorter c.args.text.now c.others.rest.now c.in-Some.remaining.now c.in-Some.token c.others.invariant.0 c.others.invariant.1
    (stepped before c.others.rest.now c.in_ok-token.field-0 c.in-Some.token c.in-Some.remaining c.in-Some.is c.in_ok-token.ensures)

pub others-preserved : goal.others-preserved
others-preserved c =
    let before = length c.args.text.now - length c.others.rest.now in
    let more = one_more c.args.text.now c.others.rest.now c.in-Some.remaining.now c.others.list.items _ c.in-Some.token c.others.invariant.0 (c.others.invariant.1, c.others.invariant.2)
    (stepped before c.others.rest.now c.in_ok-token.field-0 c.in-Some.token c.in-Some.remaining c.in-Some.is c.in_ok-token.ensures) c.in_ok-push.ensures.items in
    (more.0, more.1.0, more.1.1)

pub returns : goal.returns
returns c =
    let before = length c.args.text.now - length c.others.rest.now in
    collects_all c.args.text.now c.others.rest.now c.others.list.items (c.others.invariant.1, c.others.invariant.2) (at_end before c.others.rest.now c.in_ok-token.field-0 c.in_default.is c.in_ok-token.ensures)
