use Rattle.lq_lex.proofs.TextLaws.{cut_run, cut_one, one_is, done, again, none_left, nothing_left, fewer}
use Rattle.lq_lex.proofs.text.push_unescaped.Goals as goal

pub prefix-requires : goal.prefix-requires
prefix-requires c = cut_run c.args.quote c.escapes.rest.now c.plain_end-here.result.now c.escapes.invariant.0 c.plain_end-here.utf8 c.plain_end-here.ensures

pub returns-in_default : goal.returns-in_default
returns-in_default c =
    done c.args.quote c.escapes.rest.now c.plain_end-here.result.now c.prefix.result.now c.escapes.out _ _ c.escapes.invariant.0 c.plain_end-here.utf8 c.plain_end-here.ensures c.prefix.ensures c.in_ok-push_str.ensures.ok
    (nothing_left c.plain_end-here.result.now c.args.quote c.in_default.ensures.1) c.escapes.invariant.1

pub returns-in_default-split_first : goal.returns-in_default-split_first
returns-in_default-split_first c =
    done c.args.quote c.escapes.rest.now c.plain_end-here.result.now c.prefix.result.now c.escapes.out _ _ c.escapes.invariant.0 c.plain_end-here.utf8 c.plain_end-here.ensures c.prefix.ensures c.in_ok-push_str.ensures.ok
    (none_left c.plain_end-here.result.now c.in-Some.remaining.now c.args.quote c.in-Some.field-0-0 c.in-Some.ensures.0 c.in_default-split_first.ensures.1) c.escapes.invariant.1

pub prefix-requires-in-escapes : goal.prefix-requires-in-escapes
prefix-requires-in-escapes c = cut_one c.in-Some.remaining.now c.in-Some-split_first.after.now c.in-Some-split_first.c c.in-Some.ensures.2 c.in-Some-split_first.ensures.2 c.in-Some-split_first.ensures.0

pub escape_value-requires : goal.escape_value-requires
escape_value-requires c =
    one_is c.in-Some.remaining.now c.in-Some-split_first.after.now c.prefix-in-escapes.result.now c.in-Some-split_first.c c.in-Some.ensures.2 c.in-Some-split_first.ensures.2 c.in-Some-split_first.ensures.0 c.prefix-in-escapes.ensures

pub escapes-smaller : goal.escapes-smaller
escapes-smaller c =
    fewer c.args.quote c.escapes.rest.now c.plain_end-here.result.now c.in-Some.remaining.now c.in-Some-split_first.after.now c.escapes.invariant.0 c.plain_end-here.utf8 c.plain_end-here.ensures c.in-Some.ensures.1 c.in-Some-split_first.ensures.1

pub escapes-preserved : goal.escapes-preserved
escapes-preserved c = (
  c.in-Some-split_first.ensures.2,
  again c.args.quote c.escapes.rest.now c.plain_end-here.result.now c.in-Some.remaining.now c.in-Some-split_first.after.now c.prefix.result.now c.escapes.out c.push_str.new.self c.push_str-in-escapes.new.self c.escape_value.result.now _
      c.in-Some.field-0-0 c.in-Some-split_first.c c.escapes.invariant.0 c.plain_end-here.utf8 c.plain_end-here.ensures c.prefix.ensures c.in_ok-push_str.ensures.ok c.in-Some.ensures.0 c.in-Some-split_first.ensures.0 c.in_ok-push_str-2.ensures.ok
      c.escape_value.ensures c.escapes.invariant.1,
)
