use Rattle.std.proofs.Common.{◌∙◌, ◌-◌, length, sym}
use Rattle.std.proofs.lemmas.Bool.{eqb-true}
use Rattle.std.proofs.lemmas.Result.{err_from_is_err_and}
use Rattle.lq_lex.proofs.Nexts.{space_at_end, breaks_at, cut_before, next_at, not_zero}
use Rattle.lq_lex.proofs.scan.next_token.Goals as goal

pub returns-then-is_empty : goal.returns-then-is_empty
returns-then-is_empty c =
    space_at_end c.args.text.now c.trim_start-here.result.now (c.args.end - length c.args.text.now) c.utf8.text c.trim_start-here.utf8 c.trim_start-here.ensures.trim (eqb-true (length c.trim_start-here.result.now) 0 (sym c.is_empty.ensures ∙ c.if-is_empty.true))

pub returns-in_err-kind : goal.returns-in_err-kind
returns-in_err-kind c =
    let p = err_from_is_err_and c.from_residual.result c.from_residual.ensures.1 in
    rw (p.1, p.2)
    (breaks_at c.args.text.now c.trim_start-here.result.now c.args.end _ c.utf8.text c.trim_start-here.utf8 c.trim_start-here.ensures.trim (not_zero c.trim_start-here.result.now (sym c.is_empty.ensures ∙ c.if-is_empty.false))
    c.requires c.in_err-kind.ensures)

pub prefix-requires : goal.prefix-requires
prefix-requires c = cut_before c.args.end c.trim_start-here.result.now c.in_ok-kind.rest.now c.in_ok-kind.kind c.trim_start-here.utf8 c.in_ok-kind.ensures.1 c.in_ok-kind.ensures.0

pub returns : goal.returns
returns c = (
  next_at c.args.text.now c.trim_start-here.result.now c.in_ok-kind.rest.now c.prefix.result.now c.args.end c.in_ok-kind.kind c.is_glued.result c.utf8.text c.trim_start-here.utf8 c.in_ok-kind.ensures.1 c.trim_start-here.ensures.trim
      c.requires c.in_ok-kind.ensures.0 c.prefix.ensures c.is_glued.ensures,
  c.in_ok-kind.ensures.1,
)
