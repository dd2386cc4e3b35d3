use Rattle.std.proofs.Common.{ℕ, Err, sym, ap, ◌∙◌}
use Rattle.lq_lex.specs.declared.fault.LexFault.TheVariants.{OpenQuote}
use Rattle.lq_lex.proofs.Steps.{open_at}
use Rattle.lq_lex.proofs.scan.quoted_token.Goals as goal

pub returns-in_default : goal.returns-in_default
returns-in_default c =
    open_at c.args.text.now c.args.remaining.now c.args.quote c.args.end c.utf8.text c.requires (sym c.in_default.ensures) ∙ ap (λ (n : ℕ). Err (OpenQuote n)) (sym c.saturating_sub.ensures)
