use Rattle.std.proofs.Common.{List, ℕ, ◌++◌, encode_utf8, sym, ap, ◌∙◌}
use Rattle.lq_lex.proofs.Widths.{split_is}
use Rattle.lq_lex.proofs.class.split_first.Goals as goal

pub returns : goal.returns
returns c =
    let s = split_is _ _ _ c.utf8.text (sym c.chars-rest.ensures.rest ∙ c.in_ok-first.ensures.steps.0 ∙ ap (λ (l : List ℕ). encode_utf8 c.in_ok-first.first ++ l) (sym c.as_str.ensures)) in
    (s.0, s.1, c.as_str.utf8)
