use Rattle.std.proofs.Common.{ℕ, length, take, sym, ap, ◌∙◌, arith}
use Rattle.std.proofs.lemmas.List.{take_all}
use Rattle.memchr.specs.Find.{is_byte}
use Rattle.syslog_in.proofs.Finding.{found, not_found, behind_blank, behind_all}
use Rattle.syslog_in.proofs.part.cut.Goals as goal

pub returns-in-Some-clause-part : goal.returns-in-Some-clause-part
returns-in-Some-clause-part c =
    ap (λ (n : ℕ). take n c.args.text.now)
    (found (is_byte 32) c.args.text.now c.in-Some.end c.in-Some.ensures.0 c.in-Some.ensures.1)

pub returns-in-Some-clause-rest : goal.returns-in-Some-clause-rest
returns-in-Some-clause-rest c =
    behind_blank c.args.text.now c.in-Some.end
    (found (is_byte 32) c.args.text.now c.in-Some.end c.in-Some.ensures.0 c.in-Some.ensures.1)

pub returns-in-None-clause-part : goal.returns-in-None-clause-part
returns-in-None-clause-part c =
    let text = c.args.text.now in
    sym (take_all (length text) text (omega arith))
    ∙ ap (λ (n : ℕ). take n text) (not_found (is_byte 32) text c.in-None.ensures)

pub returns-in-None-clause-rest : goal.returns-in-None-clause-rest
returns-in-None-clause-rest c =
    behind_all c.args.text.now (not_found (is_byte 32) c.args.text.now c.in-None.ensures)
