-- A report says what its parts are.
use Rattle.std.proofs.Common.{◌≡◌, List, subst, sym}
use Rattle.vl_session.specs.declared.report.Done.{Done}
use Rattle.vl_session.specs.declared.report.End.{End}
use Rattle.vl_session.specs.declared.report.Report.{Report}

pub reported : (P : List Done → End → Type 0) {turns : List Done} {end : End} (report : Report) → report.turns ≡ turns
    → report.end ≡ end → P turns end → P report.turns report.end
reported P {turns = turns} {end = end} report of_turns of_end p =
    subst (P report.turns) (sym of_end) (subst (λ ts. P ts end) (sym of_turns) p)
