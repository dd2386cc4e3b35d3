use Rattle.std.proofs.Common.{FitsSigned, rules, sym, w64}
use Rattle.lent_row.proofs.Filled.{integer_some}
use Rattle.lent_row.proofs.value.Value.is_empty.Goals as goal

pub returns-in-Int : goal.returns-in-Int
returns-in-Int c =
    let fits : FitsSigned w64 c.in-Int.field-0 = search rules in
    rw c.in-Int.is (sym (integer_some c.in-Int.field-0 fits))
