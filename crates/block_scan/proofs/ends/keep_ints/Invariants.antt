use Rattle.std.proofs.Common.{◌≡◌, ℤ, Bool, FitsSigned, w64}
use Rattle.lq_ast.specs.Holds.{is_within}
use Rattle.block_scan.proofs.Staying.{walked}
use Rattle.block_scan.proofs.ends.keep_ints.Given as goal

abbrev pub invariant-loop-i : goal.invariant-loop-i
invariant-loop-i l = (test : ℤ → Bool)
    → ((int : ℤ) → FitsSigned w64 int → is_within l.ends.low l.ends.high int ≡ test int)
    → l.marks ≡ walked test l.i l.ints l.fn.marks
