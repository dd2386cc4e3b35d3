use Rattle.std.proofs.Common.{◌≢◌, ◌∙◌, sym, FitsSigned, w64}
use mathlib.Core.Bool.{true≢false}
use Rattle.std.proofs.lemmas.Int.{to_z-of_z}
use Rattle.ingest_row.specs.declared.kind.LineKind.TheVariants.{Memory}
use Rattle.ingest_row.proofs.body.read_line.Goals as goal

pub returns-in-Err-2 : goal.returns-in-Err-2
returns-in-Err-2 c =
    let fits : FitsSigned w64 c.args.now = c.ranges.now in
    let other : c.in-Err.kind ≢ Memory = λ same. true≢false (sym (rw same at c.if-eq.ensures)) in (
      sym c.is_blank.ensures ∙ c.if-is_blank.false,
      other,
      simp to_z-of_z at c.in-Err.ensures.refused,
      simp to_z-of_z
          at (c.in-Err.ensures.none other),
    )
