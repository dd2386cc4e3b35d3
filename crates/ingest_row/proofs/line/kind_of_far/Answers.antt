use Rattle.std.proofs.Common.{◌≡◌, refl, FitsSigned, w64}
use Rattle.std.proofs.lemmas.Int.{to_z-of_z}
use Rattle.ingest_row.specs.Ingest.{kept}
use Rattle.ingest_row.proofs.Far.{far_fault, no_time}
use Rattle.ingest_row.proofs.line.kind_of_far.Goals as goal

pub returns-in-Some : goal.returns-in-Some
returns-in-Some c = λ asks whole name known.
    let fits : FitsSigned w64 c.args.now = c.ranges.now in
    let kept_is : c.remove_ignored.new.fields ≡ kept c.args.o.now c.args.fields = c.remove_ignored.ensures.value in
    far_fault c.args.o.now c.args.now c.args.fields whole name asks c.remove_ignored.ensures.before known _ _ _
    (to_z-of_z w64 c.args.now fits) (rw (kept_is, c.time_field.ensures) at c.get.ensures) c.in-Some.ensures.some.0
    c.in-Some.ensures.some.1

pub returns : goal.returns
returns c = λ asks whole name known.
    let fits : FitsSigned w64 c.args.now = c.ranges.now in
    let kept_is : c.remove_ignored.new.fields ≡ kept c.args.o.now c.args.fields = c.remove_ignored.ensures.value in
    no_time c.args.o.now c.args.now c.args.fields whole name asks c.remove_ignored.ensures.before known _ _
    (to_z-of_z w64 c.args.now fits) (rw (kept_is, c.time_field.ensures) at c.get.ensures) (c.in-None.ensures.none refl)
