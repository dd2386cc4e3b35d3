use Rattle.std.proofs.Common.{◌≡◌, sym, ap, ◌∙◌, arith, None, w64, FitsSigned, false, pos, ℤ, ◌<◌, ◌^◌, to_z, of_z}
use Rattle.std.proofs.Common.{refl}
use Rattle.std.specs.Prelude.{int_lt, unsigned_abs}
use Rattle.std.proofs.lemmas.Int.{ints, to_z-of_z}
use Rattle.log_model.specs.Field.{weight}
use Rattle.log_model.specs.Row.{IsRow}
use Rattle.vl_row.specs.Faults.{fields_fault, stored}
use Rattle.vl_row.proofs.Weighing.{IsRow-stored, size_fault-stored, stored-all, weight-exact}
use Rattle.vl_row.proofs.row.Row.try_listed.Goals as goal
use Rattle.vl_row.proofs.row.Row.try_listed.Goals.{Joined-size-len, then-size-len, else-size-len}

kept : (c : Joined-size-len) → c.if-size-len.fields ≡ stored c.args.fields
kept c =
    let h = rw c.as_slice.ensures.value at c.of-size.ensures in
    elim c.if-size-len.branch [
      | then-size-len w ↦ w.fields-is ∙ w.leave_out_reserved.ensures
      | else-size-len w ↦ w.fields-is ∙ sym (stored-all c.args.fields (omega arith))
    ]

faultless : (c : Joined-size-len) → fields_fault (stored c.args.fields) ≡ None
faultless c =
    let h = rw c.as_slice.ensures.value at c.of-size.ensures in
    sym (size_fault-stored c.args.fields _ _ _ h.fields h.weight h.long) ∙ sym c.fault.ensures ∙ c.in_default.is

same_time : (c : Joined-size-len) → to_z w64 (of_z w64 c.args.time) ≡ c.args.time
same_time c = to_z-of_z w64 c.args.time c.ranges.time

late : (c : Joined-size-len) → int_lt c.args.time (pos 0) ≡ false
late c = rw (same_time c) at c.if-time-lt0.false

-- a time that is not negative is below the limit
below : (time : ℤ) → FitsSigned w64 time → int_lt time (pos 0) ≡ false → unsigned_abs time < 2 ^ 63
below time fits late = omega (arith, ints)

rules_kept : (c : Joined-size-len) → IsRow (record { moment = unsigned_abs (to_z w64 (of_z w64 c.args.time)); labels = c.in-Ok.stream; fields = c.if-size-len.fields })
rules_kept c =
    rw (same_time c, c.in-Ok.ensures.ok, kept c) (IsRow-stored (unsigned_abs c.args.time) c.args.stream_names.now c.args.fields (below c.args.time c.ranges.time (late c)) c.as_slice.ensures.rules (faultless c))

pub invariant_of-result : goal.invariant_of-result
invariant_of-result c =
    let h = rw c.as_slice.ensures.value at c.of-size.ensures in
    (rules_kept c, weight-exact c.args.fields c.of-size.result.weight h.weight (faultless c) ∙ ap weight (sym (kept c)))

pub returns-clause-ok : goal.returns-clause-ok
returns-clause-ok c = (rw (late c) (faultless c), rw (same_time c, c.in-Ok.ensures.ok, kept c) refl)

pub returns-clause-rules : goal.returns-clause-rules
returns-clause-rules c = rules_kept c
