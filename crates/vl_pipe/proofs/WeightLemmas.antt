-- What the rows of a group weigh at most.
use Rattle.std.proofs.Common.{◌≡◌, ℕ, ℤ, pos, ◌*◌, ◌<◌, ◌≤◌, ◌^◌, Bool, true, false, cond, nat_lt, List, [], ◌∷◌}
use Rattle.std.proofs.Common.{length, Option, Some, None, refl, sym, subst, arith}
use Rattle.std.specs.List.{AllZip, list_any}
use Rattle.std.specs.Prelude.{int_lt, if◌then◌else◌}
use Rattle.std.proofs.lemmas.Bool.Decides.{nat_tests}
use Rattle.std.proofs.lemmas.List.Sums.{sum_by-cons}
use Rattle.log_model.specs.Field.{Field, weight}
use Rattle.log_model.specs.Row.{Row, batch_weight}
use Rattle.vl_row.specs.declared.row.RowFault.TheVariants.{TimeRange, NameLong, ManyFields, RowLarge, Empty}
use Rattle.vl_row.specs.Faults.{fields_fault, is_long_named, row_fault, size_fault, stored}
use Rattle.ingest_row.specs.Ingest.{row_fields}
use Rattle.ingest_row.specs.Intake.{Outcome, passed_over, read, refused, rows_read}
use Rattle.vl_pipe.specs.Groups.{Arrival, HasOutcome}

-- what was not chosen
passed : {A : Type 0} (test : Bool) (fault : A) (others : Option A) → cond test (Some fault) others ≡ None →
    (test ≡ false) × (others ≡ None)
passed true fault others is = absurd (cc)
passed false fault others is = (refl, is)

light_size : (long : Bool) (count size : ℕ) → size_fault long count size ≡ None → size ≤ 262_144
light_size long count size none =
    let few = (passed long NameLong
    (if nat_lt 1000 count then Some ManyFields else
    (if nat_lt 262_144 size then Some RowLarge else (if nat_lt count 1 then Some Empty else None))) none).1 in
    let light = (passed (nat_lt 1000 count) ManyFields
    (if nat_lt 262_144 size then Some RowLarge else (if nat_lt count 1 then Some Empty else None)) few).1 in
    let within : nat_lt 262_144 size ≡ false =
    (passed (nat_lt 262_144 size) RowLarge (if nat_lt count 1 then Some Empty else None) light).0 in
    grind (arith, nat_tests, within)

light_fields : (time : ℤ) (fields : List Field) → row_fault time fields ≡ None → weight (stored fields) ≤ 262_144
light_fields time fields none =
    let kept = (passed (int_lt time (pos 0)) TimeRange (fields_fault (stored fields)) none).1 in
    light_size (list_any is_long_named (stored fields)) (length (stored fields)) (weight (stored fields)) kept

-- a row of a line is as light as every row
light_row : (arrival : Arrival) (line : List ℕ) (row : Row) → HasOutcome arrival line (read row)
    → weight row.fields ≤ 262_144
light_row arrival line row given =
    let made = given.1.is_row in
    subst (λ (r : Row). weight r.fields ≤ 262_144) (sym made.is_row)
    (light_fields made.time (row_fields arrival.options given.1.fields) made.faultless)

-- no more than each line may
pub rows_light : (arrival : Arrival) (lines : List (List ℕ)) (outcomes : List Outcome)
    → AllZip (HasOutcome arrival) lines outcomes
    → batch_weight (rows_read outcomes) ≤ 262_144 * length lines
rows_light arrival [] [] all = omega arith
rows_light arrival [] (o ∷ os) all = absurd all
rows_light arrival (line ∷ lines) [] all = absurd all
rows_light arrival (line ∷ lines) (passed_over ∷ os) all = omega (arith, rows_light arrival lines os all.1)
rows_light arrival (line ∷ lines) (read row ∷ os) all =
    omega (
      arith,
      rows_light arrival lines os all.1,
      light_row arrival line row all.0,
      sum_by-cons (λ (r : Row). weight r.fields) row (rows_read os),
    )
rows_light arrival (line ∷ lines) (refused kind ∷ os) all = omega (arith, rows_light arrival lines os all.1)

pub rows_fit : (rows : List Row) (lines : ℕ) → batch_weight rows ≤ 262_144 * lines → lines ≤ 1000
    → batch_weight rows < 2 ^ 64
rows_fit rows lines light few = omega arith
