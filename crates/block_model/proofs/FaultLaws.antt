-- What keeps the rules of rows is not refused.
use Rattle.std.proofs.Common.{◌≡◌, ℤ, pos, negsuc, ◌≤ℤ◌, ◌≤◌, true, false, leb, List, [], ◌∷◌, length}
use Rattle.std.proofs.Common.{None, refl, ap, ◌∙◌, arith}
use Rattle.std.specs.Prelude.{int_lt}
use Rattle.std.specs.List.{list_all, list_any}
use Rattle.std.proofs.lemmas.Bool.{leb-true, le-ltb}
use Rattle.std.proofs.lemmas.Int.{ints}
use Rattle.byte_format.proofs.Cases.{both_true}
use Rattle.log_model.specs.Field.{Field, weight}
use Rattle.log_model.specs.Row.{IsRow, Row}
use Rattle.vl_row.specs.Faults.{fields_fault, is_long_named, row_fault}
use Rattle.block_model.proofs.RowLaws.{stored-again}

none-long : (fields : List Field) → list_all (λ (f : Field). leb (length f.0) 128) fields ≡ true
    → list_any is_long_named fields ≡ false
none-long [] e = refl
none-long (f ∷ fs) e =
    let p = both_true (leb (length f.0) 128) (list_all (λ (g : Field). leb (length g.0) 128) fs) e in
    rw (le-ltb 128 (length f.0) (leb-true (length f.0) 128 p.0)) (none-long fs p.1)

none-wrong : (fields : List Field) → list_any is_long_named fields ≡ false → length fields ≤ 1000
    → weight fields ≤ 262_144 → 1 ≤ length fields → fields_fault fields ≡ None
none-wrong fields long few light some =
    rw (long, le-ltb 1000 (length fields) few, le-ltb 262_144 (weight fields) light, le-ltb (length fields) 1 some) refl

not-early : (time : ℤ) → pos 0 ≤ℤ time → int_lt time (pos 0) ≡ false
not-early (pos n) h = le-ltb n 0 (omega arith)
not-early (negsuc n) h = absurd (omega (arith, ints, h))

pub no-fault : (time : ℤ) (row : Row) → pos 0 ≤ℤ time → IsRow row → row_fault time row.fields ≡ None
no-fault time row late h =
    rw (not-early time late) (ap fields_fault (stored-again row h)
    ∙ none-wrong row.fields (none-long row.fields h.short) h.few h.light (omega (arith, h.some)))
