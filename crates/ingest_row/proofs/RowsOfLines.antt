-- The row of a line that says fields, and why a line gives none.
use Rattle.std.proofs.Common.{◌≡◌, ◌≢◌, inr, ℕ, ℤ, List, Result, Ok, Err, IfOk, IfErr, subst}
use Rattle.std.specs.Result.{IsErrAnd}
use Rattle.log_model.specs.Field.{Field}
use Rattle.log_model.specs.Row.{Row}
use Rattle.ingest_row.specs.Ingest.{Options, IsRowOf, IsRowOfLine, Says}
use Rattle.ingest_row.specs.Refusal.{IsFieldsFault, IsRefused}
use Rattle.ingest_row.specs.declared.kind.LineKind.{LineKind}
use Rattle.ingest_row.specs.declared.kind.LineKind.TheVariants.{Memory}

-- The line says these fields and no other.
pub record SaysOnly (line : List ℕ) (fields : List Field) : Type 0 where
  pub says : Says line fields
  pub only : (other : List Field) → Says line other → other ≡ fields

pub is_row_of_line : (o : Options) (now : ℤ) (line : List ℕ) (fields : List Field) (result : Result Row LineKind)
    → SaysOnly line fields → IfOk result (λ row. IsRowOf o now fields row)
    → IfOk result (λ row. IsRowOfLine o now line row)
is_row_of_line o now line fields (Ok row) said is = record { fields = fields; says = said.says; is_row = is }
is_row_of_line o now line fields (Err kind) said is = tt

pub only_row_of_line : (o : Options) (now : ℤ) (line : List ℕ) (fields : List Field) (result : Result Row LineKind)
    → SaysOnly line fields → IfOk result (λ row. (other : Row) → IsRowOf o now fields other → other ≡ row)
    → IfOk result (λ row. (other : Row) → IsRowOfLine o now line other → other ≡ row)
only_row_of_line o now line fields (Ok row) said only = λ other is.
    only other (subst (λ f. IsRowOf o now f other) (said.only is.fields is.says) is.is_row)
only_row_of_line o now line fields (Err kind) said only = tt

pub no_row_of_line : (o : Options) (now : ℤ) (line : List ℕ) (fields : List Field) (result : Result Row LineKind)
    → SaysOnly line fields → IfErr result (λ kind. kind ≢ Memory → (row : Row) → IsRowOf o now fields row → ⊥)
    → IfErr result (λ kind. kind ≢ Memory → (row : Row) → IsRowOfLine o now line row → ⊥)
no_row_of_line o now line fields (Ok row) said none = tt
no_row_of_line o now line fields (Err kind) said none = λ other row is.
    none other row (subst (λ f. IsRowOf o now f row) (said.only is.fields is.says) is.is_row)

pub refused_for_fields : (o : Options) (now : ℤ) (line : List ℕ) (fields : List Field) (result : Result Row LineKind)
    → SaysOnly line fields → IfErr result (λ kind. IsFieldsFault kind o now fields)
    → IfErr result (λ kind. IsRefused kind o now line)
refused_for_fields o now line fields (Ok row) said fault = tt
refused_for_fields o now line fields (Err kind) said fault = inr (fields, said.says, fault)

-- a line that says nothing gives no row
pub no_fields : (o : Options) (now : ℤ) (line : List ℕ) (kind : LineKind) (result : Result Row LineKind)
    → (kind ≢ Memory → (other : List Field) → Says line other → ⊥) → IsErrAnd result (λ k. k ≡ kind)
    → IfErr result (λ k. k ≢ Memory → (row : Row) → IsRowOfLine o now line row → ⊥)
no_fields o now line kind (Ok row) none same = tt
no_fields o now line kind (Err k) none same = λ other row is.
    none (subst (λ x. x ≢ Memory) same other) is.fields is.says
