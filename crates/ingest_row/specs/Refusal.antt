-- Why a line gives no row.
use Rattle.std.specs.Prelude.{◌≡◌, ◌⊎◌, ℕ, ℤ, ◌<◌, ◌≤◌, List, length, codes, false, Some}
use Rattle.log_model.specs.Field.{Field}
use Rattle.vl_row.specs.Faults.{row_fault}
use Rattle.vl_row.specs.declared.row.RowFault.TheVariants as row
use Rattle.jsonline_in.specs.Faults.{IsFault, SaysNothing}
use Rattle.jsonline_in.specs.declared.fault.JsonFault.TheVariants as json
use Rattle.jsonline_in.specs.Near.{AreKnown}
use Rattle.ingest_row.specs.Ingest.{AsksShort, Options, Says, IsTimeOf, time_text, row_fields}
use Rattle.ingest_row.specs.declared.kind.LineKind.{LineKind}
use Rattle.ingest_row.specs.declared.kind.LineKind.TheVariants.{LineLong, NotUtf8, NotObject, TooDeep, NotJson}
use Rattle.ingest_row.specs.declared.kind.LineKind.TheVariants.{BadTime, NameLong, ManyFields, RowLarge, Empty}
use Rattle.ingest_row.specs.declared.kind.LineKind.TheVariants.{Memory}

abbrev pub IsShort : List ℕ → Type 0
IsShort line = length line ≤ 1_048_576

-- what keeps the line from saying any fields
abbrev pub IsLineFault : LineKind → List ℕ → Type 0
IsLineFault LineLong line = 1_048_576 < length line
IsLineFault NotUtf8 line = IsShort line × (at : ℕ) × IsFault (json.NotUtf8 at) line
IsLineFault NotObject line = IsShort line × IsFault json.NotObject line
IsLineFault TooDeep line = IsShort line × IsFault json.TooDeep line
IsLineFault NotJson line = IsShort line × SaysNothing line × (at : ℕ) × IsFault (json.NotJson at) line
IsLineFault Memory line = Unit {0}
IsLineFault other line = ⊥

-- the fault of a row of this moment and these fields
abbrev pub IsRowFault : LineKind → ℤ → List Field → Type 0
IsRowFault NameLong time fields = row_fault time fields ≡ Some row.NameLong
IsRowFault ManyFields time fields = row_fault time fields ≡ Some row.ManyFields
IsRowFault RowLarge time fields = row_fault time fields ≡ Some row.RowLarge
IsRowFault Empty time fields = row_fault time fields ≡ Some row.Empty
IsRowFault Memory time fields = Unit {0}
IsRowFault other time fields = ⊥

-- the fields say no moment
abbrev pub SaysNoTime : Options → ℤ → List Field → Type 0
SaysNoTime options now fields = (time : ℤ) → IsTimeOf now (time_text options fields) time → ⊥

-- the row that these fields would be has this fault
pub record HasRowFault (kind : LineKind) (options : Options) (now : ℤ) (fields : List Field) : Type 0 where
  pub time : ℤ
  pub is_time : IsTimeOf now (time_text options fields) time
  pub at_fault : IsRowFault kind time (row_fields options fields)

-- what keeps the fields from being a row
abbrev pub IsFieldsFault : LineKind → Options → ℤ → List Field → Type 0
IsFieldsFault kind options now fields =
    ((kind ≡ BadTime) × SaysNoTime options now fields) ⊎ HasRowFault kind options now fields

-- the fault of any fields of which these are known, one of whose names is long
abbrev pub IsKindOfFar : Options → ℤ → List Field → LineKind → Type 0
IsKindOfFar options now fields kind =
    AsksShort options → (whole : List Field) (name : List ℕ) → AreKnown false whole fields (Some name)
    → IsFieldsFault kind options now whole

-- The line says no fields, or such as make no row. That memory ran out says nothing of it.
abbrev pub IsRefused : LineKind → Options → ℤ → List ℕ → Type 0
IsRefused kind options now line =
    IsLineFault kind line ⊎ ((fields : List Field) × Says line fields × IsFieldsFault kind options now fields)

-- how the kinds are named
abbrev pub kind_text : LineKind → List ℕ
kind_text LineLong = codes "LineLong"
kind_text NotUtf8 = codes "NotUtf8"
kind_text NotObject = codes "NotObject"
kind_text TooDeep = codes "TooDeep"
kind_text NotJson = codes "NotJson"
kind_text BadTime = codes "BadTime"
kind_text NameLong = codes "NameLong"
kind_text ManyFields = codes "ManyFields"
kind_text RowLarge = codes "RowLarge"
kind_text Empty = codes "Empty"
kind_text Memory = codes "no memory"
