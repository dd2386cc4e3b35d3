-- The row of a message of syslog, and why there is none.
use Rattle.std.specs.Prelude.{◌≡◌, ◌≢◌, ℕ, List, [], ◌∷◌, Option, Some, None, ℤ, codes}
use Rattle.log_model.specs.Field.{Field}
use Rattle.log_model.specs.Row.{Row}
use Rattle.vl_row.specs.Faults.{row_fault}
use Rattle.vl_row.specs.declared.row.RowFault.{RowFault}
use Rattle.syslog_in.specs.Message.{IsMessage}
use Rattle.syslog_in.specs.Parts.{IsMessageFault}
use Rattle.syslog_in.specs.declared.fault.MessageFault.{MessageFault}
use Rattle.syslog_in.specs.declared.fault.MessageFault.TheVariants as messages
use Rattle.ingest_row.specs.Ingest.{row_at}
use Rattle.ingest_row.specs.declared.syslog.SyslogKind.{SyslogKind}
use Rattle.ingest_row.specs.declared.syslog.SyslogKind.TheVariants as kinds

-- the fields of a message that are the labels of its stream
abbrev pub syslog_stream : List (List ℕ)
syslog_stream = codes "hostname" ∷ codes "app_name" ∷ codes "proc_id" ∷ []

-- A message without a moment of its own is of the moment at which it came in.
abbrev pub moment_of : ℤ → Option ℤ → ℤ
moment_of now None = now
moment_of now (Some moment) = moment

-- the row of a message that came in at the moment `now`
pub record IsRowOfSyslog (now : ℤ) (message : List ℕ) (row : Row) : Type 0 where
  pub time : Option ℤ
  pub fields : List Field
  pub is_message : IsMessage message time fields
  pub faultless : row_fault (moment_of now time) fields ≡ None
  pub is_row : row ≡ row_at syslog_stream (moment_of now time) fields

-- The message says fields that make no row.
pub record HasRowFault (fault : RowFault) (now : ℤ) (message : List ℕ) : Type 0 where
  pub time : Option ℤ
  pub fields : List Field
  pub is_message : IsMessage message time fields
  pub is_fault : row_fault (moment_of now time) fields ≡ Some fault

-- Why a message gives no row. Out of memory says nothing of it.
abbrev pub IsSyslogRefused : SyslogKind → ℤ → List ℕ → Type 0
IsSyslogRefused (kinds.Message fault) now message = (fault ≢ messages.Memory) × IsMessageFault fault message
IsSyslogRefused (kinds.Row fault) now message = HasRowFault fault now message
IsSyslogRefused kinds.Memory now message = Unit {0}

-- Why fields at a moment make no row.
abbrev pub IsStreamFault : SyslogKind → ℤ → List Field → Type 0
IsStreamFault (kinds.Message fault) time fields = ⊥
IsStreamFault (kinds.Row fault) time fields = row_fault time fields ≡ Some fault
IsStreamFault kinds.Memory time fields = Unit {0}

-- why bytes that are not a message give no row
abbrev pub kind_of : MessageFault → SyslogKind
kind_of messages.BadPri = kinds.Message messages.BadPri
kind_of messages.BadVersion = kinds.Message messages.BadVersion
kind_of messages.BadTime = kinds.Message messages.BadTime
kind_of (messages.BadHeader at) = kinds.Message (messages.BadHeader at)
kind_of (messages.BadData at) = kinds.Message (messages.BadData at)
kind_of messages.Memory = kinds.Memory
