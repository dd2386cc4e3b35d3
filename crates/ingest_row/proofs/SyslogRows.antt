-- The row of a message of syslog, and why there is none.
use Rattle.std.proofs.Common.{◌≡◌, ◌≢◌, ℕ, ℤ, List, Option, Result, Ok, Err, IfOk, IfErr, refl, sym, ap}
use Rattle.std.proofs.Common.{◌∙◌}
use Rattle.std.proofs.lemmas.Option.{none-some}
use Rattle.log_model.specs.Field.{Field}
use Rattle.log_model.specs.Row.{Row}
use Rattle.vl_row.specs.Faults.{row_fault}
use Rattle.syslog_in.specs.Message.{IsMessage}
use Rattle.ingest_row.specs.Ingest.{row_at}
use Rattle.syslog_in.specs.Parts.{IsMessageFault}
use Rattle.syslog_in.specs.declared.fault.MessageFault.{MessageFault}
use Rattle.syslog_in.specs.declared.fault.MessageFault.TheVariants as messages
use Rattle.ingest_row.specs.Syslog.{syslog_stream, moment_of, IsRowOfSyslog, IsStreamFault, IsSyslogRefused, kind_of}
use Rattle.ingest_row.specs.declared.syslog.SyslogKind.{SyslogKind}
use Rattle.ingest_row.specs.declared.syslog.SyslogKind.TheVariants.{Message, Row as BadRow, Memory}

-- the message has no other moment and fields
abbrev pub SaysOnly : List ℕ → Option ℤ → List Field → Type 0
SaysOnly message time fields =
    (other : Option ℤ) (others : List Field) → IsMessage message other others → (other ≡ time) × (others ≡ fields)

pub only_syslog_row : (now at : ℤ) (message : List ℕ) (time : Option ℤ) (fields : List Field)
    (result : Result Row SyslogKind)
    → SaysOnly message time fields → at ≡ moment_of now time → IfOk result (λ row. row ≡ row_at syslog_stream at fields)
    → IfOk result (λ row. (other : Row) → IsRowOfSyslog now message other → other ≡ row)
only_syslog_row now at message time fields (Ok row) only at_is row_is = λ other is.
    let same = only is.time is.fields is.is_message in
    is.is_row
    ∙ ap (λ (t : Option ℤ). row_at syslog_stream (moment_of now t) is.fields) same.0
    ∙ ap (λ (t : ℤ). row_at syslog_stream t is.fields) (sym at_is)
    ∙ ap (row_at syslog_stream at) same.1
    ∙ sym row_is
only_syslog_row now at message time fields (Err kind) only at_is row_is = tt

pub no_syslog_row : (now at : ℤ) (message : List ℕ) (time : Option ℤ) (fields : List Field)
    (result : Result Row SyslogKind)
    → SaysOnly message time fields → at ≡ moment_of now time → IfErr result (λ kind. IsStreamFault kind at fields)
    → IfErr result (λ kind. kind ≢ Memory → (row : Row) → IsRowOfSyslog now message row → ⊥)
no_syslog_row now at message time fields (Ok row) only at_is fault = tt
no_syslog_row now at message time fields (Err (Message k)) only at_is fault = absurd fault
no_syslog_row now at message time fields (Err Memory) only at_is fault = λ other. absurd (other refl)
no_syslog_row now at message time fields (Err (BadRow k)) only at_is fault = λ _ row is.
    let same = only is.time is.fields is.is_message in
    none-some k (sym is.faultless
    ∙ ap (λ (t : Option ℤ). row_fault (moment_of now t) is.fields) same.0
    ∙ ap (λ (t : ℤ). row_fault t is.fields) (sym at_is)
    ∙ ap (row_fault at) same.1 ∙ fault)

-- ---- bytes that are not a message

pub refused_message : (fault : MessageFault) (now : ℤ) (message : List ℕ) → IsMessageFault fault message
    → IsSyslogRefused (kind_of fault) now message
refused_message messages.BadPri now message h = (λ e. cc, h)
refused_message messages.BadVersion now message h = (λ e. cc, h)
refused_message messages.BadTime now message h = (λ e. cc, h)
refused_message (messages.BadHeader at) now message h = (λ e. cc, h)
refused_message (messages.BadData at) now message h = (λ e. cc, h)
refused_message messages.Memory now message h = tt

kind_of-memory : (fault : MessageFault) → fault ≡ messages.Memory → kind_of fault ≡ Memory
kind_of-memory fault e = ap kind_of e

pub no_message : (fault : MessageFault) (now : ℤ) (message : List ℕ)
    → (fault ≢ messages.Memory → (time : Option ℤ) (fields : List Field) → IsMessage message time fields → ⊥)
    → kind_of fault ≢ Memory → (row : Row) → IsRowOfSyslog now message row → ⊥
no_message fault now message none other row is =
    none (λ e. other (kind_of-memory fault e)) is.time is.fields is.is_message
