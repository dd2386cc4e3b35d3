-- Which part of a message is the first that is not in the grammar (RFC 5424, section 6).
use Rattle.std.specs.Prelude.{◌≡◌, ℕ, ◌-◌, List, [], ◌∷◌, ◌++◌, length, Option, ℤ, codes, decimal}
use Rattle.std.specs.List.{AllByRecursion}
use Rattle.syslog_in.specs.Message.{IsPriority, IsTime, IsName, Element, IsElement, data_source}
use Rattle.syslog_in.specs.declared.fault.MessageFault.{MessageFault}
use Rattle.syslog_in.specs.declared.fault.MessageFault.TheVariants.{BadPri, BadVersion, BadTime, BadHeader, BadData}
use Rattle.syslog_in.specs.declared.fault.MessageFault.TheVariants.{Memory}

-- the parts between PRI and STRUCTURED-DATA, each with a blank after it
pub data Part : Type 0 where
  version : Part
  timestamp : Part
  hostname : Part
  app_name : Part
  proc_id : Part
  msg_id : Part

abbrev pub IsPart : Part → List ℕ → Type 0
IsPart version text = text ≡ 49 ∷ []
IsPart timestamp text = (time : Option ℤ) × IsTime text time
IsPart hostname text = IsName 255 text
IsPart app_name text = IsName 48 text
IsPart proc_id text = IsName 128 text
IsPart msg_id text = IsName 32 text

-- What follows a part: a blank and then the rest, or nothing.
abbrev pub Behind : List ℕ → List ℕ → Type 0
Behind [] rest = rest ≡ []
Behind (byte ∷ bytes) rest = (byte ≡ 32) × (bytes ≡ rest)

-- A part that is so stands at the start, up to a blank or the end.
pub record Stands (IsSo : List ℕ → Type 0) (text rest : List ℕ) : Type 0 where
  pub part : List ℕ
  pub after : List ℕ
  pub is_so : IsSo part
  pub spelled : text ≡ part ++ after
  pub behind : Behind after rest

-- Parts stand one after another.
abbrev pub AreParts : List Part → List ℕ → List ℕ → Type 0
AreParts [] text rest = text ≡ rest
AreParts (part ∷ parts) text rest = (middle : List ℕ) × Stands (IsPart part) text middle × AreParts parts middle rest

-- PRI, and what follows it
pub record BeginsWithPri (text rest : List ℕ) : Type 0 where
  pub digits : List ℕ
  pub priority : ℕ
  pub is_priority : IsPriority digits priority
  pub spelled : text ≡ 60 ∷ (digits ++ 62 ∷ rest)

-- The parts before stand after PRI, and this one does not follow them, at this place.
pub record LacksPart (text : List ℕ) (before : List Part) (part : Part) (at : ℕ) : Type 0 where
  pub start : List ℕ
  pub rest : List ℕ
  pub pri : BeginsWithPri text start
  pub parts : AreParts before start rest
  pub lacks : (more : List ℕ) → Stands (IsPart part) rest more → ⊥
  pub at_is : at ≡ length text - length rest

-- STRUCTURED-DATA stands at the start, up to a blank or the end.
pub record BeginsWithData (text : List ℕ) : Type 0 where
  pub elements : List Element
  pub are_elements : AllByRecursion IsElement elements
  pub after : List ℕ
  pub rest : List ℕ
  pub spelled : text ≡ data_source elements ++ after
  pub behind : Behind after rest

abbrev pub names : List Part
names = hostname ∷ app_name ∷ proc_id ∷ msg_id ∷ []

pub record LacksName (text : List ℕ) (at : ℕ) : Type 0 where
  pub before : List Part
  pub part : Part
  pub after : List Part
  pub is_name : names ≡ before ++ part ∷ after
  pub lacks : LacksPart text (version ∷ timestamp ∷ before) part at

-- All parts stand, and no structured data follows them, at this place.
pub record LacksData (text : List ℕ) (at : ℕ) : Type 0 where
  pub start : List ℕ
  pub rest : List ℕ
  pub pri : BeginsWithPri text start
  pub parts : AreParts (version ∷ timestamp ∷ names) start rest
  pub lacks : BeginsWithData rest → ⊥
  pub at_is : at ≡ length text - length rest

-- Each fault names the first part from the left that is not in the grammar. Out of memory says nothing of the bytes.
abbrev pub IsMessageFault : MessageFault → List ℕ → Type 0
IsMessageFault BadPri text = (rest : List ℕ) → BeginsWithPri text rest → ⊥
IsMessageFault BadVersion text = (at : ℕ) × LacksPart text [] version at
IsMessageFault BadTime text = (at : ℕ) × LacksPart text (version ∷ []) timestamp at
IsMessageFault (BadHeader at) text = LacksName text at
IsMessageFault (BadData at) text = LacksData text at
IsMessageFault Memory text = Unit {0}

-- how a fault prints
abbrev pub message_fault_text : MessageFault → List ℕ
message_fault_text BadPri = codes "BadPri"
message_fault_text BadVersion = codes "BadVersion"
message_fault_text BadTime = codes "BadTime"
message_fault_text (BadHeader at) = codes "BadHeader at " ++ decimal at
message_fault_text (BadData at) = codes "BadData at " ++ decimal at
message_fault_text Memory = codes "no memory"
