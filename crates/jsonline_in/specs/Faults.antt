-- What a fault says of a line.
use Rattle.std.specs.Prelude.{◌≡◌, ℕ, List, ◌++◌, codes, decimal, IsUtf8}
use Rattle.std.specs.Str.Lossy.{utf8_valid_len}
use Rattle.log_model.specs.Field.{Field}
use Rattle.log_model.specs.ObjectLine.{IsObjectLine, OpensObject, IsTooDeep, IsLongestPrefix}
use Rattle.jsonline_in.specs.declared.fault.JsonFault.{JsonFault}
use Rattle.jsonline_in.specs.declared.fault.JsonFault.TheVariants.{NotUtf8, NotObject, TooDeep, NotJson, Memory}

abbrev pub SaysNothing : List ℕ → Type 0
SaysNothing line = (fields : List Field) → IsObjectLine line fields → ⊥

-- The line says nothing. That memory ran out says nothing of it.
abbrev pub Refuses : JsonFault → List ℕ → Type 0
Refuses (NotUtf8 at) line = SaysNothing line
Refuses NotObject line = SaysNothing line
Refuses TooDeep line = SaysNothing line
Refuses (NotJson at) line = SaysNothing line
Refuses Memory line = Unit {0}

-- Each fault comes where none before it does: the line is not UTF-8 after its longest prefix that is; it opens no
-- object; objects begin as it does, up to some place, but each is too deep; or it is not an object, and none begins
-- with more of it.
abbrev pub IsFault : JsonFault → List ℕ → Type 0
IsFault (NotUtf8 at) line = (IsUtf8 line → ⊥) × (at ≡ utf8_valid_len line)
IsFault NotObject line = IsUtf8 line × (OpensObject line → ⊥)
IsFault TooDeep line = IsUtf8 line × OpensObject line × IsTooDeep line
IsFault (NotJson at) line = IsUtf8 line × OpensObject line × (IsTooDeep line → ⊥) × IsLongestPrefix line at
IsFault Memory line = Unit {0}

-- how a fault prints
abbrev pub fault_text : JsonFault → List ℕ
fault_text (NotUtf8 at) = codes "NotUtf8 at " ++ decimal at
fault_text NotObject = codes "NotObject"
fault_text TooDeep = codes "TooDeep"
fault_text (NotJson at) = codes "NotJson at " ++ decimal at
fault_text Memory = codes "no memory"
