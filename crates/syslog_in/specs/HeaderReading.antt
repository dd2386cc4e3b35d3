-- What was read of a header.
use Rattle.std.specs.Prelude.{◌≡◌, ℕ, Bool, not, ◌&&◌, ◌||◌, ◌==◌, nat_le, List, [], ◌∷◌, ◌++◌, length, drop}
use Rattle.std.specs.Prelude.{slice_index, Option, Some, None, ℤ, if◌then◌else◌}
use Rattle.syslog_in.specs.Reading.{length_at}
use Rattle.syslog_in.specs.Message.{IsName, NameTexts}
use Rattle.syslog_in.specs.Parts.{Part, IsPart, names, Stands, AreParts, BeginsWithPri, version}
use Rattle.syslog_in.specs.Message.{IsTime}

-- this name and no other
abbrev pub IsNamed : ℕ → List ℕ → List ℕ → Type 0
IsNamed most name text = IsName most text × (text ≡ name)

-- These names stand one after another.
pub record AreNames (text : List ℕ) (texts : NameTexts) (rest : List ℕ) : Type 0 where
  pub first : List ℕ
  pub second : List ℕ
  pub third : List ℕ
  pub hostname : Stands (IsNamed 255 texts.hostname) text first
  pub app_name : Stands (IsNamed 48 texts.app_name) first second
  pub proc_id : Stands (IsNamed 128 texts.proc_id) second third
  pub msg_id : Stands (IsNamed 32 texts.msg_id) third rest

-- One of the names is missing where this many bytes are left.
pub record LacksNameIn (text : List ℕ) (left : ℕ) : Type 0 where
  pub before : List Part
  pub part : Part
  pub after : List Part
  pub is_name : names ≡ before ++ part ∷ after
  pub rest : List ℕ
  pub parts : AreParts before text rest
  pub lacks : (more : List ℕ) → Stands (IsPart part) rest more → ⊥
  pub left_is : left ≡ length rest

-- A header with this number of PRI, this moment and these names, and what stands after it.
pub record HeaderAt (text : List ℕ) (priority : ℕ) (time : Option ℤ) (texts : NameTexts) (rest : List ℕ) : Type 0 where
  pub first : List ℕ
  pub second : List ℕ
  pub third : List ℕ
  pub pri : BeginsWithPri text first
  pub priority_is : pri.priority ≡ priority
  pub is_version : Stands (IsPart version) first second
  pub is_time : Stands (λ part. IsTime part time) second third
  pub are_names : AreNames third texts rest

-- ---- PRI, read from left to right

-- what follows the byte, if it stands at the start
abbrev pub past : ℕ → List ℕ → Option (List ℕ)
past byte [] = None
past byte (first ∷ rest) = if first == byte then Some rest else None

-- this many digits are a number from 0 to 191 without zeros ahead
abbrev pub is_priority : ℕ → ℕ → List ℕ → Bool
is_priority digits number inside =
    nat_le 1 digits && (((digits == 1) || not (slice_index inside 0 == 48)) && nat_le number 191)

abbrev pub closed : ℕ → Option (List ℕ) → Option (ℕ × List ℕ)
closed number None = None
closed number (Some rest) = Some (number, rest)

abbrev pub with_digits : List ℕ → Option (ℕ × ℕ) → Option (ℕ × List ℕ)
with_digits inside None = None
with_digits inside (Some (digits, number)) =
    if is_priority digits number inside then closed number (past 62 (drop digits inside)) else None

abbrev pub behind_mark : Option (List ℕ) → Option (ℕ × List ℕ)
behind_mark None = None
behind_mark (Some inside) = with_digits inside (length_at inside)

-- the number of PRI, and what follows it
unfoldable pub priority_at : List ℕ → Option (ℕ × List ℕ)
priority_at text = behind_mark (past 60 text)

-- ---- MSG

-- what follows structured data, without the blank
abbrev pub msg_at : List ℕ → Option (List ℕ)
msg_at [] = None
msg_at (byte ∷ msg) = Some msg
