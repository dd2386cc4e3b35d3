-- What a call does to an object of the outside. Of a source the bytes are those that are left in it, of a sink those
-- that were written to it. An object need not tell its bytes.
use Rattle.std.specs.Prelude.{◌≡◌, ℕ, ◌<◌, ◌⊎◌, List, ◌++◌, length, take, Option}
use Rattle.vl_io.specs.Bytes.{Appends, Consumes, IsAtEnd}
use Rattle.vl_io.specs.Faults.{Rose}

pub record Change : Type 0 where
  pub bytes_before : Option (List ℕ)
  pub bytes_after : Option (List ℕ)
  pub faults_before : ℕ
  pub faults_after : ℕ

-- from one state to another, where these tell the bytes and count the faults
abbrev pub change_of : {T : Type 0} → (T → Option (List ℕ)) → (T → ℕ) → T → T → Change
change_of bytes faults before after = record {
  bytes_before = bytes before;
  bytes_after = bytes after;
  faults_before = faults before;
  faults_after = faults after;
}

-- it failed meanwhile
abbrev pub HasFailed : Change → Type 0
HasFailed object = Rose object.faults_before object.faults_after

-- the source gave these bytes
abbrev pub Gave : Change → List ℕ → Type 0
Gave source bytes = Consumes source.bytes_before source.bytes_after bytes

-- the source has no more
abbrev pub IsSpent : Change → Type 0
IsSpent source = IsAtEnd source.bytes_after

-- the sink took this text
abbrev pub Took : Change → List ℕ → Type 0
Took sink text = Appends sink.bytes_before sink.bytes_after text

-- nothing was written to the sink
abbrev pub IsUntold : Change → Type 0
IsUntold sink = sink.bytes_after ≡ sink.bytes_before

-- The sink took `sure`, and of the text after it a proper prefix only, since it failed.
pub record IsCut (sink : Change) (sure text : List ℕ) : Type 0 where
  pub len : ℕ
  pub proper : len < length text
  pub took : Took sink (sure ++ take len text)
  pub failed : HasFailed sink

-- The sink took `sure`, and then the text, or a proper prefix of it.
abbrev pub IsTold : Change → List ℕ → List ℕ → Type 0
IsTold sink sure text = Took sink (sure ++ text) ⊎ IsCut sink sure text
