-- Groups of the input that are read before they are loaded.
use Rattle.std.specs.Prelude.{◌≡◌, ◌⊎◌, ℕ, ◌+◌, ◌<◌, ◌≤◌, Bool, true, false, List, [], ◌∷◌, ◌++◌, length, map}
use Rattle.std.specs.Prelude.{flat_map, Option, Result, Ok, Err}
use Rattle.std.specs.List.{AllByRecursion}
use Rattle.vl_io.specs.Bytes.{Consumes, IsAtEnd}
use Rattle.vl_io.specs.Faults.{Rose}
use Rattle.vl_io.specs.Lines.{AreFewer, AreLines, Reading, piece_len}
use Rattle.vl_io.specs.declared.transfer.ReadFault.{ReadFault}
use Rattle.vl_io.specs.declared.transfer.ReadFault.TheVariants as faults
use Rattle.lone_desk.specs.Alone.{IsReading}
use Rattle.vl_pipe.specs.Groups.{Arrival}
use Rattle.vl_pipe.specs.Program.{AreFew}
use Rattle.vl_pipe.specs.declared.window.Group.{Group}

-- the bodies of groups
abbrev pub bodies_of : List Group → List (List ℕ)
bodies_of groups = map (λ group. group.body.items) groups

-- what the lines of the group give was read
abbrev pub IsReadGroup : Arrival → Group → Type 0
IsReadGroup arrival group = IsReading arrival.options arrival.moment group.body.items group.read

abbrev pub AreReadGroups : Arrival → List Group → Type 0
AreReadGroups arrival groups = AllByRecursion (IsReadGroup arrival) groups

-- all bytes of the bodies
abbrev pub joined : List (List ℕ) → List ℕ
joined bodies = flat_map (λ body. body) bodies

-- The body has the lines of a group, before what comes after it. Or it has fewer, and is the last one of the input.
abbrev pub IsBody : Bool → List ℕ → List ℕ → Type 0
IsBody ended body rest =
    AreLines 1000 body ⊎ ((0 < length body) × AreFewer 1000 body × (rest ≡ []) × (ended ≡ true))

-- each of the bodies, before `tail`
abbrev pub AreBodies : Bool → List (List ℕ) → List ℕ → Type 0
AreBodies ended [] tail = Unit {0}
AreBodies ended (body ∷ bodies) tail = IsBody ended body (joined bodies ++ tail) × AreBodies ended bodies tail

-- no more bytes than one read gives, or so many groups before them
abbrev pub AreBehind : ℕ → List ℕ → Type 0
AreBehind groups bytes = (length bytes ≤ piece_len) ⊎ AreFew groups bytes

-- After the groups up to this place, fewer lines than a group has end within the limit, and one byte more came.
pub record AreTooMany (place limit : ℕ) (bytes : List ℕ) : Type 0 where
  pub front : List ℕ
  pub last : List ℕ
  pub are : bytes ≡ front ++ last
  pub fewer : AreFewer 1000 front
  pub all : place + length front ≡ limit
  pub one : length last ≡ 1

-- The reader stands behind the groups, which end at this place, and goes on from there.
pub record GoesOn (old new : Reading) (place : ℕ) (tail : List ℕ) (ended : Bool) : Type 0 where
  pub lines : new.lines ≡ old.lines
  pub limit : new.limit ≡ old.limit
  pub passed : new.passed + length new.group ≡ place
  pub further : old.passed + length old.group < place
  pub ahead : new.ahead ≡ tail
  pub closes : new.ended ≡ ended
  pub short : length new.ahead ≤ piece_len

-- Why a window has no further group. There may be one, there is none, or it could not be read.
abbrev pub EndsWindow : Reading → Reading → ℕ → ℕ → ℕ → List ℕ → Bool → Result Bool ReadFault → Type 0
EndsWindow old new before after place tail ended (Ok true) = GoesOn old new place tail ended
EndsWindow old new before after place tail ended (Ok false) = (tail ≡ []) × (ended ≡ true)
EndsWindow old new before after place tail ended (Err faults.Failed) = Rose before after × AreFewer 1000 tail
EndsWindow old new before after place tail ended (Err faults.Long) = AreTooMany place old.limit tail
EndsWindow old new before after place tail ended (Err faults.Memory) = Unit {0}

-- The bodies of groups were read, and `tail` after them.
pub record IsWindow (old new : Reading) (left_old left_new : Option (List ℕ)) (faults_old faults_new : ℕ)
    (bodies : List (List ℕ)) (more : Result Bool ReadFault) : Type 0 where
  pub piece : List ℕ
  pub tail : List ℕ
  -- whether the source ended
  pub ended : Bool
  -- in how many further groups the tail lies
  pub behind : ℕ
  pub consumed : Consumes left_old left_new piece
  pub parts : joined bodies ++ tail ≡ old.ahead ++ piece
  pub are : AreBodies ended bodies tail
  pub within : old.passed + length old.group + length (joined bodies) ≤ old.limit
  pub few : length bodies + behind ≤ 8
  pub tail_few : AreBehind behind tail
  pub closed : ended ≡ true → tail ≡ []
  pub at_end : old.ended ≡ false → ended ≡ true → IsAtEnd left_new
  pub idle : old.ended ≡ true → (bodies ≡ []) × (left_new ≡ left_old) × (ended ≡ true)
  pub stops :
      EndsWindow old new faults_old faults_new (old.passed + length old.group + length (joined bodies)) tail ended more
