-- What shared lists of shared parts hold.
use Rattle.std.specs.Prelude.{◌≡◌, ℕ, ◌+◌, ◌^◌, ◌<◌, ◌≤◌, List, [], ◌∷◌, ◌++◌, length, map, get_or}
use Rattle.std.specs.List.{flat_map}
use Rattle.std.specs.declared.vec.Vec.{Vec}
use Rattle.std.specs.Arc.{arc_value}
use Rattle.std.specs.declared.sync.Arc.{Arc}
use Rattle.log_model.specs.Core.{Contents}

-- the parts behind shared pointers
abbrev pub shared_parts : {P Z : Type 0} → List (Arc P Z) → List P
shared_parts parts = map arc_value parts

-- the parts of a chunk
abbrev pub parts_in : {P Z Y W : Type 0} → Arc (Vec (Arc P Z) Y) W → List P
parts_in chunk = shared_parts (arc_value chunk).items

-- the parts of each chunk
abbrev pub lists_in : {P Z Y W : Type 0} → List (Arc (Vec (Arc P Z) Y) W) → List (List P)
lists_in chunks = map parts_in chunks

-- all parts, one list after another
abbrev pub joined : {P : Type 0} → List (List P) → List P
joined lists = flat_map (λ list. list) lists

-- The batches that are not settled are held by `others` and then by the chunks.
abbrev pub contents_of : {P : Type 0} → ℕ → List P → List P → List (List P) → Contents P
contents_of settled days others chunks =
    record { settled = settled; days = days; unsettled = others ++ joined chunks }

-- Each chunk but the last has 64 parts, and the last has at most so many.
abbrev pub AreChunks : {P : Type 0} → List (List P) → Type 0
AreChunks [] = Unit {0}
AreChunks (chunk ∷ []) = length chunk ≤ 64
AreChunks (chunk ∷ next ∷ chunks) = (length chunk ≡ 64) × AreChunks (next ∷ chunks)

-- The last chunk has room for another part.
abbrev pub HasRoom : {P : Type 0} → List (List P) → ℕ → Type 0
HasRoom lists last = (last + 1 ≡ length lists) × (length (get_or lists last []) < 64)

-- It has none, if there is any chunk.
abbrev pub AreFilled : {P : Type 0} → List (List P) → Type 0
AreFilled lists = (last : ℕ) → last + 1 ≡ length lists → 64 ≤ length (get_or lists last [])

-- So many batches wait to be settled, each has a number, and the chunks are filled in their order.
pub record IsState {P : Type 0} (settled waiting : ℕ) (others : List P) (chunks : List (List P)) : Type 0 where
  pub waits : length (others ++ joined chunks) ≡ waiting
  pub small : settled + waiting < 2 ^ 63
  pub chunked : AreChunks chunks
