-- What a tally has kept of some records.
use Rattle.std.specs.Prelude.{◌≡◌, ℕ, ◌+◌, ◌<◌, ◌^◌, Bool, false, List, [], ◌∷◌, ◌++◌, filter, length, map, nat_le, not}
use Rattle.std.specs.List.{AllByRecursion}
use Rattle.lq_ast.specs.Records.{Record}
use Rattle.lq_ast.specs.Sorting.{hits}
use Rattle.lq_ast.specs.Tuples.{Tuple, is_wholly_empty, tuple_cmp, tuple_of}
use Rattle.lq_tuple.specs.Counted.{HaveLength, tuple_text}
use Rattle.lq_tuple.specs.Once.{HasEachOnce}
use Rattle.lq_tuple.specs.Places.{AreKnown}
use Rattle.lq_tuple.specs.Groups.{group_tuple}
use Rattle.lq_tuple.specs.declared.group.Group.{Group}
use Rattle.lq_order.specs.Groups.{IsGroup, IsNamed}
use Rattle.lq_order.specs.declared.tally.Tally.{Tally}

-- the tuples of the records that are not wholly empty, as often as records have them
abbrev pub filled_tuples : List (List ℕ) → List Record → List Tuple
filled_tuples names records = filter (λ tuple. not (is_wholly_empty tuple)) (map (tuple_of names) records)

-- The texts are those of the tuples of these fields that the records have, each tuple once, and with each text stands
-- the number of the records that have its tuple.
pub record Tallies (tally : Tally) (names : List (List ℕ)) (records : List Record) : Type 0 where
  pub fields : tally.names.now ≡ names
  pub tuples : List Tuple
  pub known : AreKnown tally.places (map tuple_text tuples)
  pub once : HasEachOnce tuple_cmp tuples (filled_tuples names records)
  pub wide : HaveLength (length names) tuples
  pub filled : AllByRecursion (λ tuple. is_wholly_empty tuple ≡ false) tuples
  pub named : AllByRecursion (IsNamed names) tuples
  pub counted : tally.hits.items ≡ map (hits names records) tuples

-- The new tally is that of one more record, where these are fewer than 2^64.
abbrev pub TalliesRecord : Tally → Tally → Record → Type 0
TalliesRecord old new r =
    (names : List (List ℕ)) (records : List Record) → length records + 1 < 2 ^ 64 → Tallies old names records
    → Tallies new names (records ++ r ∷ [])

-- whether this many records or more have the tuple
abbrev pub has_hits : List (List ℕ) → List Record → ℕ → Tuple → Bool
has_hits names records least tuple = nat_le least (hits names records tuple)

-- The groups are those of the tuples that this many records or more have, but for one that is wholly empty.
pub record AreGroups (names : List (List ℕ)) (records : List Record) (least : ℕ)
    (groups : List (Group ℕ)) : Type 0 where
  pub tuples : List Tuple
  pub once : HasEachOnce tuple_cmp tuples (filled_tuples names records)
  pub chosen : map group_tuple groups ≡ filter (has_hits names records least) tuples
  pub each : AllByRecursion (IsGroup names records) groups
