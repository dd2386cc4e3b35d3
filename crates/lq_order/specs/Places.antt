-- Places of records.
use Rattle.std.specs.Prelude.{◌≡◌, ◌+◌, ◌<◌, ◌≤◌, ◌≢◌, ℕ, List, Option, Some, drop, map}
use Rattle.std.specs.List.{AllPairs, All, enumerate_from}
use Rattle.std.specs.Ordering.{on}
use Rattle.lq_ast.specs.Records.{Record}
use Rattle.lq_ast.specs.Sorting.{at_most, record_cmp}
use Rattle.lq_ast.specs.Stage.{SortBy, Sorting}
use Rattle.lq_ast.specs.Tuples.{sorted_by}

-- Places below a length, each of them once.
pub record ArePlaces (count : ℕ) (places : List ℕ) : Type 0 where
  pub inside : All (λ place. place < count) places
  pub apart : AllPairs ◌≢◌ places

-- where the records stand, in the order of the keys
abbrev pub places_in_order : List SortBy → List Record → List ℕ
places_in_order keys records = map (λ p. p.0) (sorted_by (on (λ p. p.1) (record_cmp keys)) (enumerate_from 0 records))

-- where the records stand that `sort` keeps, in its order
abbrev pub sorted_places : Sorting → List Record → List ℕ
sorted_places s records = map (λ p. p.0)
    (at_most s.limit (drop s.offset (sorted_by (on (λ p. p.1) (record_cmp s.keys)) (enumerate_from 0 records))))

-- This many places from the first on, but not all, hold all that an offset and a limit keep.
pub record IsWanted (offset : ℕ) (limit : Option ℕ) (count most : ℕ) : Type 0 where
  pub size : ℕ
  pub limited : limit ≡ Some size
  pub enough : offset + size ≤ most
  pub some : 0 < most
  pub few : most < count
