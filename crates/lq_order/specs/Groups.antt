-- Groups of records, and the records that are made of them.
use Rattle.std.specs.Prelude.{◌≡◌, ◌<◌, ◌≤◌, Bool, List, ℕ, [], codes, decimal, filter, length, map, min}
use Rattle.std.specs.Prelude.{nat_le, nat_lt, zip, if◌then◌else◌}
use Rattle.log_model.specs.Field.{Field, is_empty, set_field}
use Rattle.lq_ast.specs.Records.{Record, put_fields}
use Rattle.lq_ast.specs.Sorting.{hits}
use Rattle.lq_ast.specs.Tuples.{Tuple}
use Rattle.lq_tuple.specs.Groups.{group_tuple}
use Rattle.lq_tuple.specs.declared.group.Group.{Group}

-- how many records have its tuple
abbrev pub group_hits : Group ℕ → ℕ
group_hits group = group.kept

abbrev pub group_pair : Group ℕ → Tuple × ℕ
group_pair group = (group_tuple group, group_hits group)

-- Fewer than n of the numbers are above this one, and n of them, or all, are not below it.
pub record IsNthGreatest (n nth : ℕ) (numbers : List ℕ) : Type 0 where
  pub few : 0 < n → length (filter (nat_lt nth) numbers) < n
  pub enough : min n (length numbers) ≤ length (filter (nat_le nth) numbers)

-- without a name there is no value
abbrev pub named : Field → Field
named field = (field.0, if is_empty field.0 then [] else field.1)

-- Each value has a name.
abbrev pub IsNamed : List (List ℕ) → Tuple → Type 0
IsNamed names tuple = map named (zip names tuple) ≡ zip names tuple

-- the record of a group's tuple, with its number where that is wanted
abbrev pub counted_group : List (List ℕ) → Bool → Group ℕ → Record
counted_group names counted group =
    let fields = put_fields [] (zip names (group_tuple group)) in
    if counted then set_field fields (codes "hits") (decimal (group_hits group)) else fields

-- The values have names, and the number of the group is that of the records that have its tuple.
abbrev pub IsGroup : List (List ℕ) → List Record → Group ℕ → Type 0
IsGroup names records group =
    IsNamed names (group_tuple group) × (group_hits group ≡ hits names records (group_tuple group))
