-- The rules of a list of parts.
use Rattle.std.specs.Prelude.{ℕ, ◌^◌, ◌%◌, ◌&&◌, ◌||◌, ◌==◌, Bool, true, List, [], ◌∷◌, length, map}
use Rattle.std.specs.Prelude.{nat_le, nat_lt}
use Rattle.std.specs.List.{list_all}
use Rattle.std.specs.Ordering.{eq_by_cmp, nat_cmp}
use Rattle.std.specs.Set.{distinct_count}
use Rattle.parts_list.specs.declared.list.Entry.{Entry}
use Rattle.parts_list.specs.declared.list.List.{List as Listing}

-- from the least up to below the end
abbrev pub is_within : ℕ → ℕ → ℕ → Bool
is_within least end n = nat_le least n && nat_lt n end

-- Counts and numbers of files end at 2^63 - 1. Files 0 and 1 are the slots, so parts have files from 2 up.
abbrev pub is_generation : ℕ → Bool
is_generation n = is_within 1 (2 ^ 63) n

abbrev pub is_front : ℕ → Bool
is_front n = is_within 0 (2 ^ 63) n

abbrev pub is_next_file : ℕ → Bool
is_next_file n = is_within 2 (2 ^ 63) n

-- The file of a part is below the next one.
abbrev pub is_file_below : ℕ → ℕ → Bool
is_file_below next file = is_within 2 next file

abbrev pub is_entry : ℕ → Entry → Bool
is_entry next e = nat_lt e.day (2 ^ 32) && nat_lt e.bytes (2 ^ 64) && is_file_below next e.file

-- One entry comes before the other: by day, and then by file.
abbrev pub comes_before : Entry → Entry → Bool
comes_before a b = nat_lt a.day b.day || (a.day == b.day && nat_lt a.file b.file)

abbrev pub are_in_order : List Entry → Bool
are_in_order [] = true
are_in_order (a ∷ []) = true
are_in_order (a ∷ b ∷ entries) = comes_before a b && are_in_order (b ∷ entries)

-- There are as many different files as entries.
abbrev pub have_distinct_files : List Entry → Bool
have_distinct_files entries = distinct_count (eq_by_cmp nat_cmp) (map (λ e. e.file) entries) == length entries

-- the rules of a list
abbrev pub is_list : Listing → Bool
is_list l =
    is_generation l.generation && is_front l.front && is_next_file l.next_file
    && nat_lt (length l.entries) (2 ^ 32) && list_all (is_entry l.next_file) l.entries
    && are_in_order l.entries && have_distinct_files l.entries

-- A generation stands in the slot of its parity.
abbrev pub is_list_of : ℕ → Listing → Bool
is_list_of slot l = (l.generation % 2 == slot) && is_list l
