-- The list of a catalog keeps the rules of a list.
use Rattle.std.proofs.Common.{◌≡◌, inl, inr, ℕ, ◌<◌, ◌≤◌, ◌^◌, Bool, true, false, List, [], ◌∷◌, length, map}
use Rattle.std.proofs.Common.{refl, sym, ◌∙◌, subst, arith}
use Rattle.std.specs.Prelude.{◌⊎◌, ◌&&◌, ◌==◌, nat_le, nat_lt}
use Rattle.std.specs.List.{AllByRecursion, IsDistinct, list_all}
use Rattle.std.specs.Cmp.{unsigned_tied}
use Rattle.std.specs.Ordering.{eq_by_cmp, nat_cmp}
use Rattle.std.specs.Set.{distinct_count}
use Rattle.std.proofs.lemmas.Bool.{and_from, eq-eqb, le-leb, lt-ltb, ne_eqb, or_left, or_right}
use Rattle.std.proofs.lemmas.Cmp.{eq_by_cmp_equiv, nat_cmp_total}
use Rattle.std.proofs.lemmas.List.{length-map}
use Rattle.std.proofs.lemmas.Map.Made.{distinct_count-from_IsDistinct}
use Rattle.parts_list.specs.declared.list.Entry.{Entry}
use Rattle.parts_list.specs.declared.list.List.{List as Listing}
use Rattle.parts_list.specs.Listing.{is_within, is_generation, is_front, is_next_file, is_entry, comes_before}
use Rattle.parts_list.specs.Listing.{are_in_order}
use Rattle.parts_list.specs.Listing.{have_distinct_files, is_list}
use Rattle.part_store.specs.State.{Listed, ComesBefore, AreInOrder, IsFileBelow}
use Rattle.part_store.specs.Finds.{CanBeWritten, IsCatalog, entry_of}

within : (least end n : ℕ) → least ≤ n → n < end → is_within least end n ≡ true
within least end n le lt = and_from (nat_le least n) (nat_lt n end) (le-leb least n le) (lt-ltb n end lt)

entries_fit : (next : ℕ) (parts : List Listed) → AllByRecursion (IsFileBelow next) parts
    → AllByRecursion CanBeWritten parts
    → list_all (is_entry next) (map entry_of parts) ≡ true
entries_fit next [] files written = refl
entries_fit next (part ∷ parts) files written =
    let e = entry_of part in
    and_from (is_entry next e) (list_all (is_entry next) (map entry_of parts))
    (and_from (nat_lt e.day (2 ^ 32) && nat_lt e.bytes (2 ^ 64)) (is_within 2 next e.file)
    (and_from (nat_lt e.day (2 ^ 32)) (nat_lt e.bytes (2 ^ 64)) (lt-ltb e.day (2 ^ 32) written.0.day)
    (lt-ltb e.bytes (2 ^ 64) written.0.size))
    (within 2 next e.file files.0.0 files.0.1))
    (entries_fit next parts files.1 written.1)

entry_before : (a b : Listed) → ComesBefore a b → comes_before (entry_of a) (entry_of b) ≡ true
entry_before a b comes = pick comes.0
  where
    pick : (a.day < b.day) ⊎ ((a.day ≡ b.day) × (a.file < b.file)) → comes_before (entry_of a) (entry_of b) ≡ true
    pick (inl earlier) = or_left (nat_lt a.day b.day) (a.day == b.day && nat_lt a.file b.file)
        (lt-ltb a.day b.day earlier)
    pick (inr same) = or_right (nat_lt a.day b.day) (a.day == b.day && nat_lt a.file b.file)
        (and_from (a.day == b.day) (nat_lt a.file b.file) (eq-eqb a.day b.day same.0) (lt-ltb a.file b.file same.1))

entries_ordered : (parts : List Listed) → AreInOrder parts → are_in_order (map entry_of parts) ≡ true
entries_ordered [] order = refl
entries_ordered (a ∷ []) order = refl
entries_ordered (a ∷ b ∷ parts) order =
    and_from (comes_before (entry_of a) (entry_of b)) (are_in_order (entry_of b ∷ map entry_of parts))
    (entry_before a b order.0.0) (entries_ordered (b ∷ parts) order.1)

abbrev file_of : Entry → ℕ
file_of e = e.file

other_files : (part : Listed) (parts : List Listed) → AllByRecursion (ComesBefore part) parts
    → AllByRecursion (λ file. eq_by_cmp nat_cmp part.file file ≡ false) (map file_of (map entry_of parts))
other_files part [] comes = tt
other_files part (q ∷ parts) comes = (
  unsigned_tied part.file q.file ∙ ne_eqb part.file q.file comes.0.1,
  other_files part parts comes.1,
)

files_distinct : (parts : List Listed) → AreInOrder parts → IsDistinct (eq_by_cmp nat_cmp) (map file_of
    (map entry_of parts))
unfolding IsDistinct
files_distinct [] order = tt
files_distinct (part ∷ parts) order = (other_files part parts order.0, files_distinct parts order.1)

have_distinct : (parts : List Listed) → AreInOrder parts → have_distinct_files (map entry_of parts) ≡ true
have_distinct parts order =
    let entries = map entry_of parts in
    eq-eqb (distinct_count (eq_by_cmp nat_cmp) (map file_of entries)) (length entries)
    (distinct_count-from_IsDistinct (eq_by_cmp_equiv nat_cmp_total) (map file_of entries) (files_distinct parts order)
    ∙ length-map entries file_of)

pub list_rules : (list : Listing) (parts : List Listed) → IsCatalog list parts → 0 < list.generation
    → is_list list ≡ true
list_rules list parts whole some = subst
    (λ (entries : List Entry). is_list (record {
      generation = list.generation;
      front = list.front;
      next_file = list.next_file;
      entries = entries;
    }) ≡ true) (sym whole.entries) rules
  where
    g : Bool
    g = is_generation list.generation

    f : Bool
    f = is_front list.front

    n : Bool
    n = is_next_file list.next_file

    es : List Entry
    es = map entry_of parts

    rules : (g && f && n && nat_lt (length es) (2 ^ 32) && list_all (is_entry list.next_file) es && are_in_order es &&
        have_distinct_files es) ≡ true
    rules =
        and_from (g && f && n && nat_lt (length es) (2 ^ 32) && list_all
        (is_entry list.next_file) es && are_in_order es) (have_distinct_files es)
        (and_from (g && f && n && nat_lt (length es) (2 ^ 32) && list_all (is_entry list.next_file) es)
        (are_in_order es)
        (and_from (g && f && n && nat_lt (length es) (2 ^ 32)) (list_all (is_entry list.next_file) es)
        (and_from (g && f && n) (nat_lt (length es) (2 ^ 32))
        (and_from (g && f) n
        (and_from g f (within 1 (2 ^ 63) list.generation (omega (arith, some)) whole.generation) (within 0
        (2 ^ 63) list.front (omega arith) whole.front))
        (within 2 (2 ^ 63) list.next_file whole.next_file.0 whole.next_file.1))
        (lt-ltb (length es) (2 ^ 32) (omega (arith, length-map parts entry_of, whole.few))))
        (entries_fit list.next_file parts whole.stored.files whole.written))
        (entries_ordered parts whole.stored.order))
        (have_distinct parts whole.stored.order)
