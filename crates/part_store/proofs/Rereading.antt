-- A catalog that was read keeps the rules.
use Rattle.std.proofs.Common.{◌≡◌, ◌≢◌, inl, inr, ℕ, ◌<◌, ◌^◌, true, false, List, [], ◌∷◌, ◌++◌, length}
use Rattle.std.proofs.Common.{map, refl, sym, ◌∙◌, ap, subst, arith, Ok, Err}
use Rattle.std.specs.Prelude.{◌⊎◌, ◌&&◌, ◌==◌, nat_le, nat_lt, Some, Result}
use Rattle.std.specs.List.{AllByRecursion, AllZip, IsDistinct, flat_map, list_all}
use Rattle.std.specs.Cmp.{unsigned_tied}
use Rattle.std.specs.Ordering.{eq_by_cmp, nat_cmp}
use Rattle.std.specs.Set.{distinct_count}
use Rattle.std.proofs.lemmas.Bool.{and_parts, eqb-true, leb-true, ltb-true, eq-eqb, or_cases, both_ways}
use Rattle.std.proofs.lemmas.Cmp.{eq_by_cmp_equiv, nat_cmp_total}
use Rattle.std.proofs.lemmas.List.{length-map}
use Rattle.std.proofs.lemmas.Map.Made.{IsDistinct-from_count}
use Rattle.byte_format.proofs.Cases.{some_from}
use Rattle.log_model.specs.History.{Numbered}
use Rattle.day_model.specs.Days.{LieInDay}
use Rattle.vl_vault.specs.Disk.{Image}
use Rattle.part_file.specs.Again.{is_read_again}
use Rattle.part_file.specs.Format.{is_part, part, part_bytes, part_writing}
use Rattle.parts_list.specs.declared.list.Entry.{Entry}
use Rattle.parts_list.specs.declared.list.List.{List as Listing}
use Rattle.parts_list.specs.Listing.{is_within, is_generation, is_front, is_next_file, is_entry, comes_before}
use Rattle.parts_list.specs.Listing.{are_in_order}
use Rattle.parts_list.specs.Listing.{have_distinct_files, is_list}
use Rattle.part_store.specs.State.{Listed, EachPair, ComesBefore, AreInOrder, IsFileBelow, LiesInDay}
use Rattle.part_store.specs.Finds.{CanBeWritten, HasPart, IsCatalog, entry_of}
use Rattle.part_store.specs.Reopening.{IsPartOf, IsStoredAt, listed_with}
use Rattle.part_store.proofs.Every.{both}

-- ---- order

abbrev IsEarlier : Listed → Listed → Type 0
IsEarlier a b = (a.day < b.day) ⊎ ((a.day ≡ b.day) × (a.file < b.file))

abbrev IsApart : Listed → Listed → Type 0
IsApart a b = a.file ≢ b.file

earlier : (a b : Listed) → comes_before (entry_of a) (entry_of b) ≡ true → IsEarlier a b
earlier a b is = elim (or_cases (nat_lt a.day b.day) (a.day == b.day && nat_lt a.file b.file) is) [
  | inl less ↦ inl (ltb-true a.day b.day less)
  | inr same ↦
      let p = and_parts (a.day == b.day) (nat_lt a.file b.file) same in
      inr (eqb-true a.day b.day p.0, ltb-true a.file b.file p.1)
]

chained : (a b c : Listed) → IsEarlier a b → IsEarlier b c → IsEarlier a c
chained a b c (inl x) (inl y) = inl (omega (arith, x, y))
chained a b c (inl x) (inr y) = inl (omega (arith, x, y.0))
chained a b c (inr x) (inl y) = inl (omega (arith, x.0, y))
chained a b c (inr x) (inr y) = inr (omega (arith, x.0, y.0), omega (arith, x.1, y.1))

all_later : (a b : Listed) (parts : List Listed) → IsEarlier a b → AllByRecursion (IsEarlier b) parts
    → AllByRecursion (IsEarlier a) parts
all_later a b [] is later = tt
all_later a b (c ∷ parts) is later = (chained a b c is later.0, all_later a b parts is later.1)

each_earlier : (parts : List Listed) → are_in_order (map entry_of parts) ≡ true → EachPair IsEarlier parts
each_earlier [] is = tt
each_earlier (a ∷ []) is = (tt, tt)
each_earlier (a ∷ b ∷ parts) is =
    let p = and_parts (comes_before (entry_of a) (entry_of b)) (are_in_order (entry_of b ∷ map entry_of parts)) is in
    let rest = each_earlier (b ∷ parts) p.1 in
    let first = earlier a b p.0 in
    ((first, all_later a b parts first rest.0), rest)

abbrev file_of : Entry → ℕ
file_of e = e.file

all_apart : (part : Listed) (parts : List Listed)
    → AllByRecursion (λ file. eq_by_cmp nat_cmp part.file file ≡ false) (map file_of (map entry_of parts))
    → AllByRecursion (IsApart part) parts
all_apart part [] differ = tt
all_apart part (q ∷ parts) differ = (
  λ same. both_ways (part.file == q.file) (sym (unsigned_tied part.file q.file)
      ∙ differ.0) (eq-eqb part.file q.file same),
  all_apart part parts differ.1,
)

each_apart : (parts : List Listed) → IsDistinct (eq_by_cmp nat_cmp) (map file_of (map entry_of parts))
    → EachPair IsApart parts
unfolding IsDistinct
each_apart [] distinct = tt
each_apart (part ∷ parts) distinct = (all_apart part parts distinct.0, each_apart parts distinct.1)

apart_by : (parts : List Listed) → have_distinct_files (map entry_of parts) ≡ true → EachPair IsApart parts
apart_by parts is =
    let files = map file_of (map entry_of parts) in
    let count : distinct_count (eq_by_cmp nat_cmp) files ≡ length files =
    eqb-true (distinct_count (eq_by_cmp nat_cmp) files) (length (map entry_of parts)) is
    ∙ sym (length-map (map entry_of parts) file_of) in
    each_apart parts (IsDistinct-from_count (eq_by_cmp_equiv nat_cmp_total) files count)

pairs_both : (parts : List Listed) → EachPair IsEarlier parts → EachPair IsApart parts → AreInOrder parts
pairs_both [] e a = tt
pairs_both (part ∷ parts) e a = (
  both (IsEarlier part) (IsApart part) (ComesBefore part) (λ q x y. (x, y)) parts e.0 a.0,
  pairs_both parts e.1 a.1,
)

-- ---- each entry

files_below : (next : ℕ) (parts : List Listed) → list_all (is_entry next) (map entry_of parts) ≡ true
    → AllByRecursion (IsFileBelow next) parts
files_below next [] is = tt
files_below next (part ∷ parts) is =
    let e = entry_of part in
    let p = and_parts (is_entry next e) (list_all (is_entry next) (map entry_of parts)) is in
    let q = and_parts (nat_lt e.day (2 ^ 32) && nat_lt e.bytes (2 ^ 64)) (is_within 2 next e.file) p.0 in
    let r = and_parts (nat_le 2 e.file) (nat_lt e.file next) q.1 in
    ((leb-true 2 e.file r.0, ltb-true e.file next r.1), files_below next parts p.1)

abbrev HasSpelling : Listed → Type 0
HasSpelling part = part_writing part.rows ≡ Some (part_bytes part.rows)

can_be_written : (next : ℕ) (parts : List Listed) → list_all (is_entry next) (map entry_of parts) ≡ true
    → AllByRecursion HasSpelling parts → AllByRecursion CanBeWritten parts
can_be_written next [] is spelled = tt
can_be_written next (part ∷ parts) is spelled =
    let e = entry_of part in
    let p = and_parts (is_entry next e) (list_all (is_entry next) (map entry_of parts)) is in
    let q = and_parts (nat_lt e.day (2 ^ 32) && nat_lt e.bytes (2 ^ 64)) (is_within 2 next e.file) p.0 in
    let r = and_parts (nat_lt e.day (2 ^ 32)) (nat_lt e.bytes (2 ^ 64)) q.0 in (
      record {
        spelling = spelled.0;
        size = ltb-true e.bytes (2 ^ 64) r.1;
        day = ltb-true e.day (2 ^ 32) r.0;
      },
      can_be_written next parts p.1 spelled.1,
    )

-- the spelling of a part is that of its rows
pub written_as : (rows : List Numbered) (bytes : List ℕ) → part_writing rows ≡ Some bytes → bytes ≡ part_bytes rows
written_as rows bytes is = sym (some_from (is_part rows) (part_bytes rows) bytes is).1

-- ---- the parts of entries

entries_are : (entries : List Entry) (rows : List (List Numbered)) → AllZip IsPartOf entries rows
    → entries ≡ map entry_of (listed_with entries rows)
entries_are [] [] all = refl
entries_are [] (r ∷ rows) all = absurd all
entries_are (e ∷ entries) [] all = absurd all
entries_are (e ∷ entries) (r ∷ rows) all =
    let fills = all.0.size in
    let long : e.bytes ≡ length (part_bytes r) = sym fills.size ∙ ap length
    (written_as r fills.spelling fills.written) in
    λ i. record { day = e.day; file = e.file; bytes = long i } ∷ entries_are entries rows all.1 i

spelled : (entries : List Entry) (rows : List (List Numbered)) → AllZip IsPartOf entries rows
    → AllByRecursion HasSpelling (listed_with entries rows)
spelled [] [] all = tt
spelled [] (r ∷ rows) all = absurd all
spelled (e ∷ entries) [] all = absurd all
spelled (e ∷ entries) (r ∷ rows) all =
    let fills = all.0.size in (
      fills.written ∙ ap Some (written_as r fills.spelling fills.written),
      spelled entries rows all.1,
    )

lie : (entries : List Entry) (rows : List (List Numbered)) → AllZip IsPartOf entries rows
    → AllByRecursion LiesInDay (listed_with entries rows)
lie [] [] all = tt
lie [] (r ∷ rows) all = absurd all
lie (e ∷ entries) [] all = absurd all
lie (e ∷ entries) (r ∷ rows) all = (all.0.day, lie entries rows all.1)

-- ---- all of it

pub read_whole : (list : Listing) (rows : List (List Numbered)) → is_list list ≡ true
    → AllZip IsPartOf list.entries rows
    → IsCatalog list (listed_with list.entries rows)
read_whole list rows good all =
    let parts = listed_with list.entries rows in
    let are = entries_are list.entries rows all in
    let g = is_generation list.generation in
    let f = is_front list.front in
    let n = is_next_file list.next_file in
    let es = list.entries in
    let p6 = and_parts (g && f && n && nat_lt (length es) (2 ^ 32) && list_all
    (is_entry list.next_file) es && are_in_order es) (have_distinct_files es) good in
    let p5 = and_parts (g && f && n && nat_lt (length es) (2 ^ 32) && list_all (is_entry list.next_file) es)
    (are_in_order es) p6.0 in
    let p4 = and_parts (g && f && n && nat_lt (length es) (2 ^ 32)) (list_all (is_entry list.next_file) es) p5.0 in
    let p3 = and_parts (g && f && n) (nat_lt (length es) (2 ^ 32)) p4.0 in
    let p2 = and_parts (g && f) n p3.0 in
    let p1 = and_parts g f p2.0 in
    let gs = and_parts (nat_le 1 list.generation) (nat_lt list.generation (2 ^ 63)) p1.0 in
    let fs = and_parts (nat_le 0 list.front) (nat_lt list.front (2 ^ 63)) p1.1 in
    let ns = and_parts (nat_le 2 list.next_file) (nat_lt list.next_file (2 ^ 63)) p2.1 in
    let fit = subst (λ (xs : List Entry). list_all (is_entry list.next_file) xs ≡ true) are p4.1 in
    let some = leb-true 1 list.generation gs.0 in
    record {
      generation = ltb-true list.generation (2 ^ 63) gs.1;
      front = ltb-true list.front (2 ^ 63) fs.1;
      next_file = (leb-true 2 list.next_file ns.0, ltb-true list.next_file (2 ^ 63) ns.1);
      few = omega (arith, ltb-true (length es) (2 ^ 32) p3.1, ap length are, length-map parts entry_of);
      entries = are;
      fresh = λ none. absurd (omega (arith, none, some));
      stored = record {
        order = pairs_both parts (each_earlier parts (subst (λ (xs : List Entry). are_in_order xs ≡ true) are p5.1))
            (apart_by parts (subst (λ (xs : List Entry). have_distinct_files xs ≡ true) are p6.1));
        files = files_below list.next_file parts fit;
        days = lie list.entries rows all;
      };
      written = can_be_written list.next_file parts fit (spelled list.entries rows all);
    }

pub some_list : (list : Listing) → is_list list ≡ true → 0 < list.generation
some_list list good =
    let g = is_generation list.generation in
    let f = is_front list.front in
    let n = is_next_file list.next_file in
    let es = list.entries in
    let p6 = and_parts (g && f && n && nat_lt (length es) (2 ^ 32) && list_all
    (is_entry list.next_file) es && are_in_order es) (have_distinct_files es) good in
    let p5 = and_parts (g && f && n && nat_lt (length es) (2 ^ 32) && list_all (is_entry list.next_file) es)
    (are_in_order es) p6.0 in
    let p4 = and_parts (g && f && n && nat_lt (length es) (2 ^ 32)) (list_all (is_entry list.next_file) es) p5.0 in
    let p3 = and_parts (g && f && n) (nat_lt (length es) (2 ^ 32)) p4.0 in
    let p2 = and_parts (g && f) n p3.0 in
    let p1 = and_parts g f p2.0 in
    let gs = and_parts (nat_le 1 list.generation) (nat_lt list.generation (2 ^ 63)) p1.0 in
    omega (arith, leb-true 1 list.generation gs.0)

-- ---- what an image has

pub zip_found : (image : Image) (entries : List Entry) (rows : List (List Numbered))
    → AllZip (IsStoredAt image) entries rows
    → AllZip (HasPart image) entries (listed_with entries rows)
zip_found image [] [] all = tt
zip_found image [] (r ∷ rows) all = absurd all
zip_found image (e ∷ entries) [] all = absurd all
zip_found image (e ∷ entries) (r ∷ rows) all = (
  record { day = refl; file = refl; bytes = sym all.0.size; spelling = all.0.spelling; in_day = all.0.lies },
  zip_found image entries rows all.1,
)

-- parts that an image has are stored in their files
pub zip_stored : (image : Image) (entries : List Entry) (parts : List Listed) → AllZip (HasPart image) entries parts
    → AllZip (IsStoredAt image) entries (map (λ (part : Listed). part.rows) parts)
zip_stored image [] [] all = tt
zip_stored image [] (p ∷ parts) all = absurd all
zip_stored image (e ∷ entries) [] all = absurd all
zip_stored image (e ∷ entries) (p ∷ parts) all = (
  record {
    spelling = all.0.spelling ∙ ap (λ (f : ℕ). Some (image f)) (sym all.0.file);
    size = ap (λ (f : ℕ). length (image f)) all.0.file ∙ sym all.0.bytes;
    lies = subst (λ d. LieInDay d p.rows) (sym all.0.day) all.0.in_day;
  },
  zip_stored image entries parts all.1,
)

-- the rows of a part are read from its bytes
abbrev rows_in : Result (List Numbered) ℕ → List Numbered → List Numbered
rows_in (Ok rows) other = rows
rows_in (Err left) other = other

one_part : (a b : List Numbered) (bytes : List ℕ) → part_writing a ≡ Some bytes → part_writing b ≡ Some bytes → a ≡ b
one_part a b bytes is same =
    ap (λ (r : Result (List Numbered) ℕ). rows_in r b) (sym (is_read_again a bytes is) ∙ is_read_again b bytes same)

pub one_zip : (image : Image) (entries : List Entry) (a b : List (List Numbered)) → AllZip (IsStoredAt image) entries a
    → AllZip (IsStoredAt image) entries b → a ≡ b
one_zip image [] [] [] p q = refl
one_zip image [] [] (y ∷ b) p q = absurd q
one_zip image [] (x ∷ a) b p q = absurd p
one_zip image (e ∷ entries) [] b p q = absurd p
one_zip image (e ∷ entries) (x ∷ a) [] p q = absurd q
one_zip image (e ∷ entries) (x ∷ a) (y ∷ b) p q =
    λ i. one_part x y (image e.file) p.0.spelling q.0.spelling i ∷ one_zip image entries a b p.1 q.1 i

pub rows_listed : (entries : List Entry) (rows : List (List Numbered)) → AllZip IsPartOf entries rows
    → flat_map (λ (part : Listed). part.rows) (listed_with entries rows) ≡ flat_map (λ (r : List Numbered). r) rows
rows_listed [] [] all = refl
rows_listed [] (r ∷ rows) all = absurd all
rows_listed (e ∷ entries) [] all = absurd all
rows_listed (e ∷ entries) (r ∷ rows) all = ap (λ (xs : List Numbered). r ++ xs) (rows_listed entries rows all.1)

pub rows_mapped : (parts : List Listed)
    → flat_map (λ (part : Listed). part.rows) parts ≡ flat_map (λ (r : List Numbered). r) (map (λ
    (part : Listed). part.rows) parts)
rows_mapped [] = refl
rows_mapped (p ∷ parts) = ap (λ (xs : List Numbered). p.rows ++ xs) (rows_mapped parts)
