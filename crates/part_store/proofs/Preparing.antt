-- The next catalog.
use Rattle.std.proofs.Common.{◌≡◌, inl, inr, ℕ, suc, ◌+◌, ◌<◌, ◌≤◌, ◌^◌, List, [], ◌∷◌, ◌++◌, length, map, get_or, take}
use Rattle.std.proofs.Common.{sym, ◌∙◌, ap, subst, arith, append_assoc, Bor, Global}
use Rattle.std.specs.Prelude.{None, Vec, vec_items}
use Rattle.part_file.specs.Format.{part_bytes}
use Rattle.std.proofs.lemmas.Bool.{cases_lt}
use Rattle.std.specs.Arc.{arc_value}
use Rattle.std.specs.declared.sync.Arc.{Arc}
use Rattle.std.specs.List.{AllByRecursion, filter}
use Rattle.std.specs.List.Sorted.{IsNonDecreasingBy, IsPermutation}
use Rattle.std.proofs.lemmas.List.{get_or-map, length-append, length-map, length-take-le, map-append, take_more}
use Rattle.std.proofs.lemmas.List.Elements.{All-from_recursion, filter-append}
use Rattle.std.proofs.lemmas.List.Sorted.{IsPermutation-sym, length_permutation}
use Rattle.log_model.specs.History.{Numbered}
use Rattle.day_model.specs.Days.{DayRows, AreOfTheirDays}
use Rattle.parts_list.specs.declared.list.Entry.{Entry}
use Rattle.parts_list.specs.declared.list.List.{List as Listing}
use Rattle.part_store.specs.declared.store.Stored.{Stored}
use Rattle.part_store.specs.Preparing.{IsPlaced, IsSpelled, files_of, placed_part}
use Rattle.part_store.specs.State.{Listed, StoreState, AreStored, listed_of, ArePartsAfter, IsSpent, added}
use Rattle.part_store.specs.State.{day_part_of, is_day, kept}
use Rattle.part_store.specs.Finds.{CanBeWritten, IsCatalog, entry_of}
use Rattle.part_store.proofs.Ordering.{length_added, stored_after}

-- ---- one more new part

abbrev new_part : ℕ → DayRows → Listed
new_part file part = record { day = part.0; file = file; rows = part.1 }

added_more : (next : ℕ) (new : List DayRows) (part : DayRows)
    → added next new ++ new_part (next + length new) part ∷ [] ≡ added next (new ++ part ∷ [])
added_more next [] part = ap (λ (f : ℕ). new_part f part ∷ []) (omega arith)
added_more next (n ∷ new) part =
    ap (λ (rest : List Listed). new_part next n ∷ rest)
    (ap (λ (f : ℕ). added (suc next) new ++ new_part f part ∷ []) (omega arith) ∙ added_more (suc next) new part)

pub added_at : (next i : ℕ) (new : List (ℕ × Arc (List Numbered) Global)) (d : ℕ × Arc (List Numbered) Global)
    (base before after : List Listed) → i < length new
    → before ≡ base ++ added next (map day_part_of (take i new))
    → after ≡ before ++ new_part (next + i) (day_part_of (get_or new i d)) ∷ []
    → after ≡ base ++ added next (map day_part_of (take (i + 1) new))
added_at next i new d base before after below is pushed =
    let part : DayRows = day_part_of (get_or new i d) in
    let front : List DayRows = map day_part_of (take i new) in
    let long : next + i ≡ next + length front = omega (
      arith,
      length-map (take i new)
          (day_part_of {P = Global}),
      length-take-le i new (omega (arith, below)),
    ) in
    pushed ∙ ap (λ (l : List Listed). l ++ new_part (next + i) part ∷ []) is
    ∙ append_assoc base (added next front) (new_part (next + i) part ∷ [])
    ∙ ap (λ (l : List Listed). base ++ l) (ap (λ (f : ℕ). added next front ++ new_part f part ∷ []) long
    ∙ added_more next front part
    ∙ ap (added next) (sym (map-append day_part_of (take i new) (get_or new i d ∷ []))
    ∙ ap (map day_part_of) (sym (take_more new i d below))))

-- ---- a part and its entry

module _ (entry : Entry) (stored : Stored) (part : Bor (Arc (List Numbered) Global))
    (is : entry ≡ entry_of (listed_of stored)) (same : part.now ≡ stored.part) where
  pub placed_is : placed_part (record { entry = entry; part = part }) ≡ listed_of stored
  placed_is = λ i. record { day = (is i).day; file = (is i).file; rows = arc_value (same i) }

  pub is_placed : CanBeWritten (listed_of stored) → IsPlaced (record { entry = entry; part = part })
  is_placed written = record {
    size = is ∙ ap entry_of (sym placed_is);
    written = subst CanBeWritten (sym placed_is) written;
  }

-- ---- a new part

abbrev NewPart : Type 0
NewPart = ℕ × Arc (List Numbered) Global

module _ (new : List NewPart) (i : ℕ) (d : NewPart) (below : i < length new) (is : d ≡ get_or new i d) where
  -- the bytes of its file
  pub file_at : (files : List (Vec ℕ Global)) (file : Vec ℕ Global)
      → map vec_items files ≡ files_of (map day_part_of new) → file ≡ get_or files i file
      → file.items ≡ part_bytes (arc_value d.1)
  file_at files file all at =
      let parts : List DayRows = map day_part_of new in
      let long : length files ≡ length new =
      sym (length-map files vec_items) ∙ ap length all ∙ length-map parts (λ (p : DayRows). part_bytes p.1)
      ∙ length-map new (day_part_of {P = Global}) in
      let under_files : i < length files = omega (arith, below, long) in
      let under_parts : i < length parts = omega (arith, below, length-map new (day_part_of {P = Global})) in
      ap vec_items at ∙ sym (get_or-map vec_items files i file [] under_files)
      ∙ ap (λ (xs : List (List ℕ)). get_or xs i []) all
      ∙ get_or-map (λ (p : DayRows). part_bytes p.1) parts i (day_part_of d) [] under_parts
      ∙ ap (λ (p : DayRows). part_bytes p.1) (get_or-map day_part_of new i d (day_part_of d) below)
      ∙ ap (λ (p : NewPart). part_bytes (arc_value p.1)) (sym is)

  pub spelled_at : AllByRecursion IsSpelled (map day_part_of new) → IsSpelled (day_part_of d)
  spelled_at all = subst IsSpelled (get_or-map day_part_of new i d (day_part_of d) below ∙ ap day_part_of (sym is))
      (All-from_recursion IsSpelled (map day_part_of new) all i (day_part_of d)
      (omega (arith, below, length-map new (day_part_of {P = Global}))))

module _ (entry : Entry) (part : Bor (Arc (List Numbered) Global)) (d : NewPart) (file bytes : ℕ)
    (is : entry ≡ record { day = d.0; file = file; bytes = bytes }) (same : part.now ≡ d.1) where
  pub new_is : placed_part (record { entry = entry; part = part }) ≡ new_part file (day_part_of d)
  new_is = λ k. record { day = (is k).day; file = (is k).file; rows = arc_value (same k) }

  pub new_placed : bytes ≡ length (part_bytes (arc_value d.1)) → IsSpelled (day_part_of d) → d.0 < 2 ^ 32
      → IsPlaced (record { entry = entry; part = part })
  new_placed long spelled small = record {
    size = is ∙ ap (λ (n : ℕ). record { day = d.0; file = file; bytes = n }) long ∙ ap entry_of (sym new_is);
    written = subst CanBeWritten (sym new_is) (record {
      spelling = spelled.spelling;
      size = spelled.size;
      day = small;
    });
  }

-- ---- a kept part

module _ (parts : List Stored) (entries : List Entry) (is : entries ≡ map entry_of (map listed_of parts)) where
  pub as_many : length entries ≡ length parts
  as_many = ap length is ∙ length-map (map listed_of parts) entry_of ∙ length-map parts listed_of

  pub entry_at : (i : ℕ) (z : Entry) (stored : Stored) → i < length parts → stored ≡ get_or parts i stored
      → get_or entries i z ≡ entry_of (listed_of stored)
  entry_at i z stored below at =
      ap (λ (es : List Entry). get_or es i z) is
      ∙ get_or-map entry_of (map listed_of parts) i (listed_of stored) z (omega
      (arith, below, length-map parts listed_of))
      ∙ ap entry_of (get_or-map listed_of parts i stored (listed_of stored) below)
      ∙ ap (λ (s : Stored). entry_of (listed_of s)) (sym at)

pub written_at : (parts : List Stored) (i : ℕ) (stored : Stored) → i < length parts → stored ≡ get_or parts i stored
    → AllByRecursion CanBeWritten (map listed_of parts) → CanBeWritten (listed_of stored)
written_at parts i stored below at all =
    subst CanBeWritten (get_or-map listed_of parts i stored (listed_of stored) below ∙ ap listed_of (sym at))
    (All-from_recursion CanBeWritten (map listed_of parts) all i (listed_of stored)
    (omega (arith, below, length-map parts listed_of)))

pub kept_more : (old : List ℕ) (i : ℕ) (parts : List Stored) (stored : Stored) (before after : List Listed)
    → i < length parts → stored ≡ get_or parts i stored
    → before ≡ kept old (map listed_of (take i parts)) → after ≡ before ++ kept old (listed_of stored ∷ [])
    → after ≡ kept old (map listed_of (take (i + 1) parts))
kept_more old i parts stored before after below at is pushed =
    pushed ∙ ap (λ (l : List Listed). l ++ kept old (listed_of stored ∷ [])) is
    ∙ sym (filter-append _ (map listed_of (take i parts)) (listed_of stored ∷ []))
    ∙ ap (kept old) (ap (λ (s : Stored). map listed_of (take i parts) ++ listed_of s ∷ []) at
    ∙ sym (map-append listed_of (take i parts) (get_or parts i stored ∷ []))
    ∙ ap (map listed_of) (sym (take_more parts i stored below)))

-- ---- all of it

under : (a b : ℕ) → (b ≤ a → ⊥) → a < b
under a b not_more = elim (cases_lt a b) [
  | inl less ↦ less
  | inr more ↦ absurd (not_more more)
]

abbrev store_of : Listing → List Listed → StoreState (Unit {0})
store_of list parts = record {
  vault = tt;
  parts = parts;
  generation = list.generation;
  front = list.front;
  next_file = list.next_file;
  halted = None;
}

module _ (old : List ℕ) (new : List DayRows) (list : Listing) (parts : List Listed) (catalog : IsCatalog list parts)
    (room : IsSpent old new (store_of list parts) → ⊥) where
  pub generation_fits : list.generation + 1 < 2 ^ 63
  generation_fits = under (list.generation + 1) (2 ^ 63) (λ spent. room (inl spent))

  pub files_fit : list.next_file + length new < 2 ^ 63
  files_fit = under (list.next_file + length new) (2 ^ 63) (λ spent. room (inr (inl spent)))

  parts_fit : length (kept old parts) + length new < 2 ^ 32
  parts_fit = under (length (kept old parts) + length new) (2 ^ 32) (λ spent. room (inr (inr spent)))

  module _ (after : List Listed) (same : IsPermutation (kept old parts ++ added list.next_file new) after)
      (by_day : (day : ℕ) → filter (is_day day) after ≡ filter (is_day day)
      (kept old parts ++ added list.next_file new))
      (up : IsNonDecreasingBy (λ (part : Listed). part.day) after) where
    pub are_after : ArePartsAfter old new (store_of list parts) after
    are_after = record {
      same = IsPermutation-sym (kept old parts ++ added list.next_file new) after same;
      by_day = λ day. by_day day ∙ filter-append (is_day day) (kept old parts) (added list.next_file new);
    }

    pub next_whole : (front : ℕ) → front < 2 ^ 63 → AreOfTheirDays new → AllByRecursion CanBeWritten after
        → (entries : List Entry) → entries ≡ map entry_of after → (next : ℕ) → next ≡ list.next_file + length new
        → IsCatalog (record {
          generation = list.generation + 1;
          front = front;
          next_file = next;
          entries = entries;
        }) after
    next_whole front small days written entries are next is = record {
      generation = generation_fits;
      front = small;
      next_file = (omega (arith, is, catalog.next_file.0), omega (arith, is, files_fit));
      few = omega (
        arith,
        length_permutation (kept old parts ++ added list.next_file new) after same,
        length-append
            (kept old parts) (added list.next_file new),
        length_added list.next_file new,
        parts_fit,
      );
      entries = are;
      fresh = λ none. absurd (omega (arith, none));
      stored = subst (λ n. AreStored n after) (sym is)
          (stored_after old new list.next_file parts after catalog.stored same by_day up days catalog.next_file.0);
      written = written;
    }
