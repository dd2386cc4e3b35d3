-- New files, the list that names them, and the old files that are removed.
use Rattle.std.proofs.Common.{◌≡◌, inl, inr, ℕ, suc, ◌+◌, ◌<◌, ◌≤◌, true, List, [], ◌∷◌, ◌++◌, length}
use Rattle.std.proofs.Common.{map, refl, sym, subst, arith, get_or}
use Rattle.std.specs.Prelude.{◌==◌, Some, not}
use Rattle.std.specs.List.{All, AllByRecursion, Contains, list_any}
use Rattle.std.specs.List.Sorted.{IsPermutation}
use Rattle.std.proofs.lemmas.Bool.{both_ways, eq-eqb, not-true}
use Rattle.std.proofs.lemmas.List.Elements.{All-contains, All-from_recursion}
use Rattle.std.proofs.lemmas.List.Recursion.{or_at}
use Rattle.std.proofs.lemmas.List.Sorted.{IsPermutation-sym}
use Rattle.day_model.specs.Days.{DayRows}
use Rattle.vl_vault.specs.Disk.{Past, Image, content}
use Rattle.vl_vault.specs.Moments.{Always, ChangesFiles, EachImage, IsDurable}
use Rattle.vl_vault.proofs.Runs.{join, last, weaken}
use Rattle.parts_list.specs.declared.list.List.{List as Listing}
use Rattle.parts_list.specs.Slots.{found_in}
use Rattle.parts_list.specs.Writing.{AreSlotsDurable, ComesNext, HasOldOr, IsSlotOf}
use Rattle.part_file.specs.Format.{part_bytes}
use Rattle.part_store.specs.State.{Listed, StoreState, ArePartsAfter, IsFileBelow, kept, added}
use Rattle.part_store.specs.Finds.{FindsOldOr, FindsOldOrNew, FindsParts, HasList, HasFile, IsOnVault, IsCatalog}
use Rattle.part_store.specs.Preparing.{ChangesOnly, HaveContents, IsNewFile, files_of}
use Rattle.part_store.proofs.Every.{append, filtered, passes, reordered, weaker}
use Rattle.part_store.proofs.Ordering.{IsFrom, added_from}
use Rattle.part_store.proofs.Standing.{Spares, finds_still, still_on, list_finds, list_on}

-- what is found of the next catalog is found of the new parts
pub old_or_new : {V : Type 0} (store : StoreState V) (gone : List ℕ) (new : List DayRows) (front next_front : ℕ)
    (news : List Listed) → ArePartsAfter gone new store news → next_front ≡ front → (image : Image)
    → FindsOldOr store.front store.parts next_front news image → FindsOldOrNew gone new front store image
old_or_new store gone new front next_front news after is image (inl was) = inl was
old_or_new store gone new front next_front news after is image (inr found) = inr (
  news,
  after,
  subst (λ n. FindsParts n news image) is found,
)

-- the new parts have their files
added_files : (past : Past) (first : ℕ) (new : List DayRows) → HaveContents first (files_of new) past
    → AllByRecursion (HasFile past) (added first new)
added_files past first [] have = tt
added_files past first (part ∷ new) have = (
  subst (λ n. IsDurable past n × (content past n ≡ part_bytes part.1)) start (have 0 (omega arith)),
  added_files past (suc first) new (λ i below. subst
      (λ n. IsDurable past n × (content past n ≡ get_or (files_of new) i [])) (step i) (have (suc i) (omega
      (arith, below)))),
)
  where
    start : first + 0 ≡ first
    start = omega arith

    step : (i : ℕ) → first + suc i ≡ suc first + i
    step i = omega arith

among : (old : List ℕ) (file : ℕ) → Contains old file → list_any (λ f. f == file) old ≡ true
among old file has = or_at (λ xs. list_any (λ f. f == file) xs) (λ f. f == file) refl
    (λ x xs. refl) old has.0 file has.1
    (eq-eqb (get_or old has.0 file) file has.2)

files_below : (n : ℕ) (parts : List Listed) → AllByRecursion (IsFileBelow n) parts
    → AllByRecursion (λ file. (2 ≤ file) × (file < n)) (map (λ (part : Listed). part.file) parts)
files_below n [] below = tt
files_below n (part ∷ parts) below = (below.0, files_below n parts below.1)

module _ (list next : Listing) (parts news : List Listed) (catalog : IsCatalog list parts) (whole : IsCatalog next news)
    (generation : next.generation ≡ list.generation + 1) (gone : List ℕ) (new : List DayRows)
    (same : IsPermutation news (kept gone parts ++ added list.next_file new))
    (listed : All (Contains (map (λ (part : Listed). part.file) parts)) gone)
    (old : Past) (on : IsOnVault list parts old) where
  abbrev Finds : Past → Type 0
  Finds = EachImage (FindsOldOr list.front parts next.front news)

  abbrev IsNew : ℕ → Type 0
  IsNew = IsNewFile list.next_file (length new)

  spares_new : Spares list parts catalog IsNew
  spares_new = record {
    slots = λ file is new. omega (arith, is, new.0, catalog.next_file.0);
    files = weaker (IsFileBelow list.next_file) (λ part. IsNew part.file → ⊥)
        (λ part below new. omega (arith, below.1, new.0)) parts catalog.stored.files;
  }

  later : 0 < next.generation
  later = omega (arith, generation)

  module _ (written : Past) (first : Always (ChangesOnly IsNew old) old written) where
    pub write_moments : Always Finds old written
    write_moments = weaken (λ p w image may. inl (finds_still list parts catalog old on IsNew spares_new p w image
        may)) first

    pub written_on : IsOnVault list parts written
    written_on = still_on list parts catalog old on IsNew spares_new written (last first)

    pub comes_next : ComesNext (found_in (content written)) next
    comes_next = pick written_on.live
      where
        pick : HasList list written → ComesNext (found_in (content written)) next
        pick (inl none) = subst (λ found. ComesNext found next) (sym none.1) (omega (arith, generation, none.0))
        pick (inr there) = subst (λ found. ComesNext found next) (sym there.1) generation

    module _ (contents : HaveContents list.next_file (files_of new) written) where
      news_files : AllByRecursion (HasFile written) news
      news_files = reordered (HasFile written) (kept gone parts ++ added list.next_file new) news
          (IsPermutation-sym news (kept gone parts ++ added list.next_file new) same)
          (append (HasFile written) (kept gone parts) (added list.next_file new)
          (filtered (HasFile written) _ parts written_on.files) (added_files written list.next_file new contents))

      module _ (renewed : Past)
          (second : Always (ChangesFiles (IsSlotOf next) (HasOldOr written next) written) written renewed) where
        pub list_moments : Always Finds old renewed
        list_moments = join write_moments
            (list_finds list next parts news catalog whole later written written_on news_files renewed second)

        module _ (there : found_in (content renewed) ≡ Some (Some next)) (slots : AreSlotsDurable renewed) where
          renewed_on : IsOnVault next news renewed
          renewed_on = list_on list next parts news catalog whole later written written_on news_files renewed second
              there slots

          gone_file : (file : ℕ) → Contains gone file → (2 ≤ file) × (file < list.next_file)
          gone_file file has = All-contains (λ f. (2 ≤ f) × (f < list.next_file)) (map (λ
              (part : Listed). part.file) parts) file
              (All-from_recursion (λ f. (2 ≤ f) × (f < list.next_file)) (map (λ (part : Listed). part.file) parts)
              (files_below list.next_file parts catalog.stored.files))
              (All-contains (Contains (map (λ (part : Listed). part.file) parts)) gone file listed has)

          abbrev IsKept : Listed → Type 0
          IsKept part = Contains gone part.file → ⊥

          kept_stay : AllByRecursion IsKept (kept gone parts)
          kept_stay = weaker (λ part. not (list_any (λ file. file == part.file) gone) ≡ true) IsKept
              (λ part stays has. both_ways (list_any (λ file. file == part.file) gone)
              (not-true (list_any (λ file. file == part.file) gone) stays) (among gone part.file has))
              (kept gone parts) (passes (λ (part : Listed). not (list_any (λ file. file == part.file) gone)) parts)

          spares_gone : Spares next news whole (Contains gone)
          spares_gone = record {
            slots = λ file is has. omega (arith, is, (gone_file file has).0);
            files = reordered IsKept (kept gone parts ++ added list.next_file new) news
                (IsPermutation-sym news (kept gone parts ++ added list.next_file new) same)
                (append IsKept (kept gone parts) (added list.next_file new) kept_stay
                (weaker (IsFrom list.next_file) IsKept (λ part from has. omega (
                  arith,
                  from,
                  (gone_file part.file has).1,
                ))
                (added list.next_file new) (added_from list.next_file list.next_file new (omega arith))));
          }

          module _ (last_past : Past) (third : Always (ChangesOnly (Contains gone) renewed) renewed last_past) where
            pub all_moments : Always Finds old last_past
            all_moments = join list_moments (weaken (λ p w image may.
                inr (finds_still next news whole renewed renewed_on (Contains gone) spares_gone p w image may)) third)

            pub all_done : IsOnVault next news last_past
            all_done = still_on next news whole renewed renewed_on (Contains gone) spares_gone last_past (last third)
