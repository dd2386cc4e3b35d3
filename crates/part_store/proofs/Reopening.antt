-- A store that is read from its vault.
use Rattle.std.proofs.Common.{◌≡◌, inl, inr, ℕ, zero, suc, Bool, true, false, List, [], ◌∷◌, length, map}
use Rattle.std.proofs.Common.{refl, sym, ◌∙◌, ap, subst, arith, Ok, Err}
use Rattle.std.specs.Prelude.{◌⊎◌, ◌==◌, ◌%◌, MatchBool, Option, Some, None, Result, IfOk, IfErr}
use Rattle.std.specs.List.{AllByRecursion, AllZip, flat_map}
use Rattle.std.specs.List.Sorted.{IsPermutation}
use Rattle.log_model.specs.Batches.{batch_rows}
use Rattle.log_model.specs.History.{Numbered}
use Rattle.log_model.specs.Row.{Batch}
use Rattle.vl_vault.specs.Disk.{Past, Image, Synced, content, MayLeave}
use Rattle.vl_vault.specs.Calls.{DidSync}
use Rattle.vl_vault.specs.Moments.{Always, now, more, IsDurable, IsUnchanged}
use Rattle.std.proofs.lemmas.Bool.{eq-eqb}
use Rattle.std.proofs.lemmas.List.Sorted.{IsPermutation-refl}
use Rattle.vl_vault.proofs.Runs.{join, last, weaken}
use Rattle.part_batches.specs.Whole.{HoldBatches}
use Rattle.parts_list.specs.declared.list.Entry.{Entry}
use Rattle.parts_list.specs.declared.list.List.{List as Listing}
use Rattle.parts_list.specs.declared.list.ListFault.{ListFault}
use Rattle.parts_list.specs.declared.list.ListFault.TheVariants as list_faults
use Rattle.parts_list.specs.Listing.{is_list}
use Rattle.parts_list.specs.Reading.{IsFaultOf}
use Rattle.parts_list.specs.Slots.{Slot, Closed, Broken, Open, found_in, live, slot_of}
use Rattle.parts_list.specs.Writing.{AreSlotsDurable}
use Rattle.part_store.specs.declared.fault.ReopenFault.TheVariants.{Damaged}
use Rattle.part_store.specs.State.{Listed, StoreState}
use Rattle.part_store.specs.Finds.{FindsBatches, FindsParts, HasFile, HasList, HasPart, HoldsBatches, IsCatalog}
use Rattle.part_store.specs.Finds.{IsOnVault}
use Rattle.part_store.specs.Reopening.{AreListedDurable, HasNumbersOf, HasOtherFront, IsOnlySynced, IsOutside}
use Rattle.part_store.specs.Reopening.{IsPartOf, IsSlotFault, IsStoredAt, as_reopen_fault, listed_with}
use Rattle.part_store.proofs.Rereading.{one_zip, read_whole, rows_listed, rows_mapped, some_list, written_as}
use Rattle.part_store.proofs.Rereading.{zip_found, zip_stored}
use Rattle.part_store.proofs.Standing.{HasBytes, image_finds}

abbrev rows_of : Listed → List Numbered
rows_of part = part.rows

-- ---- the parts of a list

rows_back : (R : Entry → List Numbered → Type 0) (entries : List Entry) (rows : List (List Numbered))
    → AllZip R entries rows
    → map rows_of (listed_with entries rows) ≡ rows
rows_back R [] [] all = refl
rows_back R [] (r ∷ rows) all = absurd all
rows_back R (e ∷ entries) [] all = absurd all
rows_back R (e ∷ entries) (r ∷ rows) all = ap (λ (rs : List (List Numbered)). r ∷ rs) (rows_back R entries rows all.1)

module _ (list : Listing) (rows : List (List Numbered)) (all : AllZip IsPartOf list.entries rows) where
  pub whole_of : is_list list ≡ true → (parts : List Listed) → parts ≡ listed_with list.entries rows
      → IsCatalog list parts
  whole_of good parts are = subst (IsCatalog list) (sym are) (read_whole list rows good all)

  pub batches_of : {V : Type 0} (store : StoreState V) → store.front ≡ list.front
      → store.parts ≡ listed_with list.entries rows → HoldBatches list.front rows → HoldsBatches store
  batches_of store front parts held = (
    held.batches,
    record {
      whole = held.count ∙ sym front;
      are = subst (λ (xs : List Numbered). IsPermutation xs (batch_rows held.batches))
          (sym (ap (flat_map rows_of) parts ∙ rows_listed list.entries rows all)) held.rows;
      rows = held.some;
    },
  )

module _ (list : Listing) (rows : List (List Numbered)) (image : Image) (stored : AllZip
    (IsStoredAt image) list.entries rows) where
  pub found_of : (parts : List Listed) → parts ≡ listed_with list.entries rows
      → AllZip (HasPart image) list.entries parts
  found_of parts are = subst (AllZip (HasPart image) list.entries) (sym are) (zip_found image list.entries rows stored)

  -- the parts that an image has are those that were read
  pub same_batches : (parts : List Listed) → AllZip (HasPart image) list.entries parts
      → HoldBatches list.front (map rows_of parts) → HoldBatches list.front rows
  same_batches parts zip held = subst (HoldBatches list.front)
      (one_zip image list.entries (map rows_of parts) rows (zip_stored image list.entries parts zip) stored) held

  pub other_front : (HoldBatches list.front rows → ⊥) → HasOtherFront (Damaged (list.generation % 2) 17) list image
  other_front none = record {
    parts = listed_with list.entries rows;
    each = zip_found image list.entries rows stored;
    other = λ held. none (subst (HoldBatches list.front) (rows_back (IsStoredAt image) list.entries rows stored) held);
    place = refl;
  }

-- ---- runs

pub begun_synced : (old : Past) → Always (IsOnlySynced old) old old
begun_synced old = now (record { left = λ f bytes left. inl left; read = λ f. refl })

one_synced : (old mid : Past) (file : ℕ) → IsOnlySynced old mid → IsOnlySynced old (Synced file ∷ mid)
one_synced old mid file w = record {
  left = λ f bytes left. by (file == f) f bytes left;
  read = w.read;
}
  where
    by : (b : Bool) (f : ℕ) (bytes : List ℕ) → MatchBool b (bytes ≡ content mid f) (MayLeave mid f bytes)
        → MayLeave old f bytes ⊎ (bytes ≡ content old f)
    by true f bytes is = inr (is ∙ w.read f)
    by false f bytes left = w.left f bytes left

pub synced_on : {T E : Type 0} (old : Past) {mid new : Past} (file : ℕ) (r : Result T E)
    → Always (IsOnlySynced old) old mid
    → DidSync mid new file r → Always (IsOnlySynced old) old new
synced_on old {mid = mid} file (Ok x) run is =
    subst (Always (IsOnlySynced old) old) (sym is) (more run (one_synced old mid file (last run)))
synced_on old file (Err x) run (inl is) = let w = last run in
    subst (Always (IsOnlySynced old) old) (sym is) (more run (record { left = w.left; read = w.read }))
synced_on old file (Err x) run (inr is) = subst (Always (IsOnlySynced old) old) (sym is) run

pub then_unchanged : (old : Past) {mid new : Past} → Always (IsOnlySynced old) old mid
    → Always (IsUnchanged mid) mid new
    → Always (IsOnlySynced old) old new
then_unchanged old first run = let w = last first in join first (weaken (λ p here. record {
  left = λ f bytes left. w.left f bytes (here.left f bytes left);
  read = λ f. here.read f ∙ w.read f;
}) run)

-- ---- the slots are durable

synced_durable : (mid : Past) (f : ℕ) → IsDurable (Synced f ∷ mid) f
synced_durable mid f bytes left = by (f == f) (eq-eqb f f refl) left
  where
    by : (b : Bool) → b ≡ true → MatchBool b (bytes ≡ content mid f) (MayLeave mid f bytes) → bytes ≡ content mid f
    by true on is = is
    by false on is = absurd cc

-- both were synced, one after the other
pub both_durable : (old one two : Past) → one ≡ Synced 0 ∷ old → two ≡ Synced 1 ∷ one → AreSlotsDurable two
both_durable old one two first second = subst AreSlotsDurable (sym (second
    ∙ ap (λ (p : Past). Synced 1 ∷ p) first)) each
  where
    each : AreSlotsDurable (Synced 1 ∷ (Synced 0 ∷ old))
    each zero is bytes left = synced_durable old 0 bytes left
    each (suc zero) is bytes left = synced_durable (Synced 0 ∷ old) 1 bytes left
    each (suc (suc f)) is bytes left = absurd (omega (arith, is))

pub durable_on : (old new : Past) → IsUnchanged old new → AreSlotsDurable old → AreSlotsDurable new
durable_on old new same durable f is bytes left = durable f is bytes (same.left f bytes left) ∙ sym (same.read f)

-- ---- what is found

abbrev pub same_contents : (old new : Past) → ((f : ℕ) → content new f ≡ content old f) → content new ≡ content old
same_contents old new same = λ i f. same f i

files_kept : (old new : Past) → IsOnlySynced old new → (entries : List Entry) (parts : List Listed)
    → AllByRecursion (λ entry. IsDurable old entry.file) entries → AllZip (HasPart (content old)) entries parts
    → AllByRecursion (HasFile new) parts
files_kept old new w [] [] durable zip = tt
files_kept old new w [] (p ∷ parts) durable zip = absurd zip
files_kept old new w (e ∷ entries) [] durable zip = absurd zip
files_kept old new w (e ∷ entries) (p ∷ parts) durable zip = (
  (
    λ bytes left. kept bytes (w.left p.file bytes left),
    w.read p.file
        ∙ written_as p.rows (content old p.file) zip.0.spelling,
  ),
  files_kept old new w entries parts durable.1 zip.1,
)
  where
    was : IsDurable old p.file
    was = subst (IsDurable old) zip.0.file durable.0

    kept : (bytes : List ℕ) → MayLeave old p.file bytes ⊎ (bytes ≡ content old p.file) → bytes ≡ content new p.file
    kept bytes (inl left) = was bytes left ∙ sym (w.read p.file)
    kept bytes (inr is) = is ∙ sym (w.read p.file)

pub read_on_vault : (list : Listing) (parts : List Listed) (old new : Past) → is_list list ≡ true → AreListedDurable old
    → IsOnlySynced old new → AreSlotsDurable new → found_in (content old) ≡ Some (Some list)
    → AllZip (HasPart (content old)) list.entries parts → IsOnVault list parts new
read_on_vault list parts old new good durable w slots found zip = record {
  slots = slots;
  live = inr (some_list list good, ap found_in (same_contents old new w.read) ∙ found);
  files = files_kept old new w list.entries parts (durable list found) zip;
}

pub none_on_vault : (list : Listing) (old new : Past) → list.generation ≡ 0 → IsOnlySynced old new → AreSlotsDurable new
    → found_in (content old) ≡ Some None → IsOnVault list [] new
none_on_vault list old new fresh w slots found = record {
  slots = slots;
  live = inl (fresh, ap found_in (same_contents old new w.read) ∙ found);
  files = tt;
}

pub found_again : (list : Listing) (parts : List Listed) (old new : Past) → IsCatalog list parts
    → IsOnVault list parts new
    → IsOnlySynced old new → FindsParts list.front parts (content old)
found_again list parts old new whole on w =
    image_finds list parts whole new (content old) on.live (ap found_in (sym (same_contents old new w.read)))
    (bytes parts on.files)
  where
    bytes : (parts : List Listed) → AllByRecursion (HasFile new) parts → AllByRecursion (HasBytes (content old)) parts
    bytes [] files = tt
    bytes (p ∷ parts) files = (sym (w.read p.file) ∙ files.0.1, bytes parts files.1)

pub numbers_now : {V : Type 0} (store : StoreState V) (list : Listing) (parts : List Listed) (past : Past)
    → IsCatalog list parts → IsOnVault list parts past → store.generation ≡ list.generation
    → store.next_file ≡ list.next_file → HasNumbersOf (found_in (content past)) store
numbers_now store list parts past whole on generation next = pick on.live
  where
    pick : HasList list past → HasNumbersOf (found_in (content past)) store
    pick (inl none) = subst (λ found. HasNumbersOf found store) (sym none.1)
        (generation ∙ none.0, next ∙ (whole.fresh none.0).2)
    pick (inr there) = subst (λ found. HasNumbersOf found store) (sym there.1) (generation, next)

pub numbers_of : {V : Type 0} (store : StoreState V) (list : Listing) (parts : List Listed) (old new : Past)
    → IsCatalog list parts → IsOnVault list parts new → IsOnlySynced old new → store.generation ≡ list.generation
    → store.next_file ≡ list.next_file → HasNumbersOf (found_in (content old)) store
numbers_of store list parts old new whole on w generation next =
    subst (λ found. HasNumbersOf found store) (ap found_in (same_contents old new w.read))
    (numbers_now store list parts new whole on generation next)

-- ---- faults

pub slot_fault : (old mid : Past) (fault : ListFault) → ((f : ℕ) → content mid f ≡ content old f)
    → IsFaultOf fault (content mid) → IsSlotFault (as_reopen_fault fault) (content old)
slot_fault old mid fault same is = pick fault (subst (IsFaultOf fault) (same_contents old mid same) is)
  where
    pick : (fault : ListFault) → IsFaultOf fault (content old) → IsSlotFault (as_reopen_fault fault) (content old)
    pick list_faults.VaultFault is = tt
    pick list_faults.Memory is = tt
    pick (list_faults.Damaged slot at) is = is
    pick (list_faults.Version slot found) is = is

-- a list is found, so no slot is broken
not_first : (other : Slot) (found : Option Listing) → live Broken other ≡ Some found → ⊥
not_first Closed found is = absurd cc
not_first Broken found is = absurd cc
not_first (Open l) found is = absurd cc

not_second : (one : Slot) (found : Option Listing) → live one Broken ≡ Some found → ⊥
not_second Closed found is = absurd cc
not_second Broken found is = absurd cc
not_second (Open l) found is = absurd cc

broken_not_found : (image : Image) (found : Option Listing) → found_in image ≡ Some found
    → (slot_of 0 (image 0) ≡ Broken) ⊎ (slot_of 1 (image 1) ≡ Broken) → ⊥
broken_not_found image found is (inl first) =
    not_first (slot_of 1 (image 1)) found (sym (ap (λ (s : Slot). live s (slot_of 1 (image 1))) first) ∙ is)
broken_not_found image found is (inr second) =
    not_second (slot_of 0 (image 0)) found (sym (ap (λ (s : Slot). live (slot_of 0 (image 0)) s) second) ∙ is)

finds_some : (image : Image) → FindsBatches image → (found : Option Listing) × (found_in image ≡ Some found)
finds_some image finds = pick finds.1.1
  where
    pick : FindsParts (length finds.0) finds.1.0 image → (found : Option Listing) × (found_in image ≡ Some found)
    pick (inl none) = (None, none.0)
    pick (inr there) = (Some there.0, there.1)

pub list_outside : (image : Image) (fault : ListFault) → IsFaultOf fault image → FindsBatches image
    → IsOutside (as_reopen_fault fault)
list_outside image list_faults.VaultFault is finds = inl refl
list_outside image list_faults.Memory is finds = inr refl
list_outside image (list_faults.Damaged slot at) (inl here) finds =
    let f = finds_some image finds in absurd (broken_not_found image f.0 f.1 (inl here.1))
list_outside image (list_faults.Damaged slot at) (inr here) finds =
    let f = finds_some image finds in absurd (broken_not_found image f.0 f.1 (inr here.1.1))
list_outside image (list_faults.Version slot found) (inl here) finds =
    let f = finds_some image finds in absurd (broken_not_found image f.0 f.1 (inl here.1))
list_outside image (list_faults.Version slot found) (inr here) finds =
    let f = finds_some image finds in absurd (broken_not_found image f.0 f.1 (inr here.1.1))

-- ---- what batches are found

abbrev list_in : Option (Option Listing) → Listing → Listing
list_in (Some (Some list)) other = list
list_in (Some None) other = other
list_in None other = other

not_both : (found : Option (Option Listing)) (list : Listing) → found ≡ Some None → found ≡ Some (Some list) → ⊥
not_both found list none some = absurd cc

pub record HasBatches (list : Listing) (image : Image) : Type 0 where
  pub parts : List Listed
  pub each : AllZip (HasPart image) list.entries parts
  pub held : HoldBatches list.front (map rows_of parts)

pub finds_list : (image : Image) (list : Listing) → found_in image ≡ Some (Some list) → FindsBatches image
    → HasBatches list image
finds_list image list found finds = pick finds.1.1
  where
    batches : List Batch
    batches = finds.0

    parts : List Listed
    parts = finds.1.0

    pick : FindsParts (length batches) parts image → HasBatches list image
    pick (inl none) = absurd (not_both (found_in image) list none.0 found)
    pick (inr there) =
        let same : there.0 ≡ list = ap (λ (o : Option (Option Listing)). list_in o list) (sym there.1 ∙ found) in
        record {
          parts = parts;
          each = subst (λ (l : Listing). AllZip (HasPart image) l.entries parts) same there.3;
          held = record {
            batches = batches;
            count = sym there.2 ∙ ap (λ (l : Listing). l.front) same;
            some = finds.2;
            rows = subst (λ (xs : List Numbered). IsPermutation xs (batch_rows batches)) (rows_mapped parts) finds.1.2;
          };
        }

pub no_batches : {V : Type 0} (store : StoreState V) → store.front ≡ 0 → store.parts ≡ [] → HoldsBatches store
no_batches store front parts = (
  [],
  record {
    whole = sym front;
    are = subst (λ (ps : List Listed). IsPermutation (flat_map rows_of ps) []) (sym parts) (IsPermutation-refl []);
    rows = tt;
  },
)

-- ---- of what a call returns

pub ok_both : {T E : Type 0} {P Q R : T → Type 0} (r : Result T E) → ((x : T) → P x → Q x → R x) → IfOk r P → IfOk r Q
    → IfOk r R
ok_both (Ok x) f p q = f x p q
ok_both (Err e) f p q = tt

pub err_so : {T E : Type 0} {P Q : E → Type 0} (r : Result T E) → ((e : E) → P e → Q e) → IfErr r P → IfErr r Q
err_so (Ok x) f p = tt
err_so (Err e) f p = f e p
