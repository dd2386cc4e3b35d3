-- What is found while files that no list names change, and while the list is replaced.
use Rattle.std.proofs.Common.{◌≡◌, inl, inr, ℕ, ◌<◌, List, [], ◌∷◌, length}
use Rattle.std.proofs.Common.{map, refl, sym, ◌∙◌, ap, subst, arith}
use Rattle.std.specs.Prelude.{Some, ⊤}
use Rattle.std.specs.List.{AllByRecursion, AllZip}
use Rattle.vl_vault.specs.Disk.{Past, Image, IsCrashImage, content}
use Rattle.vl_vault.specs.Moments.{Always, ChangesFiles, EachImage}
use Rattle.vl_vault.proofs.Runs.{last, weaken}
use Rattle.part_file.specs.Format.{part_bytes}
use Rattle.parts_list.specs.declared.list.List.{List as Listing}
use Rattle.parts_list.specs.Slots.{found_in, live, slot_of}
use Rattle.parts_list.specs.Writing.{AreSlotsDurable, HasOldOr, IsSlot, IsSlotOf}
use Rattle.part_store.specs.State.{Listed, IsFileBelow, LiesInDay}
use Rattle.part_store.specs.Finds.{FindsParts, FindsOldOr, HasPart, HasList, HasFile, IsOnVault, IsCatalog}
use Rattle.part_store.specs.Finds.{CanBeWritten, entry_of}
use Rattle.part_store.specs.Preparing.{ChangesOnly}
use Rattle.part_store.proofs.Every.{both, weaker}
use Rattle.part_store.proofs.Running.{unchanged}

-- the image has the bytes of the part in its file
abbrev pub HasBytes : Image → Listed → Type 0
HasBytes image part = image part.file ≡ part_bytes part.rows

zip_parts : (image : Image) (parts : List Listed) → AllByRecursion (HasBytes image) parts
    → AllByRecursion CanBeWritten parts → AllByRecursion LiesInDay parts
    → AllZip (HasPart image) (map entry_of parts) parts
zip_parts image [] bytes written days = tt
zip_parts image (part ∷ parts) bytes written days = (
  record {
    day = refl;
    file = refl;
    bytes = ap length (sym bytes.0);
    spelling = written.0.spelling ∙ ap Some (sym bytes.0);
    in_day = days.0;
  },
  zip_parts image parts bytes.1 written.1 days.1,
)

-- two images with the same slots
pub same_found : (a b : Image) → ((file : ℕ) → IsSlot file → a file ≡ b file) → found_in a ≡ found_in b
same_found a b same = λ i. live (slot_of 0 (same 0 (omega arith) i)) (slot_of 1 (same 1 (omega arith) i))

module _ (list : Listing) (parts : List Listed) (catalog : IsCatalog list parts) where
  -- an image that has the live list of this content, and the files
  pub image_finds : (past : Past) (image : Image) → HasList list past → found_in image ≡ found_in (content past)
      → AllByRecursion (HasBytes image) parts → FindsParts list.front parts image
  image_finds past image (inl none) same bytes =
      let fresh = catalog.fresh none.0 in inl (same ∙ none.1, fresh.0, fresh.1)
  image_finds past image (inr there) same bytes = inr (
    list,
    same ∙ there.1,
    refl,
    subst (λ entries. AllZip (HasPart image) entries parts) (sym catalog.entries)
        (zip_parts image parts bytes catalog.written catalog.stored.days),
  )

  -- no file of a part, and no slot, is one of these
  pub record Spares (T : ℕ → Type 0) : Type 0 where
    pub slots : (file : ℕ) → IsSlot file → T file → ⊥
    pub files : AllByRecursion (λ part. T part.file → ⊥) parts

  module _ (old : Past) (on : IsOnVault list parts old) (T : ℕ → Type 0) (spares : Spares T) (p : Past)
      (only : ChangesOnly T old p) where
    bytes_still : (image : Image) → IsCrashImage p image → AllByRecursion (HasBytes image) parts
    bytes_still image may = both (HasFile old) (λ part. T part.file → ⊥) (HasBytes image)
        (λ part file no. file.0 (image part.file) (only.others part.file no (image part.file) (may part.file)) ∙ file.1)
        parts on.files spares.files

    slots_still : (image : Image) → IsCrashImage p image → (file : ℕ) → IsSlot file → image file ≡ content old file
    slots_still image may file is =
        on.slots file is (image file) (only.others file (spares.slots file is) (image file) (may file))

    pub finds_still : EachImage (FindsParts list.front parts) p
    finds_still image may =
        image_finds old image on.live (same_found image (content old) (slots_still image may)) (bytes_still image may)

    pub still_on : IsOnVault list parts p
    still_on = record {
      slots = λ file is c left. on.slots file is c (only.others file (spares.slots file is) c left)
          ∙ sym (only.others_read file (spares.slots file is));
      live = pick on.live;
      files = both (HasFile old) (λ part. T part.file → ⊥) (HasFile p)
          (λ part file no. (
            λ c left. file.0 c (only.others part.file no c left) ∙ sym (only.others_read part.file no),
            only.others_read part.file no ∙ file.1,
          )) parts on.files spares.files;
    }
      where
        same : found_in (content p) ≡ found_in (content old)
        same = same_found (content p) (content old) (λ file is. only.others_read file (spares.slots file is))

        pick : HasList list old → HasList list p
        pick (inl none) = inl (none.0, same ∙ none.1)
        pick (inr there) = inr (there.0, same ∙ there.1)

  -- between two calls
  pub finds_now : (old : Past) → IsOnVault list parts old → EachImage (FindsParts list.front parts) old
  finds_now old on = finds_still old on (λ file. ⊥)
      (record {
        slots = λ file is no. no;
        files = weaker IsAny (λ part. ⊥
            → ⊥) (λ part any no. no) parts (any_all parts);
      }) old
      (unchanged (λ file. ⊥) old)
    where
      IsAny : Listed → Type 0
      IsAny part = ⊤

      any_all : (parts : List Listed) → AllByRecursion IsAny parts
      any_all [] = tt
      any_all (part ∷ parts) = (tt, any_all parts)

-- ---- the list

module _ (list next : Listing) (parts news : List Listed) (catalog : IsCatalog list parts) (whole : IsCatalog next news)
    (later : 0 < next.generation) (old : Past) (on : IsOnVault list parts old)
    (written : AllByRecursion (HasFile old) news) where
  outside : (part : Listed) → (n : ℕ) → IsFileBelow n part → IsSlotOf next part.file → ⊥
  outside part n below is = omega (arith, below.0, is)

  module _ (ps : List Listed) (n : ℕ) (below : AllByRecursion (IsFileBelow n) ps) (files : AllByRecursion
      (HasFile old) ps)
      {P : Image → Type 0} (p : Past) (run : ChangesFiles (IsSlotOf next) P old p) where
    bytes_outside : (image : Image) → IsCrashImage p image → AllByRecursion (HasBytes image) ps
    bytes_outside image may = both (HasFile old) (IsFileBelow n) (HasBytes image)
        (λ part file out. file.0 (image part.file)
        (run.others part.file (outside part n out) (image part.file) (may part.file)) ∙ file.1) ps files below

    files_outside : AllByRecursion (HasFile p) ps
    files_outside = both (HasFile old) (IsFileBelow n) (HasFile p)
        (λ part file out. (
          λ c left. file.0 c (run.others part.file (outside part n out) c left)
              ∙ sym (run.others_read part.file (outside part n out)),
          run.others_read part.file (outside part n out) ∙ file.1,
        )) ps files below

  pub list_finds : (new : Past) → Always (ChangesFiles (IsSlotOf next) (HasOldOr old next) old) old new
      → Always (EachImage (FindsOldOr list.front parts next.front news)) old new
  list_finds new run = weaken (λ p w image may. pick p w image may (w.image image may)) run
    where
      pick : (p : Past) → ChangesFiles (IsSlotOf next) (HasOldOr old next) old p → (image : Image)
          → IsCrashImage p image
          → HasOldOr old next image → FindsOldOr list.front parts next.front news image
      pick p w image may (inl same) =
          inl (image_finds list parts catalog old image on.live same
          (bytes_outside parts list.next_file catalog.stored.files on.files p w image may))
      pick p w image may (inr there) = inr (inr (
        next,
        there,
        refl,
        subst (λ entries. AllZip (HasPart image) entries news) (sym whole.entries)
            (zip_parts image news (bytes_outside news next.next_file whole.stored.files written p w image may)
            whole.written whole.stored.days),
      ))

  pub list_on : (new : Past) → Always (ChangesFiles (IsSlotOf next) (HasOldOr old next) old) old new
      → found_in (content new) ≡ Some (Some next) → AreSlotsDurable new → IsOnVault next news new
  list_on new run there slots = record {
    slots = slots;
    live = inr (later, there);
    files = files_outside news next.next_file whole.stored.files written new (last run);
  }
