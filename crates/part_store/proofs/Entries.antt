-- The parts of entries, one after another.
use Rattle.std.proofs.Common.{◌≡◌, inl, inr, ℕ, zero, suc, ◌+◌, ◌<◌, List, [], ◌∷◌, ◌++◌, length, map, take, get_or}
use Rattle.std.proofs.Common.{refl, sym, ◌∙◌, ap, subst, arith, Global}
use Rattle.std.specs.Arc.{arc_value}
use Rattle.std.specs.declared.sync.Arc.{Arc}
use Rattle.std.specs.List.{AllZip}
use Rattle.std.proofs.lemmas.List.{length-map, length-take-le, map_more, take_more}
use Rattle.log_model.specs.History.{Numbered}
use Rattle.vl_vault.specs.Disk.{Image}
use Rattle.part_files.specs.Stored.{IsFileFault, IsStoredPart}
use Rattle.part_files.specs.declared.fault.FileFault.TheVariants as file_faults
use Rattle.parts_list.specs.declared.list.Entry.{Entry}
use Rattle.part_store.specs.declared.fault.ReopenFault.{ReopenFault}
use Rattle.part_store.specs.declared.fault.ReopenFault.TheVariants.{VaultFault, Memory, Damaged, Version}
use Rattle.part_store.specs.State.{Listed}
use Rattle.part_store.specs.Reopening.{IsEntryFault, IsFirstFault, IsStoredAt, listed_with}

abbrev SharedPart : Type 0
SharedPart = Arc (List Numbered) Global

abbrev with_entry : Entry → List Numbered → Listed
with_entry e r = record { day = e.day; file = e.file; rows = r }

listed_more : (entries : List Entry) (rows : List (List Numbered)) (e : Entry) (r : List Numbered)
    → length entries ≡ length rows
    → listed_with (entries ++ e ∷ []) (rows ++ r ∷ []) ≡ listed_with entries rows ++ with_entry e r ∷ []
listed_more [] [] e r long = refl
listed_more [] (y ∷ rows) e r long = absurd (omega (arith, long))
listed_more (x ∷ entries) [] e r long = absurd (omega (arith, long))
listed_more (x ∷ entries) (y ∷ rows) e r long =
    ap (λ (ps : List Listed). with_entry x y ∷ ps) (listed_more entries rows e r (omega (arith, long)))

pub with_more : (entries : List Entry) (parts : List SharedPart) (i : ℕ) (z : Entry) (part : SharedPart)
    (before after : List Listed) → i < length entries → i < length parts → part ≡ get_or parts i part
    → before ≡ listed_with (take i entries) (map arc_value (take i parts))
    → after ≡ before ++ with_entry (get_or entries i z) (arc_value part) ∷ []
    → after ≡ listed_with (take (i + 1) entries) (map arc_value (take (i + 1) parts))
with_more entries parts i z part before after in_entries in_parts at is pushed =
    let e = get_or entries i z in
    let rows : List (List Numbered) = map arc_value (take i parts) in
    let long : length (take i entries) ≡ length rows =
    omega (
      arith,
      length-take-le i entries (omega (arith, in_entries)),
      length-map (take i parts)
          (arc_value {X = List Numbered} {Z = Global}),
      length-take-le i parts (omega (arith, in_parts)),
    ) in
    let more : map arc_value (take (i + 1) parts) ≡ rows ++ arc_value part ∷ [] =
    map_more arc_value parts i part in_parts ∙ ap (λ (p : SharedPart). rows ++ arc_value p ∷ []) (sym at) in
    pushed ∙ ap (λ (ps : List Listed). ps ++ with_entry e (arc_value part) ∷ []) is
    ∙ sym (listed_more (take i entries) rows e (arc_value part) long)
    ∙ ap (λ (es : List Entry). listed_with es (rows ++ arc_value part ∷ [])) (sym (take_more entries i z in_entries))
    ∙ ap (listed_with (take (i + 1) entries)) (sym more)

-- ---- lists that fit one another

module _ {X Y : Type 0} (R : X → Y → Type 0) where
  zip_push : (xs : List X) (ys : List Y) (x : X) (y : Y) → AllZip R xs ys → R x y
      → AllZip R (xs ++ x ∷ []) (ys ++ y ∷ [])
  zip_push [] [] x y all here = (here, tt)
  zip_push [] (b ∷ ys) x y all here = absurd all
  zip_push (a ∷ xs) [] x y all here = absurd all
  zip_push (a ∷ xs) (b ∷ ys) x y all here = (all.0, zip_push xs ys x y all.1 here)

  pub zip_more : (xs : List X) (i : ℕ) (d : X) (ys news : List Y) (y : Y) → i < length xs → AllZip R (take i xs) ys
      → R (get_or xs i d) y → news ≡ ys ++ y ∷ [] → AllZip R (take (i + 1) xs) news
  zip_more xs i d ys news y below all here is =
      subst (AllZip R (take (i + 1) xs)) (sym is)
      (subst (λ zs. AllZip R zs (ys ++ y ∷ [])) (sym (take_more xs i d below)) (zip_push (take i xs) ys
      (get_or xs i d) y all here))

  pub zip_at : (xs : List X) (ys : List Y) (i : ℕ) (d : X) (e : Y) → i < length xs → AllZip R xs ys
      → R (get_or xs i d) (get_or ys i e)
  zip_at [] ys i d e below all = absurd (omega (arith, below))
  zip_at (x ∷ xs) [] i d e below all = absurd all
  zip_at (x ∷ xs) (y ∷ ys) zero d e below all = all.0
  zip_at (x ∷ xs) (y ∷ ys) (suc i) d e below all = zip_at xs ys i d e (omega (arith, below)) all.1

  pub zip_long : (xs : List X) (ys : List Y) → AllZip R xs ys → length xs ≡ length ys
  zip_long [] [] all = refl
  zip_long [] (y ∷ ys) all = absurd all
  zip_long (x ∷ xs) [] all = absurd all
  zip_long (x ∷ xs) (y ∷ ys) all = ap suc (zip_long xs ys all.1)

-- ---- the same contents

pub stored_same : (old mid : Image) (entry : Entry) (part : List Numbered) → mid entry.file ≡ old entry.file
    → IsStoredAt mid entry part → IsStoredAt old entry part
stored_same old mid entry part same here = subst (IsStoredPart entry.day entry.bytes part) same here

pub fault_same : (old mid : Image) (entry : Entry) (fault : ReopenFault) → mid entry.file ≡ old entry.file
    → IsEntryFault fault entry mid → IsEntryFault fault entry old
fault_same old mid entry VaultFault same here = tt
fault_same old mid entry Memory same here = tt
fault_same old mid entry (Damaged file at) same here =
    (here.0, subst (IsFileFault (file_faults.Damaged at) entry.day entry.bytes) same here.1)
fault_same old mid entry (Version file found) same here =
    (here.0, subst (IsFileFault (file_faults.Version found) entry.day entry.bytes) same here.1)

-- the first entries are read, and the next is not
pub first_fault : (image : Image) (fault : ReopenFault) (entries : List Entry) (i : ℕ) (z : Entry)
    (rows : List (List Numbered)) → i < length entries → AllZip (IsStoredAt image) (take i entries) rows
    → IsEntryFault fault (get_or entries i z) image → IsFirstFault fault entries image
first_fault image fault [] i z rows below all here = absurd (omega (arith, below))
first_fault image fault (e ∷ entries) zero z rows below all here = inl here
first_fault image fault (e ∷ entries) (suc i) z [] below all here = absurd all
first_fault image fault (e ∷ entries) (suc i) z (r ∷ rows) below all here =
    inr (r, all.0, first_fault image fault entries i z rows (omega (arith, below)) all.1 here)
