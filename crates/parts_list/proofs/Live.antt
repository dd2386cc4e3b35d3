-- What the two slots say while one of them changes.
use Rattle.std.proofs.Common.{◌≡◌, ◌≢◌, inl, inr, ℕ, zero, suc, ◌+◌, ◌-◌, ◌<◌, ◌≤◌, List, ◌∷◌, true, false, refl, sym}
use Rattle.std.proofs.Common.{◌∙◌, ap, subst, arith}
use Rattle.std.specs.Prelude.{◌⊎◌, ◌%◌, Bool, Some, nat_lt, if◌then◌else◌, ⊤}
use Rattle.std.proofs.lemmas.Bool.{lt-ltb, le-ltb, cases_eq, ltb-true, ltb-false}
use Rattle.vl_vault.specs.Disk.{Past, content, MayLeave, Image, IsCrashImage}
use Rattle.vl_vault.specs.Moments.{Always, now, ChangesFile, ChangesFiles, IsDurable}
use Rattle.parts_list.specs.declared.list.List.{List as Listing}
use Rattle.parts_list.specs.Listing.{is_list}
use Rattle.parts_list.specs.Format.{body_of}
use Rattle.parts_list.specs.Slots.{Slot, Closed, Broken, Open, slot_of, live, found_in, IsOldOrNew}
use Rattle.parts_list.specs.Slots.{IsClosedOrOld}
use Rattle.parts_list.specs.Writing.{IsSlotOf, AreSlotsDurable, ComesNext, HasOld, HasOldOr}
use Rattle.vl_vault.proofs.Runs.{weaken}
use Rattle.parts_list.proofs.SlotLemmas.{HasParity, slot_of-closed, slot_of-written, slot_of-parity}

-- The list is newer than both, and the other slot has the live list.
abbrev pub IsNext : Slot → Slot → Listing → Type 0
IsNext Closed Closed l = ⊤
IsNext Closed (Open a) l = a.generation < l.generation
IsNext (Open b) (Open a) l = (b.generation < a.generation) × (a.generation < l.generation)
IsNext (Open b) Closed l = ⊥
IsNext m Broken l = ⊥
IsNext Broken o l = ⊥

newer_of : (t : Bool) (a b : Listing) → nat_lt a.generation b.generation ≡ t → (l : Listing)
    → l.generation ≡ (if t then b else a).generation + 1 → a.generation % 2 ≡ l.generation % 2
    → b.generation % 2 ≢ l.generation % 2
    → (a.generation < b.generation) × (b.generation < l.generation)
newer_of true a b is l next same other = let below : a.generation < b.generation = ltb-true _ _ is in (
  below,
  omega (arith, next),
)
newer_of false a b is l next same other = absurd (omega (arith, next, same))

newer_back : (t : Bool) (a b : Listing) → nat_lt a.generation b.generation ≡ t → (l : Listing)
    → l.generation ≡ (if t then b else a).generation + 1 → b.generation % 2 ≡ l.generation % 2
    → a.generation % 2 ≢ l.generation % 2
    → (b.generation < a.generation) × (a.generation < l.generation)
newer_back true a b is l next same other = absurd (omega (arith, next, same))
newer_back false a b is l next same other =
    let above : b.generation ≤ a.generation = ltb-false _ _ is in
    let apart : b.generation ≢ a.generation = λ e. other (ap (λ n. n % 2) (sym e) ∙ same) in
    (omega (arith, above, apart), omega (arith, next))

-- the list that is written next, for the first slot and for the second
pub next_left : (l : Listing) (m o : Slot) → HasParity 0 m → HasParity 1 o → l.generation % 2 ≡ 0
    → ComesNext (live m o) l → IsNext m o l
next_left l Closed Closed pm po even next = tt
next_left l Closed (Open a) pm po even next = omega (arith, next)
next_left l Closed Broken pm po even next = next
next_left l (Open b) Closed pm po even next = omega (arith, next, pm, even)
next_left l (Open b) (Open a) pm po even next = newer_of (nat_lt b.generation a.generation) b a refl l next (pm
    ∙ sym even) (λ e. let odd : a.generation % 2 ≡ 0 = e ∙ even in omega (arith, odd, po))
next_left l (Open b) Broken pm po even next = next
next_left l Broken o pm po even next = absurd next

pub next_right : (l : Listing) (m o : Slot) → HasParity 1 m → HasParity 0 o → l.generation % 2 ≡ 1
    → ComesNext (live o m) l → IsNext m o l
next_right l Closed Closed pm po odd next = tt
next_right l Closed (Open a) pm po odd next = omega (arith, next)
next_right l Closed Broken pm po odd next = absurd next
next_right l (Open b) Closed pm po odd next = omega (arith, next, pm, odd)
next_right l (Open b) (Open a) pm po odd next = newer_back (nat_lt a.generation b.generation) a b refl l next (pm
    ∙ sym odd) (λ e. let even : a.generation % 2 ≡ 1 = e ∙ odd in omega (arith, even, po))
next_right l (Open b) Broken pm po odd next = absurd next
next_right l Broken Closed pm po odd next = absurd next
next_right l Broken (Open a) pm po odd next = absurd next
next_right l Broken Broken pm po odd next = absurd next

pub live-closed_left : (l : Listing) (m o : Slot) → IsNext m o l → live Closed o ≡ live m o
live-closed_left l Closed o next = refl
live-closed_left l (Open b) (Open a) next = ap (λ t. Some (Some (if t then a else b))) (sym (lt-ltb _ _ next.0))
live-closed_left l (Open b) Closed next = absurd next
live-closed_left l (Open b) Broken next = absurd next
live-closed_left l Broken Closed next = absurd next
live-closed_left l Broken (Open a) next = absurd next
live-closed_left l Broken Broken next = absurd next

pub live-closed_right : (l : Listing) (m o : Slot) → IsNext m o l → live o Closed ≡ live o m
live-closed_right l Closed o next = refl
live-closed_right l (Open b) (Open a) next = ap (λ t. Some (Some (if t then b else a))) (sym (le-ltb _ _ (omega
    (arith, next.0))))
live-closed_right l (Open b) Closed next = absurd next
live-closed_right l (Open b) Broken next = absurd next
live-closed_right l Broken Closed next = absurd next
live-closed_right l Broken (Open a) next = absurd next
live-closed_right l Broken Broken next = absurd next

newer : (l a : Listing) (m : Slot) → IsNext m (Open a) l → a.generation < l.generation
newer l a Closed next = next
newer l a (Open b) next = next.1
newer l a Broken next = absurd next

pub live-new_left : (l : Listing) (m o : Slot) → IsNext m o l → live (Open l) o ≡ Some (Some l)
live-new_left l m Closed next = refl
live-new_left l m (Open a) next = ap (λ t. Some (Some (if t then a else l))) (le-ltb _ _ (omega (
  arith,
  newer l a m next,
)))
live-new_left l Closed Broken next = absurd next
live-new_left l (Open b) Broken next = absurd next
live-new_left l Broken Broken next = absurd next

pub live-new_right : (l : Listing) (m o : Slot) → IsNext m o l → live o (Open l) ≡ Some (Some l)
live-new_right l m Closed next = refl
live-new_right l m (Open a) next = ap (λ t. Some (Some (if t then l else a))) (lt-ltb _ _ (newer l a m next))
live-new_right l Closed Broken next = absurd next
live-new_right l (Open b) Broken next = absurd next
live-new_right l Broken Broken next = absurd next

module _ (l : Listing) (good : is_list l ≡ true) where
  -- the slot that is written, first or second, and the other
  left_old : (m o c : List ℕ) → IsNext (slot_of 0 m) (slot_of 1 o) l → IsClosedOrOld m c
      → live (slot_of 0 c) (slot_of 1 o) ≡ live (slot_of 0 m) (slot_of 1 o)
  left_old m o c next (inl closed) = ap (λ s. live s (slot_of 1 o)) (slot_of-closed 0 c closed)
      ∙ live-closed_left l (slot_of 0 m) (slot_of 1 o) next
  left_old m o c next (inr same) = ap (λ b. live (slot_of 0 b) (slot_of 1 o)) same

  right_old : (m o c : List ℕ) → IsNext (slot_of 1 m) (slot_of 0 o) l → IsClosedOrOld m c
      → live (slot_of 0 o) (slot_of 1 c) ≡ live (slot_of 0 o) (slot_of 1 m)
  right_old m o c next (inl closed) = ap (λ s. live (slot_of 0 o) s) (slot_of-closed 1 c closed)
      ∙ live-closed_right l (slot_of 1 m) (slot_of 0 o) next
  right_old m o c next (inr same) = ap (λ b. live (slot_of 0 o) (slot_of 1 b)) same

  left_slot : (m o c : List ℕ) → l.generation % 2 ≡ 0 → IsNext (slot_of 0 m) (slot_of 1 o) l
      → IsOldOrNew m (body_of l) c
      → (live (slot_of 0 c) (slot_of 1 o) ≡ live (slot_of 0 m) (slot_of 1 o)) ⊎ (live (slot_of 0 c) (slot_of 1 o) ≡
      Some (Some l))
  left_slot m o c even next (inl old) = inl (left_old m o c next old)
  left_slot m o c even next (inr new) =
      inr (ap (λ b. live (slot_of 0 b) (slot_of 1 o)) new
      ∙ ap (λ s. live s (slot_of 1 o)) (slot_of-written 0 l good even)
      ∙ live-new_left l (slot_of 0 m) (slot_of 1 o) next)

  right_slot : (m o c : List ℕ) → l.generation % 2 ≡ 1 → IsNext (slot_of 1 m) (slot_of 0 o) l
      → IsOldOrNew m (body_of l) c
      → (live (slot_of 0 o) (slot_of 1 c) ≡ live (slot_of 0 o) (slot_of 1 m)) ⊎ (live (slot_of 0 o) (slot_of 1 c) ≡
      Some (Some l))
  right_slot m o c odd next (inl old) = inl (right_old m o c next old)
  right_slot m o c odd next (inr new) =
      inr (ap (λ b. live (slot_of 0 o) (slot_of 1 b)) new
      ∙ ap (λ s. live (slot_of 0 o) s) (slot_of-written 1 l good odd)
      ∙ live-new_right l (slot_of 1 m) (slot_of 0 o) next)

  module _ (old : Past) (durable : AreSlotsDurable old) where
    other_stays : {P : List ℕ → Type 0} (s o : ℕ) (p : Past) (image : Image) → o < 2 → o ≢ s → ChangesFile s P old p
        → IsCrashImage p image → image o ≡ content old o
    other_stays s o p image below ne w may = durable o below (image o) (w.others o ne (image o) (may o))

    -- the slot of this parity, and the other
    next_of : (s : ℕ) → l.generation % 2 ≡ s → ComesNext (found_in (content old)) l → s < 2
        → IsNext (slot_of s (content old s)) (slot_of (1 - s) (content old (1 - s))) l
    next_of zero is next below = next_left l _ _ (slot_of-parity 0 (content old 0)) (slot_of-parity 1 (content old
        1)) is next
    next_of (suc zero) is next below = next_right l _ _ (slot_of-parity 1 (content old 1)) (slot_of-parity 0 (content
        old 0)) is next
    next_of (suc (suc s)) is next below = absurd (omega arith)

    each_image : (s : ℕ) → s < 2 → l.generation % 2 ≡ s → IsNext (slot_of s (content old s)) (slot_of (1 - s)
        (content old (1 - s))) l → (p : Past)
        → ChangesFile s (IsOldOrNew (content old s) (body_of l)) old p → (image : Image) → IsCrashImage p image
        → HasOldOr old l image
    each_image zero below is next p w image may =
        let other = other_stays 0 1 p image (omega arith) (λ e. omega arith) w may in
        subst (λ b. (live (slot_of 0 (image 0)) (slot_of 1 b) ≡ found_in (content old)) ⊎ (live (slot_of 0 (image 0))
        (slot_of 1 b) ≡ Some (Some l))) (sym other)
        (left_slot (content old 0) (content old 1) (image 0) is next (w.left (image 0) (may 0)))
    each_image (suc zero) below is next p w image may =
        let other = other_stays 1 0 p image (omega arith) (λ e. omega arith) w may in
        subst (λ b. (live (slot_of 0 b) (slot_of 1 (image 1)) ≡ found_in (content old)) ⊎ (live (slot_of 0 b)
        (slot_of 1 (image 1)) ≡ Some (Some l))) (sym other)
        (right_slot (content old 1) (content old 0) (image 1) is next (w.left (image 1) (may 1)))
    each_image (suc (suc s)) below is next p w image may = absurd (omega arith)

    each_old : (s : ℕ) → s < 2 → IsNext (slot_of s (content old s)) (slot_of (1 - s) (content old (1 - s))) l
        → (p : Past)
        → ChangesFile s (IsClosedOrOld (content old s)) old p → (image : Image) → IsCrashImage p image
        → HasOld old image
    each_old zero below next p w image may =
        let other = other_stays 0 1 p image (omega arith) (λ e. omega arith) w may in
        subst (λ b. live (slot_of 0 (image 0)) (slot_of 1 b) ≡ found_in (content old)) (sym other)
        (left_old (content old 0) (content old 1) (image 0) next (w.left (image 0) (may 0)))
    each_old (suc zero) below next p w image may =
        let other = other_stays 1 0 p image (omega arith) (λ e. omega arith) w may in
        subst (λ b. live (slot_of 0 b) (slot_of 1 (image 1)) ≡ found_in (content old)) (sym other)
        (right_old (content old 1) (content old 0) (image 1) next (w.left (image 1) (may 1)))
    each_old (suc (suc s)) below next p w image may = absurd (omega arith)

    slot_below : l.generation % 2 < 2
    slot_below = omega arith

    pub list_moments : (new : Past) → ComesNext (found_in (content old)) l
        → Always (ChangesFile (l.generation % 2) (IsOldOrNew (content old (l.generation % 2)) (body_of l)) old) old
        new → Always (ChangesFiles (IsSlotOf l) (HasOldOr old l) old) old new
    list_moments new next run = let s = l.generation % 2 in weaken (λ p w. record {
      image = each_image s slot_below refl (next_of s refl next slot_below) p w;
      others = w.others;
      others_read = w.others_read;
    }) run

    -- while the gate is closed and the body is written
    pub old_moments : (new : Past) → ComesNext (found_in (content old)) l
        → Always (ChangesFile (l.generation % 2) (IsClosedOrOld (content old (l.generation % 2))) old) old new
        → Always (ChangesFiles (IsSlotOf l) (HasOld old) old) old new
    old_moments new next run = let s = l.generation % 2 in weaken (λ p w. record {
      image = each_old s slot_below (next_of s refl next slot_below) p w;
      others = w.others;
      others_read = w.others_read;
    }) run

    written_in : {P : List ℕ → Type 0} (s : ℕ) (new : Past) → s < 2 → l.generation % 2 ≡ s
        → IsNext (slot_of s (content old s)) (slot_of (1 - s) (content old (1 - s))) l
        → ChangesFile s P old new → content new s ≡ 1 ∷ body_of l → found_in (content new) ≡ Some (Some l)
    written_in zero new below even next w is =
        ap (λ b. live (slot_of 0 b) (slot_of 1 (content new 1))) is
        ∙ ap (λ b. live (slot_of 0 (1 ∷ body_of l)) (slot_of 1 b)) (w.others_read 1 (λ e. omega arith))
        ∙ ap (λ s. live s (slot_of 1 (content old 1))) (slot_of-written 0 l good even) ∙ live-new_left l _ _ next
    written_in (suc zero) new below odd next w is =
        ap (λ b. live (slot_of 0 (content new 0)) (slot_of 1 b)) is
        ∙ ap (λ b. live (slot_of 0 b) (slot_of 1 (1 ∷ body_of l))) (w.others_read 0 (λ e. omega arith))
        ∙ ap (λ s. live (slot_of 0 (content old 0)) s) (slot_of-written 1 l good odd) ∙ live-new_right l _ _ next
    written_in (suc (suc s)) new below is next w here = absurd (omega arith)

    pub list_written : {P : List ℕ → Type 0} (new : Past) → ComesNext (found_in (content old)) l
        → ChangesFile (l.generation % 2) P old new → content new (l.generation % 2) ≡ 1 ∷ body_of l
        → found_in (content new) ≡ Some (Some l)
    list_written new next w is = let s = l.generation % 2 in written_in s new slot_below refl (next_of s refl next
        slot_below) w is

    pub list_durable : {P : List ℕ → Type 0} (new : Past) → ChangesFile (l.generation % 2) P old new
        → IsDurable new (l.generation % 2) → AreSlotsDurable new
    list_durable new w here f below c left = elim (cases_eq f (l.generation % 2)) [
      | inl same ↦ subst (λ n. MayLeave new n c → c ≡ content new n) (sym same) (here c) left
      | inr ne ↦ durable f below c (w.others f ne c left) ∙ sym (w.others_read f ne)
    ]

-- between two calls the slots have what is read
both_read : (old : Past) (image : Image) → AreSlotsDurable old → IsCrashImage old image
    → found_in image ≡ found_in (content old)
both_read old image durable may =
    ap (λ b. live (slot_of 0 b) (slot_of 1 (image 1))) (durable 0 (omega arith) (image 0) (may 0))
    ∙ ap (λ b. live (slot_of 0 (content old 0)) (slot_of 1 b)) (durable 1 (omega arith) (image 1) (may 1))

pub list_begun : (l : Listing) (old : Past) → AreSlotsDurable old
    → Always (ChangesFiles (IsSlotOf l) (HasOldOr old l) old) old old
list_begun l old durable = now (record {
  image = λ image may. inl (both_read old image durable may);
  others = λ f no c left. left;
  others_read = λ f no. refl;
})
