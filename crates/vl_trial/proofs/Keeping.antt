-- A store in memory of no batch, and batches after it.
use Rattle.std.proofs.Common.{◌≡◌, inl, inr, ℕ, List, [], ◌∷◌, ◌++◌, length, length-append, ap, refl, subst, sym, ◌∙◌}
use Rattle.std.proofs.Common.{arith}
use Rattle.std.specs.Prelude.{Some}
use Rattle.std.specs.List.{AllByRecursion}
use Rattle.log_model.specs.Batches.{AreOf}
use Rattle.log_model.specs.History.{History, batches_in}
use Rattle.log_model.specs.Row.{Batch}
use Rattle.vl_vault.specs.Disk.{content}
use Rattle.vl_vault.specs.Moments.{IsDurable}
use Rattle.parts_list.specs.Slots.{found_in}
use Rattle.parts_list.specs.declared.list.Entry.{Entry}
use Rattle.parts_list.specs.declared.list.List.{List as Listing}
use Rattle.part_store.specs.Finds.{FindsParts, HoldsWhole}
use Rattle.part_store.specs.Reopening.{AreListedDurable}
use Rattle.part_store.specs.State.{Listed, StoreState}
use Rattle.log_desk.specs.Keeping.{HoldsFront}
use Rattle.log_desk.specs.Seen.{Seen}
use Rattle.log_desk.proofs.KeepLaws.{take_on}
use Rattle.lone_desk.proofs.Laws.{batches-with, settled-alone}
use Rattle.lone_desk.specs.Alone.{GainsAlone}
use Rattle.lone_desk.specs.Kept.{MayKeepAlone}

-- ---- a new vault

durable : (entries : List Entry) → AllByRecursion (λ entry. IsDurable [] entry.file) entries
durable [] = tt
durable (entry ∷ entries) = (λ bytes left. left, durable entries)

-- Nothing is pending in it.
pub new_durable : AreListedDurable []
new_durable list found = durable list.entries

no_list : (list : Listing) → found_in (content []) ≡ Some (Some list) → ⊥
no_list list some = absurd cc

-- It has no batch.
pub new_front : (front : ℕ) (parts : List Listed) → FindsParts front parts (content []) → front ≡ 0
new_front front parts (inl none) = none.1
new_front front parts (inr some) = absurd (no_list some.0 some.1)

no_entry : (history : History) → length (batches_in history) ≡ 0 → history ≡ []
no_entry [] none = refl
no_entry (entry ∷ history) none = absurd (omega (arith, none))

-- A store of no batch has no history.
pub no_history : {V : Type 0} (store : StoreState V) (history : History) → store.front ≡ 0
    → HoldsWhole store (batches_in history) → history ≡ []
no_history store history none whole = no_entry history (whole.whole ∙ none)

-- ---- one batch more

holds_more : {V : Type 0} (store : StoreState V) (batches more all : List Batch) → all ≡ batches ++ more
    → HoldsFront store batches → HoldsFront store all
holds_more store batches more all is holds = record {
  within = omega (arith, ap length is, length-append batches more, holds.within);
  are = subst (AreOf (λ part. part.rows) store.parts)
      (sym (take_on store.front batches all more is holds.within)) holds.are;
}

-- A round may begin after an insert if it might before.
pub keeps_more : {V : Type 0} (store : StoreState V) (old new : Seen) (batch : Batch) → GainsAlone old new batch
    → MayKeepAlone store old → MayKeepAlone store new
keeps_more store old new batch gains may = record {
  holds = holds_more store (batches_in old.history) (batch ∷ []) (batches_in new.history)
      (batches-with old new batch gains) may.holds;
  settled = omega (arith, settled-alone old new batch gains, may.settled);
}
