-- What a desk over the parts of a store holds.
use Rattle.std.proofs.Common.{◌≡◌, ℕ, ◌<◌, ◌≤◌, List, [], ◌∷◌, length, map, take, flat_map, refl, sym, ap, subst, ◌∙◌}
use Rattle.std.proofs.Common.{arith}
use Rattle.std.specs.List.Sorted.{IsPermutation}
use Rattle.std.proofs.lemmas.List.{take-map, take_all}
use Rattle.std.proofs.lemmas.List.Folds.{flat_map-map}
use Rattle.log_model.specs.Batches.{AreOf, batch_rows}
use Rattle.log_model.specs.Core.{Contents, Stands, count_of, nothing}
use Rattle.log_model.specs.History.{Entry, History, Numbered, batches_in, entry_rows, numbered}
use Rattle.log_model.specs.Row.{Batch}
use Rattle.log_model.proofs.Joining.{numbered_batches}
use Rattle.turn_lock.specs.declared.view.Entry.{Entry as Made}
use Rattle.turn_lock.specs.Passes.{IsPassOf, LockId, PassState}
use Rattle.log_core.specs.Entries.{nobodys, seen_history, stands_for}
use Rattle.log_core.specs.Settled.{AreWhole, settled_only}
use Rattle.log_core.specs.declared.entries.EntryRows.{EntryRows}
use Rattle.log_core.proofs.EntryLaws.{stands_same}
use Rattle.log_core.proofs.Standing.{have_rows}
use Rattle.part_store.specs.Finds.{HoldsWhole}
use Rattle.part_store.specs.State.{Listed, StoreState}
use Rattle.log_desk.specs.Keeping.{HoldsFront, MayKeep, batches_seen, rows_listed}
use Rattle.log_desk.proofs.KeepLaws.{length-batches}
use Rattle.log_desk.proofs.SeenLaws.{length-seen}
use Rattle.log_desk.proofs.TurnLaws.{rows}

-- ---- what a shelf stands for

abbrev rows_entry : Entry → EntryRows
rows_entry entry = record { first = entry.first; others = entry.others }

same_rows : (history : History) → batches_in (map nobodys (map rows_entry history)) ≡ batches_in history
same_rows [] = refl
same_rows (entry ∷ history) = ap (λ (l : List Batch). entry_rows entry ∷ l) (same_rows history)

-- What stands for a history stands for its entries, whoever made them.
pub some_entries : {P : Type 0} (rows : P → List Numbered) (held : Contents P)
    → (history : History) × Stands rows held history → (entries : List EntryRows) × stands_for rows held entries
some_entries rows held (history, stands) = (
  map rows_entry history,
  stands_same rows held history (map nobodys (map rows_entry history)) (sym (same_rows history)) stands,
)

-- What stands for no batch stands for nothing that was seen.
pub none_seen : (shelf : Contents (List Numbered)) (seen : List (Made EntryRows)) → shelf ≡ nothing
    → Stands rows shelf (seen_history seen) → seen ≡ []
none_seen shelf [] is stands = refl
none_seen shelf (made ∷ seen) is stands =
    let counted = stands.counted in
    let none : count_of shelf ≡ 0 = ap count_of is in
    absurd (omega (arith, counted, none))

-- ---- the parts of a store

module _ {V : Type 0} (s : StoreState V) where
  -- the rows of its parts, one part after another
  same_parts : flat_map rows (rows_listed s.parts) ≡ flat_map (λ (part : Listed). part.rows) s.parts
  same_parts = flat_map-map rows (λ (part : Listed). part.rows) s.parts

  -- Its parts are day parts.
  pub are_days : (batches : List Batch) → AreOf (λ (part : Listed). part.rows) s.parts batches
      → AreOf rows (rows_listed s.parts) batches
  are_days batches are = subst (λ l. IsPermutation l (batch_rows batches)) (sym same_parts) are

  pub are_whole : (batches : List Batch) × HoldsWhole s batches → AreWhole rows s.front (rows_listed s.parts)
  are_whole (batches, holds) = (batches, holds.whole, holds.rows, are_days batches holds.are)

  -- What the shelf stands for is what the store holds.
  pub holds_opened : (shelf : Contents (List Numbered)) (seen : List (Made EntryRows))
      → shelf ≡ settled_only s.front (rows_listed s.parts) → Stands rows shelf (seen_history seen)
      → HoldsWhole s (batches_seen seen)
  holds_opened shelf seen is stands =
      let history = seen_history seen in
      let here : Stands rows (settled_only s.front (rows_listed s.parts)) history =
      subst (λ held. Stands rows held history) is stands in
      let whole : length (batches_seen seen) ≡ s.front =
      let counted = here.counted in
      omega (arith, length-batches seen, length-seen seen) in
      record {
        whole = whole;
        are = subst (λ l. IsPermutation l (batch_rows (batches_seen seen))) same_parts
            (subst (IsPermutation (flat_map rows (rows_listed s.parts)))
            (numbered_batches (take s.front history)
            ∙ ap batch_rows (sym (take-map entry_rows s.front history) ∙ take_all s.front (batches_seen seen) (omega
            (arith, whole))))
            here.days);
        rows = have_rows history;
      }

  holds_front : (batches : List Batch) → HoldsWhole s batches → HoldsFront s batches
  holds_front batches holds = record {
    within = omega (arith, holds.whole);
    are = subst (AreOf (λ (part : Listed). part.rows) s.parts) (sym (take_all s.front batches (omega
        (arith, holds.whole))))
        holds.are;
  }

  -- So a round may begin.
  pub may_keep : (l : LockId) (p : PassState EntryRows) → IsPassOf l p → p.mark ≡ s.front → p.may_settle ≡ 1
      → HoldsWhole s (batches_seen p.seen) → MayKeep l s p
  may_keep l p is mark settles holds = record {
    of_desk = is;
    may_settle = omega (arith, settles);
    holds = holds_front (batches_seen p.seen) holds;
    mark = omega (arith, mark);
  }
