-- What two slots that were read say.
use Rattle.std.proofs.Common.{◌≡◌, ◌≢◌, ◌∙◌, ℕ, List, ap, sym, subst, inl, inr}
use Rattle.std.specs.Prelude.{◌⊎◌, Option, Some, None}
use Rattle.vl_vault.specs.Disk.{Past, content}
use Rattle.vl_vault.specs.Moments.{Always, IsUnchanged}
use Rattle.vl_vault.proofs.Runs.{last}
use Rattle.parts_list.specs.declared.list.List.{List as Listing}
use Rattle.parts_list.specs.declared.list.ListFault.{ListFault}
use Rattle.parts_list.specs.declared.list.ListFault.TheVariants.{VaultFault, Memory}
use Rattle.parts_list.specs.Reading.{slot_with, IsFaultIn, IsFaultOf}
use Rattle.parts_list.specs.Slots.{Slot, Broken, slot_of, live, found_in}

not_broken : (list : Option Listing) → slot_with list ≢ Broken
not_broken None = λ is. absurd cc
not_broken (Some l) = λ is. absurd cc

-- the first slot was read, and then the second
module _ (old mid : Past) (first : Option Listing) (left : slot_of 0 (content old 0) ≡ slot_with first)
    (run : Always (IsUnchanged old) old mid) where
  same : content mid 1 ≡ content old 1
  same = (last run).read 1

  -- the live list of both
  pub both_found : (second result : Option Listing) → slot_of 1 (content mid 1) ≡ slot_with second
      → live (slot_with first) (slot_with second) ≡ Some result → found_in (content old) ≡ Some result
  both_found second result right newer =
      ap (λ (s : Slot). live s (slot_of 1 (content old 1))) left
      ∙ ap (λ f. live (slot_with first) (slot_of 1 f)) (sym same)
      ∙ ap (λ (s : Slot). live (slot_with first) s) right
      ∙ newer

  -- the fault of the second slot, where the first has a list or is closed
  pub second_fault : (fault : ListFault) → IsFaultIn fault 1 (content mid 1) → IsFaultOf fault (content old)
  second_fault fault here =
      inr ((λ broken. not_broken first (sym left ∙ broken)), subst (λ f. IsFaultIn fault 1 f) same here)

-- a fault that says nothing of the bytes
pub outside_fault : (slot : ℕ) (bytes : List ℕ) (fault : ListFault) → (fault ≡ VaultFault) ⊎ (fault ≡ Memory)
    → IsFaultIn fault slot bytes
outside_fault slot bytes fault (inl is) = subst (λ f. IsFaultIn f slot bytes) (sym is) tt
outside_fault slot bytes fault (inr is) = subst (λ f. IsFaultIn f slot bytes) (sym is) tt
