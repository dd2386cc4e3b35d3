-- When a batch is not committed, and when a swap is refused.
use Rattle.std.specs.Prelude.{◌≡◌, ℕ, ◌-◌, ◌^◌, ◌<◌, ◌≤◌, ◌==◌, List, length, codes, decimal, ◌++◌, Option, Some, None}
use Rattle.std.specs.Prelude.{if◌then◌else◌, IsSomeAnd}
use Rattle.log_model.specs.Core.{Contents, count_of, held_limit}
use Rattle.log_model.specs.History.{Numbered, with_batch}
use Rattle.log_core.specs.declared.fault.CommitFault.{CommitFault}
use Rattle.log_core.specs.declared.fault.CommitFault.TheVariants.{Full, Spent, Memory}
use Rattle.log_core.specs.declared.fault.SwapFault.{SwapFault}
use Rattle.log_core.specs.declared.fault.SwapFault.TheVariants as swaps

-- what prevents one more batch
abbrev pub commit_fault : {P : Type 0} → Contents P → Option CommitFault
commit_fault held =
    if length held.unsettled == held_limit then Some (Full held_limit)
    else (if count_of held == 2 ^ 63 - 1 then Some Spent
    else None)

-- A part comes back with the fault that prevents its commit. If no fault does, memory ran out, and the batch number of
-- its rows may have changed.
abbrev pub IsRefused : {P : Type 0} → (P → List Numbered) → Option CommitFault → P → CommitFault → P → Type 0
IsRefused rows (Some prevents) part fault back = (fault ≡ prevents) × (back ≡ part)
IsRefused rows None part fault back =
    (fault ≡ Memory) × ((number : ℕ) × (rows back ≡ with_batch number (rows part)))

-- the same of a part that may be gone, and is not
abbrev pub IsPartRefused : {P : Type 0} → (P → List Numbered) → Option CommitFault → P → CommitFault × Option P
    → Type 0
IsPartRefused rows (Some fault) part refusal = (refusal.0 ≡ fault) × (refusal.1 ≡ Some part)
IsPartRefused rows None part refusal = (refusal.0 ≡ Memory)
    × IsSomeAnd refusal.1 (λ back. (number : ℕ) × (rows back ≡ with_batch number (rows part)))

-- Why a swap to `front` is refused: more batches are settled, or memory ran out.
abbrev pub IsSwapRefused : ℕ → ℕ → SwapFault → Type 0
IsSwapRefused settled front (swaps.Behind s f) = (front < settled) × (s ≡ settled) × (f ≡ front)
IsSwapRefused settled front swaps.Memory = settled ≤ front

-- how a fault prints
abbrev pub fault_text : CommitFault → List ℕ
fault_text (Full held) = codes "full " ++ decimal held
fault_text Spent = codes "spent"
fault_text Memory = codes "no memory"

abbrev pub swap_fault_text : SwapFault → List ℕ
swap_fault_text (swaps.Behind settled front) = codes "behind " ++ decimal settled
swap_fault_text swaps.Memory = codes "no memory"
