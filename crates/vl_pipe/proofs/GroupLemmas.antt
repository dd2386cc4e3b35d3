-- Groups of lines, one after another.
use Rattle.std.proofs.Common.{◌≡◌, ◌⊎◌, inl, inr, ℕ, suc, ◌+◌, ◌<◌, ◌≤◌, List, [], ◌∷◌, ◌++◌, length, refl, sym, ap}
use Rattle.std.proofs.Common.{subst, ◌∙◌, arith, append_assoc}
use Rattle.std.proofs.lemmas.Grind.{flat_map-append}
use Rattle.std.specs.List.{AllByRecursion, AllZip}
use Rattle.ingest_row.specs.Intake.{Outcome, passed_over, read, refused, rows_read}
use Rattle.lone_desk.specs.Alone.{batches_of_rows}
use Rattle.vl_pipe.specs.Groups.{Arrival, AreGroups, EndsLine, HasOutcome, HaveOutcomes, batches_of, outcomes_in}
use Rattle.vl_pipe.specs.Groups.{refusals_from, refusals_of, refusal_text}
use Rattle.vl_pipe.specs.Load.{AreWhole}
use Rattle.log_model.specs.Line.{lines_of}
use Rattle.vl_pipe.proofs.LineLemmas.{lines_of-after}

pub append_nil : {X : Type 0} (xs : List X) → xs ++ [] ≡ xs
append_nil [] = refl
append_nil (x ∷ xs) = ap (λ ys. x ∷ ys) (append_nil xs)

pub AllByRecursion-more : {X : Type 0} (P : X → Type 0) (xs : List X) (x : X) → AllByRecursion P xs → P x
    → AllByRecursion P (xs ++ x ∷ [])
AllByRecursion-more P [] x all p = (p, tt)
AllByRecursion-more P (y ∷ ys) x all p = (all.0, AllByRecursion-more P ys x all.1 p)

AllZip-append : {X Y : Type 0} (R : X → Y → Type 0) (xs : List X) (ys : List Y) (us : List X) (vs : List Y)
    → AllZip R xs ys → AllZip R us vs → AllZip R (xs ++ us) (ys ++ vs)
AllZip-append R [] [] us vs p q = q
AllZip-append R (x ∷ xs) (y ∷ ys) us vs p q = (p.0, AllZip-append R xs ys us vs p.1 q)
AllZip-append R [] (y ∷ ys) us vs p q = absurd p
AllZip-append R (x ∷ xs) [] us vs p q = absurd p

pub AllZip-length : {X Y : Type 0} (R : X → Y → Type 0) (xs : List X) (ys : List Y) → AllZip R xs ys → length xs
    ≡ length ys
AllZip-length R [] [] p = refl
AllZip-length R (x ∷ xs) (y ∷ ys) p = ap suc (AllZip-length R xs ys p.1)
AllZip-length R [] (y ∷ ys) p = absurd p
AllZip-length R (x ∷ xs) [] p = absurd p

pub outcomes-more : (groups : List (List Outcome)) (group : List Outcome) → outcomes_in (groups ++ group ∷ [])
    ≡ outcomes_in groups ++ group
outcomes-more groups group =
    flat_map-append (λ (g : List Outcome). g) groups (group ∷ []) ∙ ap (λ l. outcomes_in groups ++ l) (append_nil group)

pub batches-more : (groups : List (List Outcome)) (group : List Outcome) → batches_of (groups ++ group ∷ [])
    ≡ batches_of groups ++ batches_of_rows (rows_read group)
batches-more groups group =
    flat_map-append (λ (g : List Outcome). batches_of_rows (rows_read g)) groups (group ∷ []) ∙ ap
    (λ l. batches_of groups ++ l) (append_nil (batches_of_rows (rows_read group)))

refusals_from-append : (number : ℕ) (os more : List Outcome) → refusals_from number (os ++ more)
    ≡ refusals_from number os ++ refusals_from (number + length os) more
refusals_from-append number [] more = ap (λ n. refusals_from n more) (omega arith)
refusals_from-append number (passed_over ∷ os) more = refusals_from-append (suc number) os more ∙ ap
    (λ n. refusals_from (suc number) os ++ refusals_from n more) (omega arith)
refusals_from-append number (read row ∷ os) more = refusals_from-append (suc number) os more ∙ ap
    (λ n. refusals_from (suc number) os ++ refusals_from n more) (omega arith)
refusals_from-append number (refused kind ∷ os) more =
    ap (λ l. refusal_text number kind ++ l)
    (refusals_from-append (suc number) os more ∙ ap (λ n. refusals_from (suc number) os ++ refusals_from n more)
    (omega arith))
    ∙ sym (append_assoc (refusal_text number kind) (refusals_from (suc number) os)
    (refusals_from (number + suc (length os)) more))

-- the names of the refused lines of one group more
pub refusals-more : (groups : List (List Outcome)) (group : List Outcome) (before : ℕ) → before ≡ length
    (outcomes_in groups)
    → refusals_of (groups ++ group ∷ []) ≡ refusals_of groups ++ refusals_from (before + 1) group
refusals-more groups group before same =
    ap (refusals_from 1) (outcomes-more groups group) ∙ refusals_from-append 1 (outcomes_in groups) group
    ∙ ap (λ n. refusals_from 1 (outcomes_in groups) ++ refusals_from n group) (omega (arith, same))

pub AreGroups-whole : (groups : List (List Outcome)) (over : Type 0) → AreWhole groups → AreGroups groups over
AreGroups-whole [] over whole = tt
AreGroups-whole (g ∷ gs) over whole =
    (omega (arith, whole.0), omega (arith, whole.0), inl whole.0, AreGroups-whole gs over whole.1)

pub AreGroups-more : (groups : List (List Outcome)) (group : List Outcome) (over : Type 0) → AreWhole groups
    → 0 < length group → length group ≤ 1000 → (length group ≡ 1000) ⊎ over
    → AreGroups (groups ++ group ∷ []) over
AreGroups-more [] group over whole some few (inl full) = (some, few, inl full, tt)
AreGroups-more [] group over whole some few (inr last) = (some, few, inr (refl, last), tt)
AreGroups-more (g ∷ gs) group over whole some few last =
    (omega (arith, whole.0), omega (arith, whole.0), inl whole.0, AreGroups-more gs group over whole.1 some few last)

weaken : {A B C D : Type 0} → (C → D) → A ⊎ (B × C) → A ⊎ (B × D)
weaken f (inl a) = inl a
weaken f (inr p) = inr (p.0, f p.1)

pub AreGroups-weaken : (groups : List (List Outcome)) (a b : Type 0) → (a → b) → AreGroups groups a → AreGroups groups b
AreGroups-weaken [] a b f are = tt
AreGroups-weaken (g ∷ gs) a b f are = (are.0, are.1, weaken f are.2, AreGroups-weaken gs a b f are.3)

-- one group more
pub intake-more : (arrival : Arrival) (taken body : List ℕ) (groups : List (List Outcome)) (group : List Outcome)
    → EndsLine taken → HaveOutcomes arrival taken (outcomes_in groups) → HaveOutcomes arrival body group
    → HaveOutcomes arrival (taken ++ body) (outcomes_in (groups ++ group ∷ []))
intake-more arrival taken body groups group ends before here =
    subst (HaveOutcomes arrival (taken ++ body)) (sym (outcomes-more groups group))
    (subst (λ ls. AllZip (HasOutcome arrival) ls (outcomes_in groups ++ group)) (sym (lines_of-after taken body ends))
    (AllZip-append (HasOutcome arrival) (lines_of taken) (outcomes_in groups) (lines_of body) group before here))
