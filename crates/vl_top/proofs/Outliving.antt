-- What a crash leaves of the batches that a store held, and of further ones.
use Rattle.std.proofs.Common.{◌≡◌, ℕ, zero, suc, ◌+◌, List, [], ◌∷◌, ◌++◌, length, take, append-nil, append_assoc, ap, arith}
use Rattle.std.proofs.Common.{length-append, subst, sym, ◌∙◌}
use Rattle.std.specs.List.Sorted.{IsPermutation}
use Rattle.std.proofs.lemmas.List.Sorted.{IsPermutation-append_left, IsPermutation-sym, IsPermutation-trans}
use Rattle.log_model.specs.Batches.{batch_rows, batch_rows_after}
use Rattle.log_model.specs.History.{numbered_in}
use Rattle.log_model.specs.Row.{Batch}
use Rattle.vl_vault.specs.Disk.{Image, Past}
use Rattle.vl_vault.specs.Moments.{Always, EachImage}
use Rattle.vl_vault.proofs.Runs.{join, weaken}
use Rattle.part_store.specs.Finds.{Finds, FindsParts, HoldsWhole}
use Rattle.part_store.specs.State.{StoreState}
use Rattle.vl_serve.specs.Keeping.{FindsOnward}

pub same_vault : {V : Type 0} {a b : StoreState V} → a ≡ b → a.vault ≡ b.vault
same_vault is = ap (λ s. s.vault) is

pub same_halted : {V : Type 0} {a b : StoreState V} → a ≡ b → a.halted ≡ b.halted
same_halted is = ap (λ s. s.halted) is

rows_append : (count : ℕ) (a b : List Batch)
    → batch_rows_after count (a ++ b) ≡ batch_rows_after count a ++ batch_rows_after (count + length a) b
rows_append count [] b = ap (λ n. batch_rows_after n b) (omega arith)
rows_append count (batch ∷ a) b =
    ap (λ rows. numbered_in (suc count) batch ++ rows) (rows_append (suc count) a b
    ∙ ap (λ n. batch_rows_after (suc count) a ++ batch_rows_after n b) (omega arith))
    ∙ sym (append_assoc (numbered_in (suc count) batch) (batch_rows_after (suc count) a)
    (batch_rows_after (count + length (batch ∷ a)) b))

module _ {V : Type 0} (store : StoreState V) (a b : List Batch) (first : HoldsWhole store a) (second : HoldsWhole store b) where
  -- Two lists of batches that the store holds have the same numbered rows, whatever follows them.
  same_rows : (x : List Batch) → IsPermutation (batch_rows (a ++ x)) (batch_rows (b ++ x))
  same_rows x =
      let long : 0 + length a ≡ 0 + length b = omega (arith, first.whole, second.whole) in
      subst (λ rows. IsPermutation rows (batch_rows (b ++ x))) (sym (rows_append 0 a x))
      (subst (IsPermutation (batch_rows_after 0 a ++ batch_rows_after (0 + length a) x)) (sym (rows_append 0 b x))
      (subst (λ n. IsPermutation (batch_rows_after 0 a ++ batch_rows_after (0 + length a) x)
      (batch_rows_after 0 b ++ batch_rows_after n x)) long
      (IsPermutation-append_left (batch_rows_after (0 + length a) x) (batch_rows a) (batch_rows b)
      (IsPermutation-trans (batch_rows a) _ (batch_rows b) (IsPermutation-sym _ (batch_rows a) first.are) second.are))))

  pub finds_same : (x : List Batch) (image : Image) → Finds (a ++ x) image → Finds (b ++ x) image
  finds_same x image (parts, found, are) =
      let long : length (a ++ x) ≡ length (b ++ x)
      = omega (arith, first.whole, second.whole, length-append a x, length-append b x) in (
        parts,
        subst (λ n. FindsParts n parts image) long found,
        IsPermutation-trans _ (batch_rows (a ++ x)) (batch_rows (b ++ x)) are (same_rows x),
      )

-- each image finds the batches and perhaps further ones
pub found_onward : (held : List Batch) (old new : Past) → Always (EachImage (Finds held)) old new
    → Always (EachImage (FindsOnward held)) old new
found_onward held old new =
    weaken (λ past each image may. ([], subst (λ batches. Finds batches image) (sym (append-nil held)) (each image may)))

take_whole : (n : ℕ) (batches : List Batch) → length batches ≡ n → take n batches ≡ batches
take_whole n [] is = cc
take_whole zero (batch ∷ batches) is = absurd (omega (arith, is))
take_whole (suc n) (batch ∷ batches) is = ap (λ rest. batch ∷ rest) (take_whole n batches (omega (arith, is)))

-- At first each image finds what was held. Then rounds of the store follow, which had just that.
pub outlives : {V : Type 0} (store : StoreState V) (held seen : List Batch) (old mid new : Past) → HoldsWhole store held
    → HoldsWhole store seen → Always (EachImage (Finds held)) old mid
    → Always (EachImage (FindsOnward (take store.front seen))) mid new → Always (EachImage (FindsOnward held)) old new
outlives store held seen old mid new holds has first then =
    join (found_onward held old mid first)
    (weaken (λ past each image may.
    let found = each image may in (
      found.0,
      finds_same store seen held has holds found.0 image
          (subst (λ batches. Finds (batches ++ found.0) image) (take_whole store.front seen has.whole) found.1),
    ))
    then)
