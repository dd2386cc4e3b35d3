-- Batches that are held as the parts of their rows.
use Rattle.std.proofs.Common.{◌≡◌, ℕ, ◌<◌, List, length, refl, sym, subst, ◌∙◌, arith}
use Rattle.std.specs.Prelude.{Option, Some, None}
use Rattle.std.specs.List.Sorted.{IsPermutation}
use Rattle.std.proofs.lemmas.List.Sorted.{length_permutation}
use Rattle.log_model.specs.History.{AreBatch, AreRowsOf, Numbered, numbered_in, with_batch}
use Rattle.log_model.specs.Row.{Batch}
use Rattle.log_model.proofs.Numbering.{batch_with_number, length_numbered}
use Rattle.log_core.specs.Faults.{IsRefused}
use Rattle.log_core.specs.declared.fault.CommitFault.{CommitFault}
use Rattle.log_core.proofs.EntryLaws.{in_order}
use Rattle.log_desk.specs.Prepared.{batch_in}

-- A part of a batch holds that batch.
pub prepared_is : (part : List Numbered) (batch : Batch) → 0 < length batch → AreRowsOf part batch
    → batch_in part ≡ batch
prepared_is part batch some are = in_order part batch some are

-- The part has a row for each row of the batch.
count_of_rows : (part : List Numbered) (batch : Batch) → AreRowsOf part batch → length part ≡ length batch
count_of_rows part batch are =
    omega (arith, length_permutation part (numbered_in are.0 batch) are.1, length_numbered are.0 0 batch)

-- A part of some batch has the rows of this batch only, so it holds this batch.
pub prepared_of : (part : List Numbered) (batch : Batch) → AreBatch part → AreRowsOf part batch
    → batch_in part ≡ batch
prepared_of part batch (other, some, its) are =
    prepared_is part batch
    (omega (arith, some, count_of_rows part other its, count_of_rows part batch are)) are

-- The batch that the part holds.
pub record IsPartOf (part : List Numbered) (batch : Batch) : Type 0 where
  pub some : 0 < length batch
  pub are : AreRowsOf part batch

pub prepared_batch : (part : List Numbered) → AreBatch part → IsPartOf part (batch_in part)
prepared_batch part (batch, some, are) =
    subst (IsPartOf part) (sym (prepared_is part batch some are)) (record { some = some; are = are })

-- Under another number it holds the same batch.
pub renumbered : (part back : List Numbered) (number : ℕ) → AreBatch part → back ≡ with_batch number part
    → AreBatch back × (batch_in back ≡ batch_in part)
renumbered part back number (batch, some, are) is =
    let has : AreRowsOf back batch = (
      number,
      subst (λ list. IsPermutation list (numbered_in number batch)) (sym is) (batch_with_number number part batch are),
    ) in (
      (batch, some, has),
      prepared_is back batch some has ∙ sym (prepared_is part batch some are),
    )

-- A part that is refused holds the same batch.
pub returned : (prevents : Option CommitFault) (part back : List Numbered) (fault : CommitFault)
    → IsRefused (λ rows. rows) prevents part fault back → AreBatch part
    → AreBatch back × (batch_in back ≡ batch_in part)
returned (Some found) part back fault refused are =
    subst (λ rows. AreBatch rows × (batch_in rows ≡ batch_in part)) (sym refused.1) (are, refl)
returned None part back fault refused are = renumbered part back refused.1.0 are refused.1.1
