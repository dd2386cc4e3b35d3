-- Filling picked rows into blocks.
use Rattle.std.proofs.Common.{◌≡◌, ℕ, ◌<◌, ◌≤◌, List, [], ◌∷◌, ◌++◌, length, get_or, take, drop, sym, ap, subst, ◌∙◌, arith}
use Rattle.std.proofs.lemmas.List.{append-nil, length-drop, take-append-drop}
use Rattle.log_model.specs.History.{Numbered}
use Rattle.block_format.specs.Rows.{IsBlock}
use Rattle.part_model.specs.Ends.{EndsBlock}
use Rattle.part_model.specs.Filling.{AreFilled, IsFull, rows_in_blocks}
use Rattle.part_model.proofs.FillLaws.{AreOrdered, FillUpTo, fill-done, fill-more, first-block, ordered-behind}

-- what is left while blocks are filled
pub record IsLeft (blocks : List (List Numbered)) (left rows : List Numbered) : Type 0 where
  pub filled : FillUpTo blocks left rows
  pub ordered : AreOrdered left

-- one block more, of the first of the rows that are left
pub fill-next : (blocks new : List (List Numbered)) (block old left rows taken : List Numbered) (end : ℕ)
    → IsLeft blocks old rows → EndsBlock old end → taken ≡ take end old → block ≡ taken → left ≡ drop end old
    → new ≡ blocks ++ block ∷ [] → IsLeft new left rows
fill-next blocks new block old left rows taken end h ends is_taken is_block is_left is_new =
    let first : block ≡ take end old = is_block ∙ is_taken in
    let parts : old ≡ block ++ left = sym (take-append-drop end old) ∙ ap (λ (l : List Numbered). l ++ drop end old) (sym
    first) ∙ ap (λ (l : List Numbered). block ++ l) (sym is_left) in
    let one : IsBlock block = subst IsBlock (sym first) (first-block old end h.ordered ends) in
    let full : IsFull block left = subst (IsFull block) (sym is_left) (subst (λ (l : List Numbered). IsFull l (drop end old))
    (sym first) ends.full) in
    record {
      filled = subst (λ (l : List (List Numbered)). FillUpTo l left rows) (sym is_new) (fill-more blocks block left old rows
          parts one full h.filled);
      ordered = ordered-behind block left (subst AreOrdered parts h.ordered);
    }

pub left-shorter : (old left : List Numbered) (end : ℕ) → left ≡ drop end old → EndsBlock old end
    → length left < length old
left-shorter old left end is_left ends =
    omega (arith, ap length is_left, length-drop end old, ends.some, ends.there)

pub fill-end : (blocks : List (List Numbered)) (queue : List (List Numbered)) (rows : List Numbered) → length queue ≡ 0
    → IsLeft blocks (rows_in_blocks queue) rows → AreFilled blocks rows
fill-end blocks [] rows none h = fill-done blocks [] rows (omega arith) h.filled
fill-end blocks (p ∷ queue) rows none h = absurd (omega (arith, none))

pub one-block : (picks : List (List Numbered)) (pick block : List Numbered) → length picks ≡ 1 → (d : List Numbered)
    → block ≡ get_or picks 0 d → block ≡ rows_in_blocks picks
one-block [] pick block n d e = absurd (omega (arith, n))
one-block (p ∷ []) pick block n d e = e ∙ sym (append-nil p)
one-block (p ∷ q ∷ picks) pick block n d e = absurd (omega (arith, n))
