-- How a part holds its rows.
use Rattle.std.proofs.Common.{◌≡◌, ℕ, suc, ◌+◌, ◌^◌, ◌<◌, ◌≤◌, List, [], ◌∷◌, ◌++◌, length, map, take, get_or, drop, sym, ap, subst, ◌∙◌}
use Rattle.std.proofs.Common.{arith}
use Rattle.std.proofs.lemmas.List.{drop-drop, length-drop, length-take, map-append, take_more, take-append-drop}
use Rattle.std.proofs.lemmas.List.Concat.{flat_map-append}
use Rattle.std.proofs.lemmas.List.Sums.{sum_by-append}
use Rattle.log_model.specs.Field.{weight}
use Rattle.log_model.specs.History.{AreOfOneBatch, Numbered, numbered_from, numbered_in, rows_in, with_batch}
use Rattle.log_model.specs.Row.{Batch, IsBatch, Row, batch_weight}
use Rattle.part_model.specs.Filling.{AreFilled, IsFull, rows_in_blocks}
use Rattle.part_model.specs.Part.{IsPart, rows_weight}
use Rattle.part_model.proofs.UnderLaws.{blocks-under, filled-under, length-under, part-under, rows-under}
use Rattle.std.specs.List.Sorted.{IsPermutation}
use Rattle.std.proofs.lemmas.List.Sorted.{IsPermutation-sym}
use Rattle.block_format.specs.Rows.{IsBlock}
use Rattle.part_model.specs.Ends.{EndsBlock}
use Rattle.part_model.proofs.FillLaws.{AreOrdered, FillUpTo, fill-done, fill-more, first-block, ordered-behind}
use Rattle.part_model.proofs.RowLaws.{rows-weigh}
use Rattle.part_file.specs.Holds.{HoldsPart}

abbrev numbered_one : ℕ → ℕ → Row → Numbered
numbered_one batch place row = record { batch = batch; place = place; row = row }

pub holds-part : (blocks : List (List Numbered)) (rows : List Numbered) (count weight : ℕ) → IsPart rows
    → AreFilled blocks rows → count ≡ length rows → weight ≡ rows_weight (rows_in_blocks blocks)
    → HoldsPart blocks count weight
holds-part blocks rows count weight part filled n w = record {
  part = subst IsPart (sym filled.all) part;
  filled = subst (AreFilled blocks) (sym filled.all) filled;
  count = n ∙ ap length (sym filled.all);
  sum = w;
}

pub holds-under : (number : ℕ) (blocks new : List (List Numbered)) (count weight : ℕ) → new ≡ map (with_batch number) blocks
    → AreOfOneBatch (rows_in_blocks blocks) → HoldsPart blocks count weight → HoldsPart new count weight
holds-under number blocks new count weight e one h =
    let rows : rows_in_blocks new ≡ with_batch number (rows_in_blocks blocks) = ap rows_in_blocks e ∙ blocks-under number
    blocks in
    let filled : AreFilled new (with_batch number (rows_in_blocks blocks)) =
    subst (λ (l : List (List Numbered)). AreFilled l (with_batch number (rows_in_blocks blocks))) (sym e) (filled-under
    number blocks (rows_in_blocks blocks) one h.filled) in
    record {
      part = subst IsPart (sym rows) (part-under number (rows_in_blocks blocks) one h.part);
      filled = subst (AreFilled new) (sym rows) filled;
      count = h.count ∙ sym (ap length rows ∙ length-under number (rows_in_blocks blocks));
      sum = h.sum ∙ sym (ap rows_weight rows ∙ ap batch_weight (rows-under number (rows_in_blocks blocks)));
    }

-- ---- the rows of a batch

numbered-last : (batch place : ℕ) (rows : List Row) (row : Row)
    → numbered_from batch place (rows ++ row ∷ [])
    ≡ numbered_from batch place rows ++ record { batch = batch; place = place + length rows; row = row } ∷ []
numbered-last batch place [] row =
    let same : place ≡ place + 0 = omega arith in
    ap (λ (k : ℕ). numbered_one batch k row ∷ []) same
numbered-last batch place (r ∷ rows) row =
    let same : suc place + length rows ≡ place + suc (length rows) = omega arith in
    ap (λ (l : List Numbered). numbered_one batch place r ∷ l) (numbered-last batch (suc place) rows row
    ∙ ap (λ (k : ℕ). numbered_from batch (suc place) rows ++ numbered_one batch k row ∷ []) same)

pub numbered-more : (rows : List Row) (i : ℕ) (row : Row) → i < length rows → row ≡ get_or rows i row
    → numbered_in 0 (take (i + 1) rows) ≡ numbered_in 0 (take i rows) ++ record { batch = 0; place = i; row = row } ∷ []
numbered-more rows i row lt is =
    let more : take (i + 1) rows ≡ take i rows ++ row ∷ [] = take_more rows i row lt
    ∙ ap (λ (r : Row). take i rows ++ r ∷ []) (sym is) in
    let count : 0 + length (take i rows) ≡ i = omega (arith, length-take i rows, lt) in
    ap (numbered_in 0) more ∙ numbered-last 0 0 (take i rows) row
    ∙ ap (λ (k : ℕ). numbered_in 0 (take i rows) ++ numbered_one 0 k row ∷ []) count

pub few-places : (rows : Batch) (i : ℕ) → IsBatch rows → i < length rows → i < 2 ^ 32
few-places rows i h lt = omega (arith, rows-weigh rows h.each, h.light, lt)

-- ---- weights

weight-append : (xs ys : List Numbered) → rows_weight (xs ++ ys) ≡ rows_weight xs + rows_weight ys
weight-append xs ys =
    ap batch_weight (map-append (λ (n : Numbered). n.row) xs ys)
    ∙ sum_by-append (λ (row : Row). weight row.fields) (rows_in xs) (rows_in ys)

weight-last : (blocks : List (List Numbered)) (block : List Numbered)
    → rows_weight (rows_in_blocks (blocks ++ block ∷ [])) ≡ rows_weight (rows_in_blocks blocks) + rows_weight block
weight-last blocks block =
    let rows : rows_in_blocks (blocks ++ block ∷ []) ≡ rows_in_blocks blocks ++ (block ++ []) = flat_map-append (λ (b : List
    Numbered). b) blocks (block ∷ []) in
    omega (arith, ap rows_weight rows, weight-append (rows_in_blocks blocks) (block ++ []), weight-append block [])

pub weight-more : (blocks : List (List Numbered)) (i : ℕ) (block : List Numbered) → i < length blocks
    → block ≡ get_or blocks i block
    → rows_weight (rows_in_blocks (take (i + 1) blocks)) ≡ rows_weight (rows_in_blocks (take i blocks)) + rows_weight block
weight-more blocks i block lt is =
    let more : take (i + 1) blocks ≡ take i blocks ++ block ∷ [] = take_more blocks i block lt ∙ ap (λ (b : List Numbered).
    take i blocks ++ b ∷ []) (sym is) in
    ap (λ (l : List (List Numbered)). rows_weight (rows_in_blocks l)) more ∙ weight-last (take i blocks) block

pub weight-part : (blocks : List (List Numbered)) (i : ℕ)
    → rows_weight (rows_in_blocks (take i blocks)) ≤ rows_weight (rows_in_blocks blocks)
weight-part blocks i =
    let parts : rows_in_blocks blocks ≡ rows_in_blocks (take i blocks) ++ rows_in_blocks (drop i blocks) =
    ap rows_in_blocks (sym (take-append-drop i blocks)) ∙ flat_map-append (λ (b : List Numbered). b) (take i blocks) (drop i
    blocks) in
    omega (arith, ap rows_weight parts, weight-append (rows_in_blocks (take i blocks)) (rows_in_blocks (drop i blocks)))

-- ---- blocks that are filled

pub record IsNext (blocks : List (List Numbered)) (start : ℕ) (rows : List Numbered) : Type 0 where
  pub there : start ≤ length rows
  pub filled : FillUpTo blocks (drop start rows) rows
  pub ordered : AreOrdered (drop start rows)

-- one block more, of the rows from the start on
pub fill-next : (blocks new : List (List Numbered)) (block rest rows : List Numbered) (start end : ℕ)
    → start ≤ length rows → AreOrdered (drop start rows) → rest ≡ drop start rows → EndsBlock rest end
    → block ≡ take end rest → new ≡ blocks ++ block ∷ [] → FillUpTo blocks (drop start rows) rows
    → IsNext new (start + end) rows
fill-next blocks new block rest rows start end le ordered is_rest ends is_block is_new filled =
    let after : drop end rest ≡ drop (start + end) rows = ap (drop end) is_rest ∙ drop-drop end start rows in
    let parts : drop start rows ≡ block ++ drop (start + end) rows = sym is_rest ∙ sym (take-append-drop end rest)
    ∙ ap (λ (l : List Numbered). l ++ drop end rest) (sym is_block) ∙ ap (λ (l : List Numbered). block ++ l) after in
    let order : AreOrdered rest = subst AreOrdered (sym is_rest) ordered in
    let one : IsBlock block = subst IsBlock (sym is_block) (first-block rest end order ends) in
    let full : IsFull block (drop (start + end) rows) = subst (IsFull block) after (subst (λ (l : List Numbered). IsFull l
    (drop end rest)) (sym is_block) ends.full) in
    record {
      there = omega (arith, ends.there, ap length is_rest, length-drop start rows, le);
      filled = subst (λ (l : List (List Numbered)). FillUpTo l (drop (start + end) rows) rows) (sym is_new) (fill-more blocks
          block (drop (start + end) rows) (drop start rows) rows parts one full filled);
      ordered = ordered-behind block (drop (start + end) rows) (subst AreOrdered parts ordered);
    }

pub fill-end : (blocks : List (List Numbered)) (rows : List Numbered) (start : ℕ) → length rows ≤ start
    → FillUpTo blocks (drop start rows) rows → AreFilled blocks rows
fill-end blocks rows start le filled =
    fill-done blocks (drop start rows) rows (omega (arith, length-drop start rows, le)) filled

-- ---- the same rows in another order

pub permuted-back : (rows sorted part : List Numbered) → IsPermutation rows sorted → part ≡ sorted
    → IsPermutation part rows
permuted-back rows sorted part same is =
    subst (λ (l : List Numbered). IsPermutation l rows) (sym is) (IsPermutation-sym rows sorted same)

pub permuted-to : (part xs ys : List Numbered) → IsPermutation part xs → xs ≡ ys → IsPermutation part ys
permuted-to part xs ys same is = subst (IsPermutation part) is same
