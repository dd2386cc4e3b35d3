-- What is found, one row after another.
use Rattle.std.proofs.Common.{◌≡◌, ℕ, ℤ, zero, suc, ◌+◌, ◌<◌, Bool, true, false, cond, List, [], ◌∷◌, ◌++◌}
use Rattle.std.proofs.Common.{length, map}
use Rattle.std.proofs.Common.{append-nil, append_assoc, flat_map, get_or, take, Some, refl, sym, ap, ◌∙◌}
use Rattle.std.specs.Prelude.{Result, Ok, Err, IfErr, IsErrAnd}
use Rattle.std.proofs.lemmas.List.{get_or-map, take_more}
use Rattle.std.proofs.lemmas.List.Concat.{flat_map-append}
use Rattle.std.proofs.lemmas.List.Elements.{filter-append}
use Rattle.std.proofs.lemmas.Option.{get_or_from_slice_get, none-some, slice_get_within}
use Rattle.std.specs.List.{filter, slice_get}
use Rattle.log_model.specs.History.{Numbered}
use Rattle.column_block.specs.InColumns.{InColumns, no_row}
use Rattle.matching_rows.specs.Found.{IsFound, row_there}
use Rattle.lq_ast.specs.Condition.{Condition}
use Rattle.matching_rows.specs.Matches.{matches_in}
use Rattle.matching_rows.specs.declared.found.Found.{Found}

-- ---- a row that is found

-- what a function gives of a list's items
pub mapped_there : {X Y : Type 0} (f : X → Y) (xs : List X) (i : ℕ) (x : X) (y : Y) → slice_get xs i ≡ Some x
    → slice_get (map f xs) i ≡ Some y → f x ≡ y
mapped_there f [] i x y is made = absurd (none-some x is)
mapped_there f (z ∷ zs) zero x y is made =
    let same : Some z ≡ Some x = is in
    let there : Some (f z) ≡ Some y = made in cc
mapped_there f (z ∷ zs) (suc i) x y is made = mapped_there f zs i x y is made

module _ (opened : List (List Numbered)) (f : Found) (x : Numbered) where
  -- the row that stands there
  pub there : slice_get (get_or opened f.block []) f.row ≡ Some x → row_there opened f ≡ x
  there is = get_or_from_slice_get (get_or opened f.block []) f.row x no_row is

  pub is_found : f.block < length opened → slice_get (get_or opened f.block []) f.row ≡ Some x
      → f.batch ≡ x.batch → f.place ≡ x.place → IsFound opened f
  is_found block is batch place =
      record {
        block = block;
        row = slice_get_within (get_or opened f.block []) f.row x is;
        batch = batch ∙ ap (λ (r : Numbered). r.batch) (sym (there is));
        place = place ∙ ap (λ (r : Numbered). r.place) (sym (there is));
      }

-- what is marked of a row
pub marked : (test : Numbered → Bool) (mask : List Bool) (rows : List Numbered) (i : ℕ) (m : Bool)
    → mask ≡ map test rows → i < length rows → get_or mask i m ≡ test (get_or rows i no_row)
marked test mask rows i m is within = ap (λ l. get_or l i m) is ∙ get_or-map test rows i no_row m within

-- ---- the rows that pass, one row more

module _ (test : Numbered → Bool) where
  more : (rows : List Numbered) (i : ℕ) (x : Numbered) → slice_get rows i ≡ Some x
      → filter test (take (i + 1) rows) ≡ filter test (take i rows) ++ cond (test x) (x ∷ []) []
  more rows i x is =
      let at : get_or rows i x ≡ x = get_or_from_slice_get rows i x x is in
      ap (filter test) (take_more rows i x (slice_get_within rows i x is))
      ∙ filter-append test (take i rows) (get_or rows i x ∷ [])
      ∙ ap (λ r. filter test (take i rows) ++ cond (test r) (r ∷ []) []) at

  -- a row that passes goes to the end
  pub passed : (before found new rows : List Numbered) (i : ℕ) (x : Numbered) → slice_get rows i ≡ Some x
      → test x ≡ true → found ≡ before ++ filter test (take i rows) → new ≡ found ++ x ∷ []
      → new ≡ before ++ filter test (take (i + 1) rows)
  passed before found new rows i x is passes so_far pushed =
      pushed ∙ ap (λ l. l ++ x ∷ []) so_far ∙ append_assoc before (filter test (take i rows)) (x ∷ [])
      ∙ ap (λ l. before ++ l)
      (sym (more rows i x is ∙ ap (λ b. filter test (take i rows) ++ cond b (x ∷ []) []) passes))

  -- another is left out
  pub left_out : (before found rows : List Numbered) (i : ℕ) (x : Numbered) → slice_get rows i ≡ Some x
      → test x ≡ false → found ≡ before ++ filter test (take i rows)
      → found ≡ before ++ filter test (take (i + 1) rows)
  left_out before found rows i x is fails so_far =
      so_far
      ∙ ap (λ l. before ++ l)
      (sym (more rows i x is ∙ ap (λ b. filter test (take i rows) ++ cond b (x ∷ []) []) fails
      ∙ append-nil (filter test (take i rows))))

  -- ---- one block more

  pub block_more : (blocks : List (List Numbered)) (i : ℕ) → i < length blocks
      → filter test (flat_map (λ rows. rows) (take (i + 1) blocks))
      ≡ filter test (flat_map (λ rows. rows) (take i blocks)) ++ filter test (get_or blocks i [])
  block_more blocks i within =
      let first = take i blocks in
      let one = get_or blocks i [] in
      ap (λ l. filter test (flat_map (λ rows. rows) l)) (take_more blocks i [] within)
      ∙ ap (filter test) (flat_map-append (λ rows. rows) first (one ∷ [])
      ∙ ap (λ l. flat_map (λ rows. rows) first ++ l) (append-nil one))
      ∙ filter-append test (flat_map (λ rows. rows) first) one

-- ---- why rows are not gathered

-- what holds of an error holds of what it became
pub if_err : {T E : Type 0} (result : Result T E) (Q P : E → Type 0) → IsErrAnd result Q → ((e : E) → Q e → P e)
    → IfErr result P
if_err (Ok x) P Q is f = tt
if_err (Err e) Q P is f = f e is

-- the same condition at the same moment
pub matches_same : (condition other : Condition) (now later : ℤ) (rows : List Numbered) → condition ≡ other
    → now ≡ later → matches_in condition now rows ≡ matches_in other later rows
matches_same condition other now later rows same at_once =
    ap (λ c. matches_in c now rows) same ∙ ap (λ n. matches_in other n rows) at_once

-- ---- rows that are lent

pub rows_of : (rows : List InColumns)
    → map (λ row. row.numbered.row) rows ≡ map (λ row. row.row) (map (λ row. row.numbered) rows)
rows_of [] = refl
rows_of (row ∷ rows) = ap (λ l. row.numbered.row ∷ l) (rows_of rows)
