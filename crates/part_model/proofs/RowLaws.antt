-- The rows of a batch, and their weights.
use Rattle.std.proofs.Common.{◌≡◌, ℕ, zero, suc, ◌+◌, ◌*◌, ◌<◌, ◌≤◌, Bool, true, eqb, List, [], ◌∷◌, ◌++◌}
use Rattle.std.proofs.Common.{length, refl, ap, arith}
use Rattle.std.specs.Prelude.{◌&&◌, ◌||◌, nat_le, nat_lt, not}
use Rattle.std.specs.BTreeSet.{insert_key}
use Rattle.std.specs.List.{AllByRecursion, fold, list_all}
use Rattle.std.specs.Ordering.{match_ordering}
use Rattle.std.specs.declared.cmp.Ordering.{Ordering}
use Rattle.std.specs.declared.cmp.Ordering.TheVariants.{Equal, Greater, Less}
use Rattle.std.proofs.lemmas.Bool.{and_from, and_parts, le-leb}
use Rattle.std.proofs.lemmas.Bool.Decides.{nat_tests}
use Rattle.std.proofs.lemmas.List.{append-nil, length-map}
use Rattle.std.proofs.lemmas.List.Sums.{sum_by-cons}
use Rattle.log_model.specs.Field.{Field, bytes_cmp, is_filled, weight}
use Rattle.log_model.specs.History.{Numbered, numbered_from, numbered_in}
use Rattle.log_model.specs.Row.{Batch, IsBatch, IsRow, Row, batch_weight}
use Rattle.log_model.proofs.Numbering.{length_numbered, rows_in_numbered}
use Rattle.block_model.specs.Columns.{names_in, names_of}
use Rattle.block_model.specs.Distinct.{distinct}
use Rattle.block_format.specs.Rows.{are_numbered_apart, has_other_number}
use Rattle.part_model.specs.Filling.{is_within}
use Rattle.part_model.specs.Part.{ArePartRows}

-- ---- one row

put-short : (key : List ℕ) (keys : List (List ℕ)) → length (insert_key bytes_cmp keys key) ≤ suc (length keys)
put-short key [] = omega arith
put-short key (k ∷ keys) = by (bytes_cmp key k) (put-short key keys)
  where
    by : (o : Ordering) → length (insert_key bytes_cmp keys key) ≤ suc (length keys)
        → length (match_ordering o (key ∷ k ∷ keys) (k ∷ keys) (k ∷ insert_key bytes_cmp keys key))
        ≤ suc (suc (length keys))
    by Less e = omega arith
    by Equal e = omega arith
    by Greater e = omega (arith, e)

fold-short : (texts keys : List (List ℕ)) → length (fold (insert_key bytes_cmp) keys texts) ≤ length keys + length texts
fold-short [] keys = omega arith
fold-short (t ∷ ts) keys =
    omega (arith, put-short t keys, fold-short ts (insert_key bytes_cmp keys t))

few-names : (n : Numbered) → length (names_of (n ∷ [])) ≤ length n.row.fields
few-names n =
    let all : names_in n.row.fields ++ [] ≡ names_in n.row.fields = append-nil (names_in n.row.fields) in
    omega (
      arith,
      ap length (ap distinct all),
      fold-short (names_in n.row.fields) [],
      length-map n.row.fields (λ (f
          : Field). f.0),
    )

-- one row is within the limits of a block
pub one-within : (n : Numbered) → IsRow n.row → is_within (n ∷ []) ≡ true
one-within n h =
    let few : length (names_of (n ∷ [])) ≤ 1000 = omega (arith, few-names n, h.few) in
    let cells : 1 * length (names_of (n ∷ [])) ≤ 1_048_576 = omega (arith, few) in
    and_from (nat_le 1 4096) (nat_le (length (names_of (n ∷ []))) 2000 && nat_le (1 * length (names_of (n ∷ []))) 1_048_576)
    refl (and_from (nat_le (length (names_of (n ∷ []))) 2000) (nat_le (1 * length (names_of (n ∷ []))) 1_048_576)
    (le-leb (length (names_of (n ∷ []))) 2000 (omega (arith, few))) (le-leb (1 * length (names_of (n ∷ []))) 1_048_576
    cells))

-- ---- weights

some-name : (n : ℕ) (b : Bool) → not (nat_lt n 1 || b) ≡ true → 1 ≤ n
some-name zero b e = absurd cc
some-name (suc n) b e = omega arith

fields-weigh : (fields : List Field) → 0 < length fields → list_all is_filled fields ≡ true → 1 ≤ weight fields
fields-weigh [] some e = absurd (omega (arith, some))
fields-weigh (f ∷ fs) some e =
    let p = and_parts (is_filled f) (list_all is_filled fs) e in
    omega (
      arith,
      sum_by-cons (λ (g : Field). length g.0 + length g.1) f fs,
      some-name (length f.0) (nat_lt (length f.1)
          1) p.0,
    )

row-weighs : (row : Row) → IsRow row → 1 ≤ weight row.fields
row-weighs row h = fields-weigh row.fields h.some h.fields.filled

pub rows-weigh : (rows : Batch) → AllByRecursion IsRow rows → length rows ≤ batch_weight rows
rows-weigh [] h = omega arith
rows-weigh (row ∷ rows) h =
    omega (arith, sum_by-cons (λ (r : Row). weight r.fields) row rows, row-weighs row h.0, rows-weigh rows h.1)

-- ---- the rows of a batch

other-place : (p q : ℕ) (b : ℕ) → p < q → not (eqb b b && eqb p q) ≡ true
other-place p q b lt = grind (arith, nat_tests)

apart-later : (batch place here : ℕ) (row : Row) (rows : Batch) → here < place
    → list_all (has_other_number (record { batch = batch; place = here; row = row })) (numbered_from batch place rows)
    ≡ true
apart-later batch place here row [] lt = refl
apart-later batch place here row (r ∷ rows) lt =
    and_from (not (eqb batch batch && eqb here place)) (list_all (has_other_number (record {
      batch = batch;
      place = here;
      row = row;
    })) (numbered_from batch (suc place) rows)) (other-place here place batch lt) (apart-later batch (suc place) here row
    rows (omega (arith, lt)))

numbered-apart : (batch place : ℕ) (rows : Batch) → are_numbered_apart (numbered_from batch place rows) ≡ true
numbered-apart batch place [] = refl
numbered-apart batch place (row ∷ rows) =
    and_from (list_all (has_other_number (record { batch = batch; place = place; row = row })) (numbered_from batch (suc
    place) rows)) (are_numbered_apart (numbered_from batch (suc place) rows)) (apart-later batch (suc place) place row rows
    (omega arith)) (numbered-apart batch (suc place) rows)

-- The rows of a batch may be those of a part.
pub batch-part : (batch : ℕ) (rows : Batch) → IsBatch rows → ArePartRows (numbered_in batch rows)
batch-part batch rows h = record {
  some = omega (arith, length_numbered batch 0 rows, h.some);
  apart = numbered-apart batch 0 rows;
  light = omega (arith, ap batch_weight (rows_in_numbered batch 0 rows), h.light);
}
