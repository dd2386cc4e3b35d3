use Rattle.std.proofs.Common.{◌≡◌, ◌+◌, ◌-◌, ◌<◌, ◌∙◌, ℕ, List, [], get_or, inl, inr, length, sym, ap, arith}
use Rattle.std.specs.declared.cmp.Ordering.TheVariants.{Less}
use Rattle.std.proofs.lemmas.Bool.{cases_eq}
use Rattle.std.proofs.lemmas.Cmp.{nat_list_cmp_total}
use Rattle.std.proofs.lemmas.List.{length-map}
use Rattle.std.proofs.lemmas.Map.Keys.{sorted_from_all_adjacent}
use Rattle.log_model.specs.Field.{bytes_cmp}
use Rattle.block_model.specs.Columns.{Column}
use Rattle.block_reading.specs.ByColumns.{column_names}
use Rattle.block_body.proofs.HeldLaws.{get-map}
use Rattle.block_reading.proofs.names.are_rising.Goals as goal

name-at : (columns : List Column) (i : ℕ) (c : Column) → i < length columns → c ≡ get_or columns i c
    → get_or (column_names columns) i [] ≡ c.0
name-at columns i c lt e =
    get-map (λ (column : Column). column.0) columns i c [] lt ∙ ap (λ (column : Column). column.0) (sym e)

two : (columns : List Column) (k i : ℕ) (a b : Column) → k + 1 ≡ i → i < length columns → a ≡ get_or columns (i - 1) a
    → b ≡ get_or columns i b → bytes_cmp a.0 b.0 ≡ Less
    → bytes_cmp (get_or (column_names columns) k []) (get_or (column_names columns) (k + 1) []) ≡ Less
two columns k i a b here lt p q below =
    let before : k ≡ i - 1 = omega (arith, here) in
    let first : get_or (column_names columns) k [] ≡ a.0 = ap (λ (j : ℕ). get_or (column_names columns) j []) before
    ∙ name-at columns (i - 1) a (omega (arith, lt)) p in
    let second : get_or (column_names columns) (k + 1) [] ≡ b.0 = ap (λ (j : ℕ). get_or (column_names columns) j []) here
    ∙ name-at columns i b lt q in
    ap (λ (x : List ℕ). bytes_cmp x (get_or (column_names columns) (k + 1) [])) first ∙ ap (bytes_cmp a.0) second ∙ below

pub loop-i-preserved : goal.loop-i-preserved
loop-i-preserved c k lt =
    elim (cases_eq (k + 1) c.loop-i.i) [
      | inl here ↦ two c.args.columns.now k c.loop-i.i c.index-columns-i.result c.index-columns-i-in-loop-i.result here
          c.loop-i-test.true c.index-columns-i.is c.index-columns-i-in-loop-i.is (c.is_below.ensures
          c.if-not-is_below.false)
      | inr other ↦ c.loop-i.invariant k (omega (arith, lt, other))
    ]

pub returns : goal.returns
returns c e =
    sorted_from_all_adjacent nat_list_cmp_total (column_names c.args.columns.now) [] (λ k lt. c.loop-i.invariant k (omega (
      arith,
      lt,
      c.loop-i-test.false,
      length-map c.args.columns.now (λ (column : Column). column.0),
    )))
