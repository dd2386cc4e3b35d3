use Rattle.std.proofs.Common.{◌≡◌, ◌∙◌, ◌+◌, ◌-◌, ◌<◌, ◌≤◌, ℕ, Bool, List, [], pos, ap, arith, drop, get_or, length, sym}
use Rattle.std.specs.Prelude.{◌&&◌}
use Rattle.log_model.specs.History.{Numbered}
use Rattle.block_model.specs.Columns.{row_of}
use Rattle.block_model.specs.declared.keys.Key.{Key}
use Rattle.block_reading.specs.ByColumns.{bare}
use Rattle.block_format.specs.Rows.{are_ordered, comes_before}
use Rattle.block_format.proofs.OrderLaws.{ordered-at, ordered-end}
use Rattle.block_format.proofs.SaidLaws.{row-at, rows-length}
use Rattle.block_reading.proofs.keys.are_ordered.Goals as goal

abbrev alone : Key → Numbered
alone key = row_of [] key []

bare-at : (keys : List Key) (i : ℕ) (d : Key) → 1 ≤ i → i < length keys
    → are_ordered (drop (i - 1) (bare keys))
    ≡ (comes_before (alone (get_or keys (i - 1) d)) (alone (get_or keys i d)) && are_ordered (drop i (bare keys)))
bare-at keys i d some lt =
    let a : Numbered = alone (get_or keys (i - 1) d) in
    let b : Numbered = alone (get_or keys i d) in
    ordered-at (bare keys) i (alone (get_or keys (i - 1) d)) (alone (get_or keys i d)) some (omega (
      arith,
      rows-length []
          [] keys,
      lt,
    )) (sym (row-at [] [] keys (i - 1) d (alone (get_or keys (i - 1) d)) (omega (arith, lt)))) (sym (row-at []
    [] keys i d (alone (get_or keys i d)) lt))

pub returns-then-not-comes_before : goal.returns-then-not-comes_before
returns-then-not-comes_before c =
    let none : Key = record { time = pos 0; batch = 0; place = 0 } in
    let rows : List Numbered = bare c.args.keys.now in
    let i : ℕ = c.loop-i.i in
    sym (c.loop-i.invariant
    ∙ bare-at c.args.keys.now c.loop-i.i none c.loop-i.auto.i c.loop-i-test.true
    ∙ ap (λ (t : Bool). t && are_ordered (drop i rows)) (sym c.comes_before.ensures ∙ c.if-not-comes_before.true))

pub loop-i-preserved : goal.loop-i-preserved
loop-i-preserved c =
    let none : Key = record { time = pos 0; batch = 0; place = 0 } in
    let rows : List Numbered = bare c.args.keys.now in
    let i : ℕ = c.loop-i.i in
    let here : c.loop-i.i ≡ c.loop-i.i + 1 - 1 = omega arith in
    c.loop-i.invariant
    ∙ bare-at c.args.keys.now c.loop-i.i none c.loop-i.auto.i c.loop-i-test.true
    ∙ ap (λ (t : Bool). t && are_ordered (drop i rows)) (sym c.comes_before.ensures ∙ c.if-not-comes_before.false)
    ∙ ap (λ (k : ℕ). are_ordered (drop k rows)) here

pub returns : goal.returns
returns c =
    sym (c.loop-i.invariant ∙ ordered-end (bare c.args.keys.now) c.loop-i.i (omega (
      arith,
      rows-length [] [] c.args.keys.now,
      c.loop-i-test.false,
    )))
