use Rattle.std.proofs.Common.{◌≡◌, ◌+◌, ◌++◌, ◌∙◌, ◌<◌, ℕ, zero, suc, List, [], ◌∷◌, ap, arith, get_or, length, map}
use Rattle.std.proofs.Common.{subst, sym, take}
use Rattle.std.specs.List.{AllByRecursion}
use Rattle.std.proofs.lemmas.Iterator.Adapters.{YieldsList-from_vec}
use Rattle.std.proofs.lemmas.Iterator.Consumers.{YieldsList-end, YieldsList-turn}
use Rattle.std.proofs.lemmas.List.{length_push, map_more, take_all}
use Rattle.block_body.specs.Outline.{NamedFilter}
use Rattle.block_model.specs.Columns.{Column}
use Rattle.block_reading.specs.ByColumns.{IsFilled, contents, filter_for}
use Rattle.block_reading.proofs.by_columns.filled_columns.Goals as goal

filled-at : (columns : List Column) (k : ℕ) (d : Column) → k < length columns → AllByRecursion IsFilled columns
    → IsFilled (get_or columns k d)
filled-at [] k d lt h = absurd (omega (arith, lt))
filled-at (c ∷ cs) zero d lt h = h.0
filled-at (c ∷ cs) (suc k) d lt h = filled-at cs k d (omega (arith, lt)) h.1

pub filled_column-requires : goal.filled_column-requires
filled_column-requires c =
    let gives = c.into_iter-column-iterator.ensures.into_iter_gives in
    let t = YieldsList-turn (YieldsList-from_vec {s = c.into_iter-column-iterator.result} c.args.columns.items gives.0 (omega (arith, gives.1, c.args.columns.ok.0)))
    c.loop-column.yielded c.loop-column.column-iterator c.loop-column.yielded_by c.next.result
    c.next.new.self c.in-Some.column c.in-Some.is c.next.ensures.steps in
    subst IsFilled (sym t.1) (filled-at c.args.columns.items (length c.loop-column.yielded) c.in-Some.column t.0 c.requires)

pub loop-column-preserved : goal.loop-column-preserved
loop-column-preserved c =
    let gives = c.into_iter-column-iterator.ensures.into_iter_gives in
    let t = YieldsList-turn (YieldsList-from_vec {s = c.into_iter-column-iterator.result} c.args.columns.items gives.0 (omega (arith, gives.1, c.args.columns.ok.0)))
    c.loop-column.yielded c.loop-column.column-iterator c.loop-column.yielded_by c.next.result
    c.next.new.self c.in-Some.column c.in-Some.is c.next.ensures.steps in
    let k : ℕ = length c.loop-column.yielded in
    let columns : List Column = c.args.columns.items in
    let column : Column = c.in-Some.column in
    let next : length (c.loop-column.yielded ++ c.in-Some.column ∷ []) ≡ length c.loop-column.yielded + 1 =
    length_push c.loop-column.yielded c.in-Some.column in
    record {
      heads = c.in_ok-push.ensures.items
          ∙ ap (λ (l : List NamedFilter). l ++ c.in_ok-head.head ∷ []) c.loop-column.invariant.heads
          ∙ ap (λ (h : NamedFilter). map filter_for (take k columns) ++ h ∷ []) (c.in_ok-head.ensures.head ∙ ap filter_for t.1)
          ∙ sym (map_more filter_for columns k column t.0)
          ∙ ap (λ (n : ℕ). map filter_for (take n columns)) (sym next);
      values = c.in_ok-push-2.ensures.items
          ∙ ap (λ (l : List (List (List ℕ))). l ++ c.in_ok-head.filled ∷ []) c.loop-column.invariant.values
          ∙ ap (λ (v : List (List ℕ)). contents (take k columns) ++ v ∷ []) (c.in_ok-head.ensures.values ∙ ap (λ (x : Column). x.1)
          t.1)
          ∙ sym (map_more (λ (x : Column). x.1) columns k column t.0)
          ∙ ap (λ (n : ℕ). contents (take n columns)) (sym next);
    }

pub returns-clause-heads : goal.returns-clause-heads
returns-clause-heads c =
    let gives = c.into_iter-column-iterator.ensures.into_iter_gives in
    let t = YieldsList-end (YieldsList-from_vec {s = c.into_iter-column-iterator.result} c.args.columns.items gives.0 (omega (arith, gives.1, c.args.columns.ok.0)))
    c.loop-column.yielded c.loop-column.column-iterator c.loop-column.yielded_by c.next.result
    c.next.new.self c.in-None.is c.next.ensures.steps in
    c.loop-column.invariant.heads
    ∙ ap (map filter_for) (take_all (length c.loop-column.yielded) c.args.columns.items (omega (arith, t.1)))

pub returns-clause-values : goal.returns-clause-values
returns-clause-values c =
    let gives = c.into_iter-column-iterator.ensures.into_iter_gives in
    let t = YieldsList-end (YieldsList-from_vec {s = c.into_iter-column-iterator.result} c.args.columns.items gives.0 (omega (arith, gives.1, c.args.columns.ok.0)))
    c.loop-column.yielded c.loop-column.column-iterator c.loop-column.yielded_by c.next.result
    c.next.new.self c.in-None.is c.next.ensures.steps in
    c.loop-column.invariant.values
    ∙ ap contents (take_all (length c.loop-column.yielded) c.args.columns.items (omega (arith, t.1)))
