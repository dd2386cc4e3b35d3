use Rattle.std.proofs.Common.{◌≡◌, ◌+◌, ◌++◌, ◌∙◌, ◌<◌, ℕ, List, [], ◌∷◌, ap, arith, get_or, length, subst, sym, take}
use Rattle.std.specs.List.{AllByRecursion}
use Rattle.std.proofs.lemmas.List.{take_all, take_more}
use Rattle.block_model.specs.Columns.{Column}
use Rattle.block_reading.specs.ByColumns.{IsFilled, IsNumberFit, IsWithin, bytes_from, larger, nothing, size_at}
use Rattle.block_reading.proofs.ByColumnsLaws.{bytes-from-sizes, size-more}
use Rattle.block_reading.specs.declared.sizes.RowSize.{RowSize}
use Rattle.block_reading.proofs.sizes.weight_of.Goals as goal

each-more : (columns : List Column) (column : Column) → AllByRecursion IsFilled columns → IsFilled column
    → AllByRecursion IsFilled (columns ++ column ∷ [])
each-more [] column h one = (one, tt)
each-more (c ∷ cs) column h one = (h.0, each-more cs column h.1 one)

pub loop-column-preserved : goal.loop-column-preserved
loop-column-preserved c =
    let k : ℕ = c.loop-column.column-index in
    let columns : List Column = c.args.columns.now in
    let column : Column = c.column-item.result in
    let lt : c.loop-column.column-index < length c.args.columns.now = c.loop-column-test.true in
    let next : take (c.loop-column.column-index + 1) c.args.columns.now
    ≡ take c.loop-column.column-index c.args.columns.now ++ c.column-item.result ∷ [] =
    take_more c.args.columns.now c.loop-column.column-index c.column-item.result lt
    ∙ ap (λ (x : Column). take k columns ++ x ∷ []) (sym c.column-item.is) in
    record {
      each = subst (AllByRecursion IsFilled) (sym next) (each-more (take k columns) column c.loop-column.invariant.each
          (c.grow_by.ensures.filled c.if-not-grow_by.false));
      count = omega (arith, c.grow_by.auto.sizes, c.loop-column.invariant.count);
      sizes = λ i there.
          c.grow_by.ensures.grown c.if-not-grow_by.false i (omega (arith, there, c.loop-column.invariant.count))
          ∙ ap (λ (s : RowSize). larger (length column.0) s (length (get_or column.1 i []))) (c.loop-column.invariant.sizes i
          there)
          ∙ sym (size-more columns k i column lt c.column-item.is);
      within = c.grow_by.ensures.within c.if-not-grow_by.false;
    }

pub returns-clause-light : goal.returns-clause-light
returns-clause-light c i lt =
    let here : get_or c.loop-column.slots i nothing ≡ size_at c.args.columns.now i =
    c.loop-column.invariant.sizes i lt
    ∙ ap (λ (l : List Column). size_at l i) (take_all c.loop-column.column-index c.args.columns.now (omega (
      arith,
      c.loop-column-test.false,
    ))) in (
      subst IsWithin here (c.loop-column.invariant.within i (omega (arith, lt, c.loop-column.invariant.count))),
      subst IsNumberFit here (c.are_light.ensures c.if-not-are_light.false i (omega (
        arith,
        lt,
        c.loop-column.invariant.count,
      ))),
    )

pub returns-clause-weight : goal.returns-clause-weight
returns-clause-weight c =
    let all : take c.loop-column.column-index c.args.columns.now ≡ c.args.columns.now =
    take_all c.loop-column.column-index c.args.columns.now (omega (arith, c.loop-column-test.false)) in
    c.bytes_in-weight.ensures
    ∙ bytes-from-sizes c.args.columns.now 0 c.loop-column.slots (λ j lt.
    let here : j ≡ 0 + j = omega arith in
    c.loop-column.invariant.sizes j (omega (arith, lt, c.loop-column.invariant.count))
    ∙ ap (λ (l : List Column). size_at l j) all ∙ ap (size_at c.args.columns.now) here)
    ∙ ap (bytes_from c.args.columns.now 0) c.loop-column.invariant.count
