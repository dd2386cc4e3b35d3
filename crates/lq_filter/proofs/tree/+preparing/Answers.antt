use Rattle.std.proofs.Common.{◌≡◌, FitsSigned, map, refl, rules}
use Rattle.std.proofs.lemmas.Int.{to_z-of_z}
use Rattle.std.specs.Int.{w128}
use Rattle.lq_ast.specs.Condition as is
use Rattle.lq_ast.specs.declared.filter.Filter.{the_lemmas}
use Rattle.lq_ast.specs.declared.filter.Filter.TheVariants as form
use Rattle.lq_ast.specs.Patterns.{patterns_of}
use Rattle.lq_ast.specs.View.{condition}
use Rattle.lq_filter.specs.Tree.{condition_of_tree}
use Rattle.lq_filter.proofs.Refusals.{all_counted, all_readable, handed_on, left_behind, map_one_more, refused_here}
use Rattle.lq_filter.proofs.Conditions.{patterns_among-list}
use Rattle.lq_filter.proofs.tree.+preparing.Goals as goal

pub Tree::new-returns-in-Any-clause-refused : goal.Tree::new-returns-in-Any-clause-refused
Tree::new-returns-in-Any-clause-refused t c = c.plain.ensures.refused _ _

pub Tree::new-returns-in-Empty-clause-refused : goal.Tree::new-returns-in-Empty-clause-refused
Tree::new-returns-in-Empty-clause-refused t c = c.plain-in-Empty.ensures.refused _ _

pub Tree::new-returns-in-Phrase-clause-refused : goal.Tree::new-returns-in-Phrase-clause-refused
Tree::new-returns-in-Phrase-clause-refused t c = c.plain-in-Phrase.ensures.refused _ _

pub Tree::new-returns-in-Prefix-clause-refused : goal.Tree::new-returns-in-Prefix-clause-refused
Tree::new-returns-in-Prefix-clause-refused t c = c.plain-in-Prefix.ensures.refused _ _

pub Tree::new-returns-in-Exact-clause-refused : goal.Tree::new-returns-in-Exact-clause-refused
Tree::new-returns-in-Exact-clause-refused t c = c.plain-in-Exact.ensures.refused _ _

pub Tree::new-returns-in-ExactPrefix-clause-refused : goal.Tree::new-returns-in-ExactPrefix-clause-refused
Tree::new-returns-in-ExactPrefix-clause-refused t c = c.plain-in-ExactPrefix.ensures.refused _ _

pub Tree::new-returns-in-OneOf-clause-refused : goal.Tree::new-returns-in-OneOf-clause-refused
Tree::new-returns-in-OneOf-clause-refused t c = c.plain-in-OneOf.ensures.refused _ _

pub Tree::new-returns-in-OneOf-clause-same : goal.Tree::new-returns-in-OneOf-clause-same
Tree::new-returns-in-OneOf-clause-same t c =
    let same : condition (form.OneOf c.in-OneOf.field c.in-OneOf.texts)
    ≡ is.one_of c.in-OneOf.field c.in-OneOf.texts.items = search (rules, the_lemmas) in
    rw (c.in-OneOf.is, same) (c.plain-in-OneOf.ensures.same _ (rw c.as_slice.ensures.value at c.one_of.ensures))

pub Tree::new-returns-in-Fold-clause-refused : goal.Tree::new-returns-in-Fold-clause-refused
Tree::new-returns-in-Fold-clause-refused t c = c.plain-in-Fold.ensures.refused _ _

pub Tree::new-returns-in-Fold-clause-same : goal.Tree::new-returns-in-Fold-clause-same
Tree::new-returns-in-Fold-clause-same t c =
    let same : condition (form.Fold c.in-Fold.field c.in-Fold.text) ≡ is.folded c.in-Fold.field c.in-Fold.text =
    search (rules, the_lemmas) in
    rw (c.in-Fold.is, same) (c.plain-in-Fold.ensures.same _ c.folded.ensures)

pub Tree::new-returns-in-Seq-clause-refused : goal.Tree::new-returns-in-Seq-clause-refused
Tree::new-returns-in-Seq-clause-refused t c = c.plain-in-Seq.ensures.refused _ _

pub Tree::new-returns-in-Seq-clause-same : goal.Tree::new-returns-in-Seq-clause-same
Tree::new-returns-in-Seq-clause-same t c =
    let same : condition (form.Seq c.in-Seq.field c.in-Seq.texts)
    ≡ is.sequence c.in-Seq.field c.in-Seq.texts.items = search (rules, the_lemmas) in
    rw (c.in-Seq.is, same) (c.plain-in-Seq.ensures.same _ (rw c.as_slice-in-Seq.ensures.value at c.sequence.ensures))

pub Tree::new-returns-in-Length-clause-refused : goal.Tree::new-returns-in-Length-clause-refused
Tree::new-returns-in-Length-clause-refused t c = c.plain-in-Length.ensures.refused _ _

pub Tree::new-returns-in-Length-clause-same : goal.Tree::new-returns-in-Length-clause-same
Tree::new-returns-in-Length-clause-same t c =
    let same : condition (form.Length c.in-Length.field c.in-Length.low c.in-Length.high)
    ≡ is.length_in c.in-Length.field c.in-Length.low c.in-Length.high = search (rules, the_lemmas) in
    rw (c.in-Length.is, same) (c.plain-in-Length.ensures.same _ c.length.ensures)

pub Tree::new-returns-in-Between-clause-refused : goal.Tree::new-returns-in-Between-clause-refused
Tree::new-returns-in-Between-clause-refused t c = c.plain-in-Between.ensures.refused _ _

pub Tree::new-returns-in-Between-clause-same : goal.Tree::new-returns-in-Between-clause-same
Tree::new-returns-in-Between-clause-same t c =
    let same : condition (form.Between c.in-Between.field c.in-Between.low c.in-Between.high)
    ≡ is.text_in c.in-Between.field c.in-Between.low c.in-Between.high = search (rules, the_lemmas) in
    rw (c.in-Between.is, same) (c.plain-in-Between.ensures.same _ c.between.ensures)

pub Tree::new-returns-in-Range-clause-refused : goal.Tree::new-returns-in-Range-clause-refused
Tree::new-returns-in-Range-clause-refused t c = c.plain-in-Range.ensures.refused _ _

pub Tree::new-returns-in-Range-clause-same : goal.Tree::new-returns-in-Range-clause-same
Tree::new-returns-in-Range-clause-same t c =
    let same : condition (form.Range c.in-Range.field c.in-Range.low c.in-Range.high)
    ≡ is.number_in c.in-Range.field c.in-Range.low c.in-Range.high = search (rules, the_lemmas) in
    let low : FitsSigned w128 c.in-Range.low = search rules in
    let high : FitsSigned w128 c.in-Range.high = search rules in
    let made = c.plain-in-Range.ensures.same _ c.number.ensures in
    rw (c.in-Range.is, same) (simp to_z-of_z at made)

pub trees-returns-in_err-tree-clause-refused : goal.trees-returns-in_err-tree-clause-refused
trees-returns-in_err-tree-clause-refused t c =
    let here = refused_here condition (λ filter. patterns_of (condition filter)) c.args.filters.now c.args.nth.now
    c.loop-filter.filter-index (map condition_of_tree c.loop-filter.trees.items)
    c.loop-filter.nth c.loop-filter.invariant
    c.filter-item.result c.loop-filter-test.true c.filter-item.is c.in_err-tree.field-0.0
    c.in_err-tree.ensures.refused in
    handed_on c.from_residual.result _ _ c.from_residual.ensures.1
    (rw (patterns_among-list condition c.args.filters.now) at here)

pub trees-loop-filter-preserved : goal.trees-loop-filter-preserved
trees-loop-filter-preserved t c =
    let behind = left_behind condition (λ filter. patterns_of (condition filter)) c.args.filters.now c.args.nth.now
    c.loop-filter.filter-index (map condition_of_tree c.loop-filter.trees.items)
    c.loop-filter.nth c.loop-filter.invariant
    c.filter-item.result c.loop-filter-test.true c.filter-item.is (condition_of_tree c.in_ok-tree.tree) c.new.new.nth
    c.in_ok-tree.ensures.same (c.in_ok-tree.ensures.counted refl) c.in_ok-tree.ensures.readable in
    rw (map_one_more condition_of_tree c.loop-filter.trees.items c.push.new.self.items c.in_ok-tree.tree
    c.in_ok-push.ensures.items) behind

pub trees-returns-clause-counted : goal.trees-returns-clause-counted
trees-returns-clause-counted t c = λ _.
    rw (patterns_among-list condition c.args.filters.now) at
    (all_counted condition (λ filter. patterns_of (condition filter))
    c.args.filters.now c.args.nth.now c.loop-filter.filter-index
    (map condition_of_tree c.loop-filter.trees.items) c.loop-filter.nth c.loop-filter.invariant
    c.loop-filter-test.false)

pub trees-returns-clause-readable : goal.trees-returns-clause-readable
trees-returns-clause-readable t c =
    rw (patterns_among-list condition c.args.filters.now) at
    (all_readable condition (λ filter. patterns_of (condition filter))
    c.args.filters.now c.args.nth.now c.loop-filter.filter-index
    (map condition_of_tree c.loop-filter.trees.items) c.loop-filter.nth c.loop-filter.invariant
    c.loop-filter-test.false)
