use Rattle.std.proofs.Common.{◌≡◌, ◌∙◌, FitsSigned, ap, arith, false, not, rules, sym, w64, List, Bool}
use Rattle.std.proofs.lemmas.Int.{to_z-of_z}
use Rattle.std.proofs.lemmas.List.{take_at}
use Rattle.std.specs.Int.{w128}
use Rattle.log_model.specs.History.{Numbered}
use Rattle.lq_ast.specs.Condition as is
use Rattle.lq_ast.specs.Subject.{row_subject}
use Rattle.lq_filter.proofs.Conditions.{all_met-list, some_met-list}
use Rattle.lq_filter.specs.Tree.{condition_of_tree}
use Rattle.lq_filter.specs.declared.tree.Tree.{Tree, the_lemmas}
use Rattle.lq_filter.specs.declared.tree.Tree.TheVariants as form
use Rattle.block_scan.proofs.Staying.{failed_more, kept-always, kept-from_none, kept-removed, no_test_failed}
use Rattle.block_scan.proofs.Staying.{no_test_passed, passed_all, passed_more, passed_some}
use Rattle.block_scan.specs.Marks.{kept}
use Rattle.block_scan.specs.Scans.{row_holds}
use Rattle.block_scan.proofs.keeping.+keeping.Goals as goal

pub keep-returns-then-not-has_some : goal.keep-returns-then-not-has_some
keep-returns-then-not-has_some t c =
    let none : c.has_some.result ≡ false = search rules in
    sym (kept-from_none (row_holds c.args.at.now.moment (condition_of_tree c.args.tree.now)) c.args.at.now.rows.now
    c.args.marks.now c.requires (sym c.has_some.ensures ∙ none))

pub keep-returns-in-Always : goal.keep-returns-in-Always
keep-returns-in-Always t c =
    let rows = c.args.at.now.rows.now in
    let same : condition_of_tree form.Always ≡ is.always = search (rules, the_lemmas) in
    sym (ap (λ condition. kept (row_holds c.args.at.now.moment condition) rows c.args.marks.now)
    (ap condition_of_tree c.in-Always.is ∙ same) ∙ kept-always rows c.args.marks.now c.requires)

pub keep-returns-in-Last : goal.keep-returns-in-Last
keep-returns-in-Last t c =
    let same : condition_of_tree (form.Last c.in-Last.span) ≡ is.last c.in-Last.span = search (rules, the_lemmas) in
    let span : FitsSigned w64 c.in-Last.span = search rules in
    (simp to_z-of_z at c.keep_recent.ensures)
    ∙ ap (λ condition. kept (row_holds c.args.at.now.moment condition) c.args.at.now.rows.now c.args.marks.now)
    (sym (ap condition_of_tree c.in-Last.is ∙ same))

pub keep-returns-in-Times : goal.keep-returns-in-Times
keep-returns-in-Times t c =
    let same : condition_of_tree (form.Times c.in-Times.from c.in-Times.to) ≡ is.times c.in-Times.from c.in-Times.to =
    search (rules, the_lemmas) in
    let from : FitsSigned w128 c.in-Times.from = search rules in
    let to : FitsSigned w128 c.in-Times.to = search rules in
    (simp to_z-of_z at c.keep_between.ensures)
    ∙ ap (λ condition. kept (row_holds c.args.at.now.moment condition) c.args.at.now.rows.now c.args.marks.now)
    (sym (ap condition_of_tree c.in-Times.is ∙ same))

pub keep_all-loop-tree-init : goal.keep_all-loop-tree-init
keep_all-loop-tree-init t c =
    no_test_passed (λ (tree : Tree). row_holds c.args.at.now.moment (condition_of_tree tree)) c.args.trees.now
    c.args.at.now.rows.now c.args.marks.now c.requires

pub keep_all-loop-tree-preserved : goal.keep_all-loop-tree-preserved
keep_all-loop-tree-preserved t c =
    passed_more (λ (tree : Tree). row_holds c.args.at.now.moment (condition_of_tree tree)) c.args.trees.now
    c.args.at.now.rows.now c.args.marks.now c.loop-tree.tree-index c.tree-item.result c.loop-tree.marks
    c.keep.new.marks c.loop-tree-test.true c.tree-item.is c.loop-tree.invariant c.in_ok-keep.ensures

pub keep_all-returns : goal.keep_all-returns
keep_all-returns t c =
    let moment = c.args.at.now.moment in
    let rows = c.args.at.now.rows.now in
    let trees = c.args.trees.now in
    passed_all (λ (tree : Tree). row_holds moment (condition_of_tree tree)) trees rows c.args.marks.now
    c.loop-tree.tree-index c.loop-tree.marks (omega arith) c.loop-tree.invariant
    ∙ (λ j. kept (λ (numbered : Numbered). all_met-list condition_of_tree (row_subject moment numbered.row) trees j) rows
    c.args.marks.now)

pub keep_others-returns : goal.keep_others-returns
keep_others-returns t c =
    let test = row_holds c.args.at.now.moment (condition_of_tree c.args.tree.now) in
    let rows = c.args.at.now.rows.now in
    let marks = c.args.marks.now in
    let copy : c.in_ok-held.held.items ≡ marks = c.in_ok-held.ensures.items_if_clones_equal (λ x y e. e) in
    let asked : c.keep.new.marks ≡ kept test rows marks =
    c.in_ok-keep.ensures ∙ ap (kept test rows) (c.as_mut_slice.ensures.value ∙ copy) in
    let held : c.as_slice.result.now ≡ c.keep.new.marks =
    c.as_slice.ensures.value ∙ take_at c.keep.new.marks _ _ (omega arith) in
    c.remove.ensures ∙ ap (λ (l : List Bool). kept not l marks) (held ∙ asked)
    ∙ kept-removed test rows marks c.requires

pub keep_some-loop-tree-init : goal.keep_some-loop-tree-init
keep_some-loop-tree-init t c =
    c.in_ok-left.ensures.items_if_clones_equal (λ x y e. e)
    ∙ no_test_failed (λ (tree : Tree). row_holds c.args.at.now.moment (condition_of_tree tree)) c.args.trees.now
    c.args.at.now.rows.now c.args.marks.now c.requires

pub keep_some-loop-tree-preserved : goal.keep_some-loop-tree-preserved
keep_some-loop-tree-preserved t c =
    let test = λ (tree : Tree). row_holds c.args.at.now.moment (condition_of_tree tree) in
    let rows = c.args.at.now.rows.now in
    let tree = c.tree-item.result in
    take_at c.keep_others.new.marks _ _ (omega arith)
    ∙ failed_more test c.args.trees.now rows c.args.marks.now c.loop-tree.tree-index tree c.loop-tree.left.items
    c.keep_others.new.marks c.loop-tree-test.true c.tree-item.is c.loop-tree.invariant
    (c.in_ok-keep_others.ensures
    ∙ ap (kept (λ (numbered : Numbered). not (test tree numbered)) rows) c.as_mut_slice.ensures.value)

pub keep_some-returns : goal.keep_some-returns
keep_some-returns t c =
    let moment = c.args.at.now.moment in
    let rows = c.args.at.now.rows.now in
    let trees = c.args.trees.now in
    let marks = c.args.marks.now in
    passed_some (λ (tree : Tree). row_holds moment (condition_of_tree tree)) trees rows marks c.loop-tree.tree-index
    c.loop-tree.left.items c.remove.new.marks (omega arith) c.loop-tree.invariant c.requires
    (c.remove.ensures ∙ ap (λ (l : List Bool). kept not l marks) c.as_slice.ensures.value)
    ∙ (λ j. kept (λ (numbered : Numbered). some_met-list condition_of_tree (row_subject moment numbered.row) trees j) rows
    marks)
