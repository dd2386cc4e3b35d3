use Rattle.std.proofs.Common.{map, refl}
use Rattle.lq_ast.specs.Patterns.{patterns_of_test}
use Rattle.lq_ast.specs.View.{test_of}
use Rattle.lq_filter.specs.Labels.{test_of as prepared_test}
use Rattle.lq_filter.proofs.Refusals.{all_counted, counted_mapped, handed_on, left_behind, map_one_more}
use Rattle.lq_filter.proofs.Refusals.{all_readable, readable_mapped, refused_here, refused_mapped}
use Rattle.lq_filter.proofs.labels.PreparedGroup.new.Goals as goal

pub returns-in_err-prepared-clause-refused : goal.returns-in_err-prepared-clause-refused
returns-in_err-prepared-clause-refused c =
    let items = c.as_slice-test-items.result.now in
    let here = refused_here test_of (λ test. patterns_of_test (test_of test))
    items c.args.nth.now c.loop-test.test-index
    (map prepared_test c.loop-test.tests.items) c.loop-test.nth c.loop-test.invariant c.test-item.result
    c.loop-test-test.true c.test-item.is c.in_err-prepared.field-0.0 c.in_err-prepared.ensures.refused in
    handed_on c.from_residual.result _ _ c.from_residual.ensures.1
    (refused_mapped patterns_of_test test_of c.args.group.now.labels items c.as_slice-test-items.ensures
    c.args.nth.now _ here)

pub loop-test-preserved : goal.loop-test-preserved
loop-test-preserved c =
    let items = c.as_slice-test-items.result.now in
    let made = map prepared_test c.loop-test.tests.items in
    let behind = left_behind test_of (λ test. patterns_of_test (test_of test))
    items c.args.nth.now c.loop-test.test-index made
    c.loop-test.nth c.loop-test.invariant c.test-item.result c.loop-test-test.true c.test-item.is
    (prepared_test c.in_ok-prepared.prepared) c.new.new.nth c.in_ok-prepared.ensures.same
    (c.in_ok-prepared.ensures.counted refl) c.in_ok-prepared.ensures.readable in
    rw (map_one_more prepared_test c.loop-test.tests.items c.push.new.self.items c.in_ok-prepared.prepared
    c.in_ok-push.ensures.items) behind

pub returns-clause-counted : goal.returns-clause-counted
returns-clause-counted c = λ _.
    let items = c.as_slice-test-items.result.now in
    counted_mapped patterns_of_test test_of c.args.group.now.labels items c.as_slice-test-items.ensures
    c.args.nth.now c.loop-test.nth
    (all_counted test_of (λ test. patterns_of_test (test_of test)) items c.args.nth.now c.loop-test.test-index
    (map prepared_test c.loop-test.tests.items) c.loop-test.nth c.loop-test.invariant c.loop-test-test.false)

pub returns-clause-readable : goal.returns-clause-readable
returns-clause-readable c =
    let items = c.as_slice-test-items.result.now in
    readable_mapped patterns_of_test test_of c.args.group.now.labels items c.as_slice-test-items.ensures
    (all_readable test_of (λ test. patterns_of_test (test_of test)) items c.args.nth.now c.loop-test.test-index
    (map prepared_test c.loop-test.tests.items) c.loop-test.nth c.loop-test.invariant c.loop-test-test.false)
