use Rattle.std.proofs.Common.{map, refl}
use Rattle.std.specs.Prelude.{flat_map}
use Rattle.lq_ast.specs.Patterns.{patterns_of_test}
use Rattle.lq_ast.specs.View.{tests_of}
use Rattle.lq_filter.specs.Labels.{tests_of as prepared_tests}
use Rattle.lq_filter.proofs.Refusals.{all_counted, counted_mapped, handed_on, left_behind, map_one_more}
use Rattle.lq_filter.proofs.Refusals.{all_readable, readable_mapped, refused_here, refused_mapped}
use Rattle.lq_filter.proofs.labels.Selector.new.Goals as goal

pub returns-in_err-prepared-clause-refused : goal.returns-in_err-prepared-clause-refused
returns-in_err-prepared-clause-refused c =
    let items = c.as_slice-group-items.result.now in
    let here = refused_here tests_of (λ group. flat_map patterns_of_test (tests_of group))
    items c.args.nth.now c.loop-group.group-index
    (map prepared_tests c.loop-group.groups.items) c.loop-group.nth c.loop-group.invariant c.group-item.result
    c.loop-group-test.true c.group-item.is c.in_err-prepared.field-0.0 c.in_err-prepared.ensures.refused in
    handed_on c.from_residual.result _ _ c.from_residual.ensures.1
    (refused_mapped (flat_map patterns_of_test) tests_of c.args.select.now.groups items
    c.as_slice-group-items.ensures c.args.nth.now _ here)

pub loop-group-preserved : goal.loop-group-preserved
loop-group-preserved c =
    let items = c.as_slice-group-items.result.now in
    let made = map prepared_tests c.loop-group.groups.items in
    let behind = left_behind tests_of (λ group. flat_map patterns_of_test (tests_of group))
    items c.args.nth.now c.loop-group.group-index made
    c.loop-group.nth c.loop-group.invariant c.group-item.result c.loop-group-test.true c.group-item.is
    (prepared_tests c.in_ok-prepared.prepared) c.new.new.nth c.in_ok-prepared.ensures.same
    (c.in_ok-prepared.ensures.counted refl) c.in_ok-prepared.ensures.readable in
    rw (map_one_more prepared_tests c.loop-group.groups.items c.push.new.self.items c.in_ok-prepared.prepared
    c.in_ok-push.ensures.items) behind

pub returns-clause-counted : goal.returns-clause-counted
returns-clause-counted c = λ _.
    let items = c.as_slice-group-items.result.now in
    counted_mapped (flat_map patterns_of_test) tests_of c.args.select.now.groups items
    c.as_slice-group-items.ensures c.args.nth.now c.loop-group.nth
    (all_counted tests_of (λ group. flat_map patterns_of_test (tests_of group))
    items c.args.nth.now c.loop-group.group-index
    (map prepared_tests c.loop-group.groups.items) c.loop-group.nth c.loop-group.invariant c.loop-group-test.false)

pub returns-clause-readable : goal.returns-clause-readable
returns-clause-readable c =
    let items = c.as_slice-group-items.result.now in
    readable_mapped (flat_map patterns_of_test) tests_of c.args.select.now.groups items
    c.as_slice-group-items.ensures
    (all_readable tests_of (λ group. flat_map patterns_of_test (tests_of group))
    items c.args.nth.now c.loop-group.group-index
    (map prepared_tests c.loop-group.groups.items) c.loop-group.nth c.loop-group.invariant c.loop-group-test.false)
