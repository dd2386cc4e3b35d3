use Rattle.std.proofs.Common.{◌≡◌, ◌∙◌, [], get_or, true, false, sym, ap, arith, rules}
use Rattle.std.specs.Prelude.{bytes_eq}
use Rattle.block_model.proofs.Distinct.{read-as, search-ends, search-on}
use Rattle.block_column.proofs.codes.code_of.Goals as goal

pub returns-then-is_value : goal.returns-then-is_value
returns-then-is_value c =
    let here = read-as c.args.sorted.now c.loop-i.i c.index-sorted-i.result c.loop-i-test.true c.index-sorted-i.is in
    let yes : c.is_value.result ≡ true = search rules in
    let same : bytes_eq c.args.value.now (get_or c.args.sorted.now c.loop-i.i []) ≡ true =
    ap (bytes_eq c.args.value.now) here ∙ sym c.is_value.ensures ∙ yes in
    let zero = search-ends c.args.sorted.now c.args.value.now c.loop-i.i c.loop-i-test.true same in
    omega (arith, c.loop-i.invariant.so_far, zero)

pub loop-i-preserved : goal.loop-i-preserved
loop-i-preserved c =
    let here = read-as c.args.sorted.now c.loop-i.i c.index-sorted-i.result c.loop-i-test.true c.index-sorted-i.is in
    let not_it : c.is_value.result ≡ false = search rules in
    let other : bytes_eq c.args.value.now (get_or c.args.sorted.now c.loop-i.i []) ≡ false =
    ap (bytes_eq c.args.value.now) here ∙ sym c.is_value.ensures ∙ not_it in
    let on = search-on c.args.sorted.now c.args.value.now c.loop-i.i c.loop-i-test.true other in
    record {
      so_far = omega (arith, c.loop-i.invariant.so_far, on.0);
      listed = sym on.1 ∙ c.loop-i.invariant.listed;
    }
