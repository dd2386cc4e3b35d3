use Rattle.std.proofs.Common.{subst, sym, ◌∙◌, rules}
use Rattle.std.specs.List.{All}
use Rattle.std.specs.Ordering.{nat_cmp}
use Rattle.lq_ast.specs.Sorting.{hits}
use Rattle.lq_ast.specs.Tuples.{Tuple}
use Rattle.lq_plain.specs.Named.{IsNamed}
use Rattle.lq_plain.proofs.Naming.{All-sorted_by}
use Rattle.lq_plain.proofs.tuple_pipes.top.Goals as goal

pub records_of-requires : goal.records_of-requires
records_of-requires c =
    let names = c.as_slice-names.result.now in
    let by = λ (a b : Tuple). nat_cmp (hits names c.args.records.now b) (hits names c.args.records.now a) in
    let sorted = c.as_slice.ensures.value ∙ c.in_ok-ranked.ensures by (λ x y order called. search rules) in
    subst (All (IsNamed names)) (sym sorted)
    (All-sorted_by by (IsNamed names) c.in_ok-tuples.tuples.items c.in_ok-tuples.ensures.named)
