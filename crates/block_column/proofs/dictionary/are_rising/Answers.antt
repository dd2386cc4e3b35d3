use Rattle.std.proofs.Common.{[], arith}
use Rattle.std.proofs.lemmas.Cmp.{nat_list_cmp_total}
use Rattle.std.proofs.lemmas.Map.Keys.{sorted_from_all_adjacent}
use Rattle.block_column.proofs.dictionary.are_rising.Goals as goal

pub returns : goal.returns
returns c e =
    sorted_from_all_adjacent nat_list_cmp_total c.args.held.now [] (λ k lt. c.loop-i.invariant k (omega (
      arith,
      lt,
      c.loop-i-test.false,
    )))
