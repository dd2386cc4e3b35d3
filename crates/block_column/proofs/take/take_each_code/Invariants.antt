use Rattle.std.proofs.Common.{◌≡◌, ◌-◌, length, true}
use Rattle.std.specs.Prelude.{nat_lt}
use Rattle.std.specs.List.{list_all}
use Rattle.byte_format.specs.Format.{front, many, one_more, repeated}
use Rattle.block_column.specs.Body.{code_below}
use Rattle.block_column.proofs.take.take_each_code.Given as goal

abbrev pub invariant-loop : goal.invariant-loop
invariant-loop l = record {
  so_far : front (repeated (l.rows - l.counter) (one_more (code_below l.count)) l.codes.items) l.rest
      ≡ front (many l.rows (code_below l.count)) l.bytes;
  count : length l.codes.items ≡ l.counter;
  below : list_all (λ code. nat_lt code l.count) l.codes.items ≡ true;
}
