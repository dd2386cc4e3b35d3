use Rattle.std.proofs.Common.{◌≡◌, ◌-◌, ◌*◌, ◌≤◌, length, map}
use Rattle.std.specs.Prelude.{sum_by}
use Rattle.std.specs.Int.{w16}
use Rattle.byte_format.specs.Format.{front, many, one_more, repeated}
use Rattle.byte_format.specs.Items.{text}
use Rattle.block_column.proofs.take.take_lent.Given as goal

abbrev pub invariant-loop : goal.invariant-loop
invariant-loop l = record {
  so_far : front (repeated (l.count - l.counter) (one_more (text w16)) (map (λ t. t.now) l.texts.items)) l.rest
      ≡ front (many l.count (text w16)) l.bytes;
  count : length l.texts.items ≡ l.counter;
  small : sum_by (λ t. length t.now) l.texts.items ≤ 65536 * l.counter;
}
