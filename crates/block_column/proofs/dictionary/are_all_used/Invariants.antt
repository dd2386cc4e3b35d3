use Rattle.std.proofs.Common.{◌≡◌, length, take}
use Rattle.block_column.proofs.Listed.{AreThere}
use Rattle.block_column.proofs.dictionary.are_all_used.Given as goal

abbrev pub invariant-loop-code : goal.invariant-loop-code
invariant-loop-code l = record {
  len : length l.used.items ≡ l.count;
  there : AreThere l.used.items (take l.code-index l.codes);
}
