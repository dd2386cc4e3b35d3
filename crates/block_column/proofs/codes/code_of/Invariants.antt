use Rattle.std.proofs.Common.{◌≡◌, ◌+◌, drop, true}
use Rattle.std.specs.Prelude.{bytes_eq}
use Rattle.std.specs.List.{list_any}
use Rattle.block_model.specs.Distinct.{code_of}
use Rattle.block_column.proofs.codes.code_of.Given as goal

abbrev pub invariant-loop-i : goal.invariant-loop-i
invariant-loop-i l = record {
  so_far : code_of l.sorted l.value ≡ l.i + code_of (drop l.i l.sorted) l.value;
  listed : list_any (bytes_eq l.value) (drop l.i l.sorted) ≡ true;
}
