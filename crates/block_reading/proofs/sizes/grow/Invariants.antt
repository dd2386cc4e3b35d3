use Rattle.std.proofs.Common.{◌≡◌, ◌<◌, ◌≤◌, ◌*◌, ℕ, [], get_or, length, sum_by, take, true}
use Rattle.std.specs.List.{list_all, list_any}
use Rattle.std.specs.Str.{is_utf8}
use Rattle.block_reading.specs.ByColumns.{IsWithin, has_text, larger, nothing}
use Rattle.block_reading.proofs.sizes.grow.Given as goal

abbrev pub invariant-loop-i : goal.invariant-loop-i
invariant-loop-i l = record {
  grown : (k : ℕ) → k < l.i → get_or l.sizes k nothing
      ≡ larger l.name (get_or l.initial.sizes k nothing) (length (get_or l.values k []));
  within : (k : ℕ) → k < l.i → IsWithin (get_or l.sizes k nothing);
  left : (k : ℕ) → l.i ≤ k → get_or l.sizes k nothing ≡ get_or l.initial.sizes k nothing;
  some : l.some ≡ list_any has_text (take l.i l.values);
  texts : list_all is_utf8 (take l.i l.values) ≡ true;
  small : sum_by length (take l.i l.values) ≤ 262_144 * l.i;
}
