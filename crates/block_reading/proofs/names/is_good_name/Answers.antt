use Rattle.std.proofs.Common.{◌≡◌, ◌≤◌, ◌∙◌, ℕ, zero, suc, false, length, sym, arith}
use Rattle.std.specs.Prelude.{◌==◌}
use Rattle.std.proofs.lemmas.Bool.{le-leb, le-ltb}
use Rattle.std.proofs.lemmas.Str.{is_utf8-from_IsUtf8}
use Rattle.block_reading.proofs.names.is_good_name.Goals as goal

some-bytes : (n : ℕ) → (n == 0) ≡ false → 1 ≤ n
some-bytes zero e = absurd cc
some-bytes (suc n) e = omega arith

pub returns : goal.returns
returns c e = record {
  some = le-ltb (length c.args.name.now) 1 (some-bytes (length c.args.name.now) (sym c.is_empty.ensures
      ∙ c.if-is_empty.false));
  short = le-leb (length c.args.name.now) 128 c.if-name-gt-MAX_NAME.false;
  free = sym c.is_reserved.ensures ∙ c.if-is_reserved.false;
  text = is_utf8-from_IsUtf8 c.args.name.now c.utf8.name;
}
