use Rattle.std.proofs.Common.{◌≡◌, ◌+◌, ◌*◌, ◌%◌, ◌^◌, drop}
use Rattle.token_bloom.specs.Bits.{has_bits, places, stride}
use Rattle.token_bloom.proofs.bits.has_hash.Given as goal

abbrev pub invariant-loop : goal.invariant-loop
invariant-loop l = record {
  sum : l.sum ≡ (l.hash + l.counter * stride l.hash) % 2 ^ 64;
  rest : has_bits l.filter (places l.modulus.bits l.hash)
      ≡ has_bits l.filter (drop l.counter (places l.modulus.bits l.hash));
}
