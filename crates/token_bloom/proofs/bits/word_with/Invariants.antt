use Rattle.std.proofs.Common.{◌≡◌, ◌+◌, ◌*◌, ◌%◌, ◌^◌, ◌∷◌, [], drop}
use Rattle.token_bloom.specs.Bits.{with_bits, places, stride}
use Rattle.token_bloom.proofs.bits.word_with.Given as goal

abbrev pub invariant-loop : goal.invariant-loop
invariant-loop l = record {
  sum : l.sum ≡ (l.hash + l.counter * stride l.hash) % 2 ^ 64;
  rest : with_bits (l.word ∷ []) (places 64 l.hash) ≡ with_bits (l.filled ∷ []) (drop l.counter (places 64 l.hash));
}
