use Rattle.std.proofs.Common.{◌≡◌, take}
use Rattle.token_bloom.specs.Bits.{fnv}
use Rattle.token_bloom.proofs.hash.hash_of.Given as goal

abbrev pub invariant-loop-byte : goal.invariant-loop-byte
invariant-loop-byte l = l.hash ≡ fnv (take l.byte-index l.word)
