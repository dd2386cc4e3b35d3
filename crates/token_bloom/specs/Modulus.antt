-- What remainders modulo the number of bits are taken with.
use Rattle.std.specs.Prelude.{◌≡◌, ◌-◌, ◌/◌, ◌^◌, ◌<◌}
use Rattle.token_bloom.specs.declared.modulus.Modulus.{Modulus}

pub record IsModulus (modulus : Modulus) : Type 0 where
  pub some : 0 < modulus.bits
  pub inverse : modulus.inverse ≡ (2 ^ 64 - 1) / modulus.bits
