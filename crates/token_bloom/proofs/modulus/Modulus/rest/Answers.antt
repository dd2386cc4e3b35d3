use Rattle.std.proofs.Common.{◌*◌, ◌/◌, ◌^◌, refl}
use Rattle.token_bloom.proofs.Remainders.{first_rest, goes_in, second_rest}
use Rattle.token_bloom.proofs.modulus.Modulus.rest.Goals as goal

pub overflow_sub-left : goal.overflow_sub-left
overflow_sub-left c =
    goes_in c.args.number c.args.self.bits c.args.self.inverse (c.args.number * c.args.self.inverse / 2 ^ 64)
    c.requires.some c.ranges.number.fits c.requires.inverse refl

pub returns-then-left-self : goal.returns-then-left-self
returns-then-left-self c =
    first_rest c.args.number c.args.self.bits c.args.self.inverse (c.args.number * c.args.self.inverse / 2 ^ 64)
    c.requires.some c.ranges.number.fits c.requires.inverse refl c.if-left-self.true

pub returns-else-left-self : goal.returns-else-left-self
returns-else-left-self c =
    second_rest c.args.number c.args.self.bits c.args.self.inverse (c.args.number * c.args.self.inverse / 2 ^ 64)
    c.requires.some c.ranges.number.fits c.requires.inverse refl c.if-left-self.false
