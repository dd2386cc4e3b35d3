use Rattle.std.proofs.Common.{[], ◌∷◌, refl}
use Rattle.std.proofs.lemmas.Bool.{le-leb}
use Rattle.byte_format_tests.proofs.padded_tests.PaddedSpelled.make.Goals as goal

pub returns-clause-spelled : goal.returns-clause-spelled
returns-clause-spelled c =
    (c.args.self.n ∷ 0 ∷ [], rw (le-leb c.args.self.n c.args.most c.if-self-most.false) refl)
