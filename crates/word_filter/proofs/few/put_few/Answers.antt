use Rattle.std.proofs.Common.{refl, arith}
use Rattle.word_filter.proofs.FewLaws.{none-twice}
use Rattle.word_filter.proofs.few.put_few.Goals as goal

pub loop-value-init : goal.loop-value-init
loop-value-init c =
    rw c.requires.none (record {
      words = refl;
      once = none-twice;
      hashes = λ k d lt. absurd (omega (arith, lt));
    })
