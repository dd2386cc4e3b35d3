use Rattle.std.proofs.Common.{◌≡◌, map, take}
use Rattle.lq_stats.specs.Keyed.{keyed_text}
use Rattle.lq_stats.proofs.order.texts_of.Given as goal

abbrev pub invariant-loop-one : goal.invariant-loop-one
invariant-loop-one l = map (λ text. text.now) l.texts.items ≡ map keyed_text (take l.one-index l.keyed)
