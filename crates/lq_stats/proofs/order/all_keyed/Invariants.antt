use Rattle.std.proofs.Common.{◌≡◌, map, take}
use Rattle.lq_stats.specs.Keyed.{keyed_text}
use Rattle.lq_stats.proofs.order.all_keyed.Given as goal

abbrev pub invariant-loop-text : goal.invariant-loop-text
invariant-loop-text l = map keyed_text l.keyed.items ≡ take l.text-index l.texts
