use Rattle.std.proofs.Common.{◌≡◌, map, take}
use Rattle.std.specs.List.{enumerate_from}
use Rattle.log_model.specs.Order.{key_of}
use Rattle.lq_order.specs.Ranks.{keyed_of}
use Rattle.lq_order.proofs.ranks.all_keyed.Given as goal

abbrev pub invariant-loop-at : goal.invariant-loop-at
invariant-loop-at l =
    map keyed_of l.keyed.items ≡ enumerate_from 0 (map (λ text. key_of text.now) (take l.at l.texts))
