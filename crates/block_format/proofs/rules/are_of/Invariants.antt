use Rattle.std.proofs.Common.{◌≡◌, take}
use Rattle.std.specs.List.{All}
use Rattle.log_model.specs.History.{Numbered}
use Rattle.block_format.proofs.rules.are_of.Given as goal

abbrev pub invariant-loop-numbered : goal.invariant-loop-numbered
invariant-loop-numbered l = All (λ (numbered : Numbered). numbered.row.labels ≡ l.stream) (take l.numbered-index l.rows)
