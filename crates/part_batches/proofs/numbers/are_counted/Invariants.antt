use Rattle.std.proofs.Common.{◌≡◌, drop}
use Rattle.part_batches.specs.Counted.{are_counted}
use Rattle.part_batches.proofs.numbers.are_counted.Given as goal

abbrev pub invariant-loop-number : goal.invariant-loop-number
invariant-loop-number l =
    are_counted l.front 0 0 l.numbers ≡ are_counted l.front l.batch l.places (drop l.number-index l.numbers)
