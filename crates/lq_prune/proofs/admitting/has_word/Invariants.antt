use Rattle.std.proofs.Common.{◌≡◌, false, take}
use Rattle.std.specs.List.{list_any}
use Rattle.lq_prune.specs.Need.{may_have_word}
use Rattle.lq_prune.proofs.admitting.has_word.Given as goal

abbrev pub invariant-loop-c : goal.invariant-loop-c
invariant-loop-c l = list_any (may_have_word l.name l.word) (take l.c l.head.columns) ≡ false
