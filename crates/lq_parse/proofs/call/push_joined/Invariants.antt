use Rattle.std.proofs.Common.{◌≡◌, ◌++◌, take}
use Rattle.lq_parse.proofs.Joined.{commas}
use Rattle.lq_parse.proofs.call.push_joined.Given as goal

abbrev pub invariant-loop-name : goal.invariant-loop-name
invariant-loop-name l = l.text ≡ l.initial.text ++ commas (take l.name-index l.others)
