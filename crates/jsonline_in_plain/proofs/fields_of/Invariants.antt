use Rattle.std.proofs.Common.{◌≡◌, take}
use Rattle.log_model.specs.Field.{set_all}
use Rattle.jsonline_in_plain.proofs.fields_of.Given as goal

abbrev pub invariant-loop-pair : goal.invariant-loop-pair
invariant-loop-pair l = l.out ≡ set_all l.fn.out (take l.pair-index l.pair-items)
