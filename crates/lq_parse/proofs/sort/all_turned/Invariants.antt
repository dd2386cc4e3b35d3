use Rattle.std.proofs.Common.{◌≡◌, map, length}
use Rattle.lq_ast.specs.PipeView.{sort_by}
use Rattle.lq_parse.proofs.Turned.{mixed}
use Rattle.lq_parse.proofs.sort.all_turned.Given as goal

abbrev pub invariant-loop-i : goal.invariant-loop-i
invariant-loop-i l =
    (map sort_by l.keys.items ≡ mixed l.i (map sort_by l.fn.keys.items))
    × (length l.keys.items ≡ length l.fn.keys.items)
