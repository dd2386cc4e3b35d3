use Rattle.std.proofs.Common.{◌≡◌, ◌++◌, flat_map, map, take}
use Rattle.lq_ast.specs.MakingView.{pattern_piece}
use Rattle.lq_pipes.specs.Needs.{named_in_piece}
use Rattle.lq_pipes.proofs.needed.push_pattern.Given as goal

abbrev pub invariant-loop-piece : goal.invariant-loop-piece
invariant-loop-piece l =
    l.names.items ≡ l.initial.names.items ++ flat_map named_in_piece (map pattern_piece (take l.piece-index l.piece-items))
