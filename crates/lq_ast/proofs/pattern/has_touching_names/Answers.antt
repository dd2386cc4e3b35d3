use Rattle.std.proofs.Common.{map}
use Rattle.lq_ast.specs.MakingView.{pattern_piece}
use Rattle.lq_ast.proofs.PatternReading.{touch_at_all}
use Rattle.lq_ast.proofs.pattern.has_touching_names.Goals as goal

pub loop-piece-init : goal.loop-piece-init
loop-piece-init c = touch_at_all (map pattern_piece c.args.pieces.now)
