use Rattle.std.proofs.Common.{◌∙◌, sym, arith}
use Rattle.vl_trial.proofs.Cutting.{next_piece, none_left, piece_faultless}
use Rattle.vl_trial.proofs.batches.TrialBatches.next_batch.Goals as goal

pub returns-then-count-eq0-clause-ended : goal.returns-then-count-eq0-clause-ended
returns-then-count-eq0-clause-ended c = λ _. sym c.self.view_is ∙ none_left _ _ _ (omega arith)

pub batch_of-requires : goal.batch_of-requires
batch_of-requires c = rw c.in_ok-rows.ensures.rows (piece_faultless _ _ _ (omega arith) (omega arith) (omega arith))

pub returns-clause-given : goal.returns-clause-given
returns-clause-given c =
    rw (c.batch_of.ensures, c.in_ok-rows.ensures.rows, c.in_ok-rows.ensures.state)
    (sym c.self.view_is
    ∙ next_piece c.self.inside.state c.self.inside.next c.self.inside.rows c.min-count.result (omega arith)
    c.min-count.ensures)
