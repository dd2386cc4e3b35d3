use Rattle.log_model.proofs.Numbering.{batch_is_one}
use Rattle.part_file_tests.proofs.part_tests.batch_text.Goals as goal

pub set_batch-requires : goal.set_batch-requires
set_batch-requires c = batch_is_one c.in_ok-part.part c.in_ok-part.ensures.whole
