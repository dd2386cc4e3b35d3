use Rattle.std.proofs.Common.{length}
use Rattle.lq_plain.proofs.extract.+extract_fields.Given as goal

abbrev pub decreases-extract_fields : goal.decreases-extract_fields
decreases-extract_fields l = length l.pieces.now
