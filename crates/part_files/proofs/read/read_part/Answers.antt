use Rattle.std.proofs.Common.{ap, length, sym, ◌∙◌}
use Rattle.part_files.proofs.read.read_part.Goals as goal

pub returns-clause-size : goal.returns-clause-size
returns-clause-size g c = record {
  spelling = c.deref.result.now;
  written = c.in_ok-part.ensures.found;
  size = ap length c.deref.ensures.value ∙ c.in_ok-bytes.ensures.size;
}
