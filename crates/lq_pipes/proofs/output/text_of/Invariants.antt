use Rattle.std.proofs.Common.{◌≡◌, string_bytes, take}
use Rattle.log_model.specs.Print.{lines_text}
use Rattle.lq_pipes.proofs.output.text_of.Given as goal

abbrev pub invariant-loop-record : goal.invariant-loop-record
invariant-loop-record l = string_bytes l.text ≡ lines_text (take l.record-index l.records)
