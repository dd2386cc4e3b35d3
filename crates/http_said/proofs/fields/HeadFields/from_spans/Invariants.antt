use Rattle.std.proofs.Common.{map, take}
use Rattle.httparse.specs.Spans.{header_bytes}
use Rattle.http_said.specs.HeadFields.{HoldsFields}
use Rattle.http_said.proofs.fields.HeadFields.from_spans.Given as goal

abbrev pub invariant-loop-header : goal.invariant-loop-header
invariant-loop-header l = HoldsFields l.collected (map (header_bytes l.buf) (take l.header-index l.headers))
