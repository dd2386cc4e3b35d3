use Rattle.std.proofs.Common.{◌≡◌, max, ◌+◌, ◌-◌, ◌<◌, ◌≤◌, length, take, vec_len, count_by}
use Rattle.vl_io.specs.Bytes.{AddsPiece}
use Rattle.vl_io.specs.Lines.{is_feed}
use Rattle.vl_io.proofs.lines.read_lines.Given as goal

abbrev pub invariant-pieces : goal.invariant-pieces
invariant-pieces g l = record {
  room : 0 < length l.piece;
  within : vec_len l.bytes ≤ l.limit;
  seen : l.seen ≤ length l.bytes.items;
  tail : length l.bytes.items ≤ l.seen + max (vec_len l.initial.bytes) (length l.piece);
  missing : 0 < l.missing;
  counted : count_by is_feed (take l.seen l.bytes.items) + l.missing ≡ l.lines;
  adds : AddsPiece (g.S.Source.left l.initial.source) (g.S.Source.left l.source) l.initial.bytes.items l.bytes.items;
  stays : g.S.Source.faults l.initial.source ≤ g.S.Source.faults l.source;
}

abbrev pub decreases-pieces : goal.decreases-pieces
decreases-pieces g l = l.limit - vec_len l.bytes
