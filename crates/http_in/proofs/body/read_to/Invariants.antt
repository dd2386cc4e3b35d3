use Rattle.std.proofs.Common.{◌-◌, ◌<◌, ◌≤◌, vec_len}
use Rattle.vl_io.specs.Bytes.{AddsPiece}
use Rattle.http_in.proofs.body.read_to.Given as goal

abbrev pub invariant-reads : goal.invariant-reads
invariant-reads g l = record {
  adds : AddsPiece (g.S.Source.left l.initial.src) (g.S.Source.left l.src) l.initial.bytes.items l.bytes.items;
  within : vec_len l.bytes ≤ l.target;
  some : 0 < l.room;
  most : l.room ≤ 65536;
  stays : g.S.Source.faults l.initial.src ≤ g.S.Source.faults l.src;
}

abbrev pub decreases-reads : goal.decreases-reads
decreases-reads g l = l.target - vec_len l.bytes
