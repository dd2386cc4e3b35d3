use Rattle.std.proofs.Common.{◌≡◌, drop, length, min, slice_index_or, ap, arith}
use Rattle.std.proofs.lemmas.Grind.{common_steps}
use Rattle.vl_io.proofs.Pieces.{piece_taken, nothing_left}
use Rattle.vl_io.proofs.memory.MemSourceSource.read.Goals as goal

pub returns-clause-bytes : goal.returns-clause-bytes
returns-clause-bytes c =
    let left = c.args.self.now.left in
    let room = length c.args.buf.now in
    let inside = c.self.inside in
    let here : drop inside.at inside.bytes.items ≡ left = ap (λ s. s.left) c.self.view_is in
    let read = c.copy_front-count in
    let count : read.result ≡ min (min (slice_index_or inside.pieces.items inside.calls room) room) (length left) =
    grind (arith, common_steps) in (
      piece_taken left inside.bytes.items _ inside.at read.result here
          (rw c.deref-3.ensures.value at read.ensures.copied),
      λ none some. nothing_left left inside.bytes.items inside.pieces.items inside.calls inside.at room read.result here c.self.invariant.1 (omega arith) count none,
    )
