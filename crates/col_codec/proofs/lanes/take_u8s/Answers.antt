use Rattle.std.proofs.Common.{◌∙◌, Ok, List, ℕ, ap, sym, take, drop, arith, refl}
use Rattle.col_codec.proofs.LaneReads.{bytes-read, bytes-short}
use Rattle.col_codec.proofs.lanes.take_u8s.Goals as goal

pub returns-then-bytes-count : goal.returns-then-bytes-count
returns-then-bytes-count c = bytes-short c.args.count c.args.bytes.now c.if-bytes-count.true

pub returns : goal.returns
returns c =
    let copy = c.in_ok-to_vec.ensures.items_if_clones_equal (λ y h e. e) in
    bytes-read c.args.count c.args.bytes.now c.if-bytes-count.false ∙ rw (
      copy,
      c.split_at.ensures.front,
      c.split_at.ensures.back,
    ) refl
