use Rattle.std.proofs.Common.{◌/◌, ◌%◌, ◌+◌, ◌<◌, length, arith, map, ap, subst, sym, ◌∙◌}
use Rattle.std.proofs.lemmas.List.{length-map}
use Rattle.log_core.specs.Shared.{AreChunks, lists_in, parts_in}
use Rattle.log_core.proofs.Chunks.{AreChunks-drop, chunks_left, cut_after_all, is_cut_in, left_in, left_of_cut}
use Rattle.log_core.proofs.Chunks.{length_at}
use Rattle.log_core.proofs.state.later_in.Goals as goal

pub returns-then-cut-chunks-clause-parts : goal.returns-then-cut-chunks-clause-parts
returns-then-cut-chunks-clause-parts g c =
    let gone = c.args.gone in
    let chunks = c.args.chunks.now in
    let cut = is_cut_in (lists_in chunks) gone (gone / 64) (gone % 64) (omega arith) (omega arith) c.requires.chunked
    c.requires.within (omega (arith, length-map chunks parts_in)) in
    left_of_cut (lists_in chunks) (lists_in c.in_ok-later.later.items) _ gone (gone / 64) (gone % 64) cut
    (left_in chunks (gone / 64) (gone % 64) c.index-chunks-cut.result c.deref.result.now c.as_slice.result.now
    c.in_ok-others.others.items c.if-cut-chunks.true c.index-chunks-cut.is c.deref.ensures c.as_slice.ensures.value
    c.in_ok-others.ensures)
    (chunks_left chunks c.in_ok-later.later.items (gone / 64 + 1) c.in_ok-later.ensures)

pub returns-then-cut-chunks-clause-chunked : goal.returns-then-cut-chunks-clause-chunked
returns-then-cut-chunks-clause-chunked g c =
    let gone = c.args.gone in
    let chunks = c.args.chunks.now in
    subst AreChunks (sym (chunks_left chunks c.in_ok-later.later.items (gone / 64 + 1) c.in_ok-later.ensures))
    (AreChunks-drop (gone / 64 + 1) (lists_in chunks) c.requires.chunked)

pub returns-clause-parts : goal.returns-clause-parts
returns-clause-parts g c =
    let gone = c.args.gone in
    let chunks = c.args.chunks.now in
    rw (c.new.ensures.items, c.in_ok-with_capacity.ensures.items) (cut_after_all (lists_in chunks) gone (gone / 64)
    (gone % 64) (omega arith) c.requires.chunked (omega (arith, length-map chunks parts_in)))

pub copied-requires : goal.copied-requires
copied-requires g c =
    let gone = c.args.gone in
    let chunks = c.args.chunks.now in
    let cut = is_cut_in (lists_in chunks) gone (gone / 64) (gone % 64) (omega arith) (omega arith) c.requires.chunked
    c.requires.within (omega (arith, length-map chunks parts_in)) in
    omega (
      arith,
      cut.rest,
      length_at chunks (gone / 64) c.index-chunks-cut.result c.deref.result.now c.if-cut-chunks.true
          c.index-chunks-cut.is c.deref.ensures,
      c.as_slice.ensures.len,
    )
