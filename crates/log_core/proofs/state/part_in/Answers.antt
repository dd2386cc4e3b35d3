use Rattle.std.proofs.Common.{◌/◌, ◌%◌, ◌<◌, length, arith, sym, subst, ◌∙◌}
use Rattle.std.proofs.lemmas.List.{length-map}
use Rattle.log_core.specs.Shared.{lists_in, parts_in}
use Rattle.log_core.proofs.Chunks.{IsIn, is_in, length_at, part_at}
use Rattle.log_core.proofs.state.part_in.Goals as goal

pub bounds-chunks-place : goal.bounds-chunks-place
bounds-chunks-place g c =
    let place = c.args.place in
    let at = is_in (lists_in c.args.chunks.now) place (place / 64) (place % 64) (omega arith) (omega arith)
    c.requires.chunked c.requires.within in
    omega (arith, at.chunk, length-map c.args.chunks.now parts_in)

pub index-requires : goal.index-requires
index-requires g c =
    let place = c.args.place in
    let at = is_in (lists_in c.args.chunks.now) place (place / 64) (place % 64) (omega arith) (omega arith)
    c.requires.chunked c.requires.within in
    let inside : place / 64 < length c.args.chunks.now =
    omega (arith, at.chunk, length-map c.args.chunks.now parts_in) in
    omega (
      arith,
      at.rest,
      length_at c.args.chunks.now (place / 64) c.index-chunks-place.result c.deref.result.now inside
          c.index-chunks-place.is c.deref.ensures,
    )

pub returns : goal.returns
returns g c =
    let place = c.args.place in
    let at = is_in (lists_in c.args.chunks.now) place (place / 64) (place % 64) (omega arith) (omega arith)
    c.requires.chunked c.requires.within in
    let inside : place / 64 < length c.args.chunks.now =
    omega (arith, at.chunk, length-map c.args.chunks.now parts_in) in
    let list = c.deref.result.now in
    let long = length_at c.args.chunks.now (place / 64) c.index-chunks-place.result list inside c.index-chunks-place.is
    c.deref.ensures in
    at.part
    ∙ part_at c.args.chunks.now (place / 64) (place % 64) c.index-chunks-place.result list c.index.result.now inside
    c.index-chunks-place.is c.deref.ensures (omega (arith, at.rest, long, list.ok.0)) c.index.ensures
