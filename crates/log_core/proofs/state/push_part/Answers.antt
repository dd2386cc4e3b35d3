use Rattle.log_core.specs.Offers.{offered}
use Rattle.log_core.specs.Shared.{joined, lists_in}
use Rattle.log_core.proofs.Chunks.{is_appended}
use Rattle.log_core.proofs.state.push_part.Goals as goal

pub returns-clause-ok : goal.returns-clause-ok
returns-clause-ok g c =
    let done = is_appended c.push_within.result c.open_chunk.new.chunks.items c.in-Ok.last c.index_mut.result.now
    c.push_within.new.chunk (joined (lists_in c.args.chunks.now.items)) (offered c.args.part) c.index_mut.ensures.value
    c.in-Ok.ensures.room c.in-Ok.ensures.chunked c.in-Ok.ensures.parts c.push_within.ensures.ok
    c.push_within.ensures.err in
    done.ok

pub returns-clause-err : goal.returns-clause-err
returns-clause-err g c =
    let done = is_appended c.push_within.result c.open_chunk.new.chunks.items c.in-Ok.last c.index_mut.result.now
    c.push_within.new.chunk (joined (lists_in c.args.chunks.now.items)) (offered c.args.part) c.index_mut.ensures.value
    c.in-Ok.ensures.room c.in-Ok.ensures.chunked c.in-Ok.ensures.parts c.push_within.ensures.ok
    c.push_within.ensures.err in
    done.err

pub returns-clause-chunked : goal.returns-clause-chunked
returns-clause-chunked g c =
    let done = is_appended c.push_within.result c.open_chunk.new.chunks.items c.in-Ok.last c.index_mut.result.now
    c.push_within.new.chunk (joined (lists_in c.args.chunks.now.items)) (offered c.args.part) c.index_mut.ensures.value
    c.in-Ok.ensures.room c.in-Ok.ensures.chunked c.in-Ok.ensures.parts c.push_within.ensures.ok
    c.push_within.ensures.err in
    done.chunked
