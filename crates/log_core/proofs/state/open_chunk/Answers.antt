use Rattle.std.proofs.Common.{subst, sym}
use Rattle.log_core.specs.Shared.{AreChunks, AreFilled, lists_in}
use Rattle.log_core.proofs.Chunks.{AreChunks-begin}
use Rattle.log_core.proofs.state.open_chunk.Goals as goal

pub returns-clause-chunked : goal.returns-clause-chunked
returns-clause-chunked g c =
    subst AreChunks (sym c.in_ok-begin_chunk.ensures.ok) (AreChunks-begin (lists_in c.args.chunks.now.items) c.requires
    (subst (λ chunks. AreFilled (lists_in chunks)) c.as_slice.ensures.value c.in-None.ensures.none))
