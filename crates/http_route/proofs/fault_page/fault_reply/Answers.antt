use Rattle.std.proofs.Common.{Some, ap}
use Rattle.http_route.proofs.Pages.{bad_chunk, bad_head, bad_length, body_large, coding, head_large}
use Rattle.http_route.proofs.fault_page.fault_reply.Goals as goal

pub returns-in-BadHead : goal.returns-in-BadHead
returns-in-BadHead c = rw c.in-BadHead.is (ap Some bad_head)

pub returns-in-HeadLarge : goal.returns-in-HeadLarge
returns-in-HeadLarge c = rw c.in-HeadLarge.is (ap Some head_large)

pub returns-in-BodyLarge : goal.returns-in-BodyLarge
returns-in-BodyLarge c = rw c.in-BodyLarge.is (ap Some body_large)

pub returns-in-BadLength : goal.returns-in-BadLength
returns-in-BadLength c = rw c.in-BadLength.is (ap Some bad_length)

pub returns-in-BadChunk : goal.returns-in-BadChunk
returns-in-BadChunk c = rw c.in-BadChunk.is (ap Some bad_chunk)

pub returns-in-Coding : goal.returns-in-Coding
returns-in-Coding c = rw c.in-Coding.is (ap Some coding)
