use Rattle.std.proofs.Common.{sym, ◌∙◌}
use Rattle.syslog_in.proofs.Standing.{visible_utf8}
use Rattle.syslog_in.proofs.part.visible.Goals as goal

pub from_utf8_unchecked-requires : goal.from_utf8_unchecked-requires
from_utf8_unchecked-requires c =
    visible_utf8 c.args.bytes.now (sym c.are_visible.ensures ∙ c.if-not-are_visible.false)
