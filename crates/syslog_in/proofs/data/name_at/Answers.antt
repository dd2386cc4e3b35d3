use Rattle.std.proofs.Common.{take, arith}
use Rattle.std.proofs.lemmas.List.Sums.{prefix_len-le-length}
use Rattle.syslog_in.specs.Message.{is_name_byte}
use Rattle.syslog_in.specs.DataReading.{name_len}
use Rattle.syslog_in.proofs.Runs.{all_taken}
use Rattle.syslog_in.proofs.Standing.{visible_utf8, name_bytes_visible}
use Rattle.syslog_in.proofs.data.name_at.Goals as goal

pub split_at-requires : goal.split_at-requires
split_at-requires c = omega (arith, c.name_len-len.ensures, prefix_len-le-length is_name_byte c.args.text.now)

pub from_utf8_unchecked-requires : goal.from_utf8_unchecked-requires
from_utf8_unchecked-requires c =
    let text = c.args.text.now in
    rw (c.split_at.ensures.front, c.name_len-len.ensures) (visible_utf8 (take (name_len text) text)
    (name_bytes_visible (take (name_len text) text) (all_taken is_name_byte text)))
