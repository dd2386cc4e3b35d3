use Rattle.std.proofs.lemmas.Str.{utf8_lossy-IsUtf8}
use Rattle.syslog_in.proofs.data.set_bytes.Goals as goal

pub returns-in-Ok : goal.returns-in-Ok
returns-in-Ok c =
    let text = c.in-Ok.ensures.cases in
    rw (utf8_lossy-IsUtf8 c.args.value.now text.1) (rw text.0 at c.set.ensures.ok)
