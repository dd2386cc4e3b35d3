use Rattle.vl_io.specs.Change.{change_of}
use Rattle.part_store.specs.declared.fault.ReopenFault.TheVariants.{Damaged, Version}
use Rattle.vl_open.specs.Opening.{reopen_fault_text}
use Rattle.vl_open.proofs.Reports.{reports_damaged, reports_version}
use Rattle.vl_open.proofs.report.report_fault.Goals as goal

pub returns-in-Damaged : goal.returns-in-Damaged
returns-in-Damaged g c =
    let reported = c.report_damage in
    let file = c.in-Damaged.file in
    let at = c.in-Damaged.at in
    reports_damaged (change_of g.E.Sink.written g.E.Sink.faults c.args.err.now reported.new.err) c.args.fault
    reported.result file at c.in-Damaged.is
    (reported.ensures (reopen_fault_text (Damaged file at)) c.damaged_text.ensures)

pub returns-in-Version : goal.returns-in-Version
returns-in-Version g c =
    let reported = c.report_damage-in-Version in
    let file = c.in-Version.file in
    let found = c.in-Version.found in
    reports_version (change_of g.E.Sink.written g.E.Sink.faults c.args.err.now reported.new.err) c.args.fault
    reported.result file found c.in-Version.is
    (reported.ensures (reopen_fault_text (Version file found)) c.version_text.ensures)
