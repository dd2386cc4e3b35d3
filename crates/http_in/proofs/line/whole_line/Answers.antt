use Rattle.std.proofs.Common.{◌≡◌, Ok, ap, arith, length, length-append, refl, subst}
use Rattle.http_in.specs.Faults.{HasBadLine}
use Rattle.http_in.specs.declared.fault.RequestFault.TheVariants as faults
use Rattle.http_in.specs.Lacks.{LacksLine}
use Rattle.http_in.proofs.LackLemmas.{adds_more, adds_none, lacks_line_front, no_bytes_no_line, taken_more}
use Rattle.http_in.proofs.LineLemmas.{line_bad, line_outside, line_stops}
use Rattle.http_in.proofs.line.whole_line.Goals as goal

pub returns-in-Err-clause-fault : goal.returns-in-Err-clause-fault
returns-in-Err-clause-fault g c =
    line_bad c.args.start c.args.place c.reads.window _ c.in-Err.fault
    (subst (λ l. (c.in-Err.fault ≡ faults.BadChunk c.args.place) × HasBadLine l) c.as_slice.ensures
    c.in-Err.ensures.bad)

pub returns-in-Ok-false-clause-fault : goal.returns-in-Ok-false-clause-fault
returns-in-Ok-false-clause-fault g c =
    let over = c.in-Ok-false.ensures.end (ap Ok c.in-Ok-false.field-0-test) in
    line_stops c.line_or.result c.args.start c.args.place c.as_slice-in-Ok-false.result.now c.fill.new.self _
    (faults.Cut c.args.start)
    c.as_slice-in-Ok-false.ensures (λ inside. (refl, inside, over.0)) c.line_or.ensures.fault

pub returns-in-Ok-false-clause-adds : goal.returns-in-Ok-false-clause-adds
returns-in-Ok-false-clause-adds g c =
    adds_more g.S.Source.left LacksLine c.args.src.now c.reads.src c.fill.new.src c.args.window.now c.reads.window
    c.fill.new.self lacks_line_front c.reads.invariant.adds c.in-Ok-false.ensures.adds
    (subst LacksLine c.as_slice.ensures (c.in-Ok-None.ensures.open (ap Ok c.in-Ok-None.field-0-is)).1)

pub returns-in-Err-fill-clause-adds : goal.returns-in-Err-fill-clause-adds
returns-in-Err-fill-clause-adds g c =
    adds_more g.S.Source.left LacksLine c.args.src.now c.reads.src c.fill.new.src c.args.window.now c.reads.window
    c.fill.new.self lacks_line_front c.reads.invariant.adds c.in-Err-fill.ensures.adds
    (subst LacksLine c.as_slice.ensures (c.in-Ok-None.ensures.open (ap Ok c.in-Ok-None.field-0-is)).1)

pub reads-init : goal.reads-init
reads-init g c = record {
  adds = adds_none g.S.Source.left (LacksLine c.args.window.now) c.args.src.now c.args.window.now;
  stays = omega arith;
  fits = omega arith;
  none = no_bytes_no_line;
}

pub reads-preserved : goal.reads-preserved
reads-preserved g c =
    let more = c.in-Ok-true.ensures.adds in
    let none = subst LacksLine c.as_slice.ensures (c.in-Ok-None.ensures.open (ap Ok c.in-Ok-None.field-0-is)).1 in
    record {
      adds = adds_more g.S.Source.left LacksLine c.args.src.now c.reads.src c.fill.new.src c.args.window.now
          c.reads.window
          c.fill.new.self lacks_line_front c.reads.invariant.adds more none;
      stays = omega (arith, c.reads.invariant.stays, c.in-Ok-true.ensures.faults);
      fits = omega (
        arith,
        ap length c.as_slice-searched.ensures,
        ap length more.2,
        length-append c.reads.window
            more.0,
      );
      none = taken_more LacksLine c.reads.window more.0 c.fill.new.self _ more.2
          (ap length c.as_slice-searched.ensures) none;
    }

pub returns-in-Err-fill-clause-fault : goal.returns-in-Err-fill-clause-fault
returns-in-Err-fill-clause-fault g c =
    line_stops c.line_or-in-Err-fill.result c.args.start c.args.place c.as_slice-in-Err-fill.result.now
    c.fill.new.self _ c.in-Err-fill.fault
    c.as_slice-in-Err-fill.ensures
    (λ inside. line_outside c.args.start c.args.place c.fill.new.self _ c.in-Err-fill.fault
    c.in-Err-fill.ensures.outside inside)
    c.line_or-in-Err-fill.ensures.fault
