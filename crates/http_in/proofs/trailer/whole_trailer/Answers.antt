use Rattle.std.proofs.Common.{Ok, ap, arith, length, length-append, refl, subst}
use Rattle.http_in.specs.Progress.{HasTrailerFault}
use Rattle.http_in.specs.declared.fault.RequestFault.TheVariants as faults
use Rattle.http_in.specs.Lacks.{LacksSection}
use Rattle.http_in.proofs.LackLemmas.{adds_more, adds_none, lacks_section_front, no_bytes_no_section, taken_more}
use Rattle.http_in.proofs.LineLemmas.{trailer_bad, trailer_outside, trailer_stops}
use Rattle.http_in.proofs.trailer.whole_trailer.Goals as goal

pub returns-in-Err-clause-fault : goal.returns-in-Err-clause-fault
returns-in-Err-clause-fault g c =
    trailer_bad c.args.start c.args.place c.reads.window _ c.in-Err.fault
    (subst (λ l. HasTrailerFault c.args.place l c.in-Err.fault) c.as_slice.ensures c.in-Err.ensures.fault)

pub returns-in-Ok-false-clause-fault : goal.returns-in-Ok-false-clause-fault
returns-in-Ok-false-clause-fault g c =
    let over = c.in-Ok-false.ensures.end (ap Ok c.in-Ok-false.field-0-test) in
    trailer_stops c.trailer_or.result c.args.start c.args.place c.as_slice-in-Ok-false.result.now c.fill.new.self _
    (faults.Cut c.args.start)
    c.as_slice-in-Ok-false.ensures (λ inside. (refl, inside, over.0)) c.trailer_or.ensures.fault

pub returns-in-Ok-false-clause-adds : goal.returns-in-Ok-false-clause-adds
returns-in-Ok-false-clause-adds g c =
    adds_more g.S.Source.left LacksSection c.args.src.now c.reads.src c.fill.new.src c.args.window.now c.reads.window
    c.fill.new.self lacks_section_front c.reads.invariant.adds c.in-Ok-false.ensures.adds
    (subst LacksSection c.as_slice.ensures (c.in-Ok-None.ensures.open (ap Ok c.in-Ok-None.field-0-is)).1)

pub returns-in-Err-fill-clause-adds : goal.returns-in-Err-fill-clause-adds
returns-in-Err-fill-clause-adds g c =
    adds_more g.S.Source.left LacksSection c.args.src.now c.reads.src c.fill.new.src c.args.window.now c.reads.window
    c.fill.new.self lacks_section_front c.reads.invariant.adds c.in-Err-fill.ensures.adds
    (subst LacksSection c.as_slice.ensures (c.in-Ok-None.ensures.open (ap Ok c.in-Ok-None.field-0-is)).1)

pub reads-init : goal.reads-init
reads-init g c = record {
  adds = adds_none g.S.Source.left (LacksSection c.args.window.now) c.args.src.now c.args.window.now;
  stays = omega arith;
  fits = omega arith;
  none = no_bytes_no_section;
}

pub reads-preserved : goal.reads-preserved
reads-preserved g c =
    let more = c.in-Ok-true.ensures.adds in
    let none = subst LacksSection c.as_slice.ensures (c.in-Ok-None.ensures.open (ap Ok c.in-Ok-None.field-0-is)).1 in
    record {
      adds = adds_more g.S.Source.left LacksSection c.args.src.now c.reads.src c.fill.new.src c.args.window.now
          c.reads.window
          c.fill.new.self lacks_section_front c.reads.invariant.adds more none;
      stays = omega (arith, c.reads.invariant.stays, c.in-Ok-true.ensures.faults);
      fits = omega (
        arith,
        ap length c.as_slice-searched.ensures,
        ap length more.2,
        length-append c.reads.window
            more.0,
      );
      none = taken_more LacksSection c.reads.window more.0 c.fill.new.self _ more.2
          (ap length c.as_slice-searched.ensures) none;
    }

pub returns-in-Err-fill-clause-fault : goal.returns-in-Err-fill-clause-fault
returns-in-Err-fill-clause-fault g c =
    trailer_stops c.trailer_or-in-Err-fill.result c.args.start c.args.place c.as_slice-in-Err-fill.result.now
    c.fill.new.self _ c.in-Err-fill.fault
    c.as_slice-in-Err-fill.ensures
    (λ inside. trailer_outside c.args.start c.args.place c.fill.new.self _ c.in-Err-fill.fault
    c.in-Err-fill.ensures.outside inside)
    c.trailer_or-in-Err-fill.ensures.fault
