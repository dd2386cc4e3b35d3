use Rattle.std.proofs.Common.{Ok, ap, arith, subst, sym, take}
use Rattle.std.specs.Prelude.{IfErr, ⊤}
use Rattle.vl_io.specs.Bytes.{IsAtEnd}
use Rattle.http_in.specs.Head.{ExplainsHead, HasHeadFault}
use Rattle.http_in.specs.Lacks.{IsPlace, LacksHead}
use Rattle.http_in.proofs.HeadLemmas.{err_ended, explained}
use Rattle.http_in.proofs.LackLemmas.{adds_more, adds_none, first_none, first_place, lacks_head_front, place_more}
use Rattle.http_in.proofs.LackLemmas.{searched_more}
use Rattle.http_in.proofs.head.whole_head.Goals as goal

pub returns-in-Err-clause-fault : goal.returns-in-Err-clause-fault
returns-in-Err-clause-fault g c =
    explained c.args.start c.reads.window _ c.in-Err.fault
    (subst (λ l. HasHeadFault c.args.start l c.in-Err.fault) c.as_slice.ensures c.in-Err.ensures.fault)

pub returns-in-Ok-false-clause-fault : goal.returns-in-Ok-false-clause-fault
returns-in-Ok-false-clause-fault g c =
    let over = c.in-Ok-false.ensures.end (ap Ok c.in-Ok-false.field-0-test) in
    let ended = IsAtEnd (g.S.Source.left c.fill.new.src) in
    subst (λ l. IfErr c.head_at_end.result (ExplainsHead c.args.start l ended)) c.as_slice-in-Ok-false.ensures
    (err_ended c.head_at_end.result c.args.start c.as_slice-in-Ok-false.result.now ⊤ ended
    (λ _. over.0) c.head_at_end.ensures.fault)

pub returns-in-Ok-false-clause-adds : goal.returns-in-Ok-false-clause-adds
returns-in-Ok-false-clause-adds g c =
    adds_more g.S.Source.left LacksHead c.args.src.now c.reads.src c.fill.new.src c.args.window.now c.reads.window
    c.fill.new.self lacks_head_front c.reads.invariant.adds c.in-Ok-false.ensures.adds
    (subst LacksHead c.as_slice.ensures (c.in-Ok-None.ensures.open (ap Ok c.in-Ok-None.field-0-is)).1)

pub returns-in-Err-fill-clause-adds : goal.returns-in-Err-fill-clause-adds
returns-in-Err-fill-clause-adds g c =
    adds_more g.S.Source.left LacksHead c.args.src.now c.reads.src c.fill.new.src c.args.window.now c.reads.window
    c.fill.new.self lacks_head_front c.reads.invariant.adds c.in-Err-fill.ensures.adds
    (subst LacksHead c.as_slice.ensures (c.in-Ok-None.ensures.open (ap Ok c.in-Ok-None.field-0-is)).1)

pub reads-init : goal.reads-init
reads-init g c = record {
  adds = adds_none g.S.Source.left (LacksHead c.args.window.now) c.args.src.now c.args.window.now;
  stays = omega arith;
  place = first_place c.new_search-search.result c.args.window.now c.new_search-search.ensures.place;
  none = first_none c.new_search-search.result c.args.window.now c.new_search-search.ensures.none;
}

pub reads-preserved : goal.reads-preserved
reads-preserved g c =
    let more = c.in-Ok-true.ensures.adds in
    let none = subst LacksHead c.as_slice.ensures (c.in-Ok-None.ensures.open (ap Ok c.in-Ok-None.field-0-is)).1 in
    let search = c.head_if_due.new.search in
    let place = subst (IsPlace search) c.as_slice.ensures c.in-Ok-None.ensures.place in
    record {
      adds = adds_more g.S.Source.left LacksHead c.args.src.now c.reads.src c.fill.new.src c.args.window.now
          c.reads.window
          c.fill.new.self lacks_head_front c.reads.invariant.adds more none;
      stays = omega (arith, c.reads.invariant.stays, c.in-Ok-true.ensures.faults);
      place = subst (IsPlace search) (sym more.2) (place_more search c.reads.window more.0 place);
      none = subst (λ l. LacksHead (take search.searched l)) (sym more.2)
          (searched_more search c.reads.window more.0 place none);
    }

pub returns-in-Err-fill-clause-fault : goal.returns-in-Err-fill-clause-fault
returns-in-Err-fill-clause-fault g c =
    let ended = IsAtEnd (g.S.Source.left c.fill.new.src) in
    subst (λ l. IfErr c.head_or.result (ExplainsHead c.args.start l ended)) c.as_slice-in-Err-fill.ensures
    (err_ended c.head_or.result c.args.start c.as_slice-in-Err-fill.result.now ⊥ ended
    (λ x. absurd x) c.head_or.ensures.fault)
