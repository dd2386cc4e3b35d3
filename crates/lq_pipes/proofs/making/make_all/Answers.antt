use Rattle.std.proofs.Common.{◌≡◌, Ok, ap, get_or, map, slice_set, subst, sym, ◌∙◌}
use Rattle.std.proofs.lemmas.List.Edits.{map_over_more}
use Rattle.lq_ast.specs.Grouping.{all}
use Rattle.lq_ast.specs.Made.{made}
use Rattle.lq_ast.specs.MakingView.{making}
use Rattle.lq_pipes.proofs.MadeOnes.{all_made, each_more, made_is, made_of, makes_fault, same_item}
use Rattle.lq_pipes.proofs.Refusing.{handed_on}
use Rattle.lq_pipes.proofs.Walked.{each_written}
use Rattle.lq_pipes.specs.Faults.{IsMadeFault, of_making}
use Rattle.row_pipes.specs.Faults.{IsMakeFault}
use Rattle.lq_pipes.proofs.making.make_all.Goals as goal

pub loop-record-preserved : goal.loop-record-preserved
loop-record-preserved c =
    let m = making c.args.pipe.now in
    let old = c.deref_mut-record-items.result.now in
    let items = c.loop-record.record-items in
    let i = c.loop-record.record-index in
    let r = c.record-item.result in
    let here = c.loop-record.invariant in
    let at : r ≡ get_or old i r =
    c.record-item.is ∙ ap (λ rs. get_or rs i r) here.written ∙ same_item (made_of m) old i r in
    let done : made m r ≡ Ok c.make.new.r = ap (made m) c.record-item.is ∙ c.in_ok-make.ensures.ok in
    record {
      written = ap (slice_set items i) (sym (made_is m r c.make.new.r done))
          ∙ map_over_more (made_of m) old items i r c.loop-record-test.true here.written c.record-item.is;
      each = each_more m old i here.each r c.make.new.r c.loop-record-test.true at done;
    }

pub returns-clause-ok : goal.returns-clause-ok
returns-clause-ok c =
    let m = making c.args.pipe.now in
    let old = c.deref_mut-record-items.result.now in
    let i = c.loop-record.record-index in
    let here = c.loop-record.invariant in
    let whole = c.deref_mut-record-items.ensures.value ∙ c.into_vec-records.ensures in
    let written = each_written (made_of m) c.args.r c.into_vec-records.result.items old c.loop-record.record-items i
    c.into_vec-records.result.len c.of.result c.into_vec-records.ensures c.deref_mut-record-items.ensures.value
    c.loop-record-test.false c.loop-record.auto.record-items here.written c.into_vec-records.result.ok.0
    c.of.ensures in
    ap (λ rs. all (map (made m) rs)) (sym whole) ∙ all_made m old i here.each c.loop-record-test.false
    ∙ ap (λ rs. Ok (map (made_of m) rs)) whole ∙ ap Ok (sym written)

pub returns-in_err-make-clause-fault : goal.returns-in_err-make-clause-fault
returns-in_err-make-clause-fault c =
    let m = making c.args.pipe.now in
    let old = c.deref_mut-record-items.result.now in
    let i = c.loop-record.record-index in
    let r = c.record-item.result in
    let here = c.loop-record.invariant in
    let fault = c.in_err-make.field-0.0 in
    let whole = c.deref_mut-record-items.ensures.value ∙ c.into_vec-records.ensures in
    let at : r ≡ get_or old i r =
    c.record-item.is ∙ ap (λ rs. get_or rs i r) here.written ∙ same_item (made_of m) old i r in
    let failed = makes_fault m old i here.each r fault c.loop-record-test.true at
    (subst (λ x. IsMakeFault m x fault) (sym c.record-item.is) c.in_err-make.ensures.overflow) in
    handed_on c.from_residual.result (IsMadeFault (all (map (made m) c.args.r))) (of_making fault)
    c.from_residual.ensures.1 (subst (λ rs. IsMadeFault (all (map (made m) rs)) (of_making fault)) whole failed)
