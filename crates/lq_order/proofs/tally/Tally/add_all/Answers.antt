use Rattle.std.proofs.Common.{◌≡◌, ◌+◌, ◌++◌, [], ◌∷◌, ◌∙◌, ap, append-nil, append_assoc, length-append, subst}
use Rattle.std.proofs.Common.{sym, take, arith}
use Rattle.std.proofs.lemmas.List.{length-take-le, take_all, take_more}
use Rattle.lq_order.specs.Tally.{Tallies}
use Rattle.lq_order.proofs.tally.Tally.add_all.Goals as goal

pub loop-record-init : goal.loop-record-init
loop-record-init c = λ names before few h. subst (Tallies c.args.self.now names) (sym (append-nil before)) h

pub loop-record-preserved : goal.loop-record-preserved
loop-record-preserved c = λ names before few h.
    let i = c.loop-record.record-index in
    let records = c.args.records.now in
    let r = c.record-item.result in
    let longer : (before ++ take i records) ++ r ∷ [] ≡ before ++ take (i + 1) records =
    append_assoc before (take i records) (r ∷ [])
    ∙ ap (λ l. before ++ l) (ap (λ x. take i records ++ x ∷ []) c.record-item.is
    ∙ sym (take_more records i r c.loop-record-test.true)) in
    let long = length-append before (take i records) in
    let some = length-take-le i records (omega (arith, c.loop-record-test.true)) in
    subst (Tallies c.add.new.self names) longer
    (c.in_ok-add.ensures names (before ++ take i records) (omega (arith, few, long, some, c.loop-record-test.true))
    (c.loop-record.invariant names before few h))

pub returns : goal.returns
returns c = λ names before few h.
    subst (λ l. Tallies c.loop-record.self names (before ++ l))
    (take_all c.loop-record.record-index c.args.records.now (omega arith)) (c.loop-record.invariant names before few h)
