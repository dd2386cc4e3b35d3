use Rattle.std.proofs.Common.{◌∙◌, FitsSigned, ap, length, pos, refl, rules, sym, of_z, subst, to_z, w64}
use Rattle.std.proofs.lemmas.Int.{to_z-of_z}
use Rattle.log_model.specs.History.{Numbered}
use Rattle.vl_row.specs.Place.{IsInOrder}
use Rattle.block_body.proofs.HeldLaws.{first-is, last-is}
use Rattle.block_body.specs.Outlines.{outline_of}
use Rattle.block_body.proofs.OutlineLaws.{in-order, outline-is}
use Rattle.block_body.proofs.head.Head.of.Goals as goal

pub new-requires : goal.new-requires
new-requires c = subst IsInOrder (sym c.requires.columns) (in-order c.args.rows.now (outline_of c.args.rows.now) refl)

pub returns : goal.returns
returns c =
    let first = first-is c.args.rows.now c.index-rows-0.result c.requires.some c.index-rows-0.is in
    let last = last-is c.args.rows.now c.index-rows-rows.result c.requires.some c.index-rows-rows.is in
    let small_first : FitsSigned w64 c.time.result = search rules in
    let small_last : FitsSigned w64 c.time-2.result = search rules in
    c.in_ok-head.ensures
    ∙ outline-is c.args.rows.now c.in_ok-stream.stream (to_z w64 (of_z w64 c.time.result)) (to_z w64
    (of_z w64 c.time-2.result)) (length c.args.rows.now) c.weight_of.result c.args.columns.items
    (c.in_ok-stream.ensures ∙ c.stream.ensures ∙ ap (λ (n : Numbered). n.row.labels) c.first.view_is ∙ sym first.0)
    (to_z-of_z w64 c.time.result small_first ∙ c.time.ensures.value ∙ ap (λ (n : Numbered). pos n.row.moment)
    c.first.view_is ∙ ap pos (sym first.1))
    (to_z-of_z w64 c.time-2.result small_last ∙ c.time-2.ensures.value ∙ ap (λ (n : Numbered). pos n.row.moment)
    c.last.view_is ∙ ap pos (sym last))
    refl c.weight_of.ensures c.requires.columns
