use Rattle.std.proofs.Common.{◌∙◌, ap, length, map, subst, sym, zip}
use Rattle.std.proofs.lemmas.List.{length-map}
use Rattle.std.proofs.lemmas.Result.{IfOk-weaker}
use Rattle.std.specs.Bool.{nat_le}
use Rattle.std.specs.List.{filter}
use Rattle.lq_ast.specs.Sorting.{hits}
use Rattle.lq_tuple.specs.Counted.{HaveLength, tuple_text}
use Rattle.lq_order.proofs.ReadGroups.{groups_are}
use Rattle.lq_order.proofs.tally.Tally.groups.Goals as goal

pub returns : goal.returns
returns c = IfOk-weaker c.read_groups.result _ _
    (λ groups e names records h.
    let kept = c.as_slice-2.ensures.value in
    groups_are c.args.self.now names records c.args.least groups.items h
    (e h.tuples (ap (map (λ text. text.now)) c.as_slice.ensures.value ∙ c.in_ok-texts.ensures (map tuple_text h.tuples) h.known)
    (subst (λ ns. HaveLength (length ns) h.tuples) (sym h.fields) h.wide)
    (ap length (kept ∙ h.counted) ∙ length-map h.tuples (hits names records))
    ∙ ap (λ ns. filter (λ p. nat_le c.args.least p.1) (zip h.tuples ns)) kept)) c.read_groups.ensures
