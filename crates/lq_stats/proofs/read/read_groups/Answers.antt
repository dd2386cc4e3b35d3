use Rattle.std.proofs.Common.{◌≡◌, ◌++◌, ◌∷◌, [], ◌∙◌, List, ℕ, Bor, ap, get_or, map, sym, arith}
use Rattle.std.proofs.lemmas.List.{map_push}
use Rattle.lq_tuple.proofs.ReadEach.{as_long, tuple_at, zip_more}
use Rattle.lq_stats.specs.Finish.{group_pair}
use Rattle.lq_stats.proofs.read.read_groups.Goals as goal
use Rattle.lq_stats.proofs.read.read_groups.Goals.{then-i-texts+in_ok-tuple+in_ok-push, else-i-texts}

pub loop-i-preserved : goal.loop-i-preserved
loop-i-preserved c = λ tuples same wide long.
    let i = c.loop-i.i in
    let texts = c.args.texts.now in
    let states = c.args.states.now in
    let kept = c.index-states-i.result in
    let so_far = c.loop-i.invariant tuples same wide long in
    let none : Bor (List ℕ) = record { ref_ptr = (0, 0); now = [] } in
    elim c.if-i-texts.branch [
      | then-i-texts+in_ok-tuple+in_ok-push w ↦
          let at = tuple_at texts tuples c.args.width same wide i none (omega (arith, w.if-i-texts.true)) in
          let tuple : w.in_ok-tuple.tuple.items ≡ get_or tuples i [] =
          w.in_ok-tuple.ensures (get_or tuples i []) at.0 at.1 at.2 in
          ap (map group_pair) (ap (λ v. v.items) w.groups-is ∙ w.in_ok-push.ensures.items)
          ∙ map_push group_pair c.loop-i.groups.items _
          ∙ ap (λ p. map group_pair c.loop-i.groups.items ++ p ∷ []) (λ j. (tuple j, c.index-states-i.is j))
          ∙ ap (λ l. l ++ (get_or tuples i [], get_or states i kept) ∷ []) so_far
          ∙ sym (zip_more tuples states i [] kept (omega (arith, c.loop-i-test.true, long)) c.loop-i-test.true)
      | else-i-texts w ↦
          absurd (omega (
            arith,
            w.if-i-texts.false,
            c.loop-i-test.true,
            long,
            as_long texts tuples c.args.width same wide,
          ))
    ]
