use Rattle.std.proofs.Common.{◌≡◌, [], ◌∙◌, List, ℕ, Bor, ap, false, get_or, refl, subst, sym, arith}
use Rattle.std.proofs.lemmas.Bool.{false_from_ne_true, le-leb, leb-true}
use Rattle.std.specs.Bool.{nat_le}
use Rattle.lq_tuple.proofs.ReadEach.{tuple_at}
use Rattle.lq_order.proofs.ReadGroups.{AreRead, read_kept, read_left}
use Rattle.lq_order.proofs.groups.read_groups.Goals as goal
use Rattle.lq_order.proofs.groups.read_groups.Goals.{then-hits-least+in_ok-tuple+in_ok-push, else-hits-least}

pub loop-i-preserved : goal.loop-i-preserved
loop-i-preserved c = λ tuples same wide long.
    let i = c.loop-i.i in
    let texts = c.args.texts.now in
    let number = c.number_at-hits.result in
    let least = c.args.least in
    let none : Bor (List ℕ) = record { ref_ptr = (0, 0); now = [] } in
    let so_far = c.loop-i.invariant tuples same wide long in
    let at = tuple_at texts tuples c.args.width same wide i none (omega arith) in
    elim c.if-hits-least.branch [
      | then-hits-least+in_ok-tuple+in_ok-push w ↦
          read_kept texts tuples c.args.hits.now c.args.width least same wide long i number c.loop-i.groups.items
          c.if-hits-least.groups.items _ (omega arith) c.number_at-hits.ensures
          (le-leb least number (omega (arith, w.if-hits-least.true)))
          (w.in_ok-tuple.ensures (get_or tuples i []) at.0 at.1 at.2) refl
          (ap (λ v. v.items) w.groups-is ∙ w.in_ok-push.ensures.items) so_far
      | else-hits-least w ↦
          let few : nat_le least number ≡ false = false_from_ne_true (nat_le least number) (λ e.
          let below = leb-true least number e in omega (arith, below, w.if-hits-least.false)) in
          let kept = ap (λ v. v.items) w.groups-is in
          read_left texts tuples c.args.hits.now c.args.width least same wide long i number
          c.if-hits-least.groups.items (omega arith) c.number_at-hits.ensures few
          (subst (λ gs. AreRead texts tuples c.args.hits.now c.args.width least same wide long i gs) (sym kept) so_far)
    ]
