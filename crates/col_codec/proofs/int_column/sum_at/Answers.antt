use Rattle.std.proofs.Common.{◌≡◌, ◌∙◌, ℕ, ℤ, Some, FitsSigned, get_or, pos, ◌+ℤ◌, ap, sym, subst, w64}
use Rattle.std.proofs.lemmas.Int.{to_z-of_z}
use Rattle.col_codec.specs.Lanes.{numbers_in, sum_of}
use Rattle.col_codec.proofs.LaneLaws.{sum-at, sum-at-fits}
use Rattle.col_codec.proofs.int_column.sum_at.Goals as goal

pub unreachable-requires : goal.unreachable-requires
unreachable-requires c =
    let l = to_z-of_z w64 c.args.least c.ranges.least in
    let fits = sum-at-fits c.args.least (numbers_in c.args.lanes.now) c.args.i c.requires.within c.requires.fits in
    c.in-None.ensures (rw (l, c.number_at.ensures) fits)

pub returns : goal.returns
returns c =
    let l = to_z-of_z w64 c.args.least c.ranges.least in
    let h = c.in-Some.ensures in
    let sum : c.in-Some.sum ≡ sum_of c.args.least (get_or (numbers_in c.args.lanes.now) c.args.i 0) = h.1
    ∙ ap (λ (z : ℤ). z +ℤ pos c.number_at.result) l ∙ ap (λ (k : ℕ). c.args.least +ℤ pos k) c.number_at.ensures in
    let fits : FitsSigned w64 c.in-Some.sum = subst (FitsSigned w64) (sym h.1) h.0 in
    sum-at c.args.least (numbers_in c.args.lanes.now) c.args.i c.requires.within
    ∙ ap (λ (z : ℤ). Some z) (sym sum ∙ sym (to_z-of_z w64 c.in-Some.sum fits))
