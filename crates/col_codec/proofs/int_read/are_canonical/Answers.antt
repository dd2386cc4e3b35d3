use Rattle.std.proofs.Common.{◌≡◌, ◌∙◌, ℕ, true, FitsSigned, ap, sym, subst, w64, rules}
use Rattle.std.proofs.lemmas.Int.{to_z-of_z}
use Rattle.col_codec.specs.Ints.{width_for}
use Rattle.col_codec.specs.Lanes.{sum_of}
use Rattle.col_codec.proofs.LaneLaws.{is-canonical}
use Rattle.col_codec.proofs.int_read.are_canonical.Goals as goal

pub returns : goal.returns
returns c e =
    let there : c.have_zero.result ≡ true = search rules in
    let good : c.fits.result ≡ true = search rules in
    let l = to_z-of_z w64 c.args.least c.ranges.least in
    let sum : FitsSigned w64 (sum_of c.args.least c.most_of-most.result) = simp l at (c.fits.ensures good) in
    is-canonical c.args.least c.args.lanes.now (sym c.have_zero.ensures ∙ there) c.ranges.least
    (subst (λ (m : ℕ). FitsSigned w64 (sum_of c.args.least m)) c.most_of-most.ensures sum)
    (sym c.width_of.ensures ∙ c.is_width_for.ensures e ∙ ap width_for c.most_of-most.ensures)
