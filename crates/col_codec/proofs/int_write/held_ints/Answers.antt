use Rattle.std.proofs.Common.{◌≡◌, ◌∙◌, ℕ, ℤ, List, ◌<◌, FitsSigned, ap, map, sym, subst, w64, rules}
use Rattle.std.specs.List.{All}
use Rattle.std.proofs.lemmas.Int.{to_z-of_z}
use Rattle.col_codec.specs.Ints.{gap, least_of, widest, width_for}
use Rattle.col_codec.specs.Widths.{limit}
use Rattle.col_codec.specs.declared.width.IntWidth.{IntWidth}
use Rattle.col_codec.proofs.LaneLaws.{gaps-narrow, held-ints}
use Rattle.col_codec.proofs.int_write.held_ints.Goals as goal

pub narrowed-requires : goal.narrowed-requires
narrowed-requires c =
    let fits = c.in_ok-numbers.ensures.fits in
    let small : FitsSigned w64 c.least_of-least.result = search rules in
    let l = to_z-of_z w64 c.least_of-least.result small in
    let numbers : c.in_ok-numbers.numbers.items ≡ map (gap c.least_of-least.result) c.args.ints.now =
    simp l at c.in_ok-numbers.ensures.numbers in
    let most : c.widest.result ≡ widest c.least_of-least.result c.args.ints.now = simp l at c.widest.ensures in
    let width : c.width_for-width.result ≡ width_for (widest c.least_of-least.result c.args.ints.now) =
    c.width_for-width.ensures ∙ ap width_for most in
    let least = c.least_of-least.ensures in
    subst (λ (w : IntWidth). All (λ n. n < limit w) c.in_ok-numbers.numbers.items) (sym (width
    ∙ ap (λ (m : ℤ). width_for (widest m c.args.ints.now)) least))
    (subst (All (λ n. n < limit (width_for (widest (least_of c.args.ints.now) c.args.ints.now)))) (sym (numbers
    ∙ ap (λ (m : ℤ). map (gap m) c.args.ints.now) least)) (gaps-narrow c.args.ints.now fits))

pub returns-clause-ints : goal.returns-clause-ints
returns-clause-ints c =
    let fits = c.in_ok-numbers.ensures.fits in
    let small : FitsSigned w64 c.least_of-least.result = search rules in
    let l = to_z-of_z w64 c.least_of-least.result small in
    let numbers : c.in_ok-numbers.numbers.items ≡ map (gap c.least_of-least.result) c.args.ints.now =
    simp l at c.in_ok-numbers.ensures.numbers in
    let most : c.widest.result ≡ widest c.least_of-least.result c.args.ints.now = simp l at c.widest.ensures in
    let width : c.width_for-width.result ≡ width_for (widest c.least_of-least.result c.args.ints.now) =
    c.width_for-width.ensures ∙ ap width_for most in
    let h = held-ints c.least_of-least.result c.in_ok-lanes.lanes c.args.ints.now fits c.least_of-least.ensures
    (c.in_ok-lanes.ensures.numbers ∙ numbers) (c.in_ok-lanes.ensures.width ∙ width) in
    rw l h.0

pub returns-clause-canonical : goal.returns-clause-canonical
returns-clause-canonical c =
    let fits = c.in_ok-numbers.ensures.fits in
    let small : FitsSigned w64 c.least_of-least.result = search rules in
    let l = to_z-of_z w64 c.least_of-least.result small in
    let numbers : c.in_ok-numbers.numbers.items ≡ map (gap c.least_of-least.result) c.args.ints.now =
    simp l at c.in_ok-numbers.ensures.numbers in
    let most : c.widest.result ≡ widest c.least_of-least.result c.args.ints.now = simp l at c.widest.ensures in
    let width : c.width_for-width.result ≡ width_for (widest c.least_of-least.result c.args.ints.now) =
    c.width_for-width.ensures ∙ ap width_for most in
    let h = held-ints c.least_of-least.result c.in_ok-lanes.lanes c.args.ints.now fits c.least_of-least.ensures
    (c.in_ok-lanes.ensures.numbers ∙ numbers) (c.in_ok-lanes.ensures.width ∙ width) in
    rw l h.1
