use Rattle.std.proofs.Common.{◌≡◌, ◌++◌, ◌∷◌, ℕ, ℤ, List, [], pos, ap, sym, ◌∙◌, get_or, map, take, to_z, of_z, w64, rules}
use Rattle.std.proofs.Common.{FitsSigned, refl, true}
use Rattle.std.specs.List.{list_all}
use Rattle.std.proofs.lemmas.Int.{to_z-of_z}
use Rattle.std.proofs.lemmas.List.{map_more, take_all}
use Rattle.std.proofs.lemmas.List.Folds.{list_all_more}
use Rattle.col_codec.specs.Ints.{gap, is_i64}
use Rattle.col_codec.specs.Ranges.{is_i64-fits}
use Rattle.col_codec.proofs.int_write.differences.Goals as goal

pub loop-n-preserved : goal.loop-n-preserved
loop-n-preserved c =
    let z = get_or c.args.ints.now c.loop-n.n-index (pos 0) in
    let small : FitsSigned w64 (get_or c.args.ints.now c.loop-n.n-index (pos 0)) = search rules in
    let e : c.abs_diff.result ≡ gap (to_z w64 (of_z w64 c.args.least)) (get_or c.args.ints.now c.loop-n.n-index
    (pos 0)) = simp (to_z-of_z w64 (get_or c.args.ints.now c.loop-n.n-index (pos 0)) small) at c.abs_diff.ensures in
    record {
      numbers = c.in_ok-push.ensures.items ∙ ap (λ (l : List ℕ). l ++ c.abs_diff.result ∷ []) c.loop-n.invariant.numbers
          ∙ ap (λ (k : ℕ). map (gap (to_z w64 (of_z w64 c.args.least))) (take c.loop-n.n-index c.args.ints.now) ++ k ∷ []) e
          ∙ sym (map_more (gap (to_z w64 (of_z w64 c.args.least))) c.args.ints.now c.loop-n.n-index (pos 0)
          c.loop-n-test.true);
      fits = list_all_more is_i64 c.args.ints.now c.loop-n.n-index (pos 0) c.loop-n-test.true
          ∙ rw (c.loop-n.invariant.fits, is_i64-fits (get_or c.args.ints.now c.loop-n.n-index (pos 0)) small) refl;
    }

pub returns-clause-numbers : goal.returns-clause-numbers
returns-clause-numbers c =
    let l = to_z-of_z w64 c.args.least c.ranges.least in
    let done : c.loop-n.numbers.items ≡ map (gap c.args.least) (take c.loop-n.n-index c.args.ints.now) =
    simp l at c.loop-n.invariant.numbers in
    done ∙ ap (map (gap c.args.least)) (take_all c.loop-n.n-index c.args.ints.now c.loop-n-test.false)

pub returns-clause-fits : goal.returns-clause-fits
returns-clause-fits c =
    ap (list_all is_i64) (sym (take_all c.loop-n.n-index c.args.ints.now c.loop-n-test.false)) ∙ c.loop-n.invariant.fits
