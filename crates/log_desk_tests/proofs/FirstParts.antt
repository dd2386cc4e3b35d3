-- The first parts of a look, one after another.
use Rattle.std.proofs.Common.{◌≡◌, ℕ, suc, ◌+◌, ◌<◌, List, [], ◌∷◌, ◌++◌, length, get_or, take, ap, sym, ◌∙◌, arith}
use Rattle.std.proofs.Math.Seq.{take-suc}
use Rattle.std.proofs.lemmas.List.{map-append}
use Rattle.std.proofs.lemmas.Option.{get_or_from_slice_get, slice_get_within}
use Rattle.std.specs.Prelude.{Some}
use Rattle.std.specs.Arc.{arc_value}
use Rattle.std.specs.List.{slice_get}
use Rattle.std.specs.declared.sync.Arc.{Arc}
use Rattle.log_core.specs.Shared.{shared_parts}

-- After the first n parts comes the part at place n.
pub one_more : {P Z : Type 0} (parts : List (Arc P Z)) (part : Arc P Z) (all : List P) (n : ℕ)
    → shared_parts parts ≡ take n all → slice_get all n ≡ Some (arc_value part)
    → shared_parts (parts ++ part ∷ []) ≡ take (n + 1) all
one_more parts part all n same is =
    let read = get_or_from_slice_get all n (arc_value part) (arc_value part) is in
    let next : suc n ≡ n + 1 = omega arith in
    map-append arc_value parts (part ∷ []) ∙ ap (λ list. list ++ arc_value part ∷ []) same
    ∙ ap (λ x. take n all ++ x ∷ []) (sym read)
    ∙ sym (take-suc all n (arc_value part) (slice_get_within all n (arc_value part) is))
    ∙ ap (λ m. take m all) next
