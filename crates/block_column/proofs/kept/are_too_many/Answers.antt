use Rattle.std.proofs.Common.{◌≡◌, ◌∙◌, ℕ, List, Bor, length, map, false, refl, sym, rules}
use Rattle.std.specs.Prelude.{nat_le}
use Rattle.std.specs.List.{list_all}
use Rattle.std.proofs.lemmas.List.Folds.{list_all-map}
use Rattle.byte_format.proofs.Cases.{second_false}
use Rattle.block_model.specs.Distinct.{distinct, is_short}
use Rattle.block_column.specs.Kinds.{fits_dictionary}
use Rattle.block_column.proofs.kept.are_too_many.Goals as goal

abbrev now_of : Bor (List ℕ) → List ℕ
now_of t = t.now

pub returns-then-not-are_short : goal.returns-then-not-are_short
returns-then-not-are_short c =
    let ts = map now_of c.args.texts.now in
    let long : c.are_short.result ≡ false = search rules in
    let many : fits_dictionary (map now_of c.args.texts.now) ≡ false = second_false (nat_le (length (distinct ts)) 255)
    (list_all is_short ts) (list_all-map is_short now_of c.args.texts.now ∙ sym c.are_short.ensures ∙ long) in
    (λ _. many, λ _. refl)
