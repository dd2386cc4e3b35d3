use Rattle.std.proofs.Common.{◌∙◌, ℕ, List, Bor, sym}
use Rattle.std.proofs.lemmas.List.Folds.{list_all-map}
use Rattle.block_model.specs.Distinct.{is_short}
use Rattle.block_column.proofs.dictionary.none_is_long.Goals as goal

abbrev now_of : Bor (List ℕ) → List ℕ
now_of t = t.now

pub returns : goal.returns
returns c = c.are_short.ensures ∙ sym (list_all-map is_short now_of c.args.texts.now)
