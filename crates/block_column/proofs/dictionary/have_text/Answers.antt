use Rattle.std.proofs.Common.{◌∙◌, ℕ, List, Bor, ap, not, sym}
use Rattle.std.proofs.lemmas.List.Folds.{list_all-map}
use Rattle.block_column.specs.Kinds.{is_number}
use Rattle.block_column.proofs.dictionary.have_text.Goals as goal

abbrev now_of : Bor (List ℕ) → List ℕ
now_of t = t.now

pub returns : goal.returns
returns c = ap not (c.are_integers.ensures ∙ sym (list_all-map is_number now_of c.args.texts.now))
