use Rattle.std.proofs.Common.{◌≡◌, ℕ, List, take}
use Rattle.std.specs.Prelude.{bytes_eq}
use Rattle.std.specs.BTreeSet.{contains_text}
use Rattle.std.specs.List.{list_any}
use Rattle.lq_filter.proofs.choices.Choices.new.Given as goal

abbrev pub invariant-loop-text : goal.invariant-loop-text
invariant-loop-text l = record {
  copied : l.copies.items ≡ take l.text-index l.texts;
  known : (value : List ℕ) → contains_text l.sorted value ≡ list_any (bytes_eq value) (take l.text-index l.texts);
}
