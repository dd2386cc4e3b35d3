use Rattle.std.proofs.Common.{◌≡◌, take, true}
use Rattle.std.specs.Prelude.{flat_map}
use Rattle.std.specs.List.{list_all}
use Rattle.std.specs.Str.{is_utf8}
use Rattle.word_filter.specs.Words.{words_in}
use Rattle.lq_prune.proofs.words.words_of_all.Given as goal

abbrev pub invariant-loop-text : goal.invariant-loop-text
invariant-loop-text l = record {
  words : l.found.items ≡ flat_map words_in (take l.text-index l.texts);
  utf8 : list_all is_utf8 (take l.text-index l.texts) ≡ true;
}
