use Rattle.std.proofs.Common.{◌≡◌, drop}
use Rattle.std.specs.List.{list_all, list_any}
use Rattle.lq_prune.specs.Need.{admits, may_have_word, words_needed}
use Rattle.lq_prune.proofs.admitting.has_words.Given as goal

abbrev pub invariant-loop-word : goal.invariant-loop-word
invariant-loop-word l =
    list_all (λ word. list_any (may_have_word l.name word) l.head.columns) (drop l.word-index l.words)
    ≡ admits (words_needed l.name l.words) l.head
