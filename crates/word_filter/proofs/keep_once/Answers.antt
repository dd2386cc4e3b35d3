use Rattle.std.proofs.Common.{subst, sym}
use Rattle.std.specs.List.{All}
use Rattle.std.proofs.lemmas.List.Filters.{All-dedup, dedup_is}
use Rattle.std.proofs.lemmas.List.Sorted.{All-permutation}
use Rattle.word_filter.proofs.Sorted.{HasItsHash, once-left, same-left, same_word}
use Rattle.word_filter.proofs.keep_once.Goals as goal

pub returns-clause-same : goal.returns-clause-same
returns-clause-same c =
    rw (dedup_is same_word c.sort_unstable.new.self.items c.dedup.new.self.items c.dedup.ensures.filtered)
    (same-left c.args.words.now.items c.sort_unstable.new.self.items c.sort_unstable.ensures.permutation)

pub returns-clause-hashes : goal.returns-clause-hashes
returns-clause-hashes c =
    subst (All HasItsHash) (sym (dedup_is same_word c.sort_unstable.new.self.items c.dedup.new.self.items
    c.dedup.ensures.filtered)) (All-dedup same_word HasItsHash c.sort_unstable.new.self.items
    (All-permutation HasItsHash
    c.args.words.now.items c.sort_unstable.new.self.items c.sort_unstable.ensures.permutation c.requires.hashes))

pub returns-clause-once : goal.returns-clause-once
returns-clause-once c =
    rw (dedup_is same_word c.sort_unstable.new.self.items c.dedup.new.self.items c.dedup.ensures.filtered)
    (once-left c.sort_unstable.new.self.items c.sort_unstable.ensures.sorted (All-dedup same_word HasItsHash
    c.sort_unstable.new.self.items (All-permutation HasItsHash c.args.words.now.items c.sort_unstable.new.self.items
    c.sort_unstable.ensures.permutation c.requires.hashes)))
