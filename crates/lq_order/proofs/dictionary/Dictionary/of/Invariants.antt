use Rattle.std.proofs.Common.{map, take}
use Rattle.lq_order.specs.Dictionary.{AreAtWords, IsDictionary}
use Rattle.lq_order.proofs.dictionary.Dictionary.of.Given as goal

abbrev pub invariant-loop-text : goal.invariant-loop-text
invariant-loop-text l =
    AreAtWords l.places (map (λ word. word.now) l.words.items)
    × IsDictionary (map (λ text. text.now) (take l.text-index l.texts)) (map (λ word. word.now) l.words.items)
    l.ids.items
