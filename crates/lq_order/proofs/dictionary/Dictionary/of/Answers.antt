use Rattle.std.proofs.Common.{ℕ, List, [], Bor, get_or, map, take}
use Rattle.std.proofs.lemmas.List.{map_more}
use Rattle.lq_order.proofs.Dictionaries.{dictionary_more}
use Rattle.lq_order.proofs.dictionary.Dictionary.of.Goals as goal

pub loop-text-preserved : goal.loop-text-preserved
loop-text-preserved c =
    let texts = c.args.texts.now in
    let i = c.loop-text.text-index in
    let none : Bor (List ℕ) = record { ref_ptr = (0, 0); now = [] } in
    let more = dictionary_more (map (λ text. text.now) (take i texts))
    (map (λ word. word.now) c.loop-text.words.items)
    (map (λ word. word.now) c.entered.new.words.items) c.loop-text.ids.items (get_or texts i none).now
    c.in_ok-entered.field-0
    c.loop-text.invariant.1 c.in_ok-entered.ensures.entered in (
      c.in_ok-entered.ensures.known,
      rw (
        c.in_ok-push.ensures.items,
        map_more (λ text. text.now) texts i none
            c.loop-text-test.true,
      ) more,
    )
