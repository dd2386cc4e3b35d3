use Rattle.std.proofs.Common.{◌∙◌, ap, map}
use Rattle.std.proofs.lemmas.Result.{IfOk-weaker}
use Rattle.std.specs.List.{slice_index}
use Rattle.lq_order.proofs.Dictionaries.{mirrors_looked_up}
use Rattle.lq_order.proofs.ranks.ranks.Goals as goal

pub returns : goal.returns
returns c =
    let dictionary = c.in_ok-dictionary.dictionary in
    let ranks = c.in_ok-word_ranks.word_ranks.items in
    let mirrors = rw c.as_slice.ensures.value at c.in_ok-word_ranks.ensures in
    let read = ap (λ ns. map (slice_index ns) c.as_slice-3.result.now) c.as_slice-2.ensures.value
    ∙ ap (map (slice_index ranks)) c.as_slice-3.ensures.value in
    IfOk-weaker c.looked_up.result _ _
    (λ found e. mirrors_looked_up (map (λ text. text.now) c.args.texts.now)
    (map (λ word. word.now) dictionary.words.items)
    dictionary.ids.items ranks found.items c.in_ok-dictionary.ensures mirrors (e ∙ read))
    c.looked_up.ensures
