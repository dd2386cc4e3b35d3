use Rattle.std.proofs.Common.{◌∙◌, ap, map, rules}
use Rattle.std.proofs.lemmas.Result.{IfOk-weaker}
use Rattle.lq_ast.proofs.Sorted.{sorted_by_closure}
use Rattle.lq_stats.proofs.Ordering.{by_key, by_key_total, texts_in_order}
use Rattle.lq_stats.specs.Keyed.{keyed_text}
use Rattle.lq_stats.proofs.order.in_value_order.Goals as goal

pub returns : goal.returns
returns c =
    let keyed = c.in_ok-keyed.keyed.items in
    let sorted = sorted_by_closure by_key by_key_total keyed c.sort_by.new.self.items c.in_ok-sort_by.ensures.sorted
    c.sort_by.ensures.stable (λ a o f called. search rules) in
    IfOk-weaker c.texts_of.result _ _
    (λ texts e. e ∙ ap (map keyed_text) c.as_slice.ensures.value
    ∙ texts_in_order keyed c.sort_by.new.self.items c.args.texts.now sorted c.in_ok-keyed.ensures) c.texts_of.ensures
