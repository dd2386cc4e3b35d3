-- Texts that are sorted by what they are compared by.
use Rattle.std.proofs.Common.{◌≡◌, ℕ, List, map, ap, ◌∙◌}
use Rattle.std.specs.Cmp.{IsTotalOrder, on_total}
use Rattle.std.specs.Ordering.{on}
use Rattle.std.specs.declared.cmp.Ordering.{Ordering}
use Rattle.vl_row.specs.KeyOrder.{key_cmp_total}
use Rattle.log_model.specs.Order.{key_cmp, key_of, value_cmp}
use Rattle.lq_ast.proofs.Sorted.{map_sorted}
use Rattle.lq_ast.specs.Tuples.{sorted_by}
use Rattle.lq_stats.specs.Keyed.{keyed_text}
use Rattle.lq_stats.specs.declared.keyed.KeyedText.{KeyedText}

abbrev pub by_key : KeyedText → KeyedText → Ordering
by_key a b = key_cmp a.key b.key

pub by_key_total : IsTotalOrder by_key
by_key_total = on_total (λ (k : KeyedText). k.key) key_cmp_total

by_key_is : (a b : KeyedText) → by_key a b ≡ on keyed_text value_cmp a b
unfolding value_cmp
by_key_is a b = ap (λ k. key_cmp k b.key) a.same ∙ ap (key_cmp (key_of a.text.now)) b.same

pub texts_in_order : (keyed sorted : List KeyedText) (texts : List (List ℕ)) → sorted ≡ sorted_by by_key keyed
    → map keyed_text keyed ≡ texts → map keyed_text sorted ≡ sorted_by value_cmp texts
texts_in_order keyed sorted texts is of =
    ap (map keyed_text) (is ∙ (λ i. sorted_by (λ a b. by_key_is a b i) keyed))
    ∙ map_sorted keyed_text value_cmp keyed ∙ ap (sorted_by value_cmp) of
