use Rattle.std.proofs.Common.{◌≡◌, ◌≢◌, ◌∙◌, ◌<◌, ℕ, Bool, List, [], ap, arith, below_more, get_or}
use Rattle.std.proofs.Common.{get_or-set_other, get_or-set_same, length, rules, subst, sym, take}
use Rattle.std.specs.Prelude.{◌||◌, nat_lt}
use Rattle.std.specs.List.{list_all, list_any}
use Rattle.std.specs.Str.{is_utf8}
use Rattle.std.proofs.lemmas.List.Folds.{list_all_more, list_any_more}
use Rattle.std.proofs.lemmas.List.Sums.{sum_by_more}
use Rattle.std.proofs.lemmas.Str.{is_utf8-from_IsUtf8}
use Rattle.lent_row.specs.Cells.{value_text}
use Rattle.block_column.proofs.Whole.{text-at}
use Rattle.block_format.proofs.TestLaws.{both_from}
use Rattle.block_reading.specs.ByColumns.{IsWithin, has_text, larger, nothing}
use Rattle.block_reading.specs.declared.sizes.RowSize.{RowSize}
use Rattle.block_reading.proofs.sizes.grow.Goals as goal

pub larger-requires : goal.larger-requires
larger-requires c =
    let lt : c.loop-i.i < length c.args.sizes.now = search rules in
    subst IsWithin (sym (c.loop-i.invariant.left c.loop-i.i (omega arith))) (c.requires.within c.loop-i.i lt)

pub loop-i-preserved : goal.loop-i-preserved
loop-i-preserved c =
    let i : ℕ = c.loop-i.i in
    let values : List (List ℕ) = c.args.values.now in
    let lt : c.loop-i.i < length c.loop-i.sizes = search rules in
    let there : c.loop-i.i < length c.args.values.now = search rules in
    let old : get_or c.loop-i.sizes c.loop-i.i nothing ≡ get_or c.args.sizes.now c.loop-i.i nothing =
    c.loop-i.invariant.left c.loop-i.i (omega arith) in
    let text : get_or c.args.values.now c.loop-i.i [] ≡ value_text c.value.result =
    text-at c.args.values.now c.loop-i.i (value_text c.value.result) there c.value.ensures in
    let len : c.text_len-len.result ≡ length (get_or c.args.values.now c.loop-i.i []) = c.text_len-len.ensures.len ∙ ap length (sym text) in
    let size : c.in-Some.size ≡ larger c.args.name (get_or c.args.sizes.now c.loop-i.i nothing)
    (length (get_or c.args.values.now c.loop-i.i [])) = c.in-Some.ensures.size
    ∙ ap (λ (s : RowSize). larger c.args.name s c.text_len-len.result) old
    ∙ ap (larger c.args.name (get_or c.args.sizes.now c.loop-i.i nothing)) len in
    record {
      grown = below_more _ _ (λ k h.
          let other : k ≢ c.loop-i.i = omega arith in
          rw get_or-set_other (c.loop-i.invariant.grown k h)) (rw get_or-set_same size);
      within = below_more _ _ (λ k h.
          let other : k ≢ c.loop-i.i = omega arith in
          rw get_or-set_other (c.loop-i.invariant.within k h)) (rw get_or-set_same c.in-Some.ensures.within);
      left = λ k le.
          let other : k ≢ c.loop-i.i = omega (arith, le) in
          rw get_or-set_other (c.loop-i.invariant.left k (omega (arith, le)));
      some = c.either-some.ensures
          ∙ ap (λ (n : ℕ). c.loop-i.some || nat_lt 0 n) c.text_len-len.ensures.len
          ∙ ap (λ (b : Bool). b || has_text (value_text c.value.result)) c.loop-i.invariant.some
          ∙ ap (λ (t : List ℕ). list_any has_text (take i values) || has_text t) (sym text)
          ∙ sym (list_any_more has_text values i [] there);
      texts = list_all_more is_utf8 values i [] there
          ∙ both_from (list_all is_utf8 (take i values)) (is_utf8 (get_or values i [])) c.loop-i.invariant.texts
          (ap is_utf8 text ∙ is_utf8-from_IsUtf8 (value_text c.value.result) c.text_len-len.ensures.text);
      small = omega (
        arith,
        c.loop-i.invariant.small,
        c.in-Some.ensures.short,
        len,
        sum_by_more length c.args.values.now c.loop-i.i [] there,
      );
    }
