use Rattle.std.proofs.Common.{rules, Some, None, Ok, string_bytes, ap, sym, ◌∙◌, ◌≡◌, ◌++◌, ◌∷◌, []}
use Rattle.log_model.specs.Token.{string_source, scalar_source}
use Rattle.log_model.specs.Value.{closing, tokens, label_tokens, series}
use Rattle.jsonline_in.specs.Reading.{past, expect, label_at, item_at, nested_at}
use Rattle.jsonline_in.specs.Clauses.{mapped, compact, kind_of}
use Rattle.jsonline_in.proofs.Copies.{mapped_ok, mapped_err}
use Rattle.jsonline_in.proofs.Decoding.{stops_at}
use Rattle.jsonline_in.proofs.ValueSteps.{gives_same, value_curly, value_flat, flat_square, quoted_mapped}
use Rattle.jsonline_in.proofs.ValueSteps.{bare_mapped, token_copied, nested_deep, nested_mapped, no_label}
use Rattle.jsonline_in.proofs.ValueSteps.{item_mapped, item_copied, comma_copied, bracket_copied, closing_copied}
use Rattle.jsonline_in.proofs.ValueSteps.{label_and_value}
use Rattle.jsonline_in.proofs.Loops.{no_items, no_first, started, not_closed, closed, no_other, goes_on_to, shorter}
use Rattle.jsonline_in.proofs.copy.+copied.Goals as goal

pub copy_item-returns-in_err-rest : goal.copy_item-returns-in_err-rest
copy_item-returns-in_err-rest t c =
    let text = c.args.text.now in
    let kind = kind_of c.args.bracket in
    stops_at _ c.from_residual.result _ (mapped (λ label. string_bytes c.args.copied.now
    ++ compact (label_tokens label)) (label_at kind text)) _ c.from_residual.ensures.1
    (λ fault h. ap (mapped (λ x. string_bytes c.args.copied.now
    ++ (compact (label_tokens x.0) ++ compact (tokens x.1))))
    (no_label (nested_at c.args.depth) kind text fault (mapped_err _ (label_at kind text) fault h)))
    c.in_err-rest.ensures

pub copy_item-returns : goal.copy_item-returns
copy_item-returns t c =
    let text = c.args.text.now in
    let kind = kind_of c.args.bracket in
    let old = string_bytes c.args.copied.now in
    let mid = string_bytes c.copy_label.new.copied in
    let m = mapped_ok (λ label. old ++ compact (label_tokens label)) (label_at kind text) mid c.in_ok-rest.rest.now
    c.in_ok-rest.ensures in
    gives_same _ c.copy_value.result _ _ (item_mapped (nested_at c.args.depth) kind text m.0 c.in_ok-rest.rest.now
    (λ x. old ++ (compact (label_tokens x.0) ++ compact (tokens x.1))) (λ value. mid ++ compact (tokens value))
    m.1
    (λ value. label_and_value old mid (compact (label_tokens m.0)) value m.2)) c.copy_value.ensures

pub copy_nested-returns-then-depth-eq0 : goal.copy_nested-returns-then-depth-eq0
copy_nested-returns-then-depth-eq0 t c = ap (mapped (λ value. string_bytes c.args.copied.now
    ++ compact (tokens value))) (nested_deep c.args.depth (kind_of c.args.bracket) c.args.text.now
    c.if-depth-eq0.true)

pub copy_nested-returns : goal.copy_nested-returns
copy_nested-returns t c =
    let kind = kind_of c.args.bracket in
    let old = string_bytes c.args.copied.now in
    let mid = string_bytes c.push_str.new.self in
    gives_same _ c.copy_items.result _ _ (nested_mapped c.args.depth kind c.args.text.now
    (λ value. old ++ compact (tokens value)) (λ items. mid ++ compact (series kind [] items)) c.if-depth-eq0.false
    (λ items. bracket_copied old mid c.opening_text.result.now kind items c.in_ok-push_str.ensures.bytes
    c.opening_text.ensures)) c.copy_items.ensures

pub copy_value-returns-in-Some : goal.copy_value-returns-in-Some
copy_value-returns-in-Some t c =
    gives_same _ c.copy_nested.result _ _ (ap (mapped (λ value. string_bytes c.args.copied.now
    ++ compact (tokens value))) (value_curly (nested_at c.args.depth) c.args.text.now c.in-Some.inside.now
    (sym c.in-Some.ensures))) c.copy_nested.ensures

pub copy_value-returns-in-Some-past : goal.copy_value-returns-in-Some-past
copy_value-returns-in-Some-past t c =
    let text = c.args.text.now in
    let old = string_bytes c.args.copied.now in
    let inner = nested_at c.args.depth in
    gives_same _ c.copy_string.result _ _ (ap (mapped (λ value. old ++ compact (tokens value)))
    (value_flat inner text (sym c.in_default.ensures))
    ∙ quoted_mapped inner text (λ value. old ++ compact (tokens value)) c.in-Some-past.inside.now
    (λ characters. old ++ string_source characters) (sym c.in-Some-past.ensures)
    (λ characters. token_copied old (string_source characters))) c.copy_string.ensures

pub copy_value-returns-in-Some-past-2 : goal.copy_value-returns-in-Some-past-2
copy_value-returns-in-Some-past-2 t c =
    let text = c.args.text.now in
    let inner = nested_at c.args.depth in
    gives_same _ c.copy_nested-in-Some-past-2.result _ _
    (ap (mapped (λ value. string_bytes c.args.copied.now ++ compact (tokens value)))
    (value_flat inner text (sym c.in_default.ensures) ∙ flat_square inner text c.in-Some-past-2.inside.now
    (sym c.in_default-past.ensures) (sym c.in-Some-past-2.ensures))) c.copy_nested-in-Some-past-2.ensures

pub copy_value-returns : goal.copy_value-returns
copy_value-returns t c =
    let text = c.args.text.now in
    let old = string_bytes c.args.copied.now in
    let inner = nested_at c.args.depth in
    gives_same _ c.copy_bare.result _ _ (ap (mapped (λ value. old ++ compact (tokens value)))
    (value_flat inner text (sym c.in_default.ensures))
    ∙ bare_mapped inner text (λ value. old ++ compact (tokens value)) (λ token. old ++ scalar_source token)
    (sym c.in_default-past.ensures) (sym c.in_default-past-2.ensures)
    (λ token. token_copied old (scalar_source token))) c.copy_bare.ensures

-- ---- items

pub copy_items-returns-in-Some : goal.copy_items-returns-in-Some
copy_items-returns-in-Some t c =
    let kind = kind_of c.args.bracket in
    let old = string_bytes c.args.copied.now in
    let start = c.after_space-start.result.now in
    let here : past (closing kind) start ≡ Some c.in-Some.end.now = ap (λ b. past b start)
    (sym c.closing.ensures.value) ∙ sym c.in-Some.ensures in
    ap (mapped (λ items. old ++ compact (series kind [] items)))
    (no_items c.args.depth kind c.args.text.now start c.after_space-start.ensures c.in-Some.end.now here)
    ∙ ap (λ s. Ok (s, c.in-Some.end.now)) (sym (closing_copied old (string_bytes c.push_str.new.self)
    c.closing_text.result.now kind c.in_ok-push_str.ensures.bytes c.closing_text.ensures))

pub copy_items-returns-in_err-rest : goal.copy_items-returns-in_err-rest
copy_items-returns-in_err-rest t c =
    let kind = kind_of c.args.bracket in
    let start = c.after_space-start.result.now in
    let here : past (closing kind) start ≡ None = ap (λ b. past b start) (sym c.closing.ensures.value)
    ∙ sym c.in_default.ensures in
    stops_at _ c.from_residual-in_err-rest.result _ (mapped
    (λ x. string_bytes c.args.copied.now ++ (compact (label_tokens x.0) ++ compact (tokens x.1)))
    (item_at (nested_at c.args.depth) kind start)) _ c.from_residual-in_err-rest.ensures.1
    (λ fault h. ap (mapped (λ items. string_bytes c.args.copied.now ++ compact (series kind [] items)))
    (no_first c.args.depth kind c.args.text.now start c.after_space-start.ensures fault here
    (mapped_err _ (item_at (nested_at c.args.depth) kind start) fault h))) c.in_err-rest.ensures

pub copy_items-items-init : goal.copy_items-items-init
copy_items-items-init t c =
    let kind = kind_of c.args.bracket in
    let old = string_bytes c.args.copied.now in
    let new = string_bytes c.copy_item.new.copied in
    let start = c.after_space-start.result.now in
    let here : past (closing kind) start ≡ None = ap (λ b. past b start) (sym c.closing.ensures.value)
    ∙ sym c.in_default.ensures in
    let m = mapped_ok (λ x. old ++ (compact (label_tokens x.0) ++ compact (tokens x.1)))
    (item_at (nested_at c.args.depth) kind start) new c.in_ok-rest.rest.now c.in_ok-rest.ensures in (
      search rules,
      started c.args.depth kind c.args.text.now start c.after_space-start.ensures
          (λ items. old ++ compact (series kind [] items)) (λ items. new
          ++ compact (series kind ((44 ∷ []) ∷ []) items)) m.0 c.in_ok-rest.rest.now here m.1
          (λ more. item_copied old new kind m.0 more m.2),
    )

pub copy_items-returns-in_err-end : goal.copy_items-returns-in_err-end
copy_items-returns-in_err-end t c =
    let kind = kind_of c.args.bracket in
    let here = c.after_space-here.result.now in
    stops_at _ c.from_residual-in_err-end.result _ (expect c.closing-in_default-past.result here) _
    c.from_residual-in_err-end.ensures.1
    (λ fault h. ap (mapped (λ items. string_bytes c.args.copied.now ++ compact (series kind [] items)))
    (not_closed c.args.depth kind _ _ c.items.rest.now _ c.items.invariant.1 here c.after_space-here.ensures fault
    (sym c.in_default-past.ensures)
    (ap (λ b. expect b here) (sym c.closing-in_default-past.ensures.value) ∙ h))) c.in_err-end.ensures

pub copy_items-returns-in_default-past : goal.copy_items-returns-in_default-past
copy_items-returns-in_default-past t c =
    let kind = kind_of c.args.bracket in
    let here = c.after_space-here.result.now in
    closed c.args.depth kind _ _ c.items.rest.now _ c.items.invariant.1 here c.after_space-here.ensures
    c.in_ok-end.end.now (string_bytes c.push_str-in_default-past.new.self) (sym c.in_default-past.ensures)
    (ap (λ b. expect b here) (sym c.closing-in_default-past.ensures.value) ∙ c.in_ok-end.ensures)
    (closing_copied (string_bytes c.items.copied) (string_bytes c.push_str-in_default-past.new.self)
    c.closing_text-in_default-past.result.now kind c.in_ok-push_str-2.ensures.bytes
    c.closing_text-in_default-past.ensures)

pub copy_items-returns-in_err-rest-2 : goal.copy_items-returns-in_err-rest-2
copy_items-returns-in_err-rest-2 t c =
    let kind = kind_of c.args.bracket in
    let here = c.after_space-here.result.now in
    let inner = nested_at c.args.depth in
    stops_at _ c.from_residual-in_err-rest-2.result _ (mapped
    (λ x. string_bytes c.push_str-in-items.new.self ++ (compact (label_tokens x.0) ++ compact (tokens x.1)))
    (item_at inner kind c.after_space.result.now)) _ c.from_residual-in_err-rest-2.ensures.1
    (λ fault h. ap (mapped (λ items. string_bytes c.args.copied.now ++ compact (series kind [] items)))
    (no_other c.args.depth kind _ _ c.items.rest.now _ c.items.invariant.1 here c.after_space-here.ensures
    c.in-Some-past.next.now fault (sym c.in-Some-past.ensures)
    (ap (item_at inner kind) (sym c.after_space.ensures)
    ∙ mapped_err _ (item_at inner kind c.after_space.result.now) fault h))) c.in_err-rest-2.ensures

pub copy_items-items-smaller : goal.copy_items-items-smaller
copy_items-items-smaller t c =
    let kind = kind_of c.args.bracket in
    let inner = nested_at c.args.depth in
    let m = mapped_ok _ (item_at inner kind c.after_space.result.now) _ c.in_ok-rest-2.rest.now c.in_ok-rest-2.ensures
    in
    shorter c.args.depth kind _ _ c.items.rest.now _ c.items.invariant.1 c.after_space-here.result.now
    c.after_space-here.ensures c.in-Some-past.next.now m.0 c.in_ok-rest-2.rest.now (sym c.in-Some-past.ensures)
    (ap (item_at inner kind) (sym c.after_space.ensures) ∙ m.1)

pub copy_items-items-preserved : goal.copy_items-items-preserved
copy_items-items-preserved t c =
    let kind = kind_of c.args.bracket in
    let inner = nested_at c.args.depth in
    let now = string_bytes c.items.copied in
    let mid = string_bytes c.push_str-in-items.new.self in
    let new = string_bytes c.copy_item-in-items.new.copied in
    let m = mapped_ok (λ x. mid ++ (compact (label_tokens x.0) ++ compact (tokens x.1)))
    (item_at inner kind c.after_space.result.now) new c.in_ok-rest-2.rest.now c.in_ok-rest-2.ensures in (
      search rules,
      goes_on_to c.args.depth kind _ _ c.items.rest.now _ c.items.invariant.1 c.after_space-here.result.now
          c.after_space-here.ensures (λ items. new ++ compact (series kind ((44 ∷ []) ∷ []) items))
          c.in-Some-past.next.now m.0 c.in_ok-rest-2.rest.now (sym c.in-Some-past.ensures)
          (ap (item_at inner kind) (sym c.after_space.ensures) ∙ m.1)
          (λ more. comma_copied now mid new kind m.0 more c.in_ok-push_str-3.ensures.bytes m.2),
    )
