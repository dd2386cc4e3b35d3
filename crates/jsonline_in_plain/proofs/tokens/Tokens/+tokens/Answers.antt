use Rattle.std.proofs.Common.{rules, refl, Some, None, Ok, string_bytes, ap, sym, ◌∙◌, ◌≡◌, ◌-◌, ◌++◌, ◌∷◌, []}
use Rattle.std.proofs.lemmas.Str.{encode_ascii}
use Rattle.log_model.specs.Token.{string_source, scalar_source}
use Rattle.log_model.specs.Value.{closing, tokens, label_tokens, series}
use Rattle.jsonline_in.specs.Reading.{past, label_at, item_at, items_at, nested_at}
use Rattle.jsonline_in.specs.Clauses.{mapped, compact}
use Rattle.jsonline_in_plain.specs.Parts.{kind_of}
use Rattle.jsonline_in.proofs.Copies.{mapped_ok, mapped_err}
use Rattle.jsonline_in.proofs.Decoding.{stops_at}
use Rattle.jsonline_in.proofs.ValueSteps.{gives_same, value_curly, value_flat, flat_square, quoted_mapped}
use Rattle.jsonline_in.proofs.ValueSteps.{bare_mapped, token_copied, nested_deep, nested_mapped, no_label}
use Rattle.jsonline_in.proofs.ValueSteps.{item_mapped, item_copied, comma_copied, bracket_copied, label_and_value}
use Rattle.jsonline_in.proofs.Loops.{no_items, no_first, started, no_other, goes_on_to, shorter}
use Rattle.jsonline_in.proofs.Settings.{closed_by}
use Rattle.jsonline_in_plain.proofs.tokens.Tokens.+tokens.Goals as goal

pub item-returns-in_err-rest : goal.item-returns-in_err-rest
item-returns-in_err-rest t c =
    let text = c.args.text.now in
    let kind = kind_of c.args.bracket in
    stops_at _ c.from_residual.result _ (mapped (λ label. string_bytes c.args.self.now.text
    ++ compact (label_tokens label)) (label_at kind text)) _ c.from_residual.ensures.1
    (λ fault h. ap (mapped (λ x. string_bytes c.args.self.now.text
    ++ (compact (label_tokens x.0) ++ compact (tokens x.1))))
    (no_label (nested_at c.args.depth) kind text fault (mapped_err _ (label_at kind text) fault h)))
    c.in_err-rest.ensures

pub item-returns : goal.item-returns
item-returns t c =
    let text = c.args.text.now in
    let kind = kind_of c.args.bracket in
    let old = string_bytes c.args.self.now.text in
    let mid = string_bytes c.label.new.self.text in
    let m = mapped_ok (λ label. old ++ compact (label_tokens label)) (label_at kind text) mid c.in_ok-rest.rest.now
    c.in_ok-rest.ensures in
    gives_same _ c.value.result _ _ (item_mapped (nested_at c.args.depth) kind text m.0 c.in_ok-rest.rest.now
    (λ x. old ++ (compact (label_tokens x.0) ++ compact (tokens x.1))) (λ value. mid ++ compact (tokens value))
    m.1
    (λ value. label_and_value old mid (compact (label_tokens m.0)) value m.2)) c.value.ensures

pub nested-returns-then-depth-eq0 : goal.nested-returns-then-depth-eq0
nested-returns-then-depth-eq0 t c = ap (mapped (λ value. string_bytes c.args.self.now.text ++ compact (tokens value)))
    (nested_deep c.args.depth (kind_of c.args.bracket) c.args.text.now c.if-depth-eq0.true)

pub nested-returns-in_err-end : goal.nested-returns-in_err-end
nested-returns-in_err-end t c =
    let kind = kind_of c.args.bracket in
    let old = string_bytes c.args.self.now.text in
    let mid = string_bytes c.push_str.new.self in
    let items_of = mapped (λ items. mid ++ compact (series kind [] items))
    (items_at (nested_at (c.args.depth - 1)) kind c.args.text.now) in
    let same = nested_mapped c.args.depth kind c.args.text.now (λ value. old ++ compact (tokens value))
    (λ items. mid ++ compact (series kind [] items))
    c.if-depth-eq0.false (λ items. bracket_copied old mid c.open.result.now kind items c.in_ok-push_str.ensures.bytes
    c.open.ensures) in
    stops_at _ c.from_residual-in_err-end.result _ items_of _ c.from_residual-in_err-end.ensures.1
    (λ fault h. same ∙ h) c.in_err-end.ensures

pub nested-returns : goal.nested-returns
nested-returns t c =
    let kind = kind_of c.args.bracket in
    let old = string_bytes c.args.self.now.text in
    let mid = string_bytes c.push_str.new.self in
    let end = c.in_ok-end.end.now in
    nested_mapped c.args.depth kind c.args.text.now (λ value. old ++ compact (tokens value))
    (λ items. mid ++ compact (series kind [] items))
    c.if-depth-eq0.false (λ items. bracket_copied old mid c.open.result.now kind items c.in_ok-push_str.ensures.bytes
    c.open.ensures)
    ∙ c.in_ok-end.ensures
    ∙ ap (λ s. Ok (s, end)) (sym (c.in_ok-push.ensures.bytes ∙ ap (λ t. string_bytes c.items.new.self.text ++ t)
    (encode_ascii c.close.result c.close.ensures.ascii ∙ ap (λ b. b ∷ []) c.close.ensures.value)))

pub value-returns-in-Some : goal.value-returns-in-Some
value-returns-in-Some t c =
    gives_same _ c.nested.result _ _ (ap (mapped (λ value. string_bytes c.args.self.now.text
    ++ compact (tokens value))) (value_curly (nested_at c.args.depth) c.args.text.now c.in-Some.inside.now
    (sym c.in-Some.ensures))) c.nested.ensures

pub value-returns-in-Some-past : goal.value-returns-in-Some-past
value-returns-in-Some-past t c =
    let text = c.args.text.now in
    let old = string_bytes c.args.self.now.text in
    let inner = nested_at c.args.depth in
    gives_same _ c.string.result _ _ (ap (mapped (λ value. old ++ compact (tokens value)))
    (value_flat inner text (sym c.in_default.ensures))
    ∙ quoted_mapped inner text (λ value. old ++ compact (tokens value)) c.in-Some-past.inside.now
    (λ characters. old ++ string_source characters) (sym c.in-Some-past.ensures)
    (λ characters. token_copied old (string_source characters))) c.string.ensures

pub value-returns-in-Some-past-2 : goal.value-returns-in-Some-past-2
value-returns-in-Some-past-2 t c =
    let text = c.args.text.now in
    let inner = nested_at c.args.depth in
    gives_same _ c.nested-in-Some-past-2.result _ _ (ap (mapped
    (λ value. string_bytes c.args.self.now.text ++ compact (tokens value)))
    (value_flat inner text (sym c.in_default.ensures) ∙ flat_square inner text c.in-Some-past-2.inside.now
    (sym c.in_default-past.ensures) (sym c.in-Some-past-2.ensures))) c.nested-in-Some-past-2.ensures

pub value-returns : goal.value-returns
value-returns t c =
    let text = c.args.text.now in
    let old = string_bytes c.args.self.now.text in
    let inner = nested_at c.args.depth in
    gives_same _ c.bare.result _ _ (ap (mapped (λ value. old ++ compact (tokens value)))
    (value_flat inner text (sym c.in_default.ensures))
    ∙ bare_mapped inner text (λ value. old ++ compact (tokens value)) (λ token. old ++ scalar_source token)
    (sym c.in_default-past.ensures) (sym c.in_default-past-2.ensures)
    (λ token. token_copied old (scalar_source token))) c.bare.ensures

-- ---- items

pub items-returns-in-Some : goal.items-returns-in-Some
items-returns-in-Some t c =
    let kind = kind_of c.args.bracket in
    let old = string_bytes c.args.self.now.text in
    let start = c.skip_space-start.result.now in
    let here : past (closing kind) start ≡ Some c.in-Some.end.now = ap (λ b. past b start) (sym c.close.ensures.value)
    ∙ sym c.in-Some.ensures in
    ap (mapped (λ items. old ++ compact (series kind [] items)))
    (no_items c.args.depth kind c.args.text.now start c.skip_space-start.ensures c.in-Some.end.now here)

pub items-returns-in_err-rest : goal.items-returns-in_err-rest
items-returns-in_err-rest t c =
    let kind = kind_of c.args.bracket in
    let old = string_bytes c.args.self.now.text in
    let start = c.skip_space-start.result.now in
    let inner = nested_at c.args.depth in
    let here : past (closing kind) start ≡ None = ap (λ b. past b start) (sym c.close.ensures.value)
    ∙ sym c.in_default.ensures in
    stops_at _ c.from_residual.result _ (mapped (λ x. old ++ (compact (label_tokens x.0) ++ compact (tokens x.1)))
    (item_at inner kind start)) _ c.from_residual.ensures.1
    (λ fault h. ap (mapped (λ items. old ++ compact (series kind [] items)))
    (no_first c.args.depth kind c.args.text.now start c.skip_space-start.ensures fault here
    (mapped_err _ (item_at inner kind start) fault h))) c.in_err-rest.ensures

pub items-items-init : goal.items-items-init
items-items-init t c =
    let kind = kind_of c.args.bracket in
    let old = string_bytes c.args.self.now.text in
    let new = string_bytes c.item.new.self.text in
    let start = c.skip_space-start.result.now in
    let here : past (closing kind) start ≡ None = ap (λ b. past b start) (sym c.close.ensures.value)
    ∙ sym c.in_default.ensures in
    let m = mapped_ok (λ x. old ++ (compact (label_tokens x.0) ++ compact (tokens x.1)))
    (item_at (nested_at c.args.depth) kind start) new c.in_ok-rest.rest.now c.in_ok-rest.ensures in (
      search rules,
      started c.args.depth kind c.args.text.now start c.skip_space-start.ensures
          (λ items. old ++ compact (series kind [] items))
          (λ items. new ++ compact (series kind ((44 ∷ []) ∷ []) items)) m.0 c.in_ok-rest.rest.now here m.1
          (λ more. item_copied old new kind m.0 more m.2),
    )

pub items-returns : goal.items-returns
items-returns t c =
    let kind = kind_of c.args.bracket in
    let here = c.skip_space-2.result.now in
    let none : past 44 here ≡ None = ap (past 44) (c.skip_space-2.ensures ∙ sym c.skip_space.ensures)
    ∙ sym c.in_default-past.ensures in
    closed_by (λ s. s.now) c.expect.result c.args.depth kind _ _ c.items.rest.now _ c.items.invariant.1 here
    (string_bytes c.items.self.text ++ closing kind ∷ []) c.skip_space-2.ensures none refl
    (rw c.close-2.ensures.value at c.expect.ensures)

pub items-returns-in_err-rest-2 : goal.items-returns-in_err-rest-2
items-returns-in_err-rest-2 t c =
    let kind = kind_of c.args.bracket in
    let here = c.skip_space.result.now in
    let next = c.skip_space-in-Some-past.result.now in
    let mid = string_bytes c.push_str.new.self in
    let inner = nested_at c.args.depth in
    stops_at _ c.from_residual-in_err-rest-2.result _ (mapped
    (λ x. mid ++ (compact (label_tokens x.0) ++ compact (tokens x.1))) (item_at inner kind next)) _
    c.from_residual-in_err-rest-2.ensures.1
    (λ fault h. ap (mapped (λ items. string_bytes c.args.self.now.text ++ compact (series kind [] items)))
    (no_other c.args.depth kind _ _ c.items.rest.now _ c.items.invariant.1 here c.skip_space.ensures
    c.in-Some-past.next.now fault (sym c.in-Some-past.ensures)
    (ap (item_at inner kind) (sym c.skip_space-in-Some-past.ensures)
    ∙ mapped_err _ (item_at inner kind next) fault h))) c.in_err-rest-2.ensures

pub items-items-smaller : goal.items-items-smaller
items-items-smaller t c =
    let kind = kind_of c.args.bracket in
    let inner = nested_at c.args.depth in
    let next = c.skip_space-in-Some-past.result.now in
    let m = mapped_ok _ (item_at inner kind next) _ c.in_ok-rest-2.rest.now c.in_ok-rest-2.ensures in
    shorter c.args.depth kind _ _ c.items.rest.now _ c.items.invariant.1 c.skip_space.result.now c.skip_space.ensures
    c.in-Some-past.next.now m.0 c.in_ok-rest-2.rest.now
    (sym c.in-Some-past.ensures) (ap (item_at inner kind) (sym c.skip_space-in-Some-past.ensures) ∙ m.1)

pub items-items-preserved : goal.items-items-preserved
items-items-preserved t c =
    let kind = kind_of c.args.bracket in
    let inner = nested_at c.args.depth in
    let next = c.skip_space-in-Some-past.result.now in
    let now = string_bytes c.items.self.text in
    let mid = string_bytes c.push_str.new.self in
    let new = string_bytes c.item-in-Some-past.new.self.text in
    let m = mapped_ok (λ x. mid ++ (compact (label_tokens x.0) ++ compact (tokens x.1))) (item_at inner kind next) new
    c.in_ok-rest-2.rest.now c.in_ok-rest-2.ensures in (
      search rules,
      goes_on_to c.args.depth kind _ _ c.items.rest.now _ c.items.invariant.1 c.skip_space.result.now
          c.skip_space.ensures
          (λ items. new ++ compact (series kind ((44 ∷ []) ∷ []) items)) c.in-Some-past.next.now m.0
          c.in_ok-rest-2.rest.now (sym c.in-Some-past.ensures)
          (ap (item_at inner kind) (sym c.skip_space-in-Some-past.ensures) ∙ m.1)
          (λ more. comma_copied now mid new kind m.0 more c.in_ok-push_str.ensures.bytes m.2),
    )
