use Rattle.std.proofs.Common.{rules, None, Ok, string_bytes, ap, sym, ◌∙◌, ◌≡◌, ◌++◌, ◌∷◌, []}
use Rattle.std.proofs.lemmas.List.{append-nil}
use Rattle.log_model.specs.Value.{object, member_name, value_fields, member_fields}
use Rattle.jsonline_in.specs.Reading.{past, label_at, item_at, nested_at, flat_at}
use Rattle.jsonline_in.specs.Clauses.{mapped, flat_text}
use Rattle.jsonline_in.proofs.Copies.{mapped_ok, mapped_err}
use Rattle.jsonline_in.proofs.Decoding.{stops_at}
use Rattle.jsonline_in.proofs.ValueSteps.{gives_same, value_curly, value_flat, nested_deep, nested_mapped, no_label}
use Rattle.jsonline_in.proofs.ValueSteps.{item_mapped}
use Rattle.jsonline_in.proofs.Loops.{no_items, no_first, started, no_other, goes_on_to, shorter}
use Rattle.jsonline_in.proofs.Settings.{value_is_listed, member_listed, closed_by}
use Rattle.jsonline_in_plain.proofs.Listing.+list.Goals as goal

-- ---- values

pub value-returns-then-depth-eq0 : goal.value-returns-then-depth-eq0
value-returns-then-depth-eq0 t c =
    let inside = c.in-Some.inside.now in
    ap (mapped (λ value. c.args.self.now.pairs.items ++ value_fields c.args.name.now value))
    (value_curly (nested_at c.args.depth) c.args.text.now inside (sym c.in-Some.ensures)
    ∙ nested_deep c.args.depth object inside c.if-depth-eq0.true)

pub value-returns-in-Some : goal.value-returns-in-Some
value-returns-in-Some t c =
    let inside = c.in-Some.inside.now in
    let old = c.args.self.now.pairs.items in
    let name = c.args.name.now in
    let before = c.as_str.result.now in
    let same : name ++ 46 ∷ [] ≡ before = sym (c.as_str.ensures.value ∙ c.in_ok-before.ensures.ok) in
    gives_same _ c.members.result _ _ (ap (mapped (λ value. old ++ value_fields name value))
    (value_curly (nested_at c.args.depth) c.args.text.now inside (sym c.in-Some.ensures))
    ∙ nested_mapped c.args.depth object inside (λ value. old ++ value_fields name value)
    (λ members. old ++ member_fields before members) c.if-depth-eq0.false
    (λ members. ap (λ n. old ++ member_fields n members) same)) c.members.ensures

pub value-returns-in_err-value : goal.value-returns-in_err-value
value-returns-in_err-value t c =
    let text = c.args.text.now in
    let inner = nested_at c.args.depth in
    stops_at _ c.from_residual-in_err-value.result _ (mapped flat_text (flat_at inner text)) _
    c.from_residual-in_err-value.ensures.1
    (λ fault h. ap (mapped (λ value. c.args.self.now.pairs.items ++ value_fields c.args.name.now value))
    (value_flat inner text (sym c.in_default.ensures) ∙ mapped_err flat_text (flat_at inner text) fault h))
    c.in_err-value.ensures

pub value-returns : goal.value-returns
value-returns t c =
    value_is_listed c.args.self.now.pairs.items c.args.name.now c.args.depth c.args.text.now c.in_ok-value.rest.now
    (string_bytes c.in_ok-value.value) c.push.new.self.pairs.items (sym c.in_default.ensures)
    c.in_ok-value.ensures c.in_ok-push.ensures

-- ---- members

pub member-returns-in_err-own : goal.member-returns-in_err-own
member-returns-in_err-own t c =
    let text = c.args.text.now in
    stops_at _ c.from_residual.result _ (mapped member_name (label_at object text)) _ c.from_residual.ensures.1
    (λ fault h. ap (mapped (λ x. c.args.self.now.pairs.items
    ++ value_fields (c.args.before.now ++ member_name x.0) x.1))
    (no_label (nested_at c.args.depth) object text fault (mapped_err _ (label_at object text) fault h)))
    c.in_err-own.ensures

pub member-returns : goal.member-returns
member-returns t c =
    let old = c.args.self.now.pairs.items in
    let before = c.args.before.now in
    let name = c.as_str.result.now in
    let m = mapped_ok member_name (label_at object c.args.text.now) (string_bytes c.in_ok-own.own)
    c.in_ok-own.rest.now c.in_ok-own.ensures in
    let same : before ++ member_name m.0 ≡ name = sym (c.as_str.ensures.value ∙ c.in_ok-name.ensures.ok
    ∙ ap (λ n. before ++ n) m.2) in
    gives_same _ c.value.result _ _ (item_mapped (nested_at c.args.depth) object c.args.text.now m.0
    c.in_ok-own.rest.now (λ x. old ++ value_fields (before ++ member_name x.0) x.1)
    (λ value. old ++ value_fields name value) m.1
    (λ value. ap (λ n. old ++ value_fields n value) same)) c.value.ensures

pub members-returns-in-Some : goal.members-returns-in-Some
members-returns-in-Some t c =
    let old = c.args.self.now.pairs.items in
    ap (mapped (λ members. old ++ member_fields c.args.before.now members))
    (no_items c.args.depth object c.args.text.now c.skip_space-start.result.now c.skip_space-start.ensures
    c.in-Some.end.now (sym c.in-Some.ensures))
    ∙ ap (λ fields. Ok (fields, c.in-Some.end.now)) (append-nil old)

pub members-returns-in_err-rest : goal.members-returns-in_err-rest
members-returns-in_err-rest t c =
    let start = c.skip_space-start.result.now in
    let old = c.args.self.now.pairs.items in
    let before = c.args.before.now in
    let inner = nested_at c.args.depth in
    stops_at _ c.from_residual.result _ (mapped (λ x. old ++ value_fields (before ++ member_name x.0) x.1)
    (item_at inner object start)) _ c.from_residual.ensures.1
    (λ fault h. ap (mapped (λ members. old ++ member_fields before members))
    (no_first c.args.depth object c.args.text.now start c.skip_space-start.ensures fault
    (sym c.in_default.ensures) (mapped_err _ (item_at inner object start) fault h))) c.in_err-rest.ensures

pub members-members-init : goal.members-members-init
members-members-init t c =
    let start = c.skip_space-start.result.now in
    let before = c.args.before.now in
    let old = c.args.self.now.pairs.items in
    let new = c.member.new.self.pairs.items in
    let m = mapped_ok (λ x. old ++ value_fields (before ++ member_name x.0) x.1)
    (item_at (nested_at c.args.depth) object start) new c.in_ok-rest.rest.now c.in_ok-rest.ensures in (
      search rules,
      started c.args.depth object c.args.text.now start c.skip_space-start.ensures
          (λ members. old ++ member_fields before members) (λ members. new ++ member_fields before members) m.0
          c.in_ok-rest.rest.now
          (sym c.in_default.ensures) m.1 (λ more. member_listed old new before m.0 more m.2),
    )

pub members-returns : goal.members-returns
members-returns t c =
    let here = c.skip_space-2.result.now in
    let none : past 44 here ≡ None = ap (past 44) (c.skip_space-2.ensures ∙ sym c.skip_space.ensures)
    ∙ sym c.in_default-past.ensures in
    closed_by (λ s. s.now) c.expect.result c.args.depth object _ _ c.members.rest.now _ c.members.invariant.1 here
    c.members.self.pairs.items c.skip_space-2.ensures none (sym (append-nil c.members.self.pairs.items))
    c.expect.ensures

pub members-returns-in_err-rest-2 : goal.members-returns-in_err-rest-2
members-returns-in_err-rest-2 t c =
    let before = c.args.before.now in
    let inner = nested_at c.args.depth in
    stops_at _ c.from_residual-in_err-rest-2.result _ (mapped
    (λ x. c.members.self.pairs.items ++ value_fields (before ++ member_name x.0) x.1)
    (item_at inner object c.skip_space-in-Some-past.result.now)) _ c.from_residual-in_err-rest-2.ensures.1
    (λ fault h. ap (mapped (λ members. c.args.self.now.pairs.items ++ member_fields before members))
    (no_other c.args.depth object _ _ c.members.rest.now _ c.members.invariant.1 c.skip_space.result.now
    c.skip_space.ensures c.in-Some-past.next.now fault (sym c.in-Some-past.ensures)
    (ap (item_at inner object) (sym c.skip_space-in-Some-past.ensures)
    ∙ mapped_err _ (item_at inner object c.skip_space-in-Some-past.result.now) fault h))) c.in_err-rest-2.ensures

pub members-members-smaller : goal.members-members-smaller
members-members-smaller t c =
    let inner = nested_at c.args.depth in
    let m = mapped_ok _ (item_at inner object c.skip_space-in-Some-past.result.now) _ c.in_ok-rest-2.rest.now
    c.in_ok-rest-2.ensures in
    shorter c.args.depth object _ _ c.members.rest.now _ c.members.invariant.1 c.skip_space.result.now
    c.skip_space.ensures c.in-Some-past.next.now m.0 c.in_ok-rest-2.rest.now (sym c.in-Some-past.ensures)
    (ap (item_at inner object) (sym c.skip_space-in-Some-past.ensures) ∙ m.1)

pub members-members-preserved : goal.members-members-preserved
members-members-preserved t c =
    let inner = nested_at c.args.depth in
    let before = c.args.before.now in
    let now = c.members.self.pairs.items in
    let new = c.member-in-Some-past.new.self.pairs.items in
    let m = mapped_ok (λ x. now ++ value_fields (before ++ member_name x.0) x.1)
    (item_at inner object c.skip_space-in-Some-past.result.now) new c.in_ok-rest-2.rest.now
    c.in_ok-rest-2.ensures in (
      search rules,
      goes_on_to c.args.depth object _ _ c.members.rest.now _ c.members.invariant.1 c.skip_space.result.now
          c.skip_space.ensures (λ members. new ++ member_fields before members) c.in-Some-past.next.now m.0
          c.in_ok-rest-2.rest.now
          (sym c.in-Some-past.ensures) (ap (item_at inner object) (sym c.skip_space-in-Some-past.ensures) ∙ m.1)
          (λ more. member_listed now new before m.0 more m.2),
    )
