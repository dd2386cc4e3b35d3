use Rattle.std.proofs.Common.{rules, refl, string_bytes, ap, sym, subst, ◌∙◌, ◌≡◌, ◌++◌, length, take}
use Rattle.std.specs.Prelude.{option_map}
use Rattle.std.specs.String.Boundary.{IsSplitPoint}
use Rattle.std.proofs.lemmas.Str.{IsUtf8-string_bytes}
use Rattle.jsonline_in.specs.Near.{note_all}
use Rattle.log_model.specs.Value.{object, member_name, value_fields, member_fields}
use Rattle.jsonline_in.specs.Reading.{label_at, item_at, nested_at, value_at, flat_at}
use Rattle.jsonline_in.specs.Clauses.{mapped, value_set, or_empty, or_kept, flat_text}
use Rattle.jsonline_in.proofs.Copies.{mapped_ok, mapped_err}
use Rattle.jsonline_in.proofs.Decoding.{stops_at}
use Rattle.jsonline_in.proofs.ValueSteps.{gives_same, value_curly, value_flat, nested_deep, nested_mapped, no_label}
use Rattle.jsonline_in.proofs.ValueSteps.{item_mapped}
use Rattle.jsonline_in.proofs.Loops.{no_items, no_first, started, no_other, goes_on_to, shorter}
use Rattle.jsonline_in.proofs.Settings.{prefix_kept, cut_back, split_back, member_set, value_is_set, closed_by, on_ok}
use Rattle.jsonline_in.proofs.Settings.{unwrapped}
use Rattle.jsonline_in.proofs.set.Setter.+set.Goals as goal

pub member-returns-in_err-own-clause-set : goal.member-returns-in_err-own-clause-set
member-returns-in_err-own-clause-set t c =
    let text = c.args.text.now in
    let names = string_bytes c.args.self.now.names in
    stops_at _ c.from_residual.result _ (mapped (λ label. names ++ member_name label) (label_at object text)) _
    c.from_residual.ensures.1
    (λ fault h. ap (mapped (λ x. note_all c.args.out.now (value_fields (names ++ member_name x.0) x.1)))
    (no_label (nested_at c.args.depth) object text fault (mapped_err _ (label_at object text) fault h)))
    c.in_err-own.ensures.read

pub member-returns-in_err-rest-clause-set : goal.member-returns-in_err-rest-clause-set
member-returns-in_err-rest-clause-set t c =
    let text = c.args.text.now in
    let names = string_bytes c.args.self.now.names in
    let name = string_bytes c.name.new.names ++ or_empty (option_map (λ s. s.now) c.in_ok-own.own) in
    let inner = nested_at c.args.depth in
    let m = mapped_ok (λ label. names ++ member_name label) (label_at object text) name c.in_ok-own.rest.now
    c.in_ok-own.ensures.read in
    let same = item_mapped inner object text m.0 c.in_ok-own.rest.now
    (λ x. note_all c.args.out.now (value_fields (names ++ member_name x.0) x.1)) (value_set c.args.out.now name)
    m.1 (λ value. ap (λ n. value_set c.args.out.now n value) (sym m.2)) in
    stops_at _ c.from_residual-in_err-rest.result _ (mapped (value_set c.args.out.now name)
    (value_at inner c.in_ok-own.rest.now)) _ c.from_residual-in_err-rest.ensures.1 (λ fault h. same ∙ h)
    c.in_err-rest.ensures.set

pub member-truncate-requires : goal.member-truncate-requires
member-truncate-requires t c =
    let names = string_bytes c.args.self.now.names in
    let mid = string_bytes c.name.new.names in
    let new = string_bytes c.value.new.self.names in
    let p = prefix_kept (λ s. s.now) names mid c.args.text.now c.in_ok-own.rest.now c.in_ok-own.own
    c.in_ok-own.ensures.kept c.in_ok-own.ensures.read in
    let prefix : take (length names) new ≡ names = cut_back names mid new p.0 p.1 c.in_ok-rest.ensures.names in
    λ within. subst (IsSplitPoint new) (sym (ap length c.as_str-before.ensures.value))
    (split_back names new prefix (IsUtf8-string_bytes c.args.self.now.names)
    (IsUtf8-string_bytes c.value.new.self.names))

pub member-returns-clause-set : goal.member-returns-clause-set
member-returns-clause-set t c =
    let text = c.args.text.now in
    let names = string_bytes c.args.self.now.names in
    let name = string_bytes c.name.new.names ++ or_empty (option_map (λ s. s.now) c.in_ok-own.own) in
    let inner = nested_at c.args.depth in
    let m = mapped_ok (λ label. names ++ member_name label) (label_at object text) name c.in_ok-own.rest.now
    c.in_ok-own.ensures.read in
    item_mapped inner object text m.0 c.in_ok-own.rest.now
    (λ x. note_all c.args.out.now (value_fields (names ++ member_name x.0) x.1)) (value_set c.args.out.now name)
    m.1 (λ value. ap (λ n. value_set c.args.out.now n value) (sym m.2))
    ∙ c.in_ok-rest.ensures.set

pub member-returns-clause-names : goal.member-returns-clause-names
member-returns-clause-names t c =
    let names = string_bytes c.args.self.now.names in
    let mid = string_bytes c.name.new.names in
    let new = string_bytes c.value.new.self.names in
    let p = prefix_kept (λ s. s.now) names mid c.args.text.now c.in_ok-own.rest.now c.in_ok-own.own
    c.in_ok-own.ensures.kept c.in_ok-own.ensures.read in
    c.truncate.ensures.bytes ∙ ap (λ n. take n new) (ap length c.as_str-before.ensures.value)
    ∙ cut_back names mid new p.0 p.1 c.in_ok-rest.ensures.names

pub value-returns-then-depth-eq0-clause-set : goal.value-returns-then-depth-eq0-clause-set
value-returns-then-depth-eq0-clause-set t c =
    let inside = c.in-Some.inside.now in
    ap (mapped (value_set c.args.out.now _)) (value_curly (nested_at c.args.depth) c.args.text.now inside
    (sym c.in-Some.ensures) ∙ nested_deep c.args.depth object inside c.if-depth-eq0.true)

pub value-returns-in-Some-clause-set : goal.value-returns-in-Some-clause-set
value-returns-in-Some-clause-set t c =
    let inside = c.in-Some.inside.now in
    let old = c.args.out.now in
    let name = string_bytes c.args.self.now.names ++ or_empty (option_map (λ s. s.now) c.args.own) in
    let names = string_bytes c.push_own.new.names in
    gives_same _ c.members.result _ _ (ap (mapped (value_set old name))
    (value_curly (nested_at c.args.depth) c.args.text.now inside (sym c.in-Some.ensures))
    ∙ nested_mapped c.args.depth object inside (value_set old name)
    (λ members. note_all old (member_fields names members)) c.if-depth-eq0.false
    (λ members. ap (λ n. note_all old (member_fields n members)) (sym c.in_ok-push_own.ensures))) c.members.ensures.set

pub value-returns-in_err-value-clause-set : goal.value-returns-in_err-value-clause-set
value-returns-in_err-value-clause-set t c =
    let text = c.args.text.now in
    let inner = nested_at c.args.depth in
    stops_at _ c.from_residual-in_err-value.result _ (mapped flat_text (flat_at inner text)) _
    c.from_residual-in_err-value.ensures.1
    (λ fault h. ap (mapped (value_set c.args.out.now _))
    (value_flat inner text (sym c.in_default.ensures) ∙ mapped_err flat_text (flat_at inner text) fault h))
    c.in_err-value.ensures

pub value-returns-clause-set : goal.value-returns-clause-set
value-returns-clause-set t c =
    value_is_set c.args.out.now (string_bytes c.args.self.now.names ++ or_empty (option_map (λ s. s.now) c.args.own))
    c.args.depth c.args.text.now c.in_ok-value.rest.now
    (or_kept (option_map (λ s. s.now) c.in_ok-value.value) (string_bytes c.flat.new.values))
    c.unwrap_or-value.result.now _ (sym c.in_default.ensures) c.in_ok-value.ensures
    (unwrapped (λ s. s.now) c.in_ok-value.value c.as_str.result c.unwrap_or-value.result
    (string_bytes c.flat.new.values) c.unwrap_or-value.ensures c.as_str.ensures.value)
    c.in_ok-set_flat.ensures.set

-- ---- members

pub members-returns-in-Some-clause-set : goal.members-returns-in-Some-clause-set
members-returns-in-Some-clause-set t c =
    ap (mapped (λ members. note_all c.args.out.now (member_fields (string_bytes c.args.self.now.names) members)))
    (no_items c.args.depth object c.args.text.now c.after_space-start.result.now c.after_space-start.ensures
    c.in-Some.end.now (sym c.in-Some.ensures))

pub members-returns-in_err-rest-clause-set : goal.members-returns-in_err-rest-clause-set
members-returns-in_err-rest-clause-set t c =
    let start = c.after_space-start.result.now in
    let names = string_bytes c.args.self.now.names in
    let inner = nested_at c.args.depth in
    stops_at _ c.from_residual.result _ (mapped (λ x. note_all c.args.out.now
    (value_fields (names ++ member_name x.0) x.1)) (item_at inner object start)) _ c.from_residual.ensures.1
    (λ fault h. ap (mapped (λ members. note_all c.args.out.now (member_fields names members)))
    (no_first c.args.depth object c.args.text.now start c.after_space-start.ensures fault
    (sym c.in_default.ensures) (mapped_err _ (item_at inner object start) fault h))) c.in_err-rest.ensures.set

pub members-members-init : goal.members-members-init
members-members-init t c =
    let start = c.after_space-start.result.now in
    let names = string_bytes c.args.self.now.names in
    let old = c.args.out.now in
    let new = c.member.new.out in
    let m = mapped_ok (λ x. note_all old (value_fields (names ++ member_name x.0) x.1))
    (item_at (nested_at c.args.depth) object start) new c.in_ok-rest.rest.now c.in_ok-rest.ensures.set in (
      search rules,
      c.in_ok-rest.ensures.names,
      started c.args.depth object c.args.text.now start c.after_space-start.ensures
          (λ members. note_all old (member_fields names members))
          (λ members. note_all new (member_fields names members)) m.0 c.in_ok-rest.rest.now
          (sym c.in_default.ensures) m.1 (λ more. member_set old new names m.0 more m.2),
    )

pub members-returns-in_default-past-clause-set : goal.members-returns-in_default-past-clause-set
members-returns-in_default-past-clause-set t c =
    closed_by (λ s. s.now) c.expect.result c.args.depth object _ _ c.members.rest.now _ c.members.invariant.2
    c.after_space-here.result.now c.members.out c.after_space-here.ensures (sym c.in_default-past.ensures) refl
    c.expect.ensures

pub members-returns-in_default-past-clause-names : goal.members-returns-in_default-past-clause-names
members-returns-in_default-past-clause-names t c = on_ok c.expect.result _ c.members.invariant.1

pub members-returns-in_err-rest-2-clause-set : goal.members-returns-in_err-rest-2-clause-set
members-returns-in_err-rest-2-clause-set t c =
    let names = string_bytes c.args.self.now.names in
    let here = c.after_space-here.result.now in
    let inner = nested_at c.args.depth in
    stops_at _ c.from_residual-in_err-rest-2.result _ (mapped
    (λ x. note_all c.members.out (value_fields (string_bytes c.members.self.names ++ member_name x.0) x.1))
    (item_at inner object c.after_space.result.now)) _ c.from_residual-in_err-rest-2.ensures.1
    (λ fault h. ap (mapped (λ members. note_all c.args.out.now (member_fields names members)))
    (no_other c.args.depth object _ _ c.members.rest.now _ c.members.invariant.2 here c.after_space-here.ensures
    c.in-Some-past.next.now fault (sym c.in-Some-past.ensures)
    (ap (item_at inner object) (sym c.after_space.ensures)
    ∙ mapped_err _ (item_at inner object c.after_space.result.now) fault h))) c.in_err-rest-2.ensures.set

pub members-members-smaller : goal.members-members-smaller
members-members-smaller t c =
    let inner = nested_at c.args.depth in
    let m = mapped_ok _ (item_at inner object c.after_space.result.now) _ c.in_ok-rest-2.rest.now
    c.in_ok-rest-2.ensures.set in
    shorter c.args.depth object _ _ c.members.rest.now _ c.members.invariant.2 c.after_space-here.result.now
    c.after_space-here.ensures c.in-Some-past.next.now m.0 c.in_ok-rest-2.rest.now (sym c.in-Some-past.ensures)
    (ap (item_at inner object) (sym c.after_space.ensures) ∙ m.1)

pub members-members-preserved : goal.members-members-preserved
members-members-preserved t c =
    let inner = nested_at c.args.depth in
    let names = string_bytes c.args.self.now.names in
    let now = c.members.out in
    let new = c.member-in-members.new.out in
    let m = mapped_ok (λ x. note_all now (value_fields (string_bytes c.members.self.names ++ member_name x.0) x.1))
    (item_at inner object c.after_space.result.now) new c.in_ok-rest-2.rest.now c.in_ok-rest-2.ensures.set in
    let same : new ≡ note_all now (value_fields (names ++ member_name m.0.0) m.0.1) = m.2
    ∙ ap (λ n. note_all now (value_fields (n ++ member_name m.0.0) m.0.1)) c.members.invariant.1 in (
      search rules,
      c.in_ok-rest-2.ensures.names ∙ c.members.invariant.1,
      goes_on_to c.args.depth object _ _ c.members.rest.now _ c.members.invariant.2 c.after_space-here.result.now
          c.after_space-here.ensures (λ members. note_all new (member_fields names members)) c.in-Some-past.next.now
          m.0 c.in_ok-rest-2.rest.now
          (sym c.in-Some-past.ensures) (ap (item_at inner object) (sym c.after_space.ensures) ∙ m.1)
          (λ more. member_set now new names m.0 more same),
    )
