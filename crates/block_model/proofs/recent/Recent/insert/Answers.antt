use Rattle.std.proofs.Common.{◌≡◌, ◌∙◌, ◌<◌, ℕ, List, [], ap, arith, get_or, length, subst, sym, true}
use Rattle.std.specs.Prelude.{bytes_eq, slice_set}
use Rattle.std.specs.List.{list_all, list_any}
use Rattle.std.proofs.lemmas.List.{get_or-map, map-set, set-get_or}
use Rattle.std.proofs.lemmas.Slice.Eq.{bytes_eq-Decides}
use Rattle.block_model.specs.Tags.{slot_at, slot_of, tag_of}
use Rattle.block_model.specs.declared.recent.Entry.{Entry}
use Rattle.block_model.proofs.Slots.{all-put, each-slot, in-slot, put-there}
use Rattle.block_model.proofs.recent.Recent.insert.Goals as goal

abbrev text_of : Entry → List ℕ
text_of s = s.text.now

pub returns-then-have_same_text-clause-there : goal.returns-then-have_same_text-clause-there
returns-then-have_same_text-clause-there c =
    let text : List ℕ = c.args.text.now in
    let same : c.index.result.now.text.now ≡ c.args.text.now = (bytes_eq-Decides c.index.result.now.text.now
    c.args.text.now).0 (sym c.have_same_text.ensures ∙ c.if-have_same_text.true) in
    let there : c.args.text.now ≡ text_of (get_or c.self.inside.slots.items c.slot_at-slot.result c.index.result.now) =
    sym same ∙ ap text_of c.index.ensures in
    let lt : c.slot_at-slot.result < length c.self.inside.slots.items =
    omega (arith, c.slot_at-slot.ensures.below, c.self.invariant.0) in
    subst (λ (l : List (List ℕ)). list_any (bytes_eq text) l ≡ true) c.self.view_is (in-slot text_of c.args.text.now
    c.self.inside.slots.items c.slot_at-slot.result c.index.result.now lt there)

pub returns-then-have_same_text-clause-had : goal.returns-then-have_same_text-clause-had
returns-then-have_same_text-clause-had c _ = returns-then-have_same_text-clause-there c

pub returns-clause-each : goal.returns-clause-each
returns-clause-each c all =
    let text : List ℕ = c.args.text.now in
    let lt : c.slot_at-slot.result < length c.self.inside.slots.items =
    omega (arith, c.slot_at-slot.ensures.below, c.self.invariant.0) in
    let held = subst (λ (l : List (List ℕ)). list_all (bytes_eq text) l ≡ true) (sym c.self.view_is) all in
    let one = each-slot text_of (bytes_eq c.args.text.now) c.self.inside.slots.items c.slot_at-slot.result c.index.result.now
    lt held in
    let same : c.args.text.now ≡ text_of (get_or c.self.inside.slots.items c.slot_at-slot.result c.index.result.now) =
    (bytes_eq-Decides c.args.text.now (text_of (get_or c.self.inside.slots.items c.slot_at-slot.result
    c.index.result.now))).0 one in
    let equal : c.have_same_text.result ≡ true =
    c.have_same_text.ensures
    ∙ (bytes_eq-Decides c.index.result.now.text.now c.args.text.now).1 (ap text_of c.index.ensures ∙ sym same) in
    sym equal ∙ c.if-have_same_text.false

pub returns-clause-there : goal.returns-clause-there
returns-clause-there c =
    let lt : c.slot_at-slot.result < length c.self.inside.slots.items =
    omega (arith, c.slot_at-slot.ensures.below, c.self.invariant.0) in
    put-there text_of c.self.inside.slots.items c.slot_at-slot.result (record {
      tag = c.tag_of-tag.result;
      text = c.args.text;
    }) lt

pub returns-clause-kept : goal.returns-clause-kept
returns-clause-kept c p all one =
    all-put text_of p c.self.inside.slots.items c.slot_at-slot.result (record {
      tag = c.tag_of-tag.result;
      text = c.args.text;
    }) (subst (λ (l : List (List ℕ)). list_all p l ≡ true) (sym c.self.view_is) all) one

pub returns-clause-put : goal.returns-clause-put
returns-clause-put c =
    let slot : c.slot_at-slot.result ≡ slot_of c.args.text.now =
    c.slot_at-slot.ensures.slot
    ∙ ap (λ (t : ℕ). slot_at t (length c.args.text.now)) (c.tag_of-tag.ensures ∙ ap tag_of c.as_bytes.ensures.value) in
    map-set text_of c.self.inside.slots.items c.slot_at-slot.result (record {
      tag = c.tag_of-tag.result;
      text = c.args.text;
    })
    ∙ ap (λ (l : List (List ℕ)). slice_set l c.slot_at-slot.result c.args.text.now) c.self.view_is
    ∙ ap (λ (n : ℕ). slice_set c.args.self.now n c.args.text.now) slot

pub returns-then-have_same_text-clause-put : goal.returns-then-have_same_text-clause-put
returns-then-have_same_text-clause-put c =
    let slot : c.slot_at-slot.result ≡ slot_of c.args.text.now =
    c.slot_at-slot.ensures.slot
    ∙ ap (λ (t : ℕ). slot_at t (length c.args.text.now)) (c.tag_of-tag.ensures ∙ ap tag_of c.as_bytes.ensures.value) in
    let lt : c.slot_at-slot.result < length c.self.inside.slots.items =
    omega (arith, c.slot_at-slot.ensures.below, c.self.invariant.0) in
    let same : c.index.result.now.text.now ≡ c.args.text.now = (bytes_eq-Decides c.index.result.now.text.now
    c.args.text.now).0 (sym c.have_same_text.ensures ∙ c.if-have_same_text.true) in
    let held : get_or c.args.self.now c.slot_at-slot.result [] ≡ c.args.text.now =
    ap (λ (l : List (List ℕ)). get_or l c.slot_at-slot.result []) (sym c.self.view_is)
    ∙ get_or-map text_of c.self.inside.slots.items c.slot_at-slot.result c.index.result.now [] lt
    ∙ sym (ap text_of c.index.ensures) ∙ same in
    sym (ap (λ (n : ℕ). slice_set c.args.self.now n c.args.text.now) (sym slot)
    ∙ ap (slice_set c.args.self.now c.slot_at-slot.result) (sym held)
    ∙ set-get_or c.args.self.now c.slot_at-slot.result [])
