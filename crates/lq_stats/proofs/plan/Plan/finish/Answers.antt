use Rattle.std.proofs.Common.{◌≡◌, ◌∙◌, ap, length, map, sym, subst, zip}
use Rattle.std.proofs.lemmas.List.{length-map}
use Rattle.std.proofs.lemmas.Result.{IfErr-weaker, IfOk-weaker}
use Rattle.lq_tuple.specs.Counted.{HaveLength, tuple_text}
use Rattle.lq_stats.proofs.Finishing.{finished_as}
use Rattle.lq_stats.specs.Finish.{IsFault, group_pair}
use Rattle.lq_stats.specs.Key.{grouped_by}
use Rattle.lq_stats.proofs.plan.Plan.finish.Goals as goal

pub returns-clause-made : goal.returns-clause-made
returns-clause-made c = IfOk-weaker c.records.result _ _
    (λ made e g records p h.
    let tuples = h.groups.tuples in
    let keys = c.as_slice-keys.result.now in
    let width : length g.keys ≡ length keys =
    sym (ap length (ap (map grouped_by) c.as_slice-keys.ensures.value ∙ p.keys)) ∙ length-map keys grouped_by in
    let names : map (λ name. name.now) c.as_slice-2.result.now
    ≡ map (λ key. key.0) (map grouped_by c.args.self.now.keys.items) =
    ap (map (λ name. name.now)) c.as_slice-2.ensures.value ∙ c.in_ok-names.ensures
    ∙ ap (λ ks. map (λ key. key.0) (map grouped_by ks)) c.as_slice-keys.ensures.value in
    let read : map group_pair c.as_slice-3.result.now ≡ zip tuples c.args.gathered.groups.states.items =
    ap (map group_pair) c.as_slice-3.ensures.value
    ∙ c.in_ok-groups.ensures tuples
    (ap (map (λ text. text.now)) c.as_slice.ensures.value ∙ c.in_ok-texts.ensures (map tuple_text tuples) h.groups.known)
    (subst (λ n. HaveLength n tuples) width h.groups.wide)
    (ap length c.as_slice-states.ensures.value ∙ h.groups.long) ∙ ap (zip tuples) c.as_slice-states.ensures.value in
    finished_as c.args.self.now c.args.gathered g records p h (map (λ name. name.now) c.as_slice-2.result.now)
    c.as_slice-functions.result.now c.as_slice-3.result.now names c.as_slice-functions.ensures.value read ∙ e) c.records.ensures.made

pub returns-clause-fault : goal.returns-clause-fault
returns-clause-fault c = IfErr-weaker c.records.result _ _
    (λ fault e g records p h.
    let tuples = h.groups.tuples in
    let keys = c.as_slice-keys.result.now in
    let width : length g.keys ≡ length keys =
    sym (ap length (ap (map grouped_by) c.as_slice-keys.ensures.value ∙ p.keys)) ∙ length-map keys grouped_by in
    let names : map (λ name. name.now) c.as_slice-2.result.now
    ≡ map (λ key. key.0) (map grouped_by c.args.self.now.keys.items) =
    ap (map (λ name. name.now)) c.as_slice-2.ensures.value ∙ c.in_ok-names.ensures
    ∙ ap (λ ks. map (λ key. key.0) (map grouped_by ks)) c.as_slice-keys.ensures.value in
    let read : map group_pair c.as_slice-3.result.now ≡ zip tuples c.args.gathered.groups.states.items =
    ap (map group_pair) c.as_slice-3.ensures.value
    ∙ c.in_ok-groups.ensures tuples
    (ap (map (λ text. text.now)) c.as_slice.ensures.value ∙ c.in_ok-texts.ensures (map tuple_text tuples) h.groups.known)
    (subst (λ n. HaveLength n tuples) width h.groups.wide)
    (ap length c.as_slice-states.ensures.value ∙ h.groups.long) ∙ ap (zip tuples) c.as_slice-states.ensures.value in
    subst (λ o. IsFault o fault)
    (sym (finished_as c.args.self.now c.args.gathered g records p h (map (λ name. name.now) c.as_slice-2.result.now)
    c.as_slice-functions.result.now c.as_slice-3.result.now names c.as_slice-functions.ensures.value read)) e) c.records.ensures.fault
