use Rattle.std.proofs.Common.{◌≡◌, ◌≤◌, ℕ, List, map, sym, ap, subst, ◌∙◌}
use Rattle.std.specs.Prelude.{IsTrue, flat_map}
use Rattle.std.specs.Arc.{arc_value}
use Rattle.std.proofs.lemmas.List.Folds.{flat_map-map}
use Rattle.std.specs.List.Sorted.{IsPermutation}
use Rattle.std.proofs.lemmas.List.Sorted.{IsPermutation-sym}
use Rattle.block_format.specs.Rows.{are_numbered_apart}
use Rattle.log_model.specs.History.{Numbered}
use Rattle.log_model.specs.Row.{batch_limit}
use Rattle.day_model.specs.Days.{DayRows, LieInDay, day_of}
use Rattle.part_model.specs.Part.{rows_weight}
use Rattle.merge_plan.specs.Grouping.{rows_in_parts}
use Rattle.merge_plan.proofs.Lists.{all-permutation}
use Rattle.merge_plan.proofs.job.Job.merged.Goals as goal

pub merge-requires-clause-apart : goal.merge-requires-clause-apart
merge-requires-clause-apart c =
    let rows : rows_in_parts (map arc_value c.self.inside.parts.items) ≡ flat_map arc_value c.as_slice.result.now =
    flat_map-map (λ (part : List Numbered). part) arc_value c.self.inside.parts.items
    ∙ ap (flat_map arc_value) (sym c.as_slice.ensures.value) in
    subst (λ (l : List Numbered). IsTrue (are_numbered_apart l))
    (sym (ap (λ (d : DayRows). d.1) c.self.view_is) ∙ rows) c.requires

pub merge-requires-clause-light : goal.merge-requires-clause-light
merge-requires-clause-light c =
    let rows : rows_in_parts (map arc_value c.self.inside.parts.items) ≡ flat_map arc_value c.as_slice.result.now =
    flat_map-map (λ (part : List Numbered). part) arc_value c.self.inside.parts.items
    ∙ ap (flat_map arc_value) (sym c.as_slice.ensures.value) in
    let light : rows_weight (rows_in_parts (map arc_value c.self.inside.parts.items)) ≤ batch_limit =
    subst (λ n. n ≤ batch_limit) c.self.invariant.sum c.self.invariant.light in
    subst (λ (l : List Numbered). rows_weight l ≤ batch_limit) rows light

pub returns-clause-same : goal.returns-clause-same
returns-clause-same c =
    let rows : flat_map arc_value c.as_slice.result.now ≡ c.args.self.now.1 =
    ap (flat_map arc_value) c.as_slice.ensures.value
    ∙ sym (flat_map-map (λ (part : List Numbered). part) arc_value c.self.inside.parts.items)
    ∙ ap (λ (d : DayRows). d.1) c.self.view_is in
    subst (λ (l : List Numbered). IsPermutation l c.args.self.now.1) (sym c.in_ok-new.ensures.ok)
    (subst (λ (l : List Numbered). IsPermutation c.in_ok-part.part l) rows c.in_ok-part.ensures)

pub returns-clause-days : goal.returns-clause-days
returns-clause-days c =
    let rows : rows_in_parts (map arc_value c.self.inside.parts.items) ≡ flat_map arc_value c.as_slice.result.now =
    flat_map-map (λ (part : List Numbered). part) arc_value c.self.inside.parts.items
    ∙ ap (flat_map arc_value) (sym c.as_slice.ensures.value) in
    let days : LieInDay c.args.self.now.0 (rows_in_parts (map arc_value c.self.inside.parts.items)) =
    subst (λ (n : ℕ). LieInDay n (rows_in_parts (map arc_value c.self.inside.parts.items)))
    (ap (λ (d : DayRows). d.0) c.self.view_is) c.self.invariant.days in
    subst (LieInDay c.args.self.now.0) (sym c.in_ok-new.ensures.ok)
    (all-permutation (λ (row : Numbered). day_of row ≡ c.args.self.now.0) (flat_map arc_value c.as_slice.result.now)
    c.in_ok-part.part (IsPermutation-sym c.in_ok-part.part
    (flat_map arc_value c.as_slice.result.now) c.in_ok-part.ensures)
    (subst (LieInDay c.args.self.now.0) rows days))
