use Rattle.std.proofs.Common.{◌≡◌, ◌++◌, ◌∷◌, ◌∙◌, ◌<◌, ◌≤◌, ℕ, List, [], Bor, ap, arith, false, filter}
use Rattle.std.proofs.Common.{get_or, length, map, rules, subst, sym, take}
use Rattle.std.specs.Prelude.{sum_by}
use Rattle.std.proofs.lemmas.List.{length-map, take_all}
use Rattle.block_body.specs.Outlines.{filter_named, weight_of}
use Rattle.block_model.specs.Columns.{values_of}
use Rattle.log_model.specs.History.{Numbered}
use Rattle.block_gather.specs.Gathered.{IsColumn, is_used, name_weight, names_in}
use Rattle.block_gather.specs.Picked.{rows_picked}
use Rattle.block_gather.proofs.ColumnLaws.{head-more, heads-stay, name-is, text-is, values-more, values-stay}
use Rattle.block_gather.proofs.ColumnLaws.{weight-stays}
use Rattle.block_gather.proofs.NameLaws.{names-used}
use Rattle.block_gather.proofs.WeightLaws.{weight-more, weight-picked, weight-within}
use Rattle.block_gather.proofs.columns.columns_of.Goals.{in-Some+in_ok-shared+in_ok-push+in_ok-push-2, in_default}
use Rattle.block_gather.proofs.columns.columns_of.Goals as goal

pub overflow_add-weight : goal.overflow_add-weight
overflow_add-weight c =
    let rows : List Numbered = rows_picked c.args.picks.now in
    let names : List (List ℕ) = names_in c.args.picks.now in
    let also : c.loop-c.c < length c.args.texts.now = search rules in
    let lt : c.loop-c.c < length (names_in c.args.picks.now) = omega (
      arith,
      also,
      ap length c.requires.texts,
      length-map c.args.texts.now (λ (t : Bor (List ℕ)). t.now),
    ) in
    let found = (rw c.in-Some.is at c.in_ok-column.ensures.some) in
    let column = subst (λ (n : List ℕ). IsColumn (length n) (values_of rows n) c.in-Some.column) (text-is c.args.texts.now
    names c.loop-c.c _ c.requires.texts also) found in
    record {
      fits = omega (
        arith,
        c.loop-c.invariant.weight,
        column.weight,
        (weight-more (name_weight rows) names c.loop-c.c (weight_of (rows_picked c.args.picks.now)) lt (weight-picked
            c.args.picks.now c.requires.each)).1,
        weight-within (rows_picked c.args.picks.now) c.requires.each,
        c.requires.few,
      );
    }

pub loop-c-preserved : goal.loop-c-preserved
loop-c-preserved c =
    let rows : List Numbered = rows_picked c.args.picks.now in
    let names : List (List ℕ) = names_in c.args.picks.now in
    let here : List ℕ = get_or (names_in c.args.picks.now) c.loop-c.c [] in
    let also : c.loop-c.c < length c.args.texts.now = search rules in
    let lt : c.loop-c.c < length (names_in c.args.picks.now) = omega (
      arith,
      also,
      ap length c.requires.texts,
      length-map c.args.texts.now (λ (t : Bor (List ℕ)). t.now),
    ) in
    elim c.match-branch-4.branch [
      | in-Some+in_ok-shared+in_ok-push+in_ok-push-2 w ↦
          let found = (rw w.in-Some.is at c.in_ok-column.ensures.some) in
          let column = subst (λ (n : List ℕ). IsColumn (length n) (values_of rows n) w.in-Some.column) (text-is
          c.args.texts.now names c.loop-c.c _ c.requires.texts also) found in
          let name : w.in_ok-shared.field-0 ≡ get_or (names_in c.args.picks.now) c.loop-c.c [] =
          name-is names c.args.names.now c.loop-c.c w.in_ok-shared.field-0 c.requires.names lt w.in_ok-shared.ensures in
          record {
            heads = head-more rows names c.loop-c.c w.in_ok-shared.field-0 w.in-Some.column.bloom c.loop-c.heads.items
                c.match-branch-4.heads.items lt name column.used column.bloom c.loop-c.invariant.heads
                (ap (λ v. v.items) w.heads-is ∙ w.in_ok-push.ensures.items
                ∙ ap (λ h. c.loop-c.heads.items ++ h ∷ []) w.new.ensures);
            values = values-more rows names c.loop-c.c w.in-Some.column.values c.loop-c.values.items
                c.match-branch-4.values.items lt column.used column.values c.loop-c.invariant.values
                (ap (λ v. v.items) w.values-is ∙ w.in_ok-push-2.ensures.items);
            weight = omega (
              arith,
              w.weight-is,
              c.loop-c.invariant.weight,
              column.weight,
              (weight-more (name_weight rows) names c.loop-c.c (weight_of (rows_picked c.args.picks.now)) lt (weight-picked
                  c.args.picks.now c.requires.each)).0,
            );
          }
      | in_default w ↦
          let none = (rw w.in_default.is at c.in_ok-column.ensures.none) in
          let unused = subst (λ (n : List ℕ). is_used rows n ≡ false) (text-is c.args.texts.now names c.loop-c.c _
          c.requires.texts also) none in
          record {
            heads = ap (λ v. v.items) w.heads-is ∙ heads-stay rows names c.loop-c.c c.loop-c.heads.items lt unused
                c.loop-c.invariant.heads;
            values = ap (λ v. v.items) w.values-is ∙ values-stay rows names c.loop-c.c c.loop-c.values.items lt unused
                c.loop-c.invariant.values;
            weight = w.weight-is ∙ weight-stays rows names c.loop-c.c c.loop-c.weight lt unused c.loop-c.invariant.weight;
          }
    ]

pub returns-clause-heads : goal.returns-clause-heads
returns-clause-heads c =
    let rows : List Numbered = rows_picked c.args.picks.now in
    let whole : length c.args.texts.now ≤ c.loop-c.c = search rules in
    c.loop-c.invariant.heads
    ∙ ap (λ (l : List (List ℕ)). map (filter_named rows) (filter (is_used rows) l)) (take_all c.loop-c.c (names_in
    c.args.picks.now) (omega (
      arith,
      whole,
      ap length c.requires.texts,
      length-map c.args.texts.now (λ (t : Bor (List ℕ)). t.now),
    )))
    ∙ ap (map (filter_named rows)) (names-used c.args.picks.now c.requires.each)

pub returns-clause-values : goal.returns-clause-values
returns-clause-values c =
    let rows : List Numbered = rows_picked c.args.picks.now in
    let whole : length c.args.texts.now ≤ c.loop-c.c = search rules in
    c.loop-c.invariant.values
    ∙ ap (λ (l : List (List ℕ)). map (values_of rows) (filter (is_used rows) l)) (take_all c.loop-c.c (names_in
    c.args.picks.now) (omega (
      arith,
      whole,
      ap length c.requires.texts,
      length-map c.args.texts.now (λ (t : Bor (List ℕ)). t.now),
    )))
    ∙ ap (map (values_of rows)) (names-used c.args.picks.now c.requires.each)

pub returns-clause-weight : goal.returns-clause-weight
returns-clause-weight c =
    let rows : List Numbered = rows_picked c.args.picks.now in
    let whole : length c.args.texts.now ≤ c.loop-c.c = search rules in
    c.loop-c.invariant.weight
    ∙ ap (sum_by (name_weight rows)) (take_all c.loop-c.c (names_in c.args.picks.now) (omega (
      arith,
      whole,
      ap length c.requires.texts,
      length-map c.args.texts.now (λ (t : Bor (List ℕ)). t.now),
    )))
    ∙ weight-picked c.args.picks.now c.requires.each
