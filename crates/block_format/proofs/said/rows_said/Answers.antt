use Rattle.std.proofs.Common.{◌≡◌, ◌∙◌, [], List, ap, arith, filter, length, map, sym}
use Rattle.std.specs.List.{list_all}
use Rattle.log_model.specs.Field.{Field, set_all}
use Rattle.block_model.specs.Columns.{Column, fields_at, rows_from}
use Rattle.block_model.specs.declared.keys.Key.{Key}
use Rattle.block_format.specs.Columns.{LentColumn, lent_column}
use Rattle.block_format.specs.Found.{Found}
use Rattle.block_format.specs.Reading.{has_name, is_numbered}
use Rattle.block_format.proofs.SaidLaws.{no-rows, not-few, said-none, said-rows, too-many, unsaid}
use Rattle.block_format.proofs.said.rows_said.Goals as goal
use Rattle.block_format.proofs.said.rows_said.Goals.{then-count-eq0-via-then-count-eq0}
use Rattle.block_format.proofs.said.rows_said.Goals.{then-count-eq0-via-else-count-eq0+then-count-gt-MAX_ROWS}
use Rattle.block_format.proofs.said.rows_said.Goals.{then-count-eq0-via-else-count-eq0+else-count-gt-MAX_ROWS+then-not-are_said}

pub returns-then-count-eq0 : goal.returns-then-count-eq0
returns-then-count-eq0 c =
    let keys : length c.parts.inside.keys.items ≡ length c.args.parts.now.keys =
    ap (λ (f : Found). length f.keys) c.parts.view_is in
    elim c.then-count-eq0.branch [
      | then-count-eq0-via-then-count-eq0 w ↦
          no-rows c.args.parts.now (omega (arith, w.if-count-eq0.true, c.len-count.ensures, keys))
      | then-count-eq0-via-else-count-eq0+then-count-gt-MAX_ROWS w ↦
          too-many c.args.parts.now (omega (arith, w.if-count-gt-MAX_ROWS.true, c.len-count.ensures, keys))
      | then-count-eq0-via-else-count-eq0+else-count-gt-MAX_ROWS+then-not-are_said w ↦ unsaid c.args.parts.now
          (sym w.are_said.ensures ∙ w.if-not-are_said.true)
    ]

pub returns-in_default : goal.returns-in_default
returns-in_default c =
    let labels : c.as_slice.result.now ≡ c.args.parts.now.labels = c.as_slice.ensures.value
    ∙ ap (λ (f : Found). f.labels) c.parts.view_is in
    let keys : length c.parts.inside.keys.items ≡ length c.args.parts.now.keys =
    ap (λ (f : Found). length f.keys) c.parts.view_is in
    let wide = (rw c.in_default.is at c.in_ok-labels.ensures) in
    not-few c.args.parts.now (sym c.are_said.ensures ∙ c.if-not-are_said.false) (omega (
      arith,
      c.if-count-eq0.false,
      c.len-count.ensures,
      keys,
    ))
    (omega (arith, wide, ap (λ (l : List Field). length (set_all [] l)) labels))

pub returns-in-Some-2 : goal.returns-in-Some-2
returns-in-Some-2 c =
    let keys : c.as_slice-3.result.now ≡ c.args.parts.now.keys = c.as_slice-3.ensures.value
    ∙ ap (λ (f : Found). f.keys) c.parts.view_is in
    let stream = (rw c.in-Some.is at c.in_ok-labels.ensures) in
    let labels : c.in-Some.labels ≡ set_all [] c.args.parts.now.labels =
    stream ∙ ap (set_all []) (c.as_slice.ensures.value ∙ ap (λ (f : Found). f.labels) c.parts.view_is) in
    let found = (rw c.in-Some-2.is at c.in_ok-rows.ensures) in
    said-rows c.args.parts.now c.in-Some.labels (map lent_column c.as_slice-4.result.now) c.in-Some-2.rows.items
    c.in_ok-rows-in-Some-2.rows.items (sym c.are_said.ensures ∙ c.if-not-are_said.false) labels
    (λ i. ap (λ (l : List LentColumn). fields_at (map lent_column l) i) c.as_slice-4.ensures.value
    ∙ c.in_ok-columns.ensures.fields i ∙ ap (λ (l : List Column). fields_at (filter has_name l) i)
    (c.as_slice-2.ensures.value ∙ ap (λ (f : Found). f.columns) c.parts.view_is))
    (found ∙ ap (rows_from c.in-Some.labels (map lent_column c.as_slice-4.result.now) 0) keys)
    c.in_ok-rows-in-Some-2.ensures

pub returns : goal.returns
returns c =
    let keys : c.as_slice-3.result.now ≡ c.args.parts.now.keys = c.as_slice-3.ensures.value
    ∙ ap (λ (f : Found). f.keys) c.parts.view_is in
    let stream = (rw c.in-Some.is at c.in_ok-labels.ensures) in
    let labels : c.in-Some.labels ≡ set_all [] c.args.parts.now.labels =
    stream ∙ ap (set_all []) (c.as_slice.ensures.value ∙ ap (λ (f : Found). f.labels) c.parts.view_is) in
    let none = (rw c.in-None.is at c.in_ok-rows.ensures) in
    said-none c.args.parts.now c.in-Some.labels (map lent_column c.as_slice-4.result.now) (sym c.are_said.ensures
    ∙ c.if-not-are_said.false) labels
    (λ i. ap (λ (l : List LentColumn). fields_at (map lent_column l) i) c.as_slice-4.ensures.value
    ∙ c.in_ok-columns.ensures.fields i ∙ ap (λ (l : List Column). fields_at (filter has_name l) i)
    (c.as_slice-2.ensures.value ∙ ap (λ (f : Found). f.columns) c.parts.view_is))
    (ap (λ (k : List Key). list_all is_numbered (rows_from c.in-Some.labels (map lent_column c.as_slice-4.result.now) 0
    k)) (sym keys) ∙ none)
