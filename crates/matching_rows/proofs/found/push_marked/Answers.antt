use Rattle.std.proofs.Common.{◌≡◌, ◌<◌, ◌++◌, ◌∙◌, ◌∷◌, [], ℕ, ℤ, List, Some, ap, get_or}
use Rattle.std.proofs.Common.{length, map, pos, rules, subst, sym}
use Rattle.std.proofs.lemmas.List.{get_or_default, map_push}
use Rattle.std.proofs.lemmas.List.Elements.{All-push}
use Rattle.std.proofs.lemmas.Option.{slice_get-get_or}
use Rattle.std.specs.List.{All, slice_get}
use Rattle.log_model.specs.History.{Numbered}
use Rattle.column_block.specs.InColumns.{no_row}
use Rattle.matching_rows.specs.Found.{IsFound, row_there}
use Rattle.matching_rows.specs.declared.found.Found.{Found}
use Rattle.matching_rows.proofs.Finding.{is_found, left_out, mapped_there, marked, passed, there}
use Rattle.matching_rows.proofs.found.push_marked.Goals as goal
use Rattle.matching_rows.proofs.found.push_marked.Goals.{then-mask-row+in_ok-push, else-mask-row}

pub loop-row-preserved : goal.loop-row-preserved
loop-row-preserved c =
    let opened = c.args.opened.now in
    let block = c.args.block in
    let i = c.loop-row.row in
    let mask = c.args.mask.now in
    let old = map (row_there opened) c.args.found.now.items in
    let so_far = map (row_there opened) c.loop-row.found.items in
    let rows : List Numbered = c.index-opened-block.result in
    let those : List Numbered = get_or opened block [] in
    let x : Numbered = get_or those i no_row in
    let same : rows ≡ those =
    c.index-opened-block.is ∙ get_or_default opened block rows [] c.requires.block in
    let within : i < length those = search rules in
    let at : slice_get those i ≡ Some x = slice_get-get_or those i no_row within in
    elim c.if-mask-row.branch [
      | then-mask-row+in_ok-push w ↦
          let key : ℤ × ℕ × ℕ = w.key-batch.result in
          let there_too : slice_get rows i ≡ Some x = subst (λ l. slice_get l i ≡ Some x) (sym same) at in
          let keyed : (pos x.row.moment, x.batch, x.place) ≡ key =
          mapped_there (λ (r : Numbered). (pos r.row.moment, r.batch, r.place)) rows i x key there_too
          w.key-batch.ensures in
          let f : Found = record { batch = key.1; place = key.2; block = block; row = i } in
          let is : IsFound opened f =
          is_found opened f x c.requires.block at (ap (λ (k : ℤ × ℕ × ℕ). k.1) (sym keyed))
          (ap (λ (k : ℤ × ℕ × ℕ). k.2) (sym keyed)) in
          let items = ap (λ v. v.items) w.found-is ∙ w.in_ok-push.ensures.items in
          record {
            rows = λ test is_mask.
                passed test old so_far (map (row_there opened) c.if-mask-row.found.items) those i x at
                (sym (marked test mask those i _ is_mask within) ∙ w.if-mask-row.true) (c.loop-row.invariant.rows test is_mask)
                (ap (map (row_there opened)) items ∙ map_push (row_there opened) c.loop-row.found.items f
                ∙ ap (λ r. so_far ++ r ∷ []) (there opened f x at));
            each = subst (All (IsFound opened)) (sym items)
                (All-push (IsFound opened) c.loop-row.found.items f c.loop-row.invariant.each is);
          }
      | else-mask-row w ↦
          let items = ap (λ v. v.items) w.found-is in
          record {
            rows = λ test is_mask.
                ap (map (row_there opened)) items
                ∙ left_out test old so_far those i x at (sym (marked test mask those i _ is_mask within) ∙ w.if-mask-row.false)
                (c.loop-row.invariant.rows test is_mask);
            each = subst (All (IsFound opened)) (sym items) c.loop-row.invariant.each;
          }
    ]
