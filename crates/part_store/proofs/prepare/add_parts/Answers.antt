use Rattle.std.proofs.Common.{◌≡◌, ◌∙◌, ◌+◌, ◌++◌, [], ◌∷◌, length, map, ap, refl}
use Rattle.std.proofs.lemmas.List.{map-append}
use Rattle.std.proofs.lemmas.List.Elements.{All-push, All-same}
use Rattle.part_file.specs.Format.{part_bytes}
use Rattle.std.specs.Arc.{arc_value}
use Rattle.part_store.specs.Preparing.{IsPlaced, placed_part}
use Rattle.part_store.specs.State.{Listed, day_part_of}
use Rattle.part_store.proofs.Preparing.{added_at, file_at, new_is, new_placed, spelled_at}
use Rattle.part_store.proofs.prepare.add_parts.Goals as goal

pub loop-i-preserved : goal.loop-i-preserved
loop-i-preserved c =
    let new = c.args.new.now in
    let i = c.loop-i.i in
    let d = c.index-new-i.result in
    let file = c.index-files-i.result in
    let below = c.loop-i-test.true in
    let old = c.loop-i.placed.items in
    let entry = c.new_entry-entry.result in
    let value = c.new_entry-entry.ensures.value in
    let items = c.in_ok-push.ensures.items in
    let bytes = file_at new i d below c.index-new-i.is c.args.files.now file c.requires.files c.index-files-i.is in
    let long : c.len-bytes.result ≡ length (part_bytes (arc_value d.1)) = c.len-bytes.ensures ∙ file.ok.0
    ∙ ap length bytes in
    let spelled = spelled_at new i d below c.index-new-i.is c.requires.spelled in
    let is = new_is entry (record { ref_ptr = (0, 0); now = d.1 }) d
    (c.args.next_file + i) c.len-bytes.result value refl in
    record {
      parts = added_at c.args.next_file i new d (map placed_part c.args.placed.now.items) (map placed_part old)
          (map placed_part c.push.new.self.items) below c.loop-i.invariant.parts
          (ap (map placed_part) items ∙ map-append placed_part old (_ ∷ [])
          ∙ ap (λ (part : Listed). map placed_part old ++ part ∷ []) (is ∙ ap (λ p. record {
            day = (day_part_of p).0;
            file = c.args.next_file + i;
            rows = (day_part_of p).1;
          }) c.index-new-i.is));
      placed = λ all. All-same IsPlaced c.push.new.self.items (old ++ _ ∷ []) items
          (All-push IsPlaced old _ (c.loop-i.invariant.placed all)
          (new_placed entry _ d (c.args.next_file + i) c.len-bytes.result value refl long spelled
          c.new_entry-entry.ensures.small));
    }
