use Rattle.std.proofs.Common.{◌∙◌, ◌<◌, [], ◌∷◌, ◌++◌, ap, arith, length, map, refl}
use Rattle.part_store.specs.Preparing.{placed_part}
use Rattle.part_store.specs.State.{Listed, kept}
use Rattle.part_store.proofs.Preparing.{as_many, entry_at, is_placed, kept_more, placed_is, written_at}
use Rattle.part_store.proofs.prepare.kept_parts.Goals as goal

pub keep-requires : goal.keep-requires
keep-requires c =
    let parts = c.args.catalog.now.parts.items in
    let entries = c.as_slice-entries.result.now in
    let are = c.as_slice-entries.ensures ∙ c.requires.entries in
    let i = c.loop-i.i in
    let stored = c.index-stored.result.now in
    let below : i < length parts = omega (arith, as_many parts entries are, c.loop-i-test.true) in
    is_placed _ stored _ (entry_at parts entries are i _ stored below c.index-stored.ensures) refl
    (written_at parts i stored below c.index-stored.ensures c.requires.written)

pub loop-i-preserved : goal.loop-i-preserved
loop-i-preserved c =
    let parts = c.args.catalog.now.parts.items in
    let entries = c.as_slice-entries.result.now in
    let are = c.as_slice-entries.ensures ∙ c.requires.entries in
    let i = c.loop-i.i in
    let stored = c.index-stored.result.now in
    let below : i < length parts = omega (arith, as_many parts entries are, c.loop-i-test.true) in
    let is = placed_is _ stored (record { ref_ptr = (0, 0); now = stored.part })
    (entry_at parts entries are i _ stored below c.index-stored.ensures) refl in
    record {
      parts = kept_more c.args.old.now i parts stored (map placed_part c.loop-i.placed.items)
          (map placed_part c.keep.new.placed.items) below c.index-stored.ensures c.loop-i.invariant.parts
          (c.in_ok-keep.ensures.parts
          ∙ ap (λ (part : Listed). map placed_part c.loop-i.placed.items ++ kept c.args.old.now (part ∷ [])) is);
      placed = c.in_ok-keep.ensures.placed c.loop-i.invariant.placed;
    }
