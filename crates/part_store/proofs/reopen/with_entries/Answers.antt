use Rattle.std.proofs.Common.{◌∙◌, ◌<◌, ◌++◌, ◌∷◌, [], List, ap, arith, get_or, length, map}
use Rattle.std.proofs.lemmas.List.{map-append}
use Rattle.log_model.specs.History.{Numbered}
use Rattle.part_store.specs.State.{listed_of}
use Rattle.part_store.proofs.Entries.{with_more}
use Rattle.part_store.proofs.reopen.with_entries.Goals as goal

pub loop-i-preserved : goal.loop-i-preserved
loop-i-preserved c =
    let entries = c.args.entries.now in
    let parts = c.args.parts.now in
    let i = c.loop-i.i in
    let old = c.loop-i.stored.items in
    let e = get_or entries i (record { day = 0; file = 0; bytes = 0 }) in
    let below : i < length entries = omega (arith, c.loop-i-test.true, c.requires) in
    with_more entries parts i (record { day = 0; file = 0; bytes = 0 }) c.index-parts-i.result (map listed_of old)
    (map listed_of c.push.new.self.items) below c.loop-i-test.true c.index-parts-i.is c.loop-i.invariant
    (ap (map listed_of) c.in_ok-push.ensures.items ∙ map-append listed_of old (_ ∷ [])
    ∙ ap (λ (rows : List Numbered). map listed_of old ++ record { day = e.day; file = e.file; rows = rows } ∷ [])
    c.in_ok-try_clone.ensures)
