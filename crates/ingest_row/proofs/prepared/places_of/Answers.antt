use Rattle.std.proofs.Common.{◌≡◌, ◌+◌, ◌-◌, ◌<◌, ◌∙◌, ℕ, [], List, length, ap, arith, bytes_eq, get_or, Some, string_bytes}
use Rattle.std.proofs.Common.{unwrap_or, drop}
use Rattle.std.specs.BTreeMap.{get_by_text}
use Rattle.std.proofs.lemmas.Map.Text.{btree_map_updates_text}
use Rattle.ingest_row.specs.Prepared.{place_in}
use Rattle.ingest_row.proofs.Places.{found_more}
use Rattle.ingest_row.proofs.prepared.places_of.Goals as goal

pub loop-at-preserved : goal.loop-at-preserved
loop-at-preserved c =
    let at = c.loop-at.at - 1 in
    let next : at + 1 ≡ c.loop-at.at = omega (arith, c.loop-at-test.true) in
    record {
      within = omega (arith, c.loop-at.invariant.within);
      found = λ q.
          found_more c.args.names.now at c.index-names-at.result (string_bytes c.in_ok-name.name) q (get_by_text c.loop-at.places q)
          (get_by_text c.insert.new.self q) (omega (arith, c.loop-at-test.true, c.loop-at.invariant.within))
          c.index-names-at.is (c.in_ok-name.ensures.ok ∙ c.as_str.ensures.value)
          (btree_map_updates_text (string_bytes c.in_ok-name.name) c.loop-at.places c.insert.new.self (Some at)
          c.in_ok-insert.ensures.updates q)
          (rw next (c.loop-at.invariant.found q));
    }
