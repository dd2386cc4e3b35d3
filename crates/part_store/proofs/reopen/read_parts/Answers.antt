use Rattle.std.proofs.Common.{◌≡◌, ◌∙◌, ◌++◌, ◌∷◌, [], ap, arith, get_or, inr, map, subst, sym}
use Rattle.std.specs.Arc.{arc_value}
use Rattle.std.specs.List.{AllZip}
use Rattle.std.proofs.lemmas.List.{map-append}
use Rattle.std.proofs.lemmas.Result.{err_from_is_err_and}
use Rattle.vl_vault.specs.Disk.{content}
use Rattle.vl_vault.proofs.Runs.{begun_unchanged, last, unchanged_on}
use Rattle.parts_list.specs.declared.list.Entry.{Entry}
use Rattle.part_store.specs.Reopening.{IsPartOf, IsStoredAt}
use Rattle.part_store.proofs.Entries.{fault_same, first_fault, stored_same, zip_at, zip_more}
use Rattle.part_store.proofs.reopen.read_parts.Goals as goal

abbrev none : Entry
none = record { day = 0; file = 0; bytes = 0 }

pub returns-in_err-parts-clause-moments : goal.returns-in_err-parts-clause-moments
returns-in_err-parts-clause-moments g c = λ told. begun_unchanged (g.V.Vault.past c.args.vault.now)

pub loop-i-init : goal.loop-i-init
loop-i-init g c =
    let empty = sym c.in_ok-parts.ensures.items in
    record {
      parts = subst (λ xs. AllZip IsPartOf [] (map arc_value xs)) empty tt;
      found = λ told. subst (λ xs. AllZip (IsStoredAt (content (g.V.Vault.past c.args.vault.now))) []
          (map arc_value xs)) empty tt;
      moments = λ told. begun_unchanged (g.V.Vault.past c.args.vault.now);
      stays = omega arith;
    }

pub returns-in_err-part-clause-moments : goal.returns-in_err-part-clause-moments
returns-in_err-part-clause-moments g c = λ told.
    unchanged_on (c.loop-i.invariant.moments told) (c.read_shared.ensures.moments told)

pub returns-in_err-part-clause-only : goal.returns-in_err-part-clause-only
returns-in_err-part-clause-only g c = λ told parts all.
    let old = content (g.V.Vault.past c.args.vault.now) in
    let mid = content (g.V.Vault.past c.loop-i.vault) in
    let i = c.loop-i.i in
    let e = get_or c.args.entries.now i none in
    let part = get_or parts i [] in
    let here = stored_same mid old e part (sym ((last (c.loop-i.invariant.moments told)).read e.file))
    (zip_at (IsStoredAt old) c.args.entries.now parts i none [] c.loop-i-test.true all) in
    let p = err_from_is_err_and c.from_residual-in_err-part.result c.from_residual-in_err-part.ensures.1 in
    rw (p.1, p.2) (c.in_err-part.ensures.only told part here)

pub returns-in_err-part-clause-damaged : goal.returns-in_err-part-clause-damaged
returns-in_err-part-clause-damaged g c = λ told.
    let old = content (g.V.Vault.past c.args.vault.now) in
    let mid = content (g.V.Vault.past c.loop-i.vault) in
    let i = c.loop-i.i in
    let e = get_or c.args.entries.now i none in
    let fault = c.in_err-part.field-0.0 in
    let p = err_from_is_err_and c.from_residual-in_err-part.result c.from_residual-in_err-part.ensures.1 in
    rw (p.1, p.2) (inr (first_fault old fault c.args.entries.now i none (map arc_value c.loop-i.parts.items)
    c.loop-i-test.true (c.loop-i.invariant.found told)
    (fault_same old mid e fault ((last (c.loop-i.invariant.moments told)).read e.file)
    (c.in_err-part.ensures.damaged told))))

pub returns-in_err-append-clause-moments : goal.returns-in_err-append-clause-moments
returns-in_err-append-clause-moments g c = λ told.
    unchanged_on (c.loop-i.invariant.moments told) (c.read_shared.ensures.moments told)

pub loop-i-preserved : goal.loop-i-preserved
loop-i-preserved g c =
    let entries = c.args.entries.now in
    let i = c.loop-i.i in
    let e = get_or entries i none in
    let before = c.loop-i.parts.items in
    let after = c.append.new.parts.items in
    let part = c.in_ok-part.part in
    let is : map arc_value after ≡ map arc_value before ++ arc_value part ∷ [] =
    ap (map arc_value) c.in_ok-append.ensures ∙ map-append arc_value before (part ∷ []) in
    record {
      parts = zip_more IsPartOf entries i none (map arc_value before) (map arc_value after) (arc_value part)
          c.loop-i-test.true c.loop-i.invariant.parts c.in_ok-part.ensures.part is;
      found = λ told.
          let old = content (g.V.Vault.past c.args.vault.now) in
          let mid = content (g.V.Vault.past c.loop-i.vault) in
          zip_more (IsStoredAt old) entries i none (map arc_value before) (map arc_value after) (arc_value part)
          c.loop-i-test.true (c.loop-i.invariant.found told)
          (stored_same old mid e (arc_value part) ((last (c.loop-i.invariant.moments told)).read e.file)
          (c.in_ok-part.ensures.found told)) is;
      moments = λ told. unchanged_on (c.loop-i.invariant.moments told) (c.read_shared.ensures.moments told);
      stays = omega (arith, c.loop-i.invariant.stays, c.read_shared.ensures.stays);
    }
