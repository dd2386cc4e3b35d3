use Rattle.std.proofs.Common.{◌≡◌, ◌∙◌, List, ℕ, map, length, ap, arith, subst, sym}
use Rattle.std.specs.Prelude.{vec_items}
use Rattle.std.proofs.lemmas.List.{length-map}
use Rattle.day_model.specs.Days.{DayRows}
use Rattle.vl_vault.specs.Moments.{Always}
use Rattle.part_file.specs.Format.{part_bytes}
use Rattle.part_store.specs.Preparing.{ChangesOnly, HaveContents, IsNewFile, files_of, parts_of}
use Rattle.part_store.specs.State.{day_part_of}
use Rattle.part_store.proofs.Rules.{list_rules}
use Rattle.part_store.proofs.Replacing.{all_done, all_moments, comes_next, list_moments, write_moments, written_on}
use Rattle.part_store.proofs.files.put_on_vault.Goals as goal

-- how many new files there are
files_long : (files : List (List ℕ)) (new : List DayRows) → files ≡ files_of new → length files ≡ length new
files_long files new is = ap length is ∙ length-map new (λ (part : DayRows). part_bytes part.1)

pub write_files-requires : goal.write_files-requires
write_files-requires g c =
    let p = c.requires.next.1 in
    let files = c.args.next.now.files.items in
    let long = files_long (map vec_items files) (map day_part_of c.args.new.now) p.files in
    let count : length c.deref.result.now ≡ length (map vec_items files) =
    ap length c.deref.ensures.value ∙ sym (length-map files vec_items) in
    omega (arith, count, long, p.next_file, p.whole.next_file.1)

pub returns-in_err-write_files-clause-moments : goal.returns-in_err-write_files-clause-moments
returns-in_err-write_files-clause-moments g c = λ told.
    let p = c.requires.next.1 in
    let catalog = c.args.catalog.now in
    let next = c.args.next.now.catalog in
    let new = map day_part_of c.args.new.now in
    let old = g.V.Vault.past c.args.vault.now in
    let files = c.args.next.now.files.items in
    let count : length c.deref.result.now ≡ length new =
    ap length c.deref.ensures.value ∙ sym (length-map files vec_items) ∙ files_long (map vec_items files) new p.files in
    let run = subst (λ n. Always (ChangesOnly (IsNewFile catalog.list.next_file n) old) old
    (g.V.Vault.past c.write_files.new.vault)) count (c.write_files.ensures.moments told) in
    write_moments catalog.list next.list (parts_of catalog) (parts_of next) c.requires.whole p.whole p.generation
    c.args.old.now new p.after.same c.requires.listed old (c.requires.vault told)
    (g.V.Vault.past c.write_files.new.vault) run

pub write_spelled-requires-clause-durable : goal.write_spelled-requires-clause-durable
write_spelled-requires-clause-durable g c = λ told.
    let p = c.requires.next.1 in
    let catalog = c.args.catalog.now in
    let next = c.args.next.now.catalog in
    let new = map day_part_of c.args.new.now in
    let old = g.V.Vault.past c.args.vault.now in
    let files = c.args.next.now.files.items in
    let count : length c.deref.result.now ≡ length new =
    ap length c.deref.ensures.value ∙ sym (length-map files vec_items) ∙ files_long (map vec_items files) new p.files in
    let run = subst (λ n. Always (ChangesOnly (IsNewFile catalog.list.next_file n) old) old
    (g.V.Vault.past c.write_files.new.vault)) count (c.write_files.ensures.moments told) in
    (written_on catalog.list next.list (parts_of catalog) (parts_of next) c.requires.whole p.whole p.generation
    c.args.old.now new p.after.same c.requires.listed old (c.requires.vault told)
    (g.V.Vault.past c.write_files.new.vault) run).slots

pub write_spelled-requires-clause-rules : goal.write_spelled-requires-clause-rules
write_spelled-requires-clause-rules g c =
    let p = c.requires.next.1 in
    let next = c.args.next.now.catalog in
    list_rules next.list (parts_of next) p.whole (omega (arith, p.generation))

pub write_spelled-requires-clause-next : goal.write_spelled-requires-clause-next
write_spelled-requires-clause-next g c = λ told.
    let p = c.requires.next.1 in
    let catalog = c.args.catalog.now in
    let next = c.args.next.now.catalog in
    let new = map day_part_of c.args.new.now in
    let old = g.V.Vault.past c.args.vault.now in
    let files = c.args.next.now.files.items in
    let count : length c.deref.result.now ≡ length new =
    ap length c.deref.ensures.value ∙ sym (length-map files vec_items) ∙ files_long (map vec_items files) new p.files in
    let run = subst (λ n. Always (ChangesOnly (IsNewFile catalog.list.next_file n) old) old
    (g.V.Vault.past c.write_files.new.vault)) count (c.write_files.ensures.moments told) in
    comes_next catalog.list next.list (parts_of catalog) (parts_of next) c.requires.whole p.whole p.generation
    c.args.old.now new p.after.same c.requires.listed old (c.requires.vault told)
    (g.V.Vault.past c.write_files.new.vault) run

pub returns-in_err-write_spelled-clause-moments : goal.returns-in_err-write_spelled-clause-moments
returns-in_err-write_spelled-clause-moments g c = λ told.
    let p = c.requires.next.1 in
    let catalog = c.args.catalog.now in
    let next = c.args.next.now.catalog in
    let new = map day_part_of c.args.new.now in
    let old = g.V.Vault.past c.args.vault.now in
    let mid = g.V.Vault.past c.write_files.new.vault in
    let files = c.args.next.now.files.items in
    let count : length c.deref.result.now ≡ length new =
    ap length c.deref.ensures.value ∙ sym (length-map files vec_items) ∙ files_long (map vec_items files) new p.files in
    let run = subst (λ n. Always (ChangesOnly (IsNewFile catalog.list.next_file n) old) old mid) count
    (c.write_files.ensures.moments told) in
    let contents = subst (λ cs. HaveContents catalog.list.next_file cs mid) (ap
    (map vec_items) c.deref.ensures.value ∙ p.files)
    (c.in_ok-write_files.ensures.written told) in
    list_moments catalog.list next.list (parts_of catalog) (parts_of next) c.requires.whole p.whole p.generation
    c.args.old.now new p.after.same c.requires.listed old (c.requires.vault told) mid run contents
    (g.V.Vault.past c.write_spelled.new.vault) (c.write_spelled.ensures.moments told)

pub returns-in_err-remove_files-clause-moments : goal.returns-in_err-remove_files-clause-moments
returns-in_err-remove_files-clause-moments g c = λ told.
    let p = c.requires.next.1 in
    let catalog = c.args.catalog.now in
    let next = c.args.next.now.catalog in
    let new = map day_part_of c.args.new.now in
    let old = g.V.Vault.past c.args.vault.now in
    let mid = g.V.Vault.past c.write_files.new.vault in
    let files = c.args.next.now.files.items in
    let count : length c.deref.result.now ≡ length new =
    ap length c.deref.ensures.value ∙ sym (length-map files vec_items) ∙ files_long (map vec_items files) new p.files in
    let run = subst (λ n. Always (ChangesOnly (IsNewFile catalog.list.next_file n) old) old mid) count
    (c.write_files.ensures.moments told) in
    let contents = subst (λ cs. HaveContents catalog.list.next_file cs mid) (ap
    (map vec_items) c.deref.ensures.value ∙ p.files)
    (c.in_ok-write_files.ensures.written told) in
    all_moments catalog.list next.list (parts_of catalog) (parts_of next) c.requires.whole p.whole p.generation
    c.args.old.now new p.after.same c.requires.listed old (c.requires.vault told) mid run contents
    (g.V.Vault.past c.write_spelled.new.vault) (c.write_spelled.ensures.moments told)
    (c.in_ok-write_spelled.ensures.written told) (c.in_ok-write_spelled.ensures.durable told)
    (g.V.Vault.past c.remove_files.new.vault) (c.remove_files.ensures.moments told)

pub returns-clause-moments : goal.returns-clause-moments
returns-clause-moments g c = λ told.
    let p = c.requires.next.1 in
    let catalog = c.args.catalog.now in
    let next = c.args.next.now.catalog in
    let new = map day_part_of c.args.new.now in
    let old = g.V.Vault.past c.args.vault.now in
    let mid = g.V.Vault.past c.write_files.new.vault in
    let files = c.args.next.now.files.items in
    let count : length c.deref.result.now ≡ length new =
    ap length c.deref.ensures.value ∙ sym (length-map files vec_items) ∙ files_long (map vec_items files) new p.files in
    let run = subst (λ n. Always (ChangesOnly (IsNewFile catalog.list.next_file n) old) old mid) count
    (c.write_files.ensures.moments told) in
    let contents = subst (λ cs. HaveContents catalog.list.next_file cs mid) (ap
    (map vec_items) c.deref.ensures.value ∙ p.files)
    (c.in_ok-write_files.ensures.written told) in
    all_moments catalog.list next.list (parts_of catalog) (parts_of next) c.requires.whole p.whole p.generation
    c.args.old.now new p.after.same c.requires.listed old (c.requires.vault told) mid run contents
    (g.V.Vault.past c.write_spelled.new.vault) (c.write_spelled.ensures.moments told)
    (c.in_ok-write_spelled.ensures.written told) (c.in_ok-write_spelled.ensures.durable told)
    (g.V.Vault.past c.remove_files.new.vault) (c.remove_files.ensures.moments told)

pub returns-clause-done : goal.returns-clause-done
returns-clause-done g c = λ told.
    let p = c.requires.next.1 in
    let catalog = c.args.catalog.now in
    let next = c.args.next.now.catalog in
    let new = map day_part_of c.args.new.now in
    let old = g.V.Vault.past c.args.vault.now in
    let mid = g.V.Vault.past c.write_files.new.vault in
    let files = c.args.next.now.files.items in
    let count : length c.deref.result.now ≡ length new =
    ap length c.deref.ensures.value ∙ sym (length-map files vec_items) ∙ files_long (map vec_items files) new p.files in
    let run = subst (λ n. Always (ChangesOnly (IsNewFile catalog.list.next_file n) old) old mid) count
    (c.write_files.ensures.moments told) in
    let contents = subst (λ cs. HaveContents catalog.list.next_file cs mid) (ap
    (map vec_items) c.deref.ensures.value ∙ p.files)
    (c.in_ok-write_files.ensures.written told) in
    all_done catalog.list next.list (parts_of catalog) (parts_of next) c.requires.whole p.whole p.generation
    c.args.old.now new p.after.same c.requires.listed old (c.requires.vault told) mid run contents
    (g.V.Vault.past c.write_spelled.new.vault) (c.write_spelled.ensures.moments told)
    (c.in_ok-write_spelled.ensures.written told) (c.in_ok-write_spelled.ensures.durable told)
    (g.V.Vault.past c.remove_files.new.vault) (c.remove_files.ensures.moments told)
