use Rattle.std.proofs.Common.{◌<◌, ◌∙◌, get_or, length, map, refl, subst, sym, arith}
use Rattle.std.proofs.lemmas.List.{get_or-set_other, get_or-set_same, get_or_default, length-set}
use Rattle.lq_stats.proofs.Gathering.{gathered}
use Rattle.lq_stats.specs.Function.{scanned_statistic}
use Rattle.lq_stats.specs.Groups.{TakesRecord}
use Rattle.lq_stats.specs.Key.{grouped_by}
use Rattle.lq_stats.proofs.groups.Groups.add.Goals as goal

pub returns-in_ok-add-clause-taken : goal.returns-in_ok-add-clause-taken
returns-in_ok-add-clause-taken c = λ more records few h.
    let statistics = map scanned_statistic c.args.scans.now in
    let e = c.in_ok-place.ensures more records h in
    let all = c.place.new.self.states.items in
    let place = c.in_ok-place.place in
    let old = c.index_mut.result.now in
    let states = c.add.new.self in
    let r = c.args.fields.now in
    let inside : place < length all = omega (arith, e.inside, e.are.long) in
    gathered (map grouped_by c.args.keys.now) statistics more records r c.place.new.self _ place e refl
    (length-set all place states) (λ k d ne. get_or-set_other all place k states d ne)
    (λ d. subst (λ s. TakesRecord statistics (get_or all place d).list.items s.list.items r)
    (sym (get_or-set_same all place states d inside))
    (subst (λ s. TakesRecord statistics s.list.items states.list.items r)
    (c.index_mut.ensures.value ∙ get_or_default all place old d inside) c.in_ok-add.ensures.taken)) few
