use Rattle.std.proofs.Common.{◌≡◌, ◌∙◌, ◌+◌, ◌++◌, ◌≤◌, Some, ap, arith, flat_map, length, refl, rules, subst, sym, take}
use Rattle.std.proofs.lemmas.List.{take_all}
use Rattle.std.specs.List.{AllByRecursion, slice_get}
use Rattle.log_model.specs.Core.{parts_of}
use Rattle.lq_prune.specs.Pruning.{IsTextBlock}
use Rattle.lq_prune.specs.Tree.{needed}
use Rattle.part_model.specs.Filling.{blocks_of}
use Rattle.query_run.specs.Opened.{Counts, CountsAtMost, admitted_by}
use Rattle.query_run.proofs.Opening.{all_joined, counts_both, counts_none, counts_some, counts_some_more, part_admitted}
use Rattle.query_run.proofs.Opening.{part_count, part_more, part_within}
use Rattle.query_run.proofs.opened.open_admitted.Goals as goal

pub loop-part-init : goal.loop-part-init
loop-part-init g c = record {
  opened = c.new-opened.ensures.items;
  texts = tt;
  steps = counts_none c.args.steps.now (omega arith);
  need = refl;
}

pub loop-part-preserved : goal.loop-part-preserved
loop-part-preserved g c =
    let need = needed c.args.need.now in
    let parts = parts_of c.args.snapshot.now in
    let i = c.loop-part.part in
    let part = c.deref.result.now in
    let at : slice_get parts i ≡ Some part = search rules in
    let inv = c.loop-part.invariant in
    let more = c.in_ok-open_part.ensures in
    record {
      opened = more.opened ∙ ap (λ n. c.loop-part.opened.items ++ admitted_by n (blocks_of part)) inv.need
          ∙ ap (λ l. l ++ admitted_by need (blocks_of part)) inv.opened
          ∙ sym (part_admitted need parts i part at);
      texts = subst (AllByRecursion IsTextBlock) (sym (part_more blocks_of parts i part at))
          (all_joined IsTextBlock (flat_map blocks_of (take i parts)) (blocks_of part) inv.texts more.texts);
      steps = subst (λ n. Counts c.args.steps.now n c.open_part.new.steps) (part_count need parts i part at)
          (counts_both c.args.steps.now (length (admitted_by need (flat_map blocks_of (take i parts)))) c.loop-part.steps
          (length (admitted_by need (blocks_of part))) c.open_part.new.steps inv.steps
          (subst (λ n. Counts c.loop-part.steps (length (admitted_by n (blocks_of part))) c.open_part.new.steps) inv.need
          more.steps));
      need = c.open_part.ensures.need ∙ inv.need;
    }

pub returns-clause-opened : goal.returns-clause-opened
returns-clause-opened g c =
    let parts = parts_of c.args.snapshot.now in
    let all : length parts ≤ c.loop-part.part = search rules in
    c.loop-part.invariant.opened
    ∙ ap (λ l. admitted_by (needed c.args.need.now) (flat_map blocks_of l)) (take_all c.loop-part.part parts all)

pub returns-clause-texts : goal.returns-clause-texts
returns-clause-texts g c =
    let parts = parts_of c.args.snapshot.now in
    let all : length parts ≤ c.loop-part.part = search rules in
    subst (λ l. AllByRecursion IsTextBlock (flat_map blocks_of l)) (take_all c.loop-part.part parts all)
    c.loop-part.invariant.texts

pub returns-clause-steps : goal.returns-clause-steps
returns-clause-steps g c =
    let parts = parts_of c.args.snapshot.now in
    let all : length parts ≤ c.loop-part.part = search rules in
    subst
    (λ l. Counts c.args.steps.now (length (admitted_by (needed c.args.need.now) (flat_map blocks_of l)))
    c.loop-part.steps) (take_all c.loop-part.part parts all) c.loop-part.invariant.steps

pub returns-in_err-open_part-clause-few_steps : goal.returns-in_err-open_part-clause-few_steps
returns-in_err-open_part-clause-few_steps g c =
    let need = needed c.args.need.now in
    let parts = parts_of c.args.snapshot.now in
    let i = c.loop-part.part in
    let part = c.deref.result.now in
    let at : slice_get parts i ≡ Some part = search rules in
    counts_some_more c.args.steps.now (length (admitted_by need (flat_map blocks_of (take i parts)))) c.loop-part.steps
    (length (admitted_by need (blocks_of part))) (length (admitted_by need (flat_map blocks_of parts)))
    c.open_part.new.steps (omega arith) c.loop-part.invariant.steps
    (subst (λ n. CountsAtMost c.loop-part.steps (length (admitted_by n (blocks_of part))) c.open_part.new.steps)
    c.loop-part.invariant.need c.open_part.ensures.few_steps)
    (part_within need parts i part at)

pub returns-clause-few_steps : goal.returns-clause-few_steps
returns-clause-few_steps g c =
    let need = needed c.args.need.now in
    let parts = parts_of c.args.snapshot.now in
    let i = c.loop-part.part in
    let all : length parts ≤ i = search rules in
    counts_some c.args.steps.now (length (admitted_by need (flat_map blocks_of (take i parts))))
    (length (admitted_by need (flat_map blocks_of parts))) c.loop-part.steps (omega arith)
    c.loop-part.invariant.steps
    (omega (arith, ap (λ l. length (admitted_by need (flat_map blocks_of l))) (take_all i parts all)))
