use Rattle.std.proofs.Common.{◌≡◌, ◌∙◌, ◌∷◌, [], ◌+◌, ◌++◌, ◌≤◌, true, false, ap, length, refl, rules, subst, sym, take, arith}
use Rattle.std.proofs.lemmas.List.{append-nil, take_all}
use Rattle.std.specs.List.{AllByRecursion}
use Rattle.block_body.specs.Outlines.{outline_of}
use Rattle.lq_prune.specs.Need.{admits}
use Rattle.lq_prune.specs.Pruning.{IsTextBlock}
use Rattle.lq_prune.specs.Tree.{needed}
use Rattle.part_model.specs.Filling.{blocks_of}
use Rattle.part_model.proofs.FillLaws.{filled-blocks}
use Rattle.query_run.specs.Opened.{Counts, admitted_by}
use Rattle.query_run.proofs.Opening.{admitted_within, all_more, count_left, count_opened, counts_more, counts_none, counts_some}
use Rattle.query_run.proofs.Opening.{leaves, opens}
use Rattle.query_run.proofs.opened.open_part.Goals as goal
use Rattle.query_run.proofs.opened.open_part.Goals.{then-branch+in_ok-push, else-branch}

pub loop-block-init : goal.loop-block-init
loop-block-init g c = record {
  opened = sym (append-nil c.args.opened.now.items);
  texts = tt;
  steps = counts_none c.args.steps.now (omega arith);
  need = refl;
}

pub loop-block-preserved : goal.loop-block-preserved
loop-block-preserved g c =
    let need = needed c.args.need.now in
    let blocks = c.blocks-blocks.result.now in
    let i = c.loop-block.block-index in
    let block = c.block-item.result in
    let before = c.args.opened.now.items in
    let old = c.args.steps.now in
    let asked : c.in_ok-is_admitted.field-0 ≡ admits need (outline_of block) =
    c.in_ok-is_admitted.ensures.admitted ∙ ap (λ n. admits n (outline_of block)) c.loop-block.invariant.need in
    let text : IsTextBlock block = record { block = c.rules.ensures.block; texts = c.rules.ensures.texts } in
    let texts = all_more need blocks i block c.loop-block-test.true c.block-item.is IsTextBlock
    c.loop-block.invariant.texts text in
    let kept = c.is_admitted.ensures.need ∙ c.loop-block.invariant.need in
    elim c.if-branch.branch [
      | then-branch+in_ok-push w ↦
          let so : admits need (outline_of block) ≡ true = sym asked ∙ w.if-branch.true in
          record {
            opened = opens need blocks i block c.loop-block-test.true c.block-item.is before c.loop-block.opened.items
                c.if-branch.opened.items so c.loop-block.invariant.opened
                (ap (λ v. v.items) w.opened-is ∙ w.in_ok-push.ensures.items
                ∙ ap (λ b. c.loop-block.opened.items ++ b ∷ []) w.open.ensures.rows);
            texts = texts;
            steps = subst (λ n. Counts old n c.if-branch.steps)
                (sym (count_opened need blocks i block c.loop-block-test.true c.block-item.is so))
                (counts_more old (length (admitted_by need (take i blocks))) c.loop-block.steps c.if-branch.steps
                c.loop-block.invariant.steps (w.steps-is ∙ w.open.ensures.steps));
            need = kept;
          }
      | else-branch w ↦
          let so : admits need (outline_of block) ≡ false = sym asked ∙ w.if-branch.false in
          record {
            opened = ap (λ v. v.items) w.opened-is
                ∙ leaves need blocks i block c.loop-block-test.true c.block-item.is before c.loop-block.opened.items so
                c.loop-block.invariant.opened;
            texts = texts;
            steps = subst (Counts old (length (admitted_by need (take (i + 1) blocks)))) (sym w.steps-is)
                (subst (λ n. Counts old n c.loop-block.steps)
                (sym (count_left need blocks i block c.loop-block-test.true c.block-item.is so))
                c.loop-block.invariant.steps);
            need = kept;
          }
    ]

pub returns-clause-opened : goal.returns-clause-opened
returns-clause-opened g c =
    let blocks = c.blocks-blocks.result.now in
    let need = needed c.args.need.now in
    let all : length blocks ≤ c.loop-block.block-index = search rules in
    c.loop-block.invariant.opened
    ∙ ap (λ l. c.args.opened.now.items ++ admitted_by need l)
    (take_all c.loop-block.block-index blocks all ∙ filled-blocks blocks c.args.part.now c.blocks-blocks.ensures.filled)

pub returns-clause-texts : goal.returns-clause-texts
returns-clause-texts g c =
    let blocks = c.blocks-blocks.result.now in
    let all : length blocks ≤ c.loop-block.block-index = search rules in
    subst (AllByRecursion IsTextBlock)
    (take_all c.loop-block.block-index blocks all ∙ filled-blocks blocks c.args.part.now c.blocks-blocks.ensures.filled)
    c.loop-block.invariant.texts

pub returns-clause-steps : goal.returns-clause-steps
returns-clause-steps g c =
    let blocks = c.blocks-blocks.result.now in
    let need = needed c.args.need.now in
    let all : length blocks ≤ c.loop-block.block-index = search rules in
    subst (λ l. Counts c.args.steps.now (length (admitted_by need l)) c.loop-block.steps)
    (take_all c.loop-block.block-index blocks all ∙ filled-blocks blocks c.args.part.now c.blocks-blocks.ensures.filled)
    c.loop-block.invariant.steps

pub returns-clause-few_steps : goal.returns-clause-few_steps
returns-clause-few_steps g c =
    let need = needed c.args.need.now in
    let blocks = c.blocks-blocks.result.now in
    let part = c.args.part.now in
    let same = filled-blocks blocks part c.blocks-blocks.ensures.filled in
    counts_some c.args.steps.now (length (admitted_by need (take c.loop-block.block-index blocks)))
    (length (admitted_by need (blocks_of part))) c.loop-block.steps (omega arith) c.loop-block.invariant.steps
    (omega (arith, admitted_within need c.loop-block.block-index blocks, ap (λ l. length (admitted_by need l)) same))

pub returns-in_err-push-clause-few_steps : goal.returns-in_err-push-clause-few_steps
returns-in_err-push-clause-few_steps g c =
    let need = needed c.args.need.now in
    let blocks = c.blocks-blocks.result.now in
    let part = c.args.part.now in
    let i = c.loop-block.block-index in
    let block = c.block-item.result in
    let same = filled-blocks blocks part c.blocks-blocks.ensures.filled in
    let so : admits need (outline_of block) ≡ true =
    sym (c.in_ok-is_admitted.ensures.admitted ∙ ap (λ n. admits n (outline_of block)) c.loop-block.invariant.need)
    ∙ c.if-branch.true in
    counts_some c.args.steps.now (length (admitted_by need (take i blocks)) + 1)
    (length (admitted_by need (blocks_of part))) c.open.new.steps (omega arith)
    (counts_more c.args.steps.now (length (admitted_by need (take i blocks))) c.loop-block.steps c.open.new.steps
    c.loop-block.invariant.steps c.open.ensures.steps)
    (omega (
      arith,
      count_opened need blocks i block c.loop-block-test.true c.block-item.is so,
      admitted_within need (i + 1) blocks,
      ap (λ l. length (admitted_by need l)) same,
    ))

pub returns-in_err-is_admitted-clause-few_steps : goal.returns-in_err-is_admitted-clause-few_steps
returns-in_err-is_admitted-clause-few_steps g c =
    let need = needed c.args.need.now in
    let blocks = c.blocks-blocks.result.now in
    let part = c.args.part.now in
    let same = filled-blocks blocks part c.blocks-blocks.ensures.filled in
    counts_some c.args.steps.now (length (admitted_by need (take c.loop-block.block-index blocks)))
    (length (admitted_by need (blocks_of part))) c.loop-block.steps (omega arith) c.loop-block.invariant.steps
    (omega (arith, admitted_within need c.loop-block.block-index blocks, ap (λ l. length (admitted_by need l)) same))
