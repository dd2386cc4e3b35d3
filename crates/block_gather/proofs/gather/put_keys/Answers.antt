use Rattle.std.proofs.Common.{◌++◌, ◌∙◌, ◌∷◌, List, [], ap, append_assoc, arith, sym}
use Rattle.std.specs.List.{slice_range}
use Rattle.log_model.specs.History.{Numbered}
use Rattle.block_model.specs.Keys.{IsNumbered, key_of, keys_of}
use Rattle.block_model.specs.declared.keys.Key.{Key}
use Rattle.block_model.specs.Texts.{is_text_row}
use Rattle.block_gather.proofs.SliceLaws.{all-slice, pass-slice, slice-more}
use Rattle.block_gather.proofs.gather.put_keys.Goals as goal

pub loop-i-preserved : goal.loop-i-preserved
loop-i-preserved c =
    let block : List Numbered = c.args.pick.now.block in
    let before : List Key = keys_of (slice_range block c.args.pick.now.from c.loop-i.i) in
    let out : List Key = c.args.out.now.items in
    record {
      keys = c.in_ok-push.ensures.items
          ∙ ap (λ (l : List Key). l ++ c.key.result ∷ []) c.loop-i.invariant.keys
          ∙ append_assoc out before (c.key.result ∷ [])
          ∙ ap (λ (l : List Key). out ++ l) (sym (slice-more key_of block c.args.pick.now.from c.loop-i.i c.key.result
          c.loop-i.invariant.start c.key.ensures));
      start = omega (arith, c.loop-i.invariant.start);
    }

pub returns-clause-rules : goal.returns-clause-rules
returns-clause-rules c =
    all-slice IsNumbered c.args.pick.now.block c.args.pick.now.from c.args.pick.now.to c.rules.ensures.each

pub returns-clause-texts : goal.returns-clause-texts
returns-clause-texts c =
    pass-slice is_text_row c.args.pick.now.block c.args.pick.now.from c.args.pick.now.to c.rules.ensures.texts

pub returns-in_err-push-clause-texts : goal.returns-in_err-push-clause-texts
returns-in_err-push-clause-texts c =
    pass-slice is_text_row c.args.pick.now.block c.args.pick.now.from c.args.pick.now.to c.rules.ensures.texts
