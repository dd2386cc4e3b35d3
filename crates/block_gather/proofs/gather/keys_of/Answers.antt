use Rattle.std.proofs.Common.{◌≡◌, ◌++◌, ◌∙◌, List, ap, subst, sym, take, true}
use Rattle.std.specs.List.{AllByRecursion, list_all}
use Rattle.block_model.specs.Keys.{IsNumbered, key_of, keys_of}
use Rattle.block_model.specs.declared.keys.Key.{Key}
use Rattle.block_model.specs.Texts.{is_text_row}
use Rattle.log_model.specs.History.{Numbered}
use Rattle.block_gather.specs.Picked.{rows_of, rows_picked}
use Rattle.block_gather.proofs.SliceLaws.{all-append, pass-append, picked-map-more, picked-more}
use Rattle.block_gather.proofs.gather.keys_of.Goals as goal

pub loop-pick-preserved : goal.loop-pick-preserved
loop-pick-preserved c =
    let before : List Numbered = rows_picked (take c.loop-pick.pick-index c.args.picks.now) in
    let more : List Numbered = rows_of c.pick-item.result in
    let next = picked-more c.args.picks.now c.loop-pick.pick-index c.pick-item.result c.loop-pick-test.true
    c.pick-item.is in
    record {
      keys = c.in_ok-put_keys.ensures.keys
          ∙ ap (λ (l : List Key). l ++ keys_of more) c.loop-pick.invariant.keys
          ∙ sym (picked-map-more key_of c.args.picks.now c.loop-pick.pick-index c.pick-item.result c.loop-pick-test.true
          c.pick-item.is);
      rules = subst (AllByRecursion IsNumbered) (sym next) (all-append IsNumbered before more c.loop-pick.invariant.rules
          c.put_keys.ensures.rules);
      texts = ap (list_all is_text_row) next
          ∙ pass-append is_text_row before more c.loop-pick.invariant.texts c.put_keys.ensures.texts;
    }
