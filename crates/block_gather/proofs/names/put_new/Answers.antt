use Rattle.std.proofs.Common.{◌∙◌, ℕ, List, ap, sym}
use Rattle.std.specs.BTreeSet.{insert_key}
use Rattle.std.specs.List.{fold}
use Rattle.log_model.specs.Field.{bytes_cmp}
use Rattle.block_model.specs.Columns.{names_of}
use Rattle.block_gather.proofs.NameLaws.{names-put}
use Rattle.block_gather.proofs.names.put_new.Goals as goal

pub returns : goal.returns
returns c =
    c.in_ok-put_names.ensures
    ∙ ap (λ (l : List (List ℕ)). fold (insert_key bytes_cmp) l (names_of c.index-picks-i.result.block)) c.requires.before
    ∙ sym (names-put c.args.picks.now c.args.i c.index-picks-i.result c.requires.within c.index-picks-i.is)
