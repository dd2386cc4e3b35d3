use Rattle.std.proofs.Common.{◌∙◌, ◌++◌, ◌∷◌, [], List, ℕ, ap, append_assoc}
use Rattle.byte_format.proofs.Cases.{both_true, some_from}
use Rattle.std.specs.Prelude.{◌==◌, ◌%◌}
use Rattle.parts_list.specs.Format.{body_of}
use Rattle.parts_list.specs.Listing.{is_list, is_list_of}
use Rattle.parts_list.specs.ReadAgain.{few_entries}
use Rattle.parts_list.proofs.format.ListSpelled.put.Goals as goal

pub returns : goal.returns
returns c = λ bytes written.
    let list = c.args.list.now in
    let slot = c.args._slot in
    let p = some_from (is_list_of slot list) (1 ∷ body_of list) bytes written in
    let good = both_true (list.generation % 2 == slot) (is_list list) p.0 in
    c.in_ok-put_body.ensures (few_entries list good.1)
    ∙ ap (λ (x : List ℕ). x ++ body_of list) c.in_ok-push.ensures.items
    ∙ append_assoc c.args.out.now.items (1 ∷ []) (body_of list)
    ∙ ap (λ (x : List ℕ). c.args.out.now.items ++ x) p.1
