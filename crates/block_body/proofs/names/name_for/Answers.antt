use Rattle.std.proofs.Common.{◌≡◌, ◌∙◌, IfOk, List, subst, sym, ℕ}
use Rattle.block_model.proofs.Distinct.{read-as}
use Rattle.block_body.proofs.names.name_for.Goals as goal

pub returns-in-Ok : goal.returns-in-Ok
returns-in-Ok c =
    let same : c.index-known-i.result ≡ c.args.text.now =
    sym (read-as c.args.known.now c.in-Ok.i c.index-known-i.result c.in-Ok.ensures.within c.index-known-i.is)
    ∙ c.in-Ok.ensures.found in
    subst (λ (text : List ℕ). IfOk c.share.result (λ name. name ≡ text)) same c.share.ensures
