use Rattle.std.proofs.Common.{ℕ, List, rules}
use Rattle.std.proofs.lemmas.Fn.{always_returns_same}
use Rattle.log_model.specs.Field.{bytes_cmp}
use Rattle.block_body.proofs.NamedLaws.{found-is}
use Rattle.block_body.proofs.names.place_of.Goals as goal

pub returns-clause-found : goal.returns-clause-found
returns-clause-found c =
    let order = λ (name : List ℕ). bytes_cmp name c.args.text.now in
    found-is c.args.known.now c.args.text.now c.binary_search_by.result (c.binary_search_by.ensures.position order
    (always_returns_same _ _ _ (λ a r f' called. search rules)))
