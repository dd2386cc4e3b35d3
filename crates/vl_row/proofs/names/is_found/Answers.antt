use Rattle.std.proofs.Common.{ℕ, List, ◌∙◌, rules}
use Rattle.std.proofs.lemmas.Fn.{always_returns_same}
use Rattle.log_model.specs.Field.{bytes_cmp}
use Rattle.vl_row.proofs.Listed.{found_among}
use Rattle.vl_row.proofs.names.is_found.Goals as goal

pub returns : goal.returns
returns c =
    let name : List ℕ = c.args.name.now in
    let order = λ (listed : List ℕ). bytes_cmp listed name in
    c.is_ok.ensures.value
    ∙ found_among c.args.names.now name c.binary_search_by.result c.requires c.binary_search_by.ensures.bound
    (c.binary_search_by.ensures.position order (always_returns_same _ _ _ (λ a r f' called. search rules)))
