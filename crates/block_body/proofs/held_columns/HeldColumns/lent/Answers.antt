use Rattle.std.proofs.Common.{◌≡◌, ◌∙◌, ◌∷◌, ℕ, List, [], ap, get_or, map, sym}
use Rattle.block_body.proofs.ColumnLaws.{alone-at}
use Rattle.block_body.proofs.held_columns.HeldColumns.lent.Goals as goal

pub returns-in-Row-clause-values : goal.returns-in-Row-clause-values
returns-in-Row-clause-values c =
    let held : map (λ (value : List ℕ). value ∷ []) c.in-Row.values ≡ c.args.self.now =
    (rw c.in-Row.is at c.self.view_is) in
    sym (alone-at c.in-Row.values c.args.c c.get.result.now c.get.ensures.value)
    ∙ ap (λ (l : List (List (List ℕ))). get_or l c.args.c []) held
