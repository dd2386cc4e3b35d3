use Rattle.std.proofs.Common.{◌≡◌, ◌++◌, ◌∙◌, ◌<◌, ◌^◌, ◌∷◌, ℕ, List, [], ap, arith, get_or, length, map, subst, sym}
use Rattle.std.specs.Prelude.{OnOk, sum_by}
use Rattle.block_format.specs.Columns.{column_bytes}
use Rattle.block_body.proofs.ColumnLaws.{alone-at, short-at}
use Rattle.block_body.proofs.held_columns.HeldColumns.put.Goals as goal

pub put_value-requires-clause-short : goal.put_value-requires-clause-short
put_value-requires-clause-short c =
    let short : sum_by length c.in-Row.values < 2 ^ 32 = (rw c.in-Row.is at c.self.invariant) in
    omega (arith, short, short-at c.in-Row.values c.args.c c.get.result.now c.get.ensures.value)

pub returns-in-Row : goal.returns-in-Row
returns-in-Row c =
    let held : map (λ (value : List ℕ). value ∷ []) c.in-Row.values ≡ c.args.self.now =
    (rw c.in-Row.is at c.self.view_is) in
    let column : c.get.result.now ∷ [] ≡ get_or c.args.self.now c.args.c [] =
    sym (alone-at c.in-Row.values c.args.c c.get.result.now c.get.ensures.value)
    ∙ ap (λ (l : List (List (List ℕ))). get_or l c.args.c []) held in
    subst (λ (v : List (List ℕ)). OnOk c.put_value.result (c.put_value.new.out.items
    ≡ c.args.out.now.items ++ column_bytes (c.args.head.now.0, v))) column c.put_value.ensures
