use Rattle.std.proofs.Common.{◌≡◌, ◌∙◌, List, ap, sym, ℕ}
use Rattle.block_format.proofs.LastLaws.{last-dropped, last-put, named, said-dropped, said-put}
use Rattle.block_format.proofs.columns_said.put_last.Goals as goal

pub returns-then-is_filled_with-clause-fields : goal.returns-then-is_filled_with-clause-fields
returns-then-is_filled_with-clause-fields c =
    let whole : (c.as_str-name.result.now, c.column.inside.values) ≡ c.args.column.now =
    ap (λ (n : List ℕ). (n, c.column.inside.values)) c.as_str-name.ensures.value ∙ c.column.view_is in
    λ i. last-dropped c.args.last.now.entries c.remove.new.self.entries c.as_str-name.result c.column.inside.values
    c.args.column.now i c.remove.ensures.entries c.requires.said.ordered c.remove.ensures.ordered whole
    (named c.as_str-name.result.now c.column.inside.values (sym c.is_empty.ensures ∙ c.if-is_empty.false))
    (c.is_filled_with.ensures c.if-is_filled_with.true)

pub returns-then-is_filled_with-clause-said : goal.returns-then-is_filled_with-clause-said
returns-then-is_filled_with-clause-said c =
    said-dropped c.args._rows c.args.last.now.entries c.remove.new.self.entries c.as_str-name.result
    c.remove.ensures.entries c.remove.ensures.ordered c.requires.said

pub returns-in_ok-insert-clause-fields : goal.returns-in_ok-insert-clause-fields
returns-in_ok-insert-clause-fields c =
    let whole : (c.as_str-name.result.now, c.column.inside.values) ≡ c.args.column.now =
    ap (λ (n : List ℕ). (n, c.column.inside.values)) c.as_str-name.ensures.value ∙ c.column.view_is in
    λ i. last-put c.args.last.now.entries c.insert.new.self.entries c.as_str-name.result _
    c.args.column.now i c.in_ok-insert.ensures.entries c.requires.said.ordered c.insert.ensures.ordered whole
    (named c.as_str-name.result.now c.column.inside.values (sym c.is_empty.ensures ∙ c.if-is_empty.false))

pub returns-in_ok-insert-clause-said : goal.returns-in_ok-insert-clause-said
returns-in_ok-insert-clause-said c =
    let whole : (c.as_str-name.result.now, c.column.inside.values) ≡ c.args.column.now =
    ap (λ (n : List ℕ). (n, c.column.inside.values)) c.as_str-name.ensures.value ∙ c.column.view_is in
    said-put c.args._rows c.args.last.now.entries c.insert.new.self.entries c.as_str-name.result _
    c.args.column.now c.in_ok-insert.ensures.entries c.insert.ensures.ordered c.requires.said whole c.requires.rows
    (named c.as_str-name.result.now c.column.inside.values (sym c.is_empty.ensures ∙ c.if-is_empty.false))
