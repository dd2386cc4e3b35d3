use Rattle.std.proofs.Common.{◌++◌, ◌∙◌, ◌<◌, ℕ, List, [], ap, arith, get_or, length, sym, take}
use Rattle.std.specs.List.{flat_map}
use Rattle.std.proofs.lemmas.List.{flat_map_more}
use Rattle.block_format.specs.Columns.{column_bytes}
use Rattle.block_model.specs.Columns.{Column}
use Rattle.block_body.specs.Held.{columns_in}
use Rattle.block_body.specs.Outline.{NamedFilter}
use Rattle.block_body.proofs.HeldLaws.{column-more, filter-at}
use Rattle.block_body.proofs.write.put_columns.Goals as goal

pub put-requires-clause-name : goal.put-requires-clause-name
put-requires-clause-name c =
    let within : c.loop-i.i < length c.args.columns.now = omega (arith, c.loop-i-test.true, c.len-i-end.ensures) in
    rw (ap (λ (head : NamedFilter). head.0) c.index-heads-i.is) (filter-at c.args.heads.now c.args.columns.now
    c.loop-i.i c.index-heads-i.result [] c.requires.count within c.requires.filters).0

pub put-requires-clause-filter : goal.put-requires-clause-filter
put-requires-clause-filter c =
    let within : c.loop-i.i < length c.args.columns.now = omega (arith, c.loop-i-test.true, c.len-i-end.ensures) in
    ap (λ (head : NamedFilter). head.1) c.index-heads-i.is
    ∙ (filter-at c.args.heads.now c.args.columns.now c.loop-i.i c.index-heads-i.result [] c.requires.count
    within c.requires.filters).1

pub loop-i-preserved : goal.loop-i-preserved
loop-i-preserved c =
    let within : c.loop-i.i < length c.args.columns.now = omega (arith, c.loop-i-test.true, c.len-i-end.ensures) in
    let heads : List NamedFilter = c.args.heads.now in
    let columns : List (List (List ℕ)) = c.args.columns.now in
    let out : List ℕ = c.args.out.now.items in
    let before : List Column = columns_in (take c.loop-i.i heads) (take c.loop-i.i columns) in
    let name : List ℕ = (get_or c.args.heads.now c.loop-i.i c.index-heads-i.result).0 in
    let values : List (List ℕ) = get_or c.args.columns.now c.loop-i.i [] in
    c.in_ok-put.ensures
    ∙ ap (λ (l : List ℕ). l ++ column_bytes (c.index-heads-i.result.0, values)) c.loop-i.invariant
    ∙ ap (λ (k : List ℕ). (out ++ flat_map column_bytes before) ++ column_bytes (k, values))
    (ap (λ (head : NamedFilter). head.0) c.index-heads-i.is)
    ∙ flat_map_more column_bytes out before (name, values)
    ∙ ap (λ (l : List Column). out ++ flat_map column_bytes l) (sym (column-more c.args.heads.now c.args.columns.now
    c.loop-i.i c.index-heads-i.result [] c.requires.count within))
