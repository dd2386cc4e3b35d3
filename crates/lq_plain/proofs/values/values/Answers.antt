use Rattle.std.proofs.Common.{◌≡◌, ◌+◌, ◌++◌, ◌∷◌, [], map, take, ap, sym, ◌∙◌}
use Rattle.std.proofs.lemmas.List.{flat_map_more, take_more}
use Rattle.log_model.specs.Field.{field_value}
use Rattle.lq_ast.specs.Statistics.{values}
use Rattle.lq_plain.proofs.values.values.Goals as goal

pub loop-name-preserved : goal.loop-name-preserved
loop-name-preserved c =
    let names = c.args.names.now in
    let records = c.args.records.now in
    let i = c.loop-name.name-index in
    let name = c.name-item.result in
    let more : take (i + 1) names ≡ take i names ++ name ∷ [] =
    take_more names i name c.loop-name-test.true ∙ ap (λ n. take i names ++ n ∷ []) (sym c.name-item.is) in
    c.in_ok-push_values.ensures
    ∙ ap (λ made. made ++ map (λ r. field_value r c.as_str.result.now) records) c.loop-name.invariant
    ∙ ap (λ text. values (take i names) records ++ map (λ r. field_value r text) records) c.as_str.ensures.value
    ∙ flat_map_more (λ text. map (λ r. field_value r text) records) [] (take i names) name
    ∙ ap (λ l. values l records) (sym more)
