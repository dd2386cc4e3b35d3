use Rattle.std.proofs.Common.{◌≡◌, ◌∙◌, ◌&&◌, ap, map, not, rules, sym, tests}
use Rattle.std.proofs.lemmas.Iterator.{YieldsList-from_slice}
use Rattle.std.proofs.lemmas.Iterator.Search.{any_from_yields_List}
use Rattle.std.specs.List.{list_any}
use Rattle.lq_ast.specs.MakingView.{pattern_piece}
use Rattle.lq_ast.specs.PatternText.{has_touching_names, is_name}
use Rattle.lq_ast.proofs.PatternReading.{any_name}
use Rattle.lq_ast.proofs.pattern.can_extract.Goals as goal

pub returns-then-any : goal.returns-then-any
returns-then-any c =
    let pieces = map pattern_piece c.args.pieces.now in
    let any : c.any.result ≡ list_any is_name pieces =
    any_from_yields_List (λ piece. is_name (pattern_piece piece)) _ _ c.any.result c.any.ensures.ran
    (YieldsList-from_slice c.args.pieces.now (cc)) (λ x b q k. search (rules, tests)) ∙ any_name c.args.pieces.now in
    ap not c.has_touching_names.ensures ∙ ap (λ t. t && not (has_touching_names pieces)) (sym c.if-any.true ∙ any)

pub returns-else-any : goal.returns-else-any
returns-else-any c =
    let pieces = map pattern_piece c.args.pieces.now in
    let any : c.any.result ≡ list_any is_name pieces =
    any_from_yields_List (λ piece. is_name (pattern_piece piece)) _ _ c.any.result c.any.ensures.ran
    (YieldsList-from_slice c.args.pieces.now (cc)) (λ x b q k. search (rules, tests)) ∙ any_name c.args.pieces.now in
    c.if-any.false ∙ ap (λ t. t && not (has_touching_names pieces)) (sym c.if-any.false ∙ any)
