use Rattle.std.proofs.Common.{◌≡◌, Bool, not, ap, subst, sym, ◌∙◌, rules}
use Rattle.std.proofs.lemmas.Fn.{filter_same}
use Rattle.std.proofs.lemmas.List.Elements.{All-filter}
use Rattle.std.specs.List.{All, filter}
use Rattle.lq_ast.specs.Tuples.{Tuple, distinct_by, is_wholly_empty, tuple_cmp}
use Rattle.lq_plain.specs.Named.{IsNamed}
use Rattle.lq_plain.proofs.Naming.{All-distinct_by}
use Rattle.lq_plain.proofs.tuples.tuples.Goals as goal

kept : Tuple → Bool
kept tuple = not (is_wholly_empty tuple)

filtered : (c : goal.After-retain) → c.retain.new.self.items ≡ filter kept (distinct_by tuple_cmp c.in_ok-all_tuples.field-0.items)
unfolding kept
filtered c =
    filter_same _ kept _ (λ x b f k. search rules) _ _ c.retain.ensures.filtered
    ∙ ap (filter kept) c.in_ok-tuples.ensures

pub returns-clause-tuples : goal.returns-clause-tuples
unfolding kept
returns-clause-tuples c =
    filtered c ∙ ap (λ all. filter kept (distinct_by tuple_cmp all)) c.in_ok-all_tuples.ensures.tuples

pub returns-clause-named : goal.returns-clause-named
returns-clause-named c =
    let named = IsNamed c.args.names.now in
    subst (All named) (sym (filtered c)) (All-filter kept named (distinct_by tuple_cmp c.in_ok-all_tuples.field-0.items)
    (All-distinct_by named c.in_ok-all_tuples.field-0.items c.in_ok-all_tuples.ensures.named))
