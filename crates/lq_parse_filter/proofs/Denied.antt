-- A negated filter as a condition.
use Rattle.std.proofs.Common.{◌≡◌, List, Ok, sym, ap, ◌∙◌, rules, Box, Global}
use Rattle.grammar.specs.Rule.{Token}
use Rattle.grammar.specs.Reading.{Answer}
use Rattle.lq_ast.specs.Condition.{Condition}
use Rattle.lq_ast.specs.Condition as is
use Rattle.lq_ast.specs.View.{condition}
use Rattle.lq_ast.specs.declared.filter.Filter.{Filter, the_lemmas}
use Rattle.lq_ast.specs.declared.filter.Filter.TheVariants.{Not}
use Rattle.lq_grammar.specs.Values.{Bytes, Reason}

condition-Not : (b : Box Filter Global) → condition (Not b) ≡ is.negated (condition b.value)
condition-Not b = search (rules, the_lemmas)

abbrev found : Condition → List (Token Bytes) → Answer Bytes Reason Condition
found x w = Ok (x, w)

pub not_read : (b : Box Filter Global) (filter : Filter) (w : List (Token Bytes)) → b.value ≡ filter
    → found (is.negated (condition filter)) w ≡ found (condition (Not b)) w
not_read b filter w e =
    ap (λ (f : Filter). found (is.negated (condition f)) w) (sym e)
    ∙ ap (λ (x : Condition). found x w) (sym (condition-Not b))
