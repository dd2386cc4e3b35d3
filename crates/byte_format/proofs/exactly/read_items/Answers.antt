use Rattle.std.proofs.Common.{◌≡◌, ◌∙◌, ◌++◌, List, Some, ap, sym, ℕ}
use Rattle.byte_format.specs.Spelling.{HasSpelling}
use Rattle.byte_format.proofs.exactly.read_items.Goals as goal

pub compared-requires-clause-written : goal.compared-requires-clause-written
compared-requires-clause-written g c =
    let s : HasSpelling (g.S.Spelled.writing c.args.context (g.S.Spelled.meaning c.in-Some.output)) =
    rw c.in-Some.is at c.in_ok-output.ensures.spelled in
    let put = c.in_ok-put.ensures s.0 s.1 in
    let all : c.as_slice.result.now ≡ s.0 = c.as_slice.ensures.value ∙ put
    ∙ ap (λ (l : List ℕ). l ++ s.0) c.in_ok-spelling.ensures.items in
    s.1 ∙ ap (λ (l : List ℕ). Some l) (sym all)
