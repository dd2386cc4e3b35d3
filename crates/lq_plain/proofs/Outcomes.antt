-- Records made one at a time.
use Rattle.std.proofs.Common.{◌≡◌, ℕ, ◌≤◌, List, [], ◌∷◌, ◌++◌, length, Result, Ok, Err, append_assoc, refl, sym, ap, ◌∙◌, arith}
use Rattle.std.specs.List.{filter}
use Rattle.lq_ast.specs.Grouping.{◌>>=◌}
use Rattle.lq_ast.specs.Records.{Record}
use Rattle.lq_ast.specs.Statistics.{counted, has_some}
use Rattle.lq_plain.specs.Outcome.{prepend}

pub prepended_none : {A E : Type 0} (made : Result (List A) E) → prepend [] made ≡ made
prepended_none (Ok made) = refl
prepended_none (Err name) = refl

behind : {A E : Type 0} (before : List A) (x : A) (made : Result (List A) E)
    → prepend before (made >>= λ xs. Ok (x ∷ xs)) ≡ prepend (before ++ x ∷ []) made
behind before x (Ok made) = ap (λ l. Ok l) (sym (append_assoc before (x ∷ []) made))
behind before x (Err name) = refl

-- one more record
pub one_more : {A E : Type 0} (before : List A) (first : Result A E) (x : A) (made : Result (List A) E) → first ≡ Ok x
    → prepend before (first >>= λ y. made >>= λ ys. Ok (y ∷ ys)) ≡ prepend (before ++ x ∷ []) made
one_more before first x made is =
    ap (λ o. prepend before (o >>= λ y. made >>= λ ys. Ok (y ∷ ys))) is ∙ behind before x made

-- records with a value in one of some fields
pub counted_some : (names : List (List ℕ)) (records : List Record) → 1 ≤ length names
    → length (filter (has_some names) records) ≡ counted names records
counted_some [] records some = absurd (omega arith)
counted_some (name ∷ names) records some = refl
