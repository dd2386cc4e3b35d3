-- Records that a pipe makes one at a time, up to the first that it cannot make.
use Rattle.std.proofs.Common.{◌≡◌, ℕ, zero, suc, ◌+◌, ◌<◌, List, [], ◌∷◌, ◌++◌, Result, Ok, Err, refl, sym, ap, ◌∙◌}
use Rattle.std.proofs.Common.{◌≤◌, drop, get_or, length, map, subst, take}
use Rattle.std.proofs.lemmas.List.{append-nil, map-append, take-append-drop}
use Rattle.std.specs.List.{AllByRecursion}
use Rattle.std.specs.Result.{result_unwrap_or}
use Rattle.lq_ast.specs.Grouping.{all, ◌>>=◌}
use Rattle.lq_ast.specs.Made.{made}
use Rattle.lq_ast.specs.Making.{Making}
use Rattle.lq_ast.specs.Records.{Record}
use Rattle.lq_filter.proofs.Walks.{rest_is}
use Rattle.lq_pipes.proofs.Walked.{all_more, one_more, whole_taken}
use Rattle.lq_pipes.specs.Faults.{IsMadeFault, of_making}
use Rattle.row_pipes.specs.Faults.{IsMakeFault}
use Rattle.row_pipes.specs.declared.fault.MakeFault.{MakeFault}
use Rattle.row_pipes.specs.declared.fault.MakeFault.TheVariants as make

-- what is made of a record, if it can be made
abbrev pub made_of : Making → Record → Record
made_of m r = result_unwrap_or (made m r) r

abbrev pub IsMade : Making → Record → Type 0
IsMade m r = made m r ≡ Ok (made_of m r)

pub made_is : (m : Making) (r new : Record) → made m r ≡ Ok new → made_of m r ≡ new
made_is m r new e = ap (λ o. result_unwrap_or o r) e

pub is_made : (m : Making) (r new : Record) → made m r ≡ Ok new → IsMade m r
is_made m r new e = e ∙ ap Ok (sym (made_is m r new e))

-- those of the first ones, and then the others
prepended : (first : Record) (made : List Record) (rest : Result (List Record) (List ℕ))
    → ((rest >>= λ xs. Ok (made ++ xs)) >>= λ xs. Ok (first ∷ xs)) ≡ (rest >>= λ xs. Ok (first ∷ made ++ xs))
prepended first made (Ok xs) = refl
prepended first made (Err name) = refl

none_before : (rest : Result (List Record) (List ℕ)) → rest ≡ (rest >>= λ xs. Ok xs)
none_before (Ok xs) = refl
none_before (Err name) = refl

all_after : (m : Making) (rs : List Record) (rest : List (Result Record (List ℕ))) → AllByRecursion (IsMade m) rs
    → all (map (made m) rs ++ rest) ≡ (all rest >>= λ xs. Ok (map (made_of m) rs ++ xs))
all_after m [] rest each = none_before (all rest)
all_after m (r ∷ rs) rest each =
    ap (λ o. o >>= λ x. all (map (made m) rs ++ rest) >>= λ xs. Ok (x ∷ xs)) each.0
    ∙ ap (λ o. o >>= λ xs. Ok (made_of m r ∷ xs)) (all_after m rs rest each.1)
    ∙ prepended (made_of m r) (map (made_of m) rs) (all rest)

-- ---- the walk over records

module _ (m : Making) (rs : List Record) (i : ℕ) (each : AllByRecursion (IsMade m) (take i rs)) where
  pub each_more : (r new : Record) → i < length rs → r ≡ get_or rs i r → made m r ≡ Ok new
      → AllByRecursion (IsMade m) (take (i + 1) rs)
  each_more r new below is e =
      subst (AllByRecursion (IsMade m)) (sym (one_more rs i r below is))
      (all_more (IsMade m) (take i rs) (r ∷ []) each (is_made m r new e, tt))

  pub all_made : length rs ≤ i → all (map (made m) rs) ≡ Ok (map (made_of m) rs)
  all_made ends =
      let whole = whole_taken rs i ends in
      ap (λ xs. all (map (made m) xs)) (sym whole) ∙ ap all (sym (append-nil (map (made m) (take i rs))))
      ∙ all_after m (take i rs) [] each ∙ ap Ok (append-nil (map (made_of m) (take i rs)))
      ∙ ap (λ xs. Ok (map (made_of m) xs)) whole

  fails : (r : Record) (name : List ℕ) → i < length rs → r ≡ get_or rs i r → made m r ≡ Err name
      → all (map (made m) rs) ≡ Err name
  fails r name below is e =
      let others = map (made m) (drop (i + 1) rs) in
      ap (λ xs. all (map (made m) xs)) (sym (take-append-drop i rs))
      ∙ ap all (map-append (made m) (take i rs) (drop i rs))
      ∙ ap (λ xs. all (map (made m) (take i rs) ++ map (made m) xs)) (rest_is rs i r below is)
      ∙ all_after m (take i rs) (made m r ∷ others) each
      ∙ ap (λ o. (o >>= λ x. all others >>= λ xs. Ok (x ∷ xs)) >>= λ xs. Ok (map (made_of m) (take i rs) ++ xs)) e

  pub makes_fault : (r : Record) (fault : MakeFault) → i < length rs → r ≡ get_or rs i r → IsMakeFault m r fault
      → IsMadeFault (all (map (made m) rs)) (of_making fault)
  makes_fault r (make.Overflow name) below is e = fails r name below is e
  makes_fault r make.Memory below is e = tt

-- what stands where the next one is made
pub same_item : {X : Type 0} (f : X → X) (xs : List X) (i : ℕ) (x : X)
    → get_or (map f (take i xs) ++ drop i xs) i x ≡ get_or xs i x
same_item f [] zero x = refl
same_item f [] (suc i) x = refl
same_item f (y ∷ ys) zero x = refl
same_item f (y ∷ ys) (suc i) x = same_item f ys i x
