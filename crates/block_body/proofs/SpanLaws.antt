-- Of rows in order the first has the least time, and the last has the greatest.
use Rattle.std.proofs.Common.{◌≡◌, ℕ, pos, suc, ◌<◌, ◌≤◌, ◌≤ℤ◌, true, eqb, ltb, List, [], ◌∷◌, length, map}
use Rattle.std.proofs.Common.{refl, arith}
use Rattle.std.specs.Prelude.{◌&&◌, ◌||◌}
use Rattle.std.specs.List.{AllByRecursion, Contains, list_all}
use Rattle.std.proofs.lemmas.Bool.Decides.{nat_tests}
use Rattle.std.proofs.lemmas.Int.{ints}
use Rattle.std.proofs.lemmas.List.Elements.{All-from_recursion}
use Rattle.byte_format.proofs.Cases.{both_true}
use Rattle.log_model.specs.History.{Numbered}
use Rattle.block_body.specs.Outlines.{IsSpan, first_moment, last_moment, outline_of, time_of}
use Rattle.block_format.specs.Rows.{IsBlock, are_ordered, comes_before}

no-later : (s t x y p q : ℕ) → (ltb s t || (eqb s t && (ltb x y || (eqb x y && ltb p q)))) ≡ true → s ≤ t
no-later s t x y p q h = grind (arith, nat_tests)

not-after : (a b : Numbered) → comes_before a b ≡ true → a.row.moment ≤ b.row.moment
not-after a b e = no-later a.row.moment b.row.moment a.batch b.batch a.place b.place e

as-times : (m n : ℕ) → m ≤ n → pos m ≤ℤ pos n
as-times m n le = omega (arith, ints)

pub first-least : (a : Numbered) (rows : List Numbered) → list_all (comes_before a) rows ≡ true
    → AllByRecursion (λ (n : Numbered). pos a.row.moment ≤ℤ time_of n) rows
first-least a [] e = tt
first-least a (n ∷ ns) e =
    let p = both_true (comes_before a n) (list_all (comes_before a) ns) e in
    (as-times a.row.moment n.row.moment (not-after a n p.0), first-least a ns p.1)

least : (rows : List Numbered) → are_ordered rows ≡ true
    → AllByRecursion (λ (n : Numbered). pos (first_moment rows) ≤ℤ time_of n) rows
least [] e = tt
least (n ∷ ns) e =
    let p = both_true (list_all (comes_before n) ns) (are_ordered ns) e in
    (as-times n.row.moment n.row.moment (omega arith), first-least n ns p.0)

-- no row is later than the last one
next-last : (n m : Numbered) (ns : List Numbered) → are_ordered (n ∷ m ∷ ns) ≡ true
    → m.row.moment ≤ last_moment (m ∷ ns) → n.row.moment ≤ last_moment (n ∷ m ∷ ns)
next-last n m ns e le =
    let p = both_true (list_all (comes_before n) (m ∷ ns)) (are_ordered (m ∷ ns)) e in
    let q = both_true (comes_before n m) (list_all (comes_before n) ns) p.0 in
    omega (arith, not-after n m q.0, le)

head-last : (n : Numbered) (ns : List Numbered) → are_ordered (n ∷ ns) ≡ true → n.row.moment ≤ last_moment (n ∷ ns)
head-last n [] e = omega arith
head-last n (m ∷ ns) e =
    let p = both_true (list_all (comes_before n) (m ∷ ns)) (are_ordered (m ∷ ns)) e in
    next-last n m ns e (head-last m ns p.1)

greatest : (rows : List Numbered) → are_ordered rows ≡ true
    → AllByRecursion (λ (n : Numbered). time_of n ≤ℤ pos (last_moment rows)) rows
greatest [] e = tt
greatest (n ∷ []) e = (as-times n.row.moment n.row.moment (omega arith), tt)
greatest (n ∷ m ∷ ns) e =
    let p = both_true (list_all (comes_before n) (m ∷ ns)) (are_ordered (m ∷ ns)) e in (
      as-times n.row.moment (last_moment (n ∷ m ∷ ns)) (head-last n (m ∷ ns) e),
      greatest (m ∷ ns) p.1,
    )

first-there : (rows : List Numbered) → 0 < length rows → Contains (map time_of rows) (pos (first_moment rows))
first-there [] some = absurd (omega (arith, some))
first-there (n ∷ ns) some = (0, omega arith, refl)

last-there : (rows : List Numbered) → 0 < length rows → Contains (map time_of rows) (pos (last_moment rows))
last-there [] some = absurd (omega (arith, some))
last-there (n ∷ []) some = (0, omega arith, refl)
last-there (n ∷ m ∷ ns) some =
    let later = last-there (m ∷ ns) (omega arith) in
    (suc later.0, omega (arith, later.1), later.2)

-- the times of a block
pub span : (rows : List Numbered) → IsBlock rows → IsSpan rows (outline_of rows)
span rows h = record {
  least = All-from_recursion (λ (n : Numbered). pos (first_moment rows) ≤ℤ time_of n) rows (least rows h.ordered);
  greatest = All-from_recursion (λ (n : Numbered). time_of n ≤ℤ pos (last_moment rows)) rows (greatest rows h.ordered);
  first = first-there rows h.some;
  last = last-there rows h.some;
}
