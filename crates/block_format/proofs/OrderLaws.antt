-- The order of rows, and putting rows in order.
use Rattle.std.proofs.Common.{◌≡◌, ℕ, ◌+◌, ◌-◌, ◌<◌, ◌≤◌, Bool, true, false, cond, eqb, ltb, List, [], ◌∷◌, ◌++◌}
use Rattle.std.proofs.Common.{length, get_or, take, drop, refl, sym, ap, ◌∙◌, arith}
use Rattle.std.specs.Prelude.{◌&&◌, ◌||◌}
use Rattle.std.specs.List.{list_all}
use Rattle.std.proofs.lemmas.Bool.Decides.{nat_tests}
use Rattle.std.proofs.lemmas.List.{append_assoc, drop_all, drop_more, length-drop, take_more}
use Rattle.byte_format.proofs.Cases.{both_true, second_false}
use Rattle.log_model.specs.History.{Numbered}
use Rattle.block_format.specs.Reading.{in_order, put_row}
use Rattle.block_format.specs.Rows.{are_ordered, comes_before}
use Rattle.block_format.proofs.TestLaws.{both_from}

-- ---- the order, on numbers

abbrev is_less : ℕ → ℕ → ℕ → ℕ → ℕ → ℕ → Bool
is_less s t x y p q = ltb s t || (eqb s t && (ltb x y || (eqb x y && ltb p q)))

along : (s t u x y z p q r : ℕ) → is_less s t x y p q ≡ true → is_less t u y z q r ≡ true → is_less s u x z p r ≡ true
along s t u x y z p q r g h = grind (arith, nat_tests)

before-along : (a b c : Numbered) → comes_before a b ≡ true → comes_before b c ≡ true → comes_before a c ≡ true
before-along a b c g h =
    along a.row.moment b.row.moment c.row.moment a.batch b.batch c.batch a.place b.place c.place g h

-- ---- rows that are in order

before-all : (a b : Numbered) (rows : List Numbered) → comes_before a b ≡ true
    → list_all (comes_before b) rows ≡ true → list_all (comes_before a) rows ≡ true
before-all a b [] h e = refl
before-all a b (c ∷ rows) h e =
    let p = both_true (comes_before b c) (list_all (comes_before b) rows) e in
    both_from (comes_before a c) (list_all (comes_before a) rows) (before-along a b c h p.0) (before-all a b rows h p.1)

-- two that are in order may stand before others in order
ordered-two : (a b : Numbered) (rows : List Numbered)
    → are_ordered (a ∷ b ∷ rows) ≡ (comes_before a b && are_ordered (b ∷ rows))
ordered-two a b rows = by (comes_before a b) refl (are_ordered (b ∷ rows)) refl
  where
    by : (t : Bool) → comes_before a b ≡ t → (o : Bool) → are_ordered (b ∷ rows) ≡ o
        → are_ordered (a ∷ b ∷ rows) ≡ (comes_before a b && are_ordered (b ∷ rows))
    by false e o f = rw e refl
    by true e false f = rw f (second_false (list_all (comes_before a) (b ∷ rows)) false refl
        ∙ sym (second_false (comes_before a b) false refl))
    by true e true f =
        let p = both_true (list_all (comes_before b) rows) (are_ordered rows) f in
        rw (e, f, before-all a b rows e p.0) refl

pub ordered-at : (rows : List Numbered) (i : ℕ) (a b : Numbered) → 1 ≤ i → i < length rows
    → a ≡ get_or rows (i - 1) a → b ≡ get_or rows i b
    → are_ordered (drop (i - 1) rows) ≡ (comes_before a b && are_ordered (drop i rows))
ordered-at rows i a b some lt p q =
    let next : i - 1 + 1 ≡ i = omega arith in
    let first : drop (i - 1) rows ≡ a ∷ drop i rows = drop_more rows (i - 1) a (omega arith)
    ∙ ap (λ (x : Numbered). x ∷ drop (i - 1 + 1) rows) (sym p) ∙ ap (λ (k : ℕ). a ∷ drop k rows) next in
    let second : drop i rows ≡ b ∷ drop (i + 1) rows = drop_more rows i b lt
    ∙ ap (λ (x : Numbered). x ∷ drop (i + 1) rows) (sym q) in
    ap are_ordered (first ∙ ap (λ (l : List Numbered). a ∷ l) second) ∙ ordered-two a b (drop (i + 1) rows)
    ∙ ap (λ (l : List Numbered). comes_before a b && are_ordered l) (sym second)

pub ordered-end : (rows : List Numbered) (i : ℕ) → length rows ≤ i → are_ordered (drop (i - 1) rows) ≡ true
ordered-end [] i le = ap are_ordered (drop_all (i - 1) [] (omega arith))
ordered-end (a ∷ rows) i le = by (drop (i - 1) (a ∷ rows)) (omega (arith, length-drop (i - 1) (a ∷ rows), le))
  where
    by : (l : List Numbered) → length l ≤ 1 → are_ordered l ≡ true
    by [] few = refl
    by (x ∷ []) few = refl
    by (x ∷ y ∷ l) few = absurd (omega (arith, few))

-- ---- putting rows in order

swapped : (a b c : Bool) → (a && (b && c)) ≡ (b && (a && c))
swapped true b c = refl
swapped false true c = refl
swapped false false c = refl

-- what holds of all rows holds of them in order
all-put : (p : Numbered → Bool) (rows : List Numbered) (row : Numbered)
    → list_all p (put_row rows row) ≡ (p row && list_all p rows)
all-put p [] row = refl
all-put p (first ∷ rows) row = by (comes_before row first) (all-put p rows row)
  where
    by : (b : Bool) → list_all p (put_row rows row) ≡ (p row && list_all p rows)
        → list_all p (cond b (row ∷ first ∷ rows) (first ∷ put_row rows row)) ≡ (p row && (p first && list_all p rows))
    by true h = refl
    by false h = ap (λ (t : Bool). p first && t) h ∙ swapped (p first) (p row) (list_all p rows)

pub all-in-order : (p : Numbered → Bool) (rows : List Numbered) → list_all p (in_order rows) ≡ list_all p rows
all-in-order p [] = refl
all-in-order p (row ∷ rows) =
    all-put p (in_order rows) row ∙ ap (λ (t : Bool). p row && t) (all-in-order p rows)

-- they are as many
length-put : (rows : List Numbered) (row : Numbered) → length (put_row rows row) ≡ length rows + 1
length-put [] row = refl
length-put (first ∷ rows) row = by (comes_before row first) (length-put rows row)
  where
    by : (b : Bool) → length (put_row rows row) ≡ length rows + 1
        → length (cond b (row ∷ first ∷ rows) (first ∷ put_row rows row)) ≡ length (first ∷ rows) + 1
    by true h = omega arith
    by false h = omega (arith, h)

pub length-in-order : (rows : List Numbered) → length (in_order rows) ≡ length rows
length-in-order [] = refl
length-in-order (row ∷ rows) = omega (arith, length-put (in_order rows) row, length-in-order rows)

-- rows in order are left as they are
put-first : (rows : List Numbered) (row : Numbered) → list_all (comes_before row) rows ≡ true
    → put_row rows row ≡ row ∷ rows
put-first [] row e = refl
put-first (first ∷ rows) row e =
    let p = both_true (comes_before row first) (list_all (comes_before row) rows) e in
    rw p.0 refl

pub in-order-again : (rows : List Numbered) → are_ordered rows ≡ true → in_order rows ≡ rows
in-order-again [] e = refl
in-order-again (row ∷ rows) e =
    let p = both_true (list_all (comes_before row) rows) (are_ordered rows) e in
    ap (λ (l : List Numbered). put_row l row) (in-order-again rows p.1) ∙ put-first rows row p.0

-- some rows, put to others in order, the last one first
abbrev pub put_rows : List Numbered → List Numbered → List Numbered
put_rows [] sorted = sorted
put_rows (row ∷ rows) sorted = put_row (put_rows rows sorted) row

pub put-next : (rows : List Numbered) (row : Numbered) (sorted : List Numbered)
    → put_rows (rows ++ row ∷ []) sorted ≡ put_rows rows (put_row sorted row)
put-next [] row sorted = refl
put-next (first ∷ rows) row sorted = ap (λ (l : List Numbered). put_row l first) (put-next rows row sorted)

pub put-all : (rows : List Numbered) → put_rows rows [] ≡ in_order rows
put-all [] = refl
put-all (row ∷ rows) = ap (λ (l : List Numbered). put_row l row) (put-all rows)

-- the place among rows in order
pub place-on : (sorted : List Numbered) (row other : Numbered) (i : ℕ) → i < length sorted
    → other ≡ get_or sorted i other → comes_before row other ≡ false
    → put_row sorted row ≡ take i sorted ++ put_row (drop i sorted) row
    → put_row sorted row ≡ take (i + 1) sorted ++ put_row (drop (i + 1) sorted) row
place-on sorted row other i lt e after so_far =
    let rest : drop i sorted ≡ other ∷ drop (i + 1) sorted = drop_more sorted i other lt
    ∙ ap (λ (x : Numbered). x ∷ drop (i + 1) sorted) (sym e) in
    let front : take (i + 1) sorted ≡ take i sorted ++ other ∷ [] = take_more sorted i other lt
    ∙ ap (λ (x : Numbered). take i sorted ++ x ∷ []) (sym e) in
    let later : put_row (other ∷ drop (i + 1) sorted) row ≡ other ∷ put_row (drop (i + 1) sorted) row = rw after refl in
    so_far ∙ ap (λ (l : List Numbered). take i sorted ++ put_row l row) rest
    ∙ ap (λ (l : List Numbered). take i sorted ++ l) later
    ∙ sym (append_assoc (take i sorted) (other ∷ []) (put_row (drop (i + 1) sorted) row))
    ∙ ap (λ (l : List Numbered). l ++ put_row (drop (i + 1) sorted) row) (sym front)

pub place-here : (sorted : List Numbered) (row other : Numbered) (i : ℕ) → i < length sorted
    → other ≡ get_or sorted i other → comes_before row other ≡ true
    → put_row sorted row ≡ take i sorted ++ put_row (drop i sorted) row
    → put_row sorted row ≡ take i sorted ++ row ∷ drop i sorted
place-here sorted row other i lt e before so_far =
    let rest : drop i sorted ≡ other ∷ drop (i + 1) sorted = drop_more sorted i other lt
    ∙ ap (λ (x : Numbered). x ∷ drop (i + 1) sorted) (sym e) in
    let here : put_row (other ∷ drop (i + 1) sorted) row ≡ row ∷ other ∷ drop (i + 1) sorted = rw before refl in
    so_far ∙ ap (λ (l : List Numbered). take i sorted ++ put_row l row) rest
    ∙ ap (λ (l : List Numbered). take i sorted ++ l) here
    ∙ ap (λ (l : List Numbered). take i sorted ++ row ∷ l) (sym rest)

pub place-last : (sorted : List Numbered) (row : Numbered) (i : ℕ) → length sorted ≤ i
    → put_row sorted row ≡ take i sorted ++ put_row (drop i sorted) row
    → put_row sorted row ≡ take i sorted ++ row ∷ drop i sorted
place-last sorted row i le so_far =
    let none : drop i sorted ≡ [] = drop_all i sorted le in
    so_far ∙ ap (λ (l : List Numbered). take i sorted ++ put_row l row) none
    ∙ ap (λ (l : List Numbered). take i sorted ++ row ∷ l) (sym none)
