-- Rows of a block that stand next to each other.
use Rattle.std.proofs.Common.{◌≡◌, ℕ, zero, suc, ◌+◌, ◌-◌, ◌<◌, ◌≤◌, Bool, true, List, [], ◌∷◌, ◌++◌, Some}
use Rattle.std.proofs.Common.{length, take, drop, refl, sym, ap, subst, ◌∙◌, arith}
use Rattle.std.specs.Prelude.{◌&&◌, map, option_map, slice_get, slice_range}
use Rattle.std.specs.List.{AllByRecursion, list_all}
use Rattle.std.proofs.lemmas.Bool.{and_from, and_parts}
use Rattle.std.proofs.lemmas.List.{append_assoc, drop-drop, drop-take, length-drop, length-take, take-take, take_all, take_more}
use Rattle.std.proofs.lemmas.Option.{get_or_from_slice_get, slice_get-map, slice_get_within}
use Rattle.log_model.specs.Field.{Field}
use Rattle.log_model.specs.History.{Numbered}
use Rattle.block_format.specs.Rows.{IsBlock, are_ordered, comes_before, labels_of}
use Rattle.part_picks.specs.Range.{AreOfStream, IsRange}

pub count-is : (rows : List Numbered) (from to : ℕ) → IsRange rows from to → length (slice_range rows from to) ≡ to - from
count-is rows from to h =
    omega (arith, length-take (to - from) (drop from rows), length-drop from rows, h.some, h.there)

pub whole-is : (rows : List Numbered) (count : ℕ) → count ≡ length rows → slice_range rows 0 count ≡ rows
whole-is rows count e =
    let all : count - 0 ≡ count = omega arith in
    ap (λ (n : ℕ). take n rows) all ∙ take_all count rows (omega (arith, e))

pub whole-range : (rows : List Numbered) (count : ℕ) → count ≡ length rows → IsBlock rows → IsRange rows 0 count
whole-range rows count e h = record { block = h; some = omega (arith, e, h.some); there = omega (arith, e) }

-- ---- shorter ranges

pub front-is : (rows : List Numbered) (from to count : ℕ) → IsRange rows from to
    → count ≤ length (slice_range rows from to)
    → slice_range rows from (from + count) ≡ take count (slice_range rows from to)
front-is rows from to count h le =
    let few : from + count - from ≡ count = omega arith in
    ap (λ (n : ℕ). take n (drop from rows)) few
    ∙ sym (take-take count (to - from) (drop from rows) (omega (arith, count-is rows from to h, le)))

pub front-range : (rows : List Numbered) (from to count : ℕ) → IsRange rows from to → 0 < count
    → count ≤ length (slice_range rows from to) → IsRange rows from (from + count)
front-range rows from to count h some le = record {
  block = h.block;
  some = omega (arith, some);
  there = omega (arith, count-is rows from to h, le, h.there, h.some);
}

pub rest-is : (rows : List Numbered) (from to count : ℕ) → IsRange rows from to
    → count < length (slice_range rows from to)
    → slice_range rows (from + count) to ≡ drop count (slice_range rows from to)
rest-is rows from to count h lt =
    let parts : to - from ≡ count + (to - (from + count)) = omega (arith, count-is rows from to h, lt, h.some) in
    sym (ap (λ (n : ℕ). drop count (take n (drop from rows))) parts
    ∙ drop-take count (to - (from + count)) (drop from rows)
    ∙ ap (take (to - (from + count))) (drop-drop count from rows))

pub rest-range : (rows : List Numbered) (from to count : ℕ) → IsRange rows from to
    → count < length (slice_range rows from to) → IsRange rows (from + count) to
rest-range rows from to count h lt = record {
  block = h.block;
  some = omega (arith, count-is rows from to h, lt);
  there = h.there;
}

-- ---- one row

get-drop : {X : Type 0} (n : ℕ) (xs : List X) (i : ℕ) → slice_get (drop n xs) i ≡ slice_get xs (n + i)
get-drop zero xs i =
    let same : i ≡ 0 + i = omega arith in
    ap (slice_get xs) same
get-drop (suc n) [] i = refl
get-drop (suc n) (x ∷ xs) i =
    let same : suc (n + i) ≡ suc n + i = omega arith in
    get-drop n xs i ∙ ap (slice_get (x ∷ xs)) same

get-take : {X : Type 0} (n : ℕ) (xs : List X) (i : ℕ) → i < n → slice_get (take n xs) i ≡ slice_get xs i
get-take zero xs i lt = absurd (omega (arith, lt))
get-take (suc n) [] i lt = refl
get-take (suc n) (x ∷ xs) zero lt = refl
get-take (suc n) (x ∷ xs) (suc i) lt = get-take n xs i (omega (arith, lt))

get-map : {X Y : Type 0} (f : X → Y) (xs ys : List X) (i j : ℕ) → slice_get xs i ≡ slice_get ys j
    → slice_get (map f xs) i ≡ slice_get (map f ys) j
get-map f xs ys i j e = slice_get-map f xs i ∙ ap (option_map f) e ∙ sym (slice_get-map f ys j)

pub row-at : (rows : List Numbered) (from to i : ℕ) → IsRange rows from to → i < length (slice_range rows from to)
    → slice_get (slice_range rows from to) i ≡ slice_get rows (from + i)
row-at rows from to i h lt =
    get-take (to - from) (drop from rows) i (omega (arith, count-is rows from to h, lt)) ∙ get-drop from rows i

pub key-at : {Y : Type 0} (f : Numbered → Y) (rows : List Numbered) (from to i : ℕ) → IsRange rows from to
    → i < length (slice_range rows from to)
    → slice_get (map f (slice_range rows from to)) i ≡ slice_get (map f rows) (from + i)
key-at f rows from to i h lt =
    get-map f (slice_range rows from to) rows i (from + i) (row-at rows from to i h lt)

pub place-within : (rows : List Numbered) (from to i : ℕ) → IsRange rows from to → i < length (slice_range rows from to)
    → from + i < length rows
place-within rows from to i h lt = omega (arith, count-is rows from to h, lt, h.there, h.some)

-- ---- what the rows keep

pub all-take : {X : Type 0} (P : X → Type 0) (n : ℕ) (xs : List X) → AllByRecursion P xs → AllByRecursion P (take n xs)
all-take P zero xs h = tt
all-take P (suc n) [] h = tt
all-take P (suc n) (x ∷ xs) h = (h.0, all-take P n xs h.1)

pub all-drop : {X : Type 0} (P : X → Type 0) (n : ℕ) (xs : List X) → AllByRecursion P xs → AllByRecursion P (drop n xs)
all-drop P zero xs h = h
all-drop P (suc n) [] h = tt
all-drop P (suc n) (x ∷ xs) h = all-drop P n xs h.1

tests-take : {X : Type 0} (p : X → Bool) (n : ℕ) (xs : List X) → list_all p xs ≡ true → list_all p (take n xs) ≡ true
tests-take p zero xs e = refl
tests-take p (suc n) [] e = refl
tests-take p (suc n) (x ∷ xs) e =
    let h = and_parts (p x) (list_all p xs) e in and_from (p x) (list_all p (take n xs)) h.0 (tests-take p n xs h.1)

ordered-take : (n : ℕ) (rows : List Numbered) → are_ordered rows ≡ true → are_ordered (take n rows) ≡ true
ordered-take zero rows e = refl
ordered-take (suc n) [] e = refl
ordered-take (suc n) (a ∷ rows) e =
    let h = and_parts (list_all (comes_before a) rows) (are_ordered rows) e in
    and_from (list_all (comes_before a) (take n rows)) (are_ordered (take n rows)) (tests-take (comes_before a) n rows h.0)
    (ordered-take n rows h.1)

ordered-drop : (n : ℕ) (rows : List Numbered) → are_ordered rows ≡ true → are_ordered (drop n rows) ≡ true
ordered-drop zero rows e = e
ordered-drop (suc n) [] e = refl
ordered-drop (suc n) (a ∷ rows) e =
    ordered-drop n rows (and_parts (list_all (comes_before a) rows) (are_ordered rows) e).1

pub range-ordered : (rows : List Numbered) (from to : ℕ) → IsRange rows from to
    → are_ordered (slice_range rows from to) ≡ true
range-ordered rows from to h = ordered-take (to - from) (drop from rows) (ordered-drop from rows h.block.ordered)

first-labels : (labels : List Field) (rows : List Numbered) → 0 < length rows → AreOfStream labels rows
    → labels_of rows ≡ labels
first-labels labels [] some h = absurd (omega (arith, some))
first-labels labels (a ∷ rows) some h = h.0

of-stream : (rows : List Numbered) (from to : ℕ) → IsRange rows from to
    → AreOfStream (labels_of rows) (slice_range rows from to)
of-stream rows from to h =
    all-take (λ (n : Numbered). n.row.labels ≡ labels_of rows) (to - from) (drop from rows) (all-drop (λ (n : Numbered).
    n.row.labels ≡ labels_of rows) from rows h.block.stream)

pub range-labels : (rows : List Numbered) (from to : ℕ) → IsRange rows from to
    → labels_of (slice_range rows from to) ≡ labels_of rows
range-labels rows from to h =
    first-labels (labels_of rows) (slice_range rows from to) (omega (arith, count-is rows from to h, h.some)) (of-stream
    rows from to h)

pub range-stream : (rows : List Numbered) (from to : ℕ) → IsRange rows from to
    → AreOfStream (labels_of (slice_range rows from to)) (slice_range rows from to)
range-stream rows from to h =
    subst (λ (l : List Field). AreOfStream l (slice_range rows from to)) (sym (range-labels rows from to h)) (of-stream rows
    from to h)

pub range-few : (rows : List Numbered) (from to : ℕ) → IsRange rows from to → length (slice_range rows from to) ≤ 4096
range-few rows from to h = omega (arith, count-is rows from to h, h.there, h.block.few)

-- one row more
taken-more : (xs : List Numbered) (i : ℕ) (x : Numbered) → slice_get xs i ≡ Some x → take (i + 1) xs ≡ take i xs ++ x ∷ []
taken-more xs i x e =
    let lt : i < length xs = slice_get_within xs i x e in
    take_more xs i x lt ∙ ap (λ (y : Numbered). take i xs ++ y ∷ []) (get_or_from_slice_get xs i x x e)

pub push-row : (old rows new : List Numbered) (i : ℕ) (row : Numbered) → new ≡ old ++ take i rows
    → slice_get rows i ≡ Some row → new ++ row ∷ [] ≡ old ++ take (i + 1) rows
push-row old rows new i row e is =
    ap (λ (l : List Numbered). l ++ row ∷ []) e ∙ append_assoc old (take i rows) (row ∷ [])
    ∙ ap (λ (l : List Numbered). old ++ l) (sym (taken-more rows i row is))

pub range-all : (P : Numbered → Type 0) (rows : List Numbered) (from to : ℕ) → AllByRecursion P rows
    → AllByRecursion P (slice_range rows from to)
range-all P rows from to h = all-take P (to - from) (drop from rows) (all-drop P from rows h)

pub all-join : {X : Type 0} (P : X → Type 0) (xs ys : List X) → AllByRecursion P xs → AllByRecursion P ys
    → AllByRecursion P (xs ++ ys)
all-join P [] ys h k = k
all-join P (x ∷ xs) ys h k = (h.0, all-join P xs ys h.1 k)
