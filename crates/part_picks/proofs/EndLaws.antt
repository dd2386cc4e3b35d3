-- Where blocks of picked rows end.
use Rattle.std.proofs.Common.{◌≡◌, ◌⊎◌, ℕ, ◌+◌, ◌*◌, ◌<◌, ◌≤◌, Bool, true, false, List, [], ◌∷◌, ◌++◌, inl, inr}
use Rattle.std.proofs.Common.{length, take, drop, refl, sym, ap, subst, ◌∙◌, arith}
use Rattle.std.specs.Prelude.{◌&&◌, nat_le}
use Rattle.std.specs.List.{AllByRecursion}
use Rattle.std.proofs.lemmas.Bool.{and_from, and_parts, le-leb, leb-true, lt-leb}
use Rattle.std.proofs.lemmas.List.{append-nil, drop-append-le, drop_at, length-append, length-drop, length-take}
use Rattle.std.proofs.lemmas.List.{take-append-le}
use Rattle.std.proofs.lemmas.Nat.{mul-le}
use Rattle.log_model.specs.Field.{Field}
use Rattle.log_model.specs.History.{Numbered}
use Rattle.block_model.specs.Columns.{names_of}
use Rattle.block_format.specs.Reading.{same_fields}
use Rattle.block_format.specs.Rows.{labels_of}
use Rattle.part_model.specs.Ends.{EndsBlock}
use Rattle.part_model.specs.Filling.{IsFull, has_room, is_within}
use Rattle.part_model.proofs.FillLaws.{first-labels, same-are}
use Rattle.part_picks.specs.Ahead.{AreAhead}
use Rattle.part_picks.specs.Names.{AreNamed}
use Rattle.part_picks.specs.Range.{AreOfStream}
use Rattle.part_picks.proofs.NameLaws.{few-names}
use Rattle.part_picks.proofs.RangeLaws.{all-take}

-- The first of the rows is of another stream, if there is one.
abbrev pub IsOther : List Field → List Numbered → Type 0
IsOther labels [] = Unit {0}
IsOther labels (row ∷ rows) = labels ≡ row.row.labels → ⊥

second-false : (a b : Bool) → b ≡ false → (a && b) ≡ false
second-false true b e = e
second-false false b e = refl

first-false : (a b : Bool) → a ≡ false → (a && b) ≡ false
first-false true b e = absurd cc
first-false false b e = refl

-- a block of the most rows has no room
many-full : (block : List Numbered) (row : Numbered) → length block ≡ 4096 → has_room block row ≡ false
unfolding has_room
many-full block row n =
    let count : length (block ++ row ∷ []) ≡ 4097 = omega (arith, length-append block (row ∷ []), n) in
    second-false (same_fields row.row.labels (labels_of block)) (is_within (block ++ row ∷ [])) (first-false (nat_le (length
    (block ++ row ∷ [])) 4096) _ (lt-leb (length (block ++ row ∷ [])) 4096 (omega (arith, count))))

other-full : (block : List Numbered) (row : Numbered) → (labels_of block ≡ row.row.labels → ⊥) → has_room block row ≡ false
unfolding has_room
other-full block row other = by (same_fields row.row.labels (labels_of block)) refl
  where
    by : (t : Bool) → same_fields row.row.labels (labels_of block) ≡ t → has_room block row ≡ false
    by true e = absurd (other (sym (same-are row.row.labels (labels_of block) e)))
    by false e = first-false (same_fields row.row.labels (labels_of block)) (is_within (block ++ row ∷ [])) e

full-from : (block rest : List Numbered) → (length block ≡ 4096) ⊎ IsOther (labels_of block) rest → IsFull block rest
full-from block [] h = tt
full-from block (row ∷ rest) (inl n) = many-full block row n
full-from block (row ∷ rest) (inr other) = other-full block row other

within-few : (names : List (List ℕ)) (rows : List Numbered) → length rows ≤ 4096 → length names ≤ 256
    → AreNamed names rows → is_within rows ≡ true
within-few names rows few narrow h =
    let count : length (names_of rows) ≤ 256 = omega (arith, few-names names rows h, narrow) in
    and_from (nat_le (length rows) 4096) (nat_le (length (names_of rows)) 2000 && nat_le (length rows * length (names_of
    rows)) 1_048_576) (le-leb (length rows) 4096 few)
    (and_from (nat_le (length (names_of rows)) 2000) (nat_le (length rows * length (names_of rows)) 1_048_576)
    (le-leb (length (names_of rows)) 2000 (omega (arith, count)))
    (le-leb (length rows * length (names_of rows)) 1_048_576 (omega (
      arith,
      mul-le (length rows) (length (names_of rows)) 4096 256 few count,
    ))))

-- The first rows, which are of one stream and have few names, fill a block: there are as many as may be, or the next one
-- is of another stream.
pub ends-here : (all front rest : List Numbered) (n : ℕ) (names : List (List ℕ)) → front ++ rest ≡ all → 0 < n
    → n ≤ length front → n ≤ 4096 → AreOfStream (labels_of all) front → AreNamed names front → length names ≤ 256
    → (n ≡ 4096) ⊎ ((n ≡ length front) × IsOther (labels_of all) rest) → EndsBlock all n
ends-here all front rest n names parts some there few stream named narrow ends =
    let taken : take n all ≡ take n front = ap (take n) (sym parts) ∙ take-append-le n front rest there in
    let count : length (take n front) ≡ n = omega (arith, length-take n front, there) in
    record {
      some = some;
      there = omega (arith, length-append front rest, ap length parts, there);
      within = ap is_within taken ∙ within-few names (take n front) (omega (arith, count, few)) narrow (all-take (λ (r
          : Numbered). AllByRecursion _ r.row.fields) n front named);
      stream = subst (AreOfStream (labels_of all)) (sym taken) (all-take (λ (r : Numbered). r.row.labels ≡ labels_of all) n
          front stream);
      full = full-from (take n all) (drop n all) (closed ends (ap length taken ∙ count));
    }
  where
    closed : (n ≡ 4096) ⊎ ((n ≡ length front) × IsOther (labels_of all) rest) → length (take n all) ≡ n
        → (length (take n all) ≡ 4096) ⊎ IsOther (labels_of (take n all)) (drop n all)
    closed (inl e) count = inl (count ∙ e)
    closed (inr h) count =
        let after : drop n all ≡ rest = ap (drop n) (sym parts) ∙ drop_at front rest n (sym h.0) in
        inr (subst (λ (l : List Numbered). IsOther (labels_of (take n all)) l) (sym after) (subst (λ (l : List Field).
        IsOther l rest) (sym (first-labels all n some)) h.1))

-- ---- rows with many names

full-ahead : (block rest left : List Numbered) → (length rest ≡ 0 → left ≡ []) → IsFull block rest
    → IsFull block (rest ++ left)
full-ahead block [] left none h = subst (IsFull block) (sym (none refl)) tt
full-ahead block (row ∷ rest) left none h = h

-- What fills a block of the first rows fills one of all.
pub ends-ahead : (rows all : List Numbered) (n : ℕ) → AreAhead rows all → EndsBlock rows n → EndsBlock all n
ends-ahead rows all n ahead ends =
    let left : List Numbered = ahead.0 in
    let parts : rows ++ left ≡ all = ahead.1 in
    let taken : take n all ≡ take n rows = ap (take n) (sym parts) ∙ take-append-le n rows left ends.there in
    let after : drop n all ≡ drop n rows ++ left = ap (drop n) (sym parts) ∙ drop-append-le n rows left ends.there in
    let labels : labels_of rows ≡ labels_of all = sym (first-labels rows n ends.some) ∙ ap labels_of (sym taken)
    ∙ first-labels all n ends.some in
    let few : length (take n rows) ≤ 4096 = leb-true (length (take n rows)) 4096 (and_parts (nat_le (length (take n rows))
    4096) _ ends.within).0 in
    record {
      some = ends.some;
      there = omega (arith, length-append rows left, ap length parts, ends.there);
      within = ap is_within taken ∙ ends.within;
      stream = subst (AreOfStream (labels_of all)) (sym taken) (subst (λ (l : List Field). AreOfStream l (take n rows)) labels
          ends.stream);
      full = subst (IsFull (take n all)) (sym after) (subst (λ (l : List Numbered). IsFull l (drop n rows ++ left)) (sym
          taken) (full-ahead (take n rows) (drop n rows) left (λ e. none ahead.2 (omega (
            arith,
            e,
            length-drop n rows,
            ends.there,
            length-take n rows,
            few,
          ))) ends.full));
    }
  where
    none : (4096 < length rows) ⊎ (ahead.0 ≡ []) → length rows ≤ 4096 → ahead.0 ≡ []
    none (inl many) few = absurd (omega (arith, many, few))
    none (inr e) few = e

pub ahead-all : (rows all : List Numbered) → rows ≡ all → AreAhead rows all
ahead-all rows all e = ([], append-nil rows ∙ e, inr refl)

pub ahead-many : (rows left all : List Numbered) → rows ++ left ≡ all → 4096 < length rows → AreAhead rows all
ahead-many rows left all e many = (left, e, inl many)

pub ahead-some : (rows all : List Numbered) → AreAhead rows all → 0 < length all → 0 < length rows
ahead-some rows all ahead some = by ahead.2
  where
    by : (4096 < length rows) ⊎ (ahead.0 ≡ []) → 0 < length rows
    by (inl many) = omega (arith, many)
    by (inr e) = omega (arith, some, ap length ahead.1, length-append rows ahead.0, ap length e)
