-- Pieces of batches.
use Rattle.std.proofs.Common.{◌≡◌, ◌≢◌, ℕ, ◌<◌, ◌≤◌, Bool, true, false, cond, eqb, List, [], ◌∷◌, ◌++◌, length, map}
use Rattle.std.proofs.Common.{refl, sym, ap, subst, ◌∙◌}
use Rattle.std.proofs.Common.{append-nil, arith, eq-eqb, eqb-true}
use Rattle.std.specs.Prelude.{◌||◌, flat_map, nat_lt}
use Rattle.std.specs.List.{AllByRecursion, filter}
use Rattle.std.specs.List.Sorted.{IsPermutation, IsStrictlySortedBy}
use Rattle.std.specs.Ordering.{nat_cmp}
use Rattle.std.specs.declared.cmp.Ordering.{Ordering}
use Rattle.std.specs.declared.cmp.Ordering.TheVariants.{Less}
use Rattle.std.proofs.lemmas.Bool.{lt-ltb, ne_eqb}
use Rattle.std.proofs.lemmas.Bool.Decides.{nat_tests}
use Rattle.std.proofs.lemmas.List.{map-append}
use Rattle.std.proofs.lemmas.List.Concat.{flat_map-append}
use Rattle.std.proofs.lemmas.List.Elements.{filter-append}
use Rattle.std.proofs.lemmas.List.Folds.{flat_map-map}
use Rattle.std.proofs.lemmas.List.Sorted.{IsPermutation-append, IsPermutation-map, IsPermutation-refl}
use Rattle.std.proofs.lemmas.List.Sorted.{IsPermutation-trans}
use Rattle.log_model.specs.History.{Numbered}
use Rattle.day_model.specs.Days.{AreOfTheirDays, DayRows, LieInDay, day_of, is_of_day, rows_of_day}
use Rattle.merge_plan.specs.Planned.{day_rows, has_rows, is_of, rows_of_parts}
use Rattle.merge_plan.specs.Grouping.{ArePieces, has_day, rows_in_parts, split_rows}
use Rattle.day_parts.specs.declared.splitting.DayPart.{DayPart}
use Rattle.merge_plan.proofs.Lists.{all-append, all-permutation, all-weaker, none-pass}

-- ---- one batch after another

pub no-pieces : ArePieces [] []
no-pieces = record { rows = IsPermutation-refl []; days = tt; by_day = λ day. refl }

day-rows-append : (day : ℕ) (xs ys : List (List Numbered)) → day_rows day (xs ++ ys) ≡ day_rows day xs
    ++ day_rows day ys
day-rows-append day xs ys =
    ap (filter has_rows) (map-append (rows_of_day day) xs ys)
    ∙ filter-append has_rows (map (rows_of_day day) xs) (map (rows_of_day day) ys)

pub more-pieces : (batches : List (List Numbered)) (batch : List Numbered) (pieces added : List DayRows)
    → ArePieces batches pieces → ArePieces (batch ∷ []) added → ArePieces (batches ++ batch ∷ []) (pieces ++ added)
more-pieces batches batch pieces added h g = record {
  rows =
      subst (λ (l : List Numbered). IsPermutation l (rows_in_parts (batches ++ batch ∷ [])))
      (sym (flat_map-append (λ (part : DayRows). part.1) pieces added))
      (subst (λ (l : List Numbered). IsPermutation (rows_of_parts pieces ++ rows_of_parts added) l)
      (sym (flat_map-append (λ (part : List Numbered). part) batches (batch ∷ [])))
      (IsPermutation-append (rows_of_parts pieces) (rows_in_parts batches) (rows_of_parts added) (rows_in_parts
      (batch ∷ []))
      h.rows g.rows));
  days = all-append (λ (rows : DayRows). LieInDay rows.0 rows.1) pieces added h.days g.days;
  by_day = λ day.
      ap (map (λ (piece : DayRows). piece.1)) (filter-append (is_of day) pieces added)
      ∙ map-append (λ (piece : DayRows). piece.1) (filter (is_of day) pieces) (filter (is_of day) added)
      ∙ ap (λ l. l ++ map (λ (piece : DayRows). piece.1) (filter (is_of day) added)) (h.by_day day)
      ∙ ap (λ l. day_rows day batches ++ l) (g.by_day day)
      ∙ sym (day-rows-append day batches (batch ∷ []));
}

-- ---- the pieces of one batch

-- pieces of rising days: each has the rows of its day, and at least one
record AreSplit (batch : List Numbered) (pieces : List DayRows) : Type 0 where
  rising : IsStrictlySortedBy nat_cmp (map (λ (piece : DayRows). piece.0) pieces)
  rows : AllByRecursion (λ (piece : DayRows). piece.1 ≡ rows_of_day piece.0 batch) pieces
  some : AllByRecursion (λ (piece : DayRows). 0 < length piece.1) pieces
  same : IsPermutation (rows_of_parts pieces) batch

below-differs : (a b : ℕ) → nat_cmp a b ≡ Less → a ≡ b → ⊥
below-differs a b less same = grind (arith, nat_tests)

of-day : (day : ℕ) (pieces : List DayRows) → List (List Numbered)
of-day day pieces = map (λ (piece : DayRows). piece.1) (filter (is_of day) pieces)

none-of-day : (day : ℕ) (pieces : List DayRows) → AllByRecursion (λ (piece : DayRows). is_of day piece ≡ false) pieces
    → of-day day pieces ≡ []
unfolding of-day
none-of-day day pieces none = ap (map (λ (piece : DayRows). piece.1)) (none-pass (is_of day) pieces none)

later-differ : (day : ℕ) (pieces : List DayRows)
    → AllByRecursion (λ (other : ℕ). nat_cmp day other ≡ Less) (map (λ (piece : DayRows). piece.0) pieces)
    → AllByRecursion (λ (piece : DayRows). is_of day piece ≡ false) pieces
later-differ day [] h = tt
later-differ day (piece ∷ pieces) h =
    (ne_eqb piece.0 day (λ same. below-differs day piece.0 h.0 (sym same)), later-differ day pieces h.1)

-- the rows of a batch's day are one piece
record IsOne (day : ℕ) (batch : List Numbered) (pieces : List DayRows) : Type 0 where
  is : of-day day pieces ≡ rows_of_day day batch ∷ []
  some : has_rows (rows_of_day day batch) ≡ true

one-first : (day : ℕ) (batch : List Numbered) (piece : DayRows) (pieces : List DayRows)
    → IsStrictlySortedBy nat_cmp (map (λ (p : DayRows). p.0) (piece ∷ pieces))
    → piece.1 ≡ rows_of_day piece.0 batch → 0 < length piece.1
    → (has_day day pieces ≡ true → IsOne day batch pieces)
    → (t : Bool) → eqb piece.0 day ≡ t → (t || has_day day pieces) ≡ true → IsOne day batch (piece ∷ pieces)
unfolding of-day IsStrictlySortedBy
one-first day batch piece pieces rising rows some rest true e has =
    let same : piece.0 ≡ day = eqb-true piece.0 day e in
    let is-rows : piece.1 ≡ rows_of_day day batch = rows ∙ ap (λ d. rows_of_day d batch) same in
    let others : filter (is_of day) pieces ≡ [] =
    none-pass (is_of day) pieces
    (subst (λ d. AllByRecursion (λ (p : DayRows). is_of d p ≡ false) pieces) same
    (later-differ piece.0 pieces rising.0)) in
    record {
      is =
          ap (λ (t : Bool). map (λ (p : DayRows). p.1) (cond t (piece ∷ filter (is_of day) pieces) (filter
          (is_of day) pieces))) e
          ∙ ap (λ (l : List DayRows). piece.1 ∷ map (λ (p : DayRows). p.1) l) others
          ∙ ap (λ (l : List Numbered). l ∷ []) is-rows;
      some = ap has_rows (sym is-rows) ∙ lt-ltb 0 (length piece.1) some;
    }
one-first day batch piece pieces rising rows some rest false e has =
    let one = rest has in
    record {
      is =
          ap (λ (t : Bool). map (λ (p : DayRows). p.1) (cond t (piece ∷ filter (is_of day) pieces) (filter
          (is_of day) pieces))) e
          ∙ one.is;
      some = one.some;
    }

one-day : (day : ℕ) (batch : List Numbered) (pieces : List DayRows)
    → IsStrictlySortedBy nat_cmp (map (λ (piece : DayRows). piece.0) pieces)
    → AllByRecursion (λ (piece : DayRows). piece.1 ≡ rows_of_day piece.0 batch) pieces
    → AllByRecursion (λ (piece : DayRows). 0 < length piece.1) pieces → has_day day pieces ≡ true
    → IsOne day batch pieces
unfolding IsStrictlySortedBy
one-day day batch [] rising rows some has = cc
one-day day batch (piece ∷ pieces) rising rows some has =
    one-first day batch piece pieces rising rows.0 some.0 (one-day day batch pieces rising.1 rows.1 some.1)
    (eqb piece.0 day) refl has

pub rows-lie : (day : ℕ) (batch : List Numbered) → LieInDay day (rows_of_day day batch)
rows-lie day [] = tt
rows-lie day (row ∷ batch) = by (eqb (day_of row) day) refl (rows-lie day batch)
  where
    by : (t : Bool) → eqb (day_of row) day ≡ t → LieInDay day (rows_of_day day batch)
        → LieInDay day (cond t (row ∷ rows_of_day day batch) (rows_of_day day batch))
    by true e rest = (eqb-true (day_of row) day e, rest)
    by false e rest = rest

no-day : (day : ℕ) (pieces : List DayRows) → has_day day pieces ≡ false
    → AllByRecursion (λ (piece : DayRows). is_of day piece ≡ false) pieces
no-day day [] h = tt
no-day day (piece ∷ pieces) h =
    let parts = or-parts (eqb piece.0 day) (has_day day pieces) h in (parts.0, no-day day pieces parts.1)
  where
    or-parts : (a b : Bool) → (a || b) ≡ false → (a ≡ false) × (b ≡ false)
    or-parts true b h = cc
    or-parts false b h = (refl, h)

-- no row of pieces of other days is of this day
other-rows : (day : ℕ) (pieces : List DayRows) → AreOfTheirDays pieces
    → AllByRecursion (λ (piece : DayRows). is_of day piece ≡ false) pieces
    → AllByRecursion (λ (row : Numbered). is_of_day day row ≡ false) (rows_of_parts pieces)
other-rows day [] days none = tt
other-rows day (piece ∷ pieces) days none =
    all-append (λ (row : Numbered). is_of_day day row ≡ false) piece.1 (rows_of_parts pieces)
    (all-weaker (λ (row : Numbered). day_of row ≡ piece.0) (λ (row : Numbered). is_of_day day row ≡ false)
    (λ row at. ap (λ (d : ℕ). eqb d day) at ∙ none.0) piece.1 days.0) (other-rows day pieces days.1 none.1)

lie-in-days : (batch : List Numbered) (pieces : List DayRows)
    → AllByRecursion (λ (piece : DayRows). piece.1 ≡ rows_of_day piece.0 batch) pieces → AreOfTheirDays pieces
lie-in-days batch [] rows = tt
lie-in-days batch (piece ∷ pieces) rows =
    (subst (LieInDay piece.0) (sym rows.0) (rows-lie piece.0 batch), lie-in-days batch pieces rows.1)

split-day : (batch : List Numbered) (pieces : List DayRows) (day : ℕ) → AreSplit batch pieces
    → of-day day pieces ≡ day_rows day (batch ∷ [])
split-day batch pieces day split = by (has_day day pieces) refl
  where
    by : (t : Bool) → has_day day pieces ≡ t → of-day day pieces ≡ day_rows day (batch ∷ [])
    by true e =
        let one = one-day day batch pieces split.rising split.rows split.some e in
        one.is ∙ ap (λ (t : Bool). cond t (rows_of_day day batch ∷ []) []) (sym one.some)
    by false e =
        let none = no-day day pieces e in
        let empty : rows_of_day day batch ≡ [] =
        none-pass (is_of_day day) batch
        (all-permutation (λ (row : Numbered). is_of_day day row ≡ false) (rows_of_parts pieces) batch split.same
        (other-rows day pieces (lie-in-days batch pieces split.rows) none)) in
        none-of-day day pieces none ∙ ap (λ (l : List Numbered). cond (has_rows l) (l ∷ []) []) (sym empty)

split-pieces : (batch : List Numbered) (pieces : List DayRows) → AreSplit batch pieces → ArePieces (batch ∷ []) pieces
unfolding of-day
split-pieces batch pieces split = record {
  rows = subst (λ (l : List Numbered). IsPermutation (rows_of_parts pieces) l) (sym (append-nil batch)) split.same;
  days = lie-in-days batch pieces split.rows;
  by_day = λ day. split-day batch pieces day split;
}

-- ---- what `split_days` gives

abbrev HasRows : DayPart → Type 0
HasRows split = 0 < length split.part

split-rows : (batch : List Numbered) (days : List DayPart)
    → AllByRecursion (λ (d : DayPart). d.part ≡ rows_of_day d.day batch) days
    → AllByRecursion (λ (piece : DayRows). piece.1 ≡ rows_of_day piece.0 batch) (map split_rows days)
split-rows batch [] h = tt
split-rows batch (d ∷ days) h = (h.0, split-rows batch days h.1)

split-some : (days : List DayPart) → AllByRecursion HasRows days
    → AllByRecursion (λ (piece : DayRows). 0 < length piece.1) (map split_rows days)
split-some [] h = tt
split-some (d ∷ days) h = (h.0, split-some days h.1)

pub split-are : (batch : List Numbered) (days : List DayPart)
    → IsStrictlySortedBy nat_cmp (map (λ (d : DayPart). d.day) days)
    → AllByRecursion (λ (d : DayPart). d.part ≡ rows_of_day d.day batch) days
    → IsPermutation (flat_map (λ (d : DayPart). d.part) days) batch
    → AllByRecursion (λ (d : DayPart). 0 < length d.part) days
    → ArePieces (batch ∷ []) (map split_rows days)
split-are batch days rising rows same some = split-pieces batch (map split_rows days) (record {
  rising = subst (IsStrictlySortedBy nat_cmp) (sym (map-map days)) rising;
  rows = split-rows batch days rows;
  some = split-some days some;
  same = subst (λ (l : List Numbered). IsPermutation l batch)
      (sym (flat_map-map (λ (piece : DayRows). piece.1) split_rows days)) same;
})
  where
    map-map : (ds : List DayPart) → map (λ (piece : DayRows). piece.0) (map split_rows ds) ≡ map (λ
        (d : DayPart). d.day) ds
    map-map [] = refl
    map-map (d ∷ ds) = ap (λ (l : List ℕ). d.day ∷ l) (map-map ds)

pub map-same : {X : Type 0} (xs : List X) → map (λ (x : X). x) xs ≡ xs
map-same [] = refl
map-same (x ∷ xs) = ap (λ l. x ∷ l) (map-same xs)
