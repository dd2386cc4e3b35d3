-- Days that rise, one after another.
use Rattle.std.proofs.Common.{◌≡◌, ℕ, zero, suc, ◌+◌, ◌<◌, ◌≤◌, Bool, true, false, eqb, List, [], ◌∷◌, ◌++◌}
use Rattle.std.proofs.Common.{get_or, length, take, drop, map, refl, sym, ap, subst, ◌∙◌, arith}
use Rattle.std.specs.Prelude.{flat_map}
use Rattle.std.specs.List.{AllByRecursion, filter}
use Rattle.std.specs.List.Sorted.{IsNonDecreasingBy, IsStrictlySortedBy}
use Rattle.std.specs.Ordering.{nat_cmp}
use Rattle.std.specs.declared.cmp.Ordering.TheVariants.{Less}
use Rattle.std.proofs.lemmas.Bool.{eq-eqb, eqb-true}
use Rattle.std.proofs.lemmas.Bool.Decides.{nat_tests}
use Rattle.std.proofs.lemmas.List.{append-nil, append_assoc, drop-drop, get_or-drop, length-append, length-drop}
use Rattle.std.proofs.lemmas.List.{map-append, take-append-drop, take_more}
use Rattle.std.proofs.lemmas.List.Concat.{flat_map-append}
use Rattle.std.proofs.lemmas.List.Elements.{filter-append}
use Rattle.log_model.specs.History.{Numbered}
use Rattle.day_model.specs.Days.{AreOfTheirDays, DayRows, LieInDay, rows_of_day}
use Rattle.part_model.specs.Filling.{rows_in_blocks}
use Rattle.day_parts.specs.Runs.{EndsDay, IsOther, all_rows, is_day, next_day}
use Rattle.day_parts.specs.declared.splitting.DayPart.{DayPart}

abbrev pub IsBelow : ℕ → List DayRows → Type 0
IsBelow day picks = AllByRecursion (λ (r : DayRows). day < r.0) picks

abbrev pub rows_split : List DayPart → List Numbered
rows_split days = flat_map (λ (day : DayPart). day.part) days

-- The first of the days are split off, this many.
pub record AreSplit (picks : List DayRows) (start : ℕ) (days : List DayPart) : Type 0 where
  pub there : start ≤ length picks
  pub all : rows_split days ≡ all_rows (take start picks)
  pub rising : IsStrictlySortedBy nat_cmp (map (λ (day : DayPart). day.day) days)
  pub each : AllByRecursion (λ (day : DayPart). day.part ≡ all_rows (filter (is_day day.day) picks)) days
  pub below : AllByRecursion (λ (day : DayPart). IsBelow day.day (drop start picks)) days
  pub before : AllByRecursion (λ (r : DayRows). IsBelow r.0 (drop start picks)) (take start picks)

pub split-start : (picks : List DayRows) → AreSplit picks 0 []
unfolding IsStrictlySortedBy
split-start picks = record { there = omega arith; all = refl; rising = tt; each = tt; below = tt; before = tt }

-- ---- lists

all-map : {X : Type 0} (P Q : X → Type 0) → ((x : X) → P x → Q x) → (xs : List X) → AllByRecursion P xs
    → AllByRecursion Q xs
all-map P Q f [] h = tt
all-map P Q f (x ∷ xs) h = (f x h.0, all-map P Q f xs h.1)

all-drop : {X : Type 0} (P : X → Type 0) (n : ℕ) (xs : List X) → AllByRecursion P xs → AllByRecursion P (drop n xs)
all-drop P zero xs h = h
all-drop P (suc n) [] h = tt
all-drop P (suc n) (x ∷ xs) h = all-drop P n xs h.1

all-join : {X : Type 0} (P : X → Type 0) (xs ys : List X) → AllByRecursion P xs → AllByRecursion P ys
    → AllByRecursion P (xs ++ ys)
all-join P [] ys h k = k
all-join P (x ∷ xs) ys h k = (h.0, all-join P xs ys h.1 k)

all-from : {X : Type 0} (P : X → Type 0) (xs : List X) → ((i : ℕ) (d : X) → i < length xs → P (get_or xs i d))
    → AllByRecursion P xs
all-from P [] h = tt
all-from P (x ∷ xs) h =
    (h 0 x (omega arith), all-from P xs (λ i d lt. h (suc i) d (omega (arith, lt))))

abbrev no_picks : List DayRows
no_picks = []

none-taken : (n : ℕ) → take n no_picks ≡ no_picks
none-taken zero = refl
none-taken (suc n) = refl

take-sum : (m n : ℕ) (xs : List DayRows) → take (m + n) xs ≡ take m xs ++ take n (drop m xs)
take-sum zero n xs =
    let same : 0 + n ≡ n = omega arith in
    ap (λ (k : ℕ). take k xs) same
take-sum (suc m) n [] =
    let same : suc m + n ≡ suc (m + n) = omega arith in
    ap (λ (k : ℕ). take k no_picks) same ∙ sym (none-taken n)
take-sum (suc m) n (r ∷ picks) =
    let same : suc m + n ≡ suc (m + n) = omega arith in
    ap (λ (k : ℕ). take k (r ∷ picks)) same ∙ ap (λ (l : List DayRows). r ∷ l) (take-sum m n picks)

rising-drop : (n : ℕ) (picks : List DayRows) → IsNonDecreasingBy (λ (r : DayRows). r.0) picks
    → IsNonDecreasingBy (λ (r : DayRows). r.0) (drop n picks)
rising-drop n picks h i j d le lt =
    rw (get_or-drop n picks i d, get_or-drop n picks j d) (h (n + i) (n + j) d (omega (arith, le)) (omega (
      arith,
      lt,
      length-drop n picks,
    )))

-- ---- one day

-- the days after a run are later
later-days : (rest : List DayRows) (count : ℕ) → IsNonDecreasingBy (λ (r : DayRows). r.0) rest → EndsDay rest count
    → IsBelow (next_day rest) (drop count rest)
later-days [] count h ends = absurd (omega (arith, ends.some, ends.there))
later-days (r ∷ picks) count h ends =
    after (drop count (r ∷ picks)) refl ends.other
  where
    after : (tail : List DayRows) → drop count (r ∷ picks) ≡ tail → IsOther r.0 tail → IsBelow r.0 tail
    after [] e other = tt
    after (q ∷ tail) e other =
        all-from (λ (p : DayRows). r.0 < p.0) (q ∷ tail) (λ i d lt.
        let there : count + i < length (r ∷ picks) = omega (arith, lt, ap length e, length-drop count (r ∷ picks)) in
        let first : get_or (r ∷ picks) (count + 0) d ≡ q = sym (get_or-drop count (r ∷ picks) 0 d)
        ∙ ap (λ (l : List DayRows). get_or l 0 d) e in
        let this : get_or (r ∷ picks) (count + i) d ≡ get_or (q ∷ tail) i d = sym (get_or-drop count (r ∷ picks) i d)
        ∙ ap (λ (l : List DayRows). get_or l i d) e in
        let up = h 0 (count + 0) d (omega arith) (omega (arith, there)) in
        let on = h (count + 0) (count + i) d (omega arith) there in
        above r.0 q.0 (get_or (q ∷ tail) i d).0 other
        (omega (arith, up, ap (λ (p : DayRows). p.0) first))
        (omega (arith, on, ap (λ (p : DayRows). p.0) first, ap (λ (p : DayRows). p.0) this)))
      where
        above : (a b c : ℕ) → (b ≡ a → ⊥) → a ≤ b → b ≤ c → a < c
        above a b c other le up = by (eqb b a) refl
          where
            by : (t : Bool) → eqb b a ≡ t → a < c
            by true e = absurd (other (eqb-true b a e))
            by false e = grind (arith, nat_tests)

all-day : (day : ℕ) (picks : List DayRows) → AllByRecursion (λ (r : DayRows). r.0 ≡ day) picks
    → filter (is_day day) picks ≡ picks
all-day day [] h = refl
all-day day (r ∷ picks) h = rw (eq-eqb r.0 day h.0) (ap (λ (l : List DayRows). r ∷ l) (all-day day picks h.1))

apart-up : (x y : ℕ) → x < y → eqb x y ≡ false
apart-up x y lt = grind (arith, nat_tests)

apart-down : (x y : ℕ) → y < x → eqb x y ≡ false
apart-down x y lt = grind (arith, nat_tests)

none-below : (day : ℕ) (picks : List DayRows) → IsBelow day picks → filter (is_day day) picks ≡ []
none-below day [] h = refl
none-below day (r ∷ picks) h = rw (apart-down r.0 day h.0) (none-below day picks h.1)

none-above : (day : ℕ) (picks : List DayRows) → AllByRecursion (λ (r : DayRows). r.0 < day) picks
    → filter (is_day day) picks ≡ []
none-above day [] h = refl
none-above day (r ∷ picks) h = rw (apart-up r.0 day h.0) (none-above day picks h.1)

first-below : (day : ℕ) (rest : List DayRows) → 0 < length rest → IsBelow day rest → day < next_day rest
first-below day [] some h = absurd (omega (arith, some))
first-below day (r ∷ rest) some h = h.0

-- the run is all of its day
run-is : (picks : List DayRows) (start count : ℕ) (days : List DayPart) → AreSplit picks start days
    → IsNonDecreasingBy (λ (r : DayRows). r.0) picks → EndsDay (drop start picks) count
    → filter (is_day (next_day (drop start picks))) picks ≡ take count (drop start picks)
run-is picks start count days h up ends =
    let rest : List DayRows = drop start picks in
    let day : ℕ = next_day (drop start picks) in
    let some : 0 < length (drop start picks) = omega (arith, ends.some, ends.there) in
    let before : filter (is_day day) (take start picks) ≡ [] = none-above day (take start picks) (all-map (λ (r : DayRows).
    IsBelow r.0 (drop start picks)) (λ (r : DayRows). r.0 < day) (λ r b. first-below r.0 (drop start picks) some b) (take
    start picks) h.before) in
    let same : filter (is_day day) (take count rest) ≡ take count rest = all-day day (take count rest) ends.same in
    let after : filter (is_day day) (drop count rest) ≡ [] = none-below day (drop count rest) (later-days rest count
    (rising-drop start picks up) ends) in
    ap (filter (is_day day)) (sym (take-append-drop start picks))
    ∙ filter-append (is_day day) (take start picks) rest
    ∙ ap (λ (l : List DayRows). l ++ filter (is_day day) rest) before
    ∙ ap (filter (is_day day)) (sym (take-append-drop count rest))
    ∙ filter-append (is_day day) (take count rest) (drop count rest)
    ∙ ap (λ (l : List DayRows). l ++ filter (is_day day) (drop count rest)) same
    ∙ ap (λ (l : List DayRows). take count rest ++ l) after ∙ append-nil (take count rest)

less-than : (a b : ℕ) → a < b → nat_cmp a b ≡ Less
less-than a b lt = grind (arith, nat_tests)

rising-push : (keys : List ℕ) (key : ℕ) → IsStrictlySortedBy nat_cmp keys
    → AllByRecursion (λ (k : ℕ). nat_cmp k key ≡ Less) keys → IsStrictlySortedBy nat_cmp (keys ++ key ∷ [])
unfolding IsStrictlySortedBy
rising-push [] key h below = (tt, tt)
rising-push (k ∷ keys) key h below = (
  all-join (λ (y : ℕ). nat_cmp k y ≡ Less) keys (key ∷ []) h.0 (below.0, tt),
  rising-push keys key h.1 below.1,
)

below-days : (key : ℕ) (days : List DayPart) → AllByRecursion (λ (day : DayPart). day.day < key) days
    → AllByRecursion (λ (k : ℕ). nat_cmp k key ≡ Less) (map (λ (day : DayPart). day.day) days)
below-days key [] h = tt
below-days key (d ∷ days) h = (less-than d.day key h.0, below-days key days h.1)

-- one day more
pub split-more : (picks : List DayRows) (start count : ℕ) (days new : List DayPart) (one : DayPart)
    → AreSplit picks start days → IsNonDecreasingBy (λ (r : DayRows). r.0) picks → EndsDay (drop start picks) count
    → one.day ≡ next_day (drop start picks) → one.part ≡ all_rows (take count (drop start picks))
    → new ≡ days ++ one ∷ [] → AreSplit picks (start + count) new
split-more picks start count days new one h up ends is_day_one is_part is_new =
    let rest : List DayRows = drop start picks in
    let day : ℕ = next_day (drop start picks) in
    let some : 0 < length (drop start picks) = omega (arith, ends.some, ends.there) in
    let tail : drop count rest ≡ drop (start + count) picks = drop-drop count start picks in
    let taken : take (start + count) picks ≡ take start picks ++ take count rest = take-sum start count picks in
    let later : IsBelow day (drop (start + count) picks) = subst (IsBelow day) tail (later-days rest count (rising-drop start
    picks up) ends) in
    let still : (d : ℕ) → IsBelow d rest → IsBelow d (drop (start + count) picks) = λ d b.
    subst (IsBelow d) tail (all-drop (λ (r : DayRows). d < r.0) count rest b) in
    let run : filter (is_day one.day) picks ≡ take count rest = ap (λ (d : ℕ). filter (is_day d) picks) is_day_one
    ∙ run-is picks start count days h up ends in
    subst (AreSplit picks (start + count)) (sym is_new) (record {
      there = omega (arith, ends.there, length-drop start picks, h.there);
      all = flat_map-append (λ (d : DayPart). d.part) days (one ∷ []) ∙ ap (λ (l : List Numbered). l ++ (one.part ++ []))
          h.all ∙ ap (λ (l : List Numbered). all_rows (take start picks) ++ l) (append-nil one.part ∙ is_part)
          ∙ sym (flat_map-append (λ (r : DayRows). r.1) (take start picks) (take count rest)) ∙ ap all_rows (sym taken);
      rising = subst (IsStrictlySortedBy nat_cmp) (sym (map-append (λ (d : DayPart). d.day) days (one ∷ []))) (rising-push
          (map (λ (d : DayPart). d.day) days) one.day h.rising (below-days one.day days (all-map (λ (d : DayPart). IsBelow
          d.day rest) (λ (d : DayPart). d.day < one.day) (λ d b. subst (λ (k : ℕ). d.day < k) (sym is_day_one) (first-below
          d.day rest some b)) days h.below)));
      each = all-join (λ (d : DayPart). d.part ≡ all_rows (filter (is_day d.day) picks)) days (one ∷ []) h.each (
        is_part ∙ ap all_rows (sym run),
        tt,
      );
      below = all-join (λ (d : DayPart). IsBelow d.day (drop (start + count) picks)) days (one ∷ []) (all-map (λ (d
          : DayPart). IsBelow d.day rest) (λ (d : DayPart). IsBelow d.day (drop (start + count) picks)) (λ d b. still d.day
          b) days h.below) (subst (λ (k : ℕ). IsBelow k (drop (start + count) picks)) (sym is_day_one) later, tt);
      before = subst (AllByRecursion (λ (r : DayRows). IsBelow r.0 (drop (start + count) picks))) (sym taken) (all-join (λ (r
          : DayRows). IsBelow r.0 (drop (start + count) picks)) (take start picks) (take count rest) (all-map (λ (r
          : DayRows). IsBelow r.0 rest) (λ (r : DayRows). IsBelow r.0 (drop (start + count) picks)) (λ r b. still r.0 b)
          (take start picks) h.before) (all-map (λ (r : DayRows). r.0 ≡ day) (λ (r : DayRows). IsBelow r.0 (drop (start
          + count) picks)) (λ r e. subst (λ (k : ℕ). IsBelow k (drop (start + count) picks)) (sym e) later) (take count
          rest) ends.same));
    })

pub run-part : (picks : List DayRows) (start count : ℕ) (days : List DayPart) → AreSplit picks start days
    → IsNonDecreasingBy (λ (r : DayRows). r.0) picks → EndsDay (drop start picks) count
    → all_rows (filter (is_day (next_day (drop start picks))) picks) ≡ all_rows (take count (drop start picks))
run-part picks start count days h up ends = ap all_rows (run-is picks start count days h up ends)

pub rows-beside : (picks : List DayRows) → rows_in_blocks (map (λ (r : DayRows). r.1) picks) ≡ all_rows picks
rows-beside [] = refl
rows-beside (r ∷ picks) = ap (λ (l : List Numbered). r.1 ++ l) (rows-beside picks)

-- ---- the steps

first-is : (picks : List DayRows) (first : DayRows) → 0 < length picks → (get_or picks 0 first).0 ≡ next_day picks
first-is [] first some = absurd (omega (arith, some))
first-is (r ∷ picks) first some = refl

pub next-is : (picks : List DayRows) (first : DayRows) (rest : List DayRows) → rest ≡ picks → 0 < length picks
    → (get_or rest 0 first).0 ≡ next_day picks
next-is picks first rest same some =
    ap (λ (l : List DayRows). (get_or l 0 first).0) same ∙ first-is picks first some

pub same-more : (picks : List DayRows) (end : ℕ) (first r : DayRows) → end < length picks
    → (get_or picks end r).0 ≡ (get_or picks 0 first).0
    → AllByRecursion (λ (p : DayRows). p.0 ≡ next_day picks) (take end picks)
    → AllByRecursion (λ (p : DayRows). p.0 ≡ next_day picks) (take (end + 1) picks)
same-more picks end first r lt same h =
    subst (AllByRecursion (λ (p : DayRows). p.0 ≡ next_day picks)) (sym (take_more picks end r lt)) (all-join (λ (p
    : DayRows). p.0 ≡ next_day picks) (take end picks) (get_or picks end r ∷ []) h (
      same ∙ first-is picks first (omega
          (arith, lt)),
      tt,
    ))

pub some-rows : (picks : List DayRows) (first : DayRows) → 0 < length picks → 0 < length (get_or picks 0 first).1
    → 0 < length (all_rows picks)
some-rows [] first some rows = absurd (omega (arith, some))
some-rows (r ∷ picks) first some rows = omega (arith, length-append r.1 (all_rows picks), rows)

pub rows-push : (picks new : List DayRows) (day : ℕ) (first left rest all : List Numbered) → new ≡ picks ++ (day, first) ∷ []
    → first ++ left ≡ rest → all_rows picks ++ rest ≡ all → all_rows new ++ left ≡ all
rows-push picks new day first left rest all is_new parts e =
    ap (λ (l : List DayRows). all_rows l ++ left) is_new
    ∙ ap (λ (l : List Numbered). l ++ left) (flat_map-append (λ (r : DayRows). r.1) picks ((day, first) ∷ [])
    ∙ ap (λ (l : List Numbered). all_rows picks ++ l) (append-nil first))
    ∙ append_assoc (all_rows picks) first left ∙ ap (λ (l : List Numbered). all_rows picks ++ l) parts ∙ e

pub days-push : (picks new : List DayRows) (day : ℕ) (first : List Numbered) → new ≡ picks ++ (day, first) ∷ []
    → LieInDay day first → AreOfTheirDays picks → AreOfTheirDays new
days-push picks new day first is_new own h =
    subst AreOfTheirDays (sym is_new) (all-join (λ (r : DayRows). LieInDay r.0 r.1) picks ((day, first) ∷ []) h (own, tt))

-- ---- the days of all rows

pub all-same : (sorted : List DayRows) (rows : List Numbered) (days : List DayPart)
    → ((day : ℕ) → all_rows (filter (is_day day) sorted) ≡ rows_of_day day rows)
    → AllByRecursion (λ (day : DayPart). day.part ≡ all_rows (filter (is_day day.day) sorted)) days
    → AllByRecursion (λ (day : DayPart). day.part ≡ rows_of_day day.day rows) days
all-same sorted rows days e h =
    all-map (λ (day : DayPart). day.part ≡ all_rows (filter (is_day day.day) sorted)) (λ (day : DayPart).
    day.part ≡ rows_of_day day.day rows) (λ d is. is ∙ e d.day) days h
