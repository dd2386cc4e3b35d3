-- How each step keeps the groups in their state.
use Rattle.std.proofs.Common.{◌≡◌, ◌≢◌, ◌⊎◌, inl, inr, ℕ, ◌+◌, ◌<◌, ◌≤◌, Bool, true, false, cond, eqb, List, [], ◌∷◌}
use Rattle.std.proofs.Common.{◌++◌}
use Rattle.std.proofs.Common.{map, Some, None, refl, sym, ap, subst, ◌∙◌, append_assoc, append-nil, arith, eq-eqb}
use Rattle.std.proofs.Common.{eqb-true}
use Rattle.std.specs.Prelude.{◌||◌, IfSome, flat_map, nat_le, not, Option}
use Rattle.std.specs.List.{All, AllByRecursion, Contains, IsDistinct, filter, last_or, list_any}
use Rattle.std.specs.List.Sorted.{IsPermutation}
use Rattle.std.proofs.lemmas.Bool.{le-leb, lt-leb, ne_eqb}
use Rattle.std.proofs.lemmas.List.{map-append}
use Rattle.std.proofs.lemmas.List.Concat.{flat_map-append}
use Rattle.std.proofs.lemmas.List.Elements.{All-nil, All-push, Contains-append_right}
use Rattle.std.proofs.lemmas.List.Folds.{list_any-append}
use Rattle.std.proofs.lemmas.List.Sorted.{IsPermutation-append_comm, IsPermutation-append_left}
use Rattle.std.proofs.lemmas.List.Sorted.{IsPermutation-append_right}
use Rattle.std.proofs.lemmas.List.Sorted.{IsPermutation-refl, IsPermutation-trans}
use Rattle.log_model.specs.History.{Numbered}
use Rattle.log_model.specs.Row.{batch_limit}
use Rattle.day_model.specs.Days.{DayRows, LieInDay}
use Rattle.part_model.specs.Part.{rows_weight}
use Rattle.part_store.specs.State.{AreInOrder, LiesInDay, Listed, is_day, kept}
use Rattle.merge_plan.specs.Planned.{AreListed, is_of, listed_weights, rows_of_listed, rows_of_parts, weights_of_day}
use Rattle.merge_plan.specs.Grouping.{AreRising, Begins, BeginsAlone, BeginsWithYoungest, EndsElsewhere, IsAlone}
use Rattle.merge_plan.specs.Grouping.{IsGrouped, IsYoungest}
use Rattle.merge_plan.specs.Grouping.{add_last, all_added, has_day, is_among, with_piece}
use Rattle.merge_plan.proofs.Lists.{all-always, all-append, all-both, all-fail, all-filter, all-parts, all-weaker}
use Rattle.merge_plan.proofs.Lists.{none-pass}
use Rattle.merge_plan.proofs.KeptLaws.{among-itself, among-other, kept-with, kept-without, others}
use Rattle.merge_plan.proofs.WeightLaws.{added-push, last-added, listed-append, weight-append, weights-append}

-- ---- rows

rows-push : (jobs : List DayRows) (day : ℕ) (rows : List Numbered)
    → rows_of_parts (jobs ++ (day, rows) ∷ []) ≡ rows_of_parts jobs ++ rows
rows-push jobs day rows =
    flat_map-append (λ (part : DayRows). part.1) jobs ((day, rows) ∷ [])
    ∙ ap (λ (l : List Numbered). rows_of_parts jobs ++ l) (append-nil rows)

-- more rows in a group, and in a piece
rows-more : (now all parts old done : List Numbered) (rows : List Numbered) → IsPermutation now (all ++ rows)
    → all ≡ parts → IsPermutation parts (old ++ done) → IsPermutation now (old ++ (done ++ rows))
rows-more now all parts old done rows same is before =
    IsPermutation-trans now (all ++ rows) (old ++ (done ++ rows)) same
    (subst (λ (l : List Numbered). IsPermutation (all ++ rows) l) (append_assoc old done rows)
    (IsPermutation-append_left rows all (old ++ done)
    (subst (λ (l : List Numbered). IsPermutation l (old ++ done)) (sym is) before)))

-- the rows of a part come out of the middle
move : (a b e j q : List Numbered) → IsPermutation ((a ++ b) ++ (j ++ (e ++ q))) (((a ++ (e ++ b)) ++ j) ++ q)
move a b e j q =
    let first : a ++ (((b ++ j) ++ e) ++ q) ≡ (a ++ b) ++ (j ++ (e ++ q)) = simp append_assoc in
    let second : a ++ ((e ++ (b ++ j)) ++ q) ≡ ((a ++ (e ++ b)) ++ j) ++ q = simp append_assoc in
    subst (λ (l : List Numbered). IsPermutation l (((a ++ (e ++ b)) ++ j) ++ q)) first
    (subst (λ (l : List Numbered). IsPermutation (a ++ (((b ++ j) ++ e) ++ q)) l) second
    (IsPermutation-append_right a (((b ++ j) ++ e) ++ q) ((e ++ (b ++ j)) ++ q)
    (IsPermutation-append_left q ((b ++ j) ++ e) (e ++ (b ++ j)) (IsPermutation-append_comm (b ++ j) e))))

-- ---- days of groups

has-append : (day : ℕ) (jobs more : List DayRows) → has_day day (jobs ++ more) ≡ (has_day day jobs || has_day day more)
has-append day jobs more = list_any-append (is_of day) jobs more

or-left : (a b : Bool) → a ≡ true → (a || b) ≡ true
or-left true b h = refl
or-left false b h = absurd (false-true h)
  where
    false-true : false ≡ true → ⊥
    false-true h = cc

pub has-more : (day : ℕ) (jobs more : List DayRows) → has_day day jobs ≡ true → has_day day (jobs ++ more) ≡ true
has-more day jobs more h = has-append day jobs more ∙ or-left (has_day day jobs) (has_day day more) h

or-parts : (a b : Bool) → (a || b) ≡ false → (a ≡ false) × (b ≡ false)
or-parts true b h = cc
or-parts false b h = (refl, h)

or-itself : (b : Bool) → (b || true) ≡ true
or-itself true = refl
or-itself false = refl

has-pushed : (day : ℕ) (jobs : List DayRows) (rows : List Numbered) → has_day day (jobs ++ (day, rows) ∷ []) ≡ true
has-pushed day jobs rows =
    has-append day jobs ((day, rows) ∷ [])
    ∙ ap (λ (b : Bool). has_day day jobs || (b || false)) (eq-eqb day day refl) ∙ or-itself (has_day day jobs)

none-has : (day : ℕ) (jobs : List DayRows) → AllByRecursion (λ (job : DayRows). job.0 < day) jobs
    → has_day day jobs ≡ false
none-has day [] h = refl
none-has day (job ∷ jobs) h =
    ap (λ (b : Bool). b || has_day day jobs) (ne_eqb job.0 day (λ same. let lt = h.0 in absurd (omega arith)))
    ∙ none-has day jobs h.1

none-weighs : (day : ℕ) (jobs : List DayRows) → has_day day jobs ≡ false → weights_of_day day jobs ≡ []
none-weighs day [] h = refl
none-weighs day (job ∷ jobs) h = by (eqb job.0 day) h (none-weighs day jobs)
  where
    by : (t : Bool) → (t || has_day day jobs) ≡ false → (has_day day jobs ≡ false → weights_of_day day jobs ≡ [])
        → map (λ (part : DayRows). rows_weight part.1) (cond t (job ∷ filter (is_of day) jobs) (filter
        (is_of day) jobs)) ≡ []
    by true h rest = cc
    by false h rest = rest h

last-some : (x : DayRows) (xs : List DayRows) → (y : DayRows) × (last_or (Some x) xs ≡ Some y)
last-some x [] = (x, refl)
last-some x (y ∷ ys) = last-some y ys

last-push : {X : Type 0} (o : Option X) (xs : List X) (x : X) → last_or o (xs ++ x ∷ []) ≡ Some x
last-push o [] x = refl
last-push o (y ∷ ys) x = last-push (Some y) ys x

-- groups that end on another day are all of earlier ones
elsewhere : (day latest : ℕ) (jobs : List DayRows) → EndsElsewhere day jobs
    → IfSome (last_or None jobs) (λ (job : DayRows). job.0 ≡ latest)
    → AllByRecursion (λ (job : DayRows). job.0 ≤ latest) jobs → latest ≤ day → has_day day jobs ≡ false
elsewhere day latest [] other last up le = refl
elsewhere day latest (job ∷ jobs) other last up le =
    let ends = last-some job jobs in
    let differ : ends.0.0 ≢ day = subst (λ o. IfSome o (λ (j : DayRows). j.0 ≢ day)) ends.1 other in
    let is : ends.0.0 ≡ latest = subst (λ o. IfSome o (λ (j : DayRows). j.0 ≡ latest)) ends.1 last in
    let below : latest < day = omega arith in
    none-has day (job ∷ jobs) (all-weaker (λ (j : DayRows). j.0 ≤ latest) (λ (j : DayRows). j.0 < day)
    (λ j at. omega arith) (job ∷ jobs) up)

-- ---- weights of a day

-- what a piece weighs on a day
pushed-weights : (day on : ℕ) (done : List DayRows) (rows : List Numbered)
    → weights_of_day day (done ++ (on, rows) ∷ []) ≡ weights_of_day day done ++ cond (eqb on day)
    (rows_weight rows ∷ []) []
pushed-weights day on done rows =
    weights-append day done ((on, rows) ∷ [])
    ∙ ap (λ (l : List ℕ). weights_of_day day done ++ l) (by (eqb on day))
  where
    by : (t : Bool) → map (λ (part : DayRows). rows_weight part.1) (cond t ((on, rows) ∷ []) [])
        ≡ cond t (rows_weight rows ∷ []) []
    by true = refl
    by false = refl

-- A step changes the weights of its own day as `add_last` does, and of no other day.
record Weighs (on : ℕ) (rows : List Numbered) (before after : ℕ → List ℕ) : Type 0 where
  here : after on ≡ add_last (before on) (rows_weight rows)
  elsewhere : (day : ℕ) → eqb on day ≡ false → after day ≡ before day

weighs-all : (on : ℕ) (rows : List Numbered) (done : List DayRows) (before after start : ℕ → List ℕ)
    → Weighs on rows before after
    → ((day : ℕ) → before day ≡ all_added (start day) (weights_of_day day done))
    → (day : ℕ) → after day ≡ all_added (start day) (weights_of_day day (done ++ (on, rows) ∷ []))
weighs-all on rows done before after start step was day =
    by (eqb on day) refl ∙ ap (all_added (start day)) (sym (pushed-weights day on done rows))
  where
    by : (t : Bool) → eqb on day ≡ t
        → after day ≡ all_added (start day) (weights_of_day day done ++ cond (eqb on day) (rows_weight rows ∷ []) [])
    by true e =
        let same : on ≡ day = eqb-true on day e in
        ap after (sym same) ∙ step.here
        ∙ ap (λ d. add_last (before d) (rows_weight rows)) same
        ∙ ap (λ l. add_last l (rows_weight rows)) (was day)
        ∙ sym (added-push (start day) (weights_of_day day done) (rows_weight rows))
        ∙ ap (λ (t : Bool). all_added (start day) (weights_of_day day done ++ cond t
        (rows_weight rows ∷ []) [])) (sym e)
    by false e =
        step.elsewhere day e ∙ was day
        ∙ ap (all_added (start day)) (sym (append-nil (weights_of_day day done)))
        ∙ ap (λ (t : Bool). all_added (start day) (weights_of_day day done ++ cond t
        (rows_weight rows ∷ []) [])) (sym e)

here-pushed : (day on : ℕ) (jobs : List DayRows) (rows : List Numbered) → on ≡ day
    → weights_of_day day (jobs ++ (on, rows) ∷ []) ≡ weights_of_day day jobs ++ rows_weight rows ∷ []
here-pushed day on jobs rows same =
    pushed-weights day on jobs rows
    ∙ ap (λ (t : Bool). weights_of_day day jobs ++ cond t (rows_weight rows ∷ []) []) (eq-eqb on day same)

elsewhere-pushed : (day on : ℕ) (jobs : List DayRows) (rows : List Numbered) → eqb on day ≡ false
    → weights_of_day day (jobs ++ (on, rows) ∷ []) ≡ weights_of_day day jobs
elsewhere-pushed day on jobs rows other =
    pushed-weights day on jobs rows
    ∙ ap (λ (t : Bool). weights_of_day day jobs ++ cond t (rows_weight rows ∷ []) []) other
    ∙ append-nil (weights_of_day day jobs)

-- ---- the steps

abbrev weighed : List Listed → List ℕ → List DayRows → ℕ → List ℕ
weighed listed old jobs day = listed_weights day (kept old listed) ++ weights_of_day day jobs

abbrev HasBegun : List ℕ → List DayRows → Listed → Type 0
HasBegun old jobs part = is_among old part.file ≡ true → has_day part.day jobs ≡ true

-- the rows of one more piece at the end of the groups
end-rows : (k old done : List Numbered) (jobs : List DayRows) (rows : List Numbered)
    → IsPermutation (k ++ rows_of_parts jobs) (old ++ done)
    → IsPermutation (k ++ (rows_of_parts jobs ++ rows)) (old ++ (done ++ rows))
end-rows k old done jobs rows was =
    let j : List Numbered = rows_of_parts jobs in
    rows-more (k ++ (j ++ rows)) (k ++ j) (k ++ j) old done rows
    (subst (λ (l : List Numbered). IsPermutation l ((k ++ j) ++ rows)) (append_assoc k j rows)
    (IsPermutation-refl ((k ++ j) ++ rows))) refl was

kept-all : (listed : List Listed) → kept [] listed ≡ listed
kept-all [] = refl
kept-all (part ∷ listed) = ap (λ (l : List Listed). part ∷ l) (kept-all listed)

none-listed : (listed : List Listed) → AreListed listed []
unfolding IsDistinct
none-listed listed = record { each = All-nil (Contains (map (λ (part : Listed). part.file) listed)); once = tt }

-- before the first piece
pub begins : (listed : List Listed) (pieces : List DayRows) (old : List ℕ) (jobs : List DayRows) → AreRising pieces
    → old ≡ [] → jobs ≡ [] → IsGrouped listed [] pieces old jobs
begins listed pieces old jobs rising no-file no-job =
    subst (λ (l : List ℕ). IsGrouped listed [] pieces l jobs) (sym no-file)
    (subst (λ (l : List DayRows). IsGrouped listed [] pieces [] l) (sym no-job) first)
  where
    first : IsGrouped listed [] pieces [] []
    first = record {
      rows =
          subst (λ (l : List Listed). IsPermutation (rows_of_listed l ++ []) (rows_of_listed listed ++ []))
          (sym (kept-all listed)) (IsPermutation-refl (rows_of_listed listed ++ []));
      weights = λ day. append-nil (listed_weights day (kept [] listed)) ∙ ap (listed_weights day) (kept-all listed);
      files = none-listed listed;
      begun = all-always (HasBegun [] []) (λ part h. absurd cc) listed;
      latest = 0;
      last = tt;
      up = tt;
      later = all-always (λ (piece : DayRows). 0 ≤ piece.0) (λ piece. omega arith) pieces;
      rising = rising;
    }

-- A group grows by a piece.
module _ (listed : List Listed) (done rest : List DayRows) (old : List ℕ) (before : List DayRows) (job : DayRows)
    (day : ℕ) (rows : List Numbered) (same : job.0 ≡ day)
    (fits : nat_le (rows_weight job.1 + rows_weight rows) batch_limit ≡ true)
    (was : IsGrouped listed done ((day, rows) ∷ rest) old (before ++ job ∷ [])) where
  grown-rows : IsPermutation (rows_of_listed (kept old listed) ++ rows_of_parts (before ++ (job.0, job.1 ++ rows) ∷ []))
      (rows_of_listed listed ++ rows_of_parts (done ++ (day, rows) ∷ []))
  grown-rows =
      let k : List Numbered = rows_of_listed (kept old listed) in
      let same-rows : rows_of_parts (before ++ job ∷ []) ++ rows ≡ rows_of_parts (before ++ (
        job.0,
        job.1
            ++ rows,
      ) ∷ []) =
      ap (λ (l : List Numbered). l ++ rows) (rows-push before job.0 job.1)
      ∙ append_assoc (rows_of_parts before) job.1 rows ∙ sym (rows-push before job.0 (job.1 ++ rows)) in
      subst (λ (l : List Numbered). IsPermutation (k ++ l) (rows_of_listed listed ++ rows_of_parts (done ++
      (day, rows) ∷ [])))
      same-rows
      (subst (λ (l : List Numbered). IsPermutation (k ++ (rows_of_parts (before ++ job ∷ []) ++ rows))
      (rows_of_listed listed ++ l))
      (sym (rows-push done day rows))
      (end-rows k (rows_of_listed listed) (rows_of_parts done) (before ++ job ∷ []) rows was.rows))

  grown-weighs : Weighs day rows (weighed listed old (before ++ job ∷ []))
      (weighed listed old (before ++ (job.0, job.1 ++ rows) ∷ []))
  grown-weighs = record {
    here =
        let x = listed_weights day (kept old listed) in
        let b = weights_of_day day before in
        let w = rows_weight job.1 in
        let v = rows_weight rows in
        ap (λ (l : List ℕ). x ++ l) (here-pushed day job.0 before (job.1 ++ rows) same)
        ∙ ap (λ (n : ℕ). x ++ (b ++ n ∷ [])) (weight-append job.1 rows)
        ∙ sym (append_assoc x b ((w + v) ∷ []))
        ∙ ap (λ (t : Bool). (x ++ b) ++ cond t ((w + v) ∷ []) (w ∷ v ∷ [])) (sym fits)
        ∙ sym (last-added (x ++ b) w v)
        ∙ ap (λ (l : List ℕ). add_last l v) (append_assoc x b (w ∷ [])
        ∙ ap (λ (l : List ℕ). x ++ l) (sym (here-pushed day job.0 before job.1 same)));
    elsewhere = λ d other.
        let differ : eqb job.0 d ≡ false = ap (λ (n : ℕ). eqb n d) same ∙ other in
        ap (λ (l : List ℕ). listed_weights d (kept old listed) ++ l)
        (elsewhere-pushed d job.0 before (job.1 ++ rows) differ ∙ sym (elsewhere-pushed d job.0 before job.1 differ));
  }

  grown : IsGrouped listed (done ++ (day, rows) ∷ []) rest old (before ++ (job.0, job.1 ++ rows) ∷ [])
  grown = record {
    rows = grown-rows;
    weights = weighs-all day rows done (weighed listed old (before ++ job ∷ []))
        (weighed listed old (before ++ (job.0, job.1 ++ rows) ∷ []))
        (λ d. listed_weights d listed) grown-weighs was.weights;
    files = was.files;
    begun = all-weaker (HasBegun old (before ++ job ∷ [])) (HasBegun old (before ++ (job.0, job.1 ++ rows) ∷ []))
        (λ part h is. has-append part.day before ((job.0, job.1 ++ rows) ∷ [])
        ∙ sym (has-append part.day before (job ∷ [])) ∙ h is) listed was.begun;
    latest = was.latest;
    last = subst (λ o. IfSome o (λ (j : DayRows). j.0 ≡ was.latest)) (sym (last-push None before (
      job.0,
      job.1
          ++ rows,
    )))
        (subst (λ o. IfSome o (λ (j : DayRows). j.0 ≡ was.latest)) (last-push None before job) was.last);
    up =
        let parts = all-parts (λ (j : DayRows). j.0 ≤ was.latest) before (job ∷ []) was.up in
        all-append (λ (j : DayRows). j.0 ≤ was.latest) before ((job.0, job.1 ++ rows) ∷ []) parts.0 (parts.1.0, tt);
    later = was.later.1;
    rising = was.rising.1;
  }

-- A group begins with a piece.
module _ (listed : List Listed) (done rest : List DayRows) (old : List ℕ) (jobs : List DayRows) (day : ℕ)
    (rows : List Numbered)
    (closes : add_last (weighed listed old jobs day) (rows_weight rows) ≡ weighed listed old jobs day
    ++ rows_weight rows ∷ [])
    (was : IsGrouped listed done ((day, rows) ∷ rest) old jobs) where
  apart-weighs : Weighs day rows (weighed listed old jobs) (weighed listed old (jobs ++ (day, rows) ∷ []))
  apart-weighs = record {
    here =
        let x = listed_weights day (kept old listed) in
        ap (λ (l : List ℕ). x ++ l) (here-pushed day day jobs rows refl)
        ∙ sym (append_assoc x (weights_of_day day jobs) (rows_weight rows ∷ [])) ∙ sym closes;
    elsewhere = λ d other.
        ap (λ (l : List ℕ). listed_weights d (kept old listed) ++ l) (elsewhere-pushed d day jobs rows other);
  }

  apart : IsGrouped listed (done ++ (day, rows) ∷ []) rest old (jobs ++ (day, rows) ∷ [])
  apart = record {
    rows =
        let k : List Numbered = rows_of_listed (kept old listed) in
        subst (λ (l : List Numbered). IsPermutation (k ++ l) (rows_of_listed listed ++ rows_of_parts (done ++
        (day, rows) ∷ [])))
        (sym (rows-push jobs day rows))
        (subst (λ (l : List Numbered). IsPermutation (k ++ (rows_of_parts jobs ++ rows)) (rows_of_listed listed ++ l))
        (sym (rows-push done day rows))
        (end-rows k (rows_of_listed listed) (rows_of_parts done) jobs rows was.rows));
    weights = weighs-all day rows done (weighed listed old jobs) (weighed listed old (jobs ++ (day, rows) ∷ []))
        (λ d. listed_weights d listed) apart-weighs was.weights;
    files = was.files;
    begun = all-weaker (HasBegun old jobs) (HasBegun old (jobs ++ (day, rows) ∷ []))
        (λ part h is. has-more part.day jobs ((day, rows) ∷ []) (h is)) listed was.begun;
    latest = day;
    last = subst (λ o. IfSome o (λ (j : DayRows). j.0 ≡ day)) (sym (last-push None jobs (day, rows))) refl;
    up = all-append (λ (j : DayRows). j.0 ≤ day) jobs ((day, rows) ∷ [])
        (all-weaker (λ (j : DayRows). j.0 ≤ was.latest) (λ (j : DayRows). j.0 ≤ day)
        (λ j le. let above = was.later.0 in omega arith) jobs was.up) (omega arith, tt);
    later = was.rising.0;
    rising = was.rising.1;
  }

-- A piece of the day of the last group joins that, or begins the next.
pub go-on : (listed : List Listed) (done rest : List DayRows) (old : List ℕ) (before : List DayRows) (job : DayRows)
    (day : ℕ) (rows : List Numbered) → job.0 ≡ day
    → IsGrouped listed done ((day, rows) ∷ rest) old (before ++ job ∷ [])
    → IsGrouped listed (done ++ (day, rows) ∷ []) rest old (before ++ with_piece job rows)
go-on listed done rest old before job day rows same was =
    by (nat_le (rows_weight job.1 + rows_weight rows) batch_limit) refl
  where
    next : List DayRows
    next = (before ++ job ∷ []) ++ (day, rows) ∷ []

    by : (t : Bool) → nat_le (rows_weight job.1 + rows_weight rows) batch_limit ≡ t
        → IsGrouped listed (done ++ (day, rows) ∷ []) rest old
        (before ++ cond t ((job.0, job.1 ++ rows) ∷ []) (job ∷ (job.0, rows) ∷ []))
    by true e = grown listed done rest old before job day rows same e was
    by false e =
        let x = listed_weights day (kept old listed) in
        let b = weights_of_day day before in
        let w = rows_weight job.1 in
        let v = rows_weight rows in
        let here : weighed listed old (before ++ job ∷ []) day ≡ (x ++ b) ++ w ∷ [] =
        ap (λ (l : List ℕ). x ++ l) (here-pushed day job.0 before job.1 same) ∙ sym (append_assoc x b (w ∷ [])) in
        let closes : add_last (weighed listed old (before ++ job ∷ []) day) v
        ≡ weighed listed old (before ++ job ∷ []) day ++ v ∷ [] =
        ap (λ (l : List ℕ). add_last l v) here ∙ last-added (x ++ b) w v
        ∙ ap (λ (t : Bool). (x ++ b) ++ cond t ((w + v) ∷ []) (w ∷ v ∷ [])) e
        ∙ sym (append_assoc (x ++ b) (w ∷ []) (v ∷ []))
        ∙ ap (λ (l : List ℕ). l ++ v ∷ []) (sym here) in
        subst (λ (l : List DayRows). IsGrouped listed (done ++ (day, rows) ∷ []) rest old l)
        (append_assoc before (job ∷ []) ((day, rows) ∷ [])
        ∙ ap (λ (d : ℕ). before ++ job ∷ (d, rows) ∷ []) (sym same))
        (apart listed done rest old (before ++ job ∷ []) day rows closes was)

-- ---- the youngest part of a day

none-kept : (day : ℕ) (old : List ℕ) (parts : List Listed) → filter (is_day day) parts ≡ []
    → listed_weights day (kept old parts) ≡ []
none-kept day old parts none =
    ap (map (λ (part : Listed). rows_weight part.rows))
    (none-pass (is_day day) (kept old parts)
    (all-filter (λ (part : Listed). is_day day part ≡ false) (λ (part : Listed). not (is_among old part.file)) parts
    (all-fail (is_day day) parts none)))

-- what a listed part adds to the weights of a day
one-weight : (day : ℕ) (before : List Listed) (part : Listed) (after : List Listed)
    → listed_weights day (before ++ part ∷ after)
    ≡ listed_weights day before ++ cond (eqb part.day day) (rows_weight part.rows ∷ listed_weights day after)
    (listed_weights day after)
one-weight day before part after =
    listed-append day before (part ∷ after) ∙ ap (λ (l : List ℕ). listed_weights day before ++ l) (by
    (eqb part.day day))
  where
    by : (t : Bool) → map (λ (p : Listed). rows_weight p.rows)
        (cond t (part ∷ filter (is_day day) after) (filter (is_day day) after))
        ≡ cond t (rows_weight part.rows ∷ listed_weights day after) (listed_weights day after)
    by true = refl
    by false = refl

distinct-push : (files : List ℕ) (file : ℕ) → IsDistinct (λ (a b : ℕ). eqb a b) files → is_among files file ≡ false
    → IsDistinct (λ (a b : ℕ). eqb a b) (files ++ file ∷ [])
unfolding IsDistinct
distinct-push [] file once other = (tt, tt)
distinct-push (f ∷ files) file once other =
    let parts = or-parts (eqb f file) (is_among files file) other in (
      all-append (λ (y : ℕ). eqb f y ≡ false) files (file ∷ []) once.0 (parts.0, tt),
      distinct-push files file once.1 parts.1,
    )

-- A youngest part is not in a group before its day has one.
fresh-file : (listed : List Listed) (old : List ℕ) (jobs : List DayRows) (day : ℕ) (part : Listed)
    → IsYoungest day part listed → AllByRecursion (HasBegun old jobs) listed → has_day day jobs ≡ false
    → is_among old part.file ≡ false
fresh-file listed old jobs day part is begun none = by (is_among old part.file) refl
  where
    here : HasBegun old jobs part
    here =
        (all-parts (HasBegun old jobs) is.before (part ∷ is.after)
        (subst (AllByRecursion (HasBegun old jobs)) is.parts begun)).1.0

    by : (t : Bool) → is_among old part.file ≡ t → t ≡ false
    by true e = sym (here e) ∙ ap (λ d. has_day d jobs) is.day_is ∙ none
    by false e = refl

-- A group begins with the youngest part of its day.
module _ (listed : List Listed) (done rest : List DayRows) (old : List ℕ) (jobs : List DayRows) (day : ℕ)
    (rows : List Numbered) (part : Listed) (is : IsYoungest day part listed) (order : AreInOrder listed)
    (fits : nat_le (rows_weight part.rows + rows_weight rows) batch_limit ≡ true) (none : has_day day jobs ≡ false)
    (was : IsGrouped listed done ((day, rows) ∷ rest) old jobs) where
  fresh : is_among old part.file ≡ false
  fresh = fresh-file listed old jobs day part is was.begun none

  order-is : AreInOrder (is.before ++ part ∷ is.after)
  order-is = subst AreInOrder is.parts order

  kept-before : kept old listed ≡ kept old is.before ++ part ∷ kept old is.after
  kept-before = ap (kept old) is.parts ∙ kept-with old is.before part is.after fresh

  kept-after : kept (old ++ part.file ∷ []) listed ≡ kept old is.before ++ kept old is.after
  kept-after = ap (kept (old ++ part.file ∷ [])) is.parts ∙ kept-without old is.before part is.after order-is

  youngest-rows : IsPermutation (rows_of_listed (kept (old ++ part.file ∷ []) listed)
      ++ rows_of_parts (jobs ++ (day, part.rows ++ rows) ∷ []))
      (rows_of_listed listed ++ rows_of_parts (done ++ (day, rows) ∷ []))
  youngest-rows =
      let a = rows_of_listed (kept old is.before) in
      let b = rows_of_listed (kept old is.after) in
      let j = rows_of_parts jobs in
      let now : (a ++ b) ++ (j ++ (part.rows ++ rows)) ≡ rows_of_listed (kept (old ++ part.file ∷ []) listed)
      ++ rows_of_parts (jobs ++ (day, part.rows ++ rows) ∷ []) =
      ap (λ (l : List Numbered). l ++ (j ++ (part.rows ++ rows)))
      (sym (ap rows_of_listed kept-after
      ∙ flat_map-append (λ (p : Listed). p.rows) (kept old is.before) (kept old is.after)))
      ∙ ap (λ (l : List Numbered). rows_of_listed (kept (old ++ part.file ∷ []) listed) ++ l)
      (sym (rows-push jobs day (part.rows ++ rows))) in
      let then : (a ++ (part.rows ++ b)) ++ j ≡ rows_of_listed (kept old listed) ++ j =
      ap (λ (l : List Numbered). l ++ j)
      (sym (ap rows_of_listed kept-before
      ∙ flat_map-append (λ (p : Listed). p.rows) (kept old is.before) (part ∷ kept old is.after))) in
      subst (λ (l : List Numbered). IsPermutation l (rows_of_listed listed ++ rows_of_parts (done ++
      (day, rows) ∷ []))) now
      (subst (λ (l : List Numbered). IsPermutation ((a ++ b) ++ (j ++ (part.rows ++ rows)))
      (rows_of_listed listed ++ l))
      (sym (rows-push done day rows))
      (rows-more ((a ++ b) ++ (j ++ (part.rows ++ rows))) ((a ++ (part.rows ++ b)) ++ j)
      (rows_of_listed (kept old listed) ++ j) (rows_of_listed listed) (rows_of_parts done) rows
      (move a b part.rows j rows) then was.rows))

  youngest-weighs : Weighs day rows (weighed listed old jobs)
      (weighed listed (old ++ part.file ∷ []) (jobs ++ (day, part.rows ++ rows) ∷ []))
  youngest-weighs = record {
    here =
        let a = listed_weights day (kept old is.before) in
        let w = rows_weight part.rows in
        let v = rows_weight rows in
        let after : listed_weights day (kept old is.after) ≡ [] = none-kept day old is.after is.last in
        let alone : weights_of_day day jobs ≡ [] = none-weighs day jobs none in
        let left : listed_weights day (kept (old ++ part.file ∷ []) listed) ≡ a =
        ap (listed_weights day) kept-after ∙ listed-append day (kept old is.before) (kept old is.after)
        ∙ ap (λ (l : List ℕ). a ++ l) after ∙ append-nil a in
        let right : listed_weights day (kept old listed) ++ weights_of_day day jobs ≡ a ++ w ∷ [] =
        ap (λ (l : List ℕ). l ++ weights_of_day day jobs) (ap (listed_weights day) kept-before
        ∙ one-weight day (kept old is.before) part (kept old is.after)
        ∙ ap (λ (t : Bool). a ++ cond t (w ∷ listed_weights day (kept old is.after))
        (listed_weights day (kept old is.after))) (eq-eqb part.day day is.day_is)
        ∙ ap (λ (l : List ℕ). a ++ w ∷ l) after)
        ∙ ap (λ (l : List ℕ). (a ++ w ∷ []) ++ l) alone ∙ append-nil (a ++ w ∷ []) in
        ap (λ (l : List ℕ). l ++ weights_of_day day (jobs ++ (day, part.rows ++ rows) ∷ [])) left
        ∙ ap (λ (l : List ℕ). a ++ l) (here-pushed day day jobs (part.rows ++ rows) refl
        ∙ ap (λ (l : List ℕ). l ++ rows_weight (part.rows ++ rows) ∷ []) alone)
        ∙ ap (λ (n : ℕ). a ++ n ∷ []) (weight-append part.rows rows)
        ∙ ap (λ (t : Bool). a ++ cond t ((w + v) ∷ []) (w ∷ v ∷ [])) (sym fits)
        ∙ sym (last-added a w v) ∙ ap (λ (l : List ℕ). add_last l v) (sym right);
    elsewhere = λ d other.
        let differ : eqb part.day d ≡ false = ap (λ (n : ℕ). eqb n d) is.day_is ∙ other in
        let left : listed_weights d (kept (old ++ part.file ∷ []) listed) ≡ listed_weights d (kept old listed) =
        ap (listed_weights d) kept-after ∙ listed-append d (kept old is.before) (kept old is.after)
        ∙ ap (λ (t : Bool). listed_weights d (kept old is.before)
        ++ cond t (rows_weight part.rows ∷ listed_weights d (kept old is.after)) (listed_weights d (kept old is.after)))
        (sym differ)
        ∙ sym (ap (listed_weights d) kept-before ∙ one-weight d (kept old is.before) part (kept old is.after)) in
        ap (λ (l : List ℕ). l ++ weights_of_day d (jobs ++ (day, part.rows ++ rows) ∷ [])) left
        ∙ ap (λ (l : List ℕ). listed_weights d (kept old listed) ++ l) (elsewhere-pushed d day jobs (part.rows
        ++ rows) other);
  }

  youngest-begun : AllByRecursion (HasBegun (old ++ part.file ∷ []) (jobs ++ (day, part.rows ++ rows) ∷ [])) listed
  youngest-begun =
      let more = (day, part.rows ++ rows) ∷ [] in
      let parts = all-parts (HasBegun old jobs) is.before (part ∷ is.after)
      (subst (AllByRecursion (HasBegun old jobs)) is.parts was.begun) in
      let apart = others is.before part is.after order-is in
      let leads : (p : Listed) → p.file ≢ part.file → HasBegun old jobs p
      → HasBegun (old ++ part.file ∷ []) (jobs ++ more) p =
      (λ p differ h e. has-more p.day jobs more (h (sym (among-other old part.file p.file differ) ∙ e))) in
      subst (AllByRecursion (HasBegun (old ++ part.file ∷ []) (jobs ++ more))) (sym is.parts)
      (all-append (HasBegun (old ++ part.file ∷ []) (jobs ++ more)) is.before (part ∷ is.after)
      (all-both (λ (p : Listed). p.file ≢ part.file) (HasBegun old jobs)
      (HasBegun (old ++ part.file ∷ []) (jobs ++ more)) leads is.before apart.0 parts.0) (
        (λ e. ap (λ d. has_day d (jobs ++ more)) is.day_is ∙ has-pushed day jobs (part.rows ++ rows)),
        all-both (λ (p : Listed). p.file ≢ part.file) (HasBegun old jobs)
            (HasBegun (old ++ part.file ∷ []) (jobs ++ more)) leads is.after apart.1 parts.1.1,
      ))

  youngest-files : AreListed listed (old ++ part.file ∷ [])
  youngest-files =
      let files = map (λ (p : Listed). p.file) listed in
      let among : Contains files part.file =
      subst (λ (l : List ℕ). Contains l part.file)
      (sym (ap (map (λ (p : Listed). p.file)) is.parts
      ∙ map-append (λ (p : Listed). p.file) is.before (part ∷ is.after)))
      (Contains-append_right (map (λ (p : Listed). p.file) is.before)
      (part.file ∷ map (λ (p : Listed). p.file) is.after) part.file (0, omega arith, refl)) in
      record {
        each = All-push (Contains files) old part.file was.files.each among;
        once = distinct-push old part.file was.files.once fresh;
      }

  with-youngest : IsGrouped listed (done ++ (day, rows) ∷ []) rest (old ++ part.file ∷ [])
      (jobs ++ (day, part.rows ++ rows) ∷ [])
  with-youngest = record {
    rows = youngest-rows;
    weights = weighs-all day rows done (weighed listed old jobs)
        (weighed listed (old ++ part.file ∷ []) (jobs ++ (day, part.rows ++ rows) ∷ []))
        (λ d. listed_weights d listed) youngest-weighs was.weights;
    files = youngest-files;
    begun = youngest-begun;
    latest = day;
    last = subst (λ o. IfSome o (λ (j : DayRows). j.0 ≡ day)) (sym (last-push None jobs (day, part.rows ++ rows))) refl;
    up = all-append (λ (j : DayRows). j.0 ≤ day) jobs ((day, part.rows ++ rows) ∷ [])
        (all-weaker (λ (j : DayRows). j.0 ≤ was.latest) (λ (j : DayRows). j.0 ≤ day)
        (λ j le. let above = was.later.0 in omega arith) jobs was.up) (omega arith, tt);
    later = was.rising.0;
    rising = was.rising.1;
  }

pub youngest-lies : (listed : List Listed) (day : ℕ) (part : Listed) → IsYoungest day part listed
    → AllByRecursion LiesInDay listed → LieInDay day part.rows
youngest-lies listed day part is days =
    subst (λ (d : ℕ). LieInDay d part.rows) is.day_is
    (all-parts LiesInDay is.before (part ∷ is.after) (subst (AllByRecursion LiesInDay) is.parts days)).1.0

-- What the kept parts of a day weigh does not join with a piece that is alone.
closes-alone : (listed : List Listed) (old : List ℕ) (jobs : List DayRows) (day : ℕ) (rows : List Numbered)
    → IsAlone listed (day, rows) → AllByRecursion (HasBegun old jobs) listed → has_day day jobs ≡ false
    → add_last (weighed listed old jobs day) (rows_weight rows) ≡ weighed listed old jobs day ++ rows_weight rows ∷ []
closes-alone listed old jobs day rows alone begun none =
    elim alone [ inl empty ↦ first empty | inr one ↦ next one.0 one.1 one.2 ]
  where
    v : ℕ
    v = rows_weight rows

    bare : weights_of_day day jobs ≡ []
    bare = none-weighs day jobs none

    first : filter (is_day day) listed ≡ [] → add_last (weighed listed old jobs day) v
        ≡ weighed listed old jobs day ++ v ∷ []
    first empty =
        let all : weighed listed old jobs day ≡ [] =
        ap (λ (l : List ℕ). l ++ weights_of_day day jobs) (none-kept day old listed empty) ∙ bare in
        ap (λ (l : List ℕ). add_last l v) all ∙ ap (λ (l : List ℕ). l ++ v ∷ []) (sym all)

    next : (part : Listed) → IsYoungest day part listed → batch_limit < rows_weight part.rows + v
        → add_last (weighed listed old jobs day) v ≡ weighed listed old jobs day ++ v ∷ []
    next part is over =
        let a = listed_weights day (kept old is.before) in
        let w = rows_weight part.rows in
        let after : listed_weights day (kept old is.after) ≡ [] = none-kept day old is.after is.last in
        let kept-is = ap (kept old) is.parts
        ∙ kept-with old is.before part is.after (fresh-file listed old jobs day part is begun none) in
        let all : weighed listed old jobs day ≡ a ++ w ∷ [] =
        ap (λ (l : List ℕ). l ++ weights_of_day day jobs) (ap (listed_weights day) kept-is
        ∙ one-weight day (kept old is.before) part (kept old is.after)
        ∙ ap (λ (t : Bool). a ++ cond t (w ∷ listed_weights day (kept old is.after))
        (listed_weights day (kept old is.after))) (eq-eqb part.day day is.day_is)
        ∙ ap (λ (l : List ℕ). a ++ w ∷ l) after)
        ∙ ap (λ (l : List ℕ). (a ++ w ∷ []) ++ l) bare ∙ append-nil (a ++ w ∷ []) in
        ap (λ (l : List ℕ). add_last l v) all ∙ last-added a w v
        ∙ ap (λ (t : Bool). a ++ cond t ((w + v) ∷ []) (w ∷ v ∷ [])) (lt-leb (w + v) batch_limit over)
        ∙ sym (append_assoc a (w ∷ []) (v ∷ [])) ∙ ap (λ (l : List ℕ). l ++ v ∷ []) (sym all)

-- A piece of another day than that of the last group begins a group.
pub begin : (listed : List Listed) (done rest : List DayRows) (old now : List ℕ) (jobs after : List DayRows)
    (piece : DayRows) → AreInOrder listed → EndsElsewhere piece.0 jobs → Begins listed piece old now jobs after
    → IsGrouped listed done (piece ∷ rest) old jobs
    → IsGrouped listed (done ++ piece ∷ []) rest now after
begin listed done rest old now jobs after piece order other begins was =
    elim begins [ inl first ↦ joins first | inr first ↦ alone first ]
  where
    none : has_day piece.0 jobs ≡ false
    none = elsewhere piece.0 was.latest jobs other was.last was.up was.later.0

    joins : BeginsWithYoungest listed piece old now jobs after → IsGrouped listed (done ++ piece ∷ []) rest now after
    joins first =
        subst (λ (l : List ℕ). IsGrouped listed (done ++ piece ∷ []) rest l after) (sym first.old_is)
        (subst (λ (l : List DayRows). IsGrouped listed (done ++ piece ∷ []) rest (old ++ first.youngest.file ∷ []) l)
        (sym first.jobs_are)
        (with-youngest listed done rest old jobs piece.0 piece.1 first.youngest first.is order
        (le-leb (rows_weight first.youngest.rows + rows_weight piece.1) batch_limit first.fits) none was))

    alone : BeginsAlone listed piece old now jobs after → IsGrouped listed (done ++ piece ∷ []) rest now after
    alone first =
        subst (λ (l : List ℕ). IsGrouped listed (done ++ piece ∷ []) rest l after) (sym first.old_is)
        (subst (λ (l : List DayRows). IsGrouped listed (done ++ piece ∷ []) rest old l) (sym first.jobs_are)
        (apart listed done rest old jobs piece.0 piece.1
        (closes-alone listed old jobs piece.0 piece.1 first.alone was.begun none) was))
