-- Questions that count and sum small numbers have records.
use Rattle.std.proofs.Common.{◌≡◌, ℕ, ◌*◌, ◌^◌, ◌<◌, ◌≤◌, Bool, true, false, cond, List, [], ◌∷◌, length, filter, map}
use Rattle.std.proofs.Common.{ℤ, pos, ◌≤ℤ◌, Option, Some, None, Result, Ok, IfSome, inl, inr, refl, ap, ◌∙◌, arith}
use Rattle.std.specs.List.{AllByRecursion}
use Rattle.std.proofs.Math.Nat.{mul-le-mul_right}
use Rattle.std.proofs.lemmas.Bool.{lt-ltb}
use Rattle.std.proofs.lemmas.List.{length-map}
use Rattle.std.proofs.lemmas.List.Sums.{count_by-le-length, length-filter}
use Rattle.log_model.specs.Field.{field_value}
use Rattle.log_model.specs.Order.{number_of}
use Rattle.log_model.specs.Row.{Row, record_of}
use Rattle.lq_ast.specs.Condition.{Condition}
use Rattle.lq_ast.specs.Evaluation.{outcome_of, records as gives, row_limit, rows_that_hold}
use Rattle.lq_ast.specs.Grouping.{all, asked, group_record, grouped, put, set_statistics, statistic_text, ◌>>=◌}
use Rattle.lq_ast.specs.Groups.{group_tuples, members}
use Rattle.lq_ast.specs.Holds.{holds, record_holds}
use Rattle.lq_ast.specs.Pipes.{all_piped}
use Rattle.lq_ast.specs.Records.{Record, put_field}
use Rattle.lq_ast.specs.Stage.{Grouping, Stage, Statistic, stats}
use Rattle.lq_ast.specs.Statistics.{call_text}
use Rattle.lq_ast.specs.Tuples.{Tuple}
use Rattle.vl_trial.specs.Safety.{IsCountOrSum, IsUpTo, StatsLaw}
use Rattle.vl_trial.proofs.Totals.{HasSmall, IsSmall, field_sum_fits, small_from}

all_kept : {X : Type 0} (P : X → Type 0) (p : X → Bool) (xs : List X) → AllByRecursion P xs
    → AllByRecursion P (filter p xs)
all_kept P p [] h = tt
all_kept P p (x ∷ xs) h =
    let later = all_kept P p xs h.1 in
    elim (p x) as (λ b. AllByRecursion P (cond b (x ∷ filter p xs) (filter p xs))) [
      | true ↦ (h.0, later)
      | false ↦ later
    ]

kept_few : {X : Type 0} (p : X → Bool) (xs : List X) → length (filter p xs) ≤ length xs
kept_few p xs = omega (arith, length-filter p xs, count_by-le-length p xs)

module _ (most bound : ℕ) (field : List ℕ) (fits : bound * most < 2 ^ 63) where
  -- no more records than the bound, with small numbers
  record AreLight (records : List Record) : Type 0 where
    pub small : AllByRecursion (HasSmall most field) records
    pub few : length records ≤ bound

  light_kept : (p : Record → Bool) (records : List Record) → AreLight records → AreLight (filter p records)
  light_kept p records light = record {
    small = all_kept (HasSmall most field) p records light.small;
    few = omega (arith, kept_few p records, light.few);
  }

  light_asked : (only : Option Condition) (records : List Record) → AreLight records → AreLight (asked only records)
  light_asked None records light = light
  light_asked (Some condition) records light = light_kept (record_holds condition) records light

  has_text : (s : Statistic) (records : List Record) → IsCountOrSum field s → AreLight records
      → (text : List ℕ) × (statistic_text s records ≡ Some text)
  has_text s records (inl count) light =
      (_, ap (λ call. call_text call s.names (asked s.only records)) count)
  has_text s records (inr sum) light =
      let among = light_asked s.only records light in
      let found = field_sum_fits most field (asked s.only records) among.small
      (omega (arith, mul-le-mul_right most among.few)) in
      (found.0, (λ i. call_text (sum.0 i) (sum.1 i) (asked s.only records)) ∙ found.1)

  set_ok : (records : List Record) (statistics : List Statistic) (r : Record)
      → AllByRecursion (IsCountOrSum field) statistics → AreLight records
      → (made : Record) × (set_statistics records statistics r ≡ Ok made)
  set_ok records [] r functions light = (r, refl)
  set_ok records (s ∷ ss) r functions light =
      let text = has_text s records functions.0 light in
      let later = set_ok records ss (put_field r s.name text.0) functions.1 light in
      (later.0, ap (λ found. put s.name r found >>= set_statistics records ss) text.1 ∙ later.1)

all_ok : {A B E : Type 0} (f : A → Result B E) (xs : List A) → ((x : A) → (y : B) × (f x ≡ Ok y))
    → (ys : List B) × (all (map f xs) ≡ Ok ys)
all_ok f [] each = ([], refl)
all_ok f (x ∷ xs) each =
    let first = each x in
    let later = all_ok f xs each in
    (first.0 ∷ later.0, (λ i. first.1 i >>= λ y. later.1 i >>= λ ys. Ok (y ∷ ys)))

module _ (most bound : ℕ) (field : List ℕ) (fits : bound * most < 2 ^ 63) where
  group_ok : (g : Grouping) (records : List Record) → AllByRecursion (IsCountOrSum field) g.statistics
      → AreLight most bound field fits records → (tuple : Tuple)
      → (made : Record) × (group_record g records tuple ≡ Ok made)
  group_ok g records functions light tuple =
      set_ok most bound field fits (members g.keys records tuple) g.statistics _ functions
      (light_kept most bound field fits _ records light)

  grouped_ok : (g : Grouping) (records : List Record) → AllByRecursion (IsCountOrSum field) g.statistics
      → AreLight most bound field fits records → (made : List Record) × (grouped g records ≡ Ok made)
  grouped_ok g records functions light =
      all_ok (group_record g records) (group_tuples g.keys records) (group_ok g records functions light)

-- ---- the records of the rows that hold

small_number : (most : ℕ) (number : Option ℤ) → IfSome number (λ n. (pos 0 ≤ℤ n) × (n ≤ℤ pos most))
    → IfSome number (IsSmall most)
small_number most None h = tt
small_number most (Some n) h = small_from most n h.0 h.1

small_records : (most : ℕ) (field : List ℕ) (rows : List Row) → AllByRecursion (IsUpTo most field) rows
    → AllByRecursion (HasSmall most field) (map record_of rows)
small_records most field [] h = tt
small_records most field (row ∷ rows) h =
    (small_number most (number_of (field_value (record_of row) field)) h.0, small_records most field rows h.1)

outcome_ok : (stages : List Stage) (held : List Row) (made : List Record) → length held < row_limit
    → all_piped stages (map record_of held) ≡ Ok made → outcome_of stages held ≡ gives made
outcome_ok stages held made few piped = rw (lt-ltb (length held) row_limit few, piped) refl

pub has_records : StatsLaw
has_records field question now most rows counts small few fits =
    let held = rows_that_hold question.condition now rows in
    let holding : Row → Bool = λ row. holds now question.condition row in
    let kept = kept_few holding rows in
    let light : AreLight most (length rows) field fits (map record_of held) = record {
      small = small_records most field held (all_kept (IsUpTo most field) holding rows small);
      few = omega (arith, kept, length-map held record_of);
    } in
    let made = grouped_ok most (length rows) field fits counts.grouping (map record_of held) counts.functions light in
    let piped : all_piped (stats counts.grouping ∷ []) (map record_of held) ≡ Ok made.0 =
    ap (λ found. found >>= all_piped []) made.1 in
    let outcome = outcome_ok (stats counts.grouping ∷ []) held made.0 (omega (arith, kept)) piped in
    (made.0, ap (λ stages. outcome_of stages held) counts.stages ∙ outcome)
