-- What lines weigh that are read one after another.
use Rattle.std.proofs.Common.{◌≡◌, ℕ, ℤ, suc, ◌+◌, ◌-◌, ◌^◌, ◌<◌, ◌≤◌, List, [], ◌∷◌, ◌++◌, min, refl, sym, ap, subst}
use Rattle.std.proofs.Common.{◌∙◌, arith}
use Rattle.std.specs.List.{AllZip}
use Rattle.std.proofs.lemmas.List.Sums.{sum_by-append}
use Rattle.log_model.specs.Field.{weight}
use Rattle.log_model.specs.Line.{lines_of}
use Rattle.log_model.specs.Row.{Row, batch_limit, batch_weight}
use Rattle.ingest_row.specs.Ingest.{Options}
use Rattle.ingest_row.specs.Intake.{IsIntake, IsOutcome, IsTaken, IsTaking, Outcome, refused_from, rows_read}
use Rattle.ingest_row.specs.Weighing.{IsTakingIn, IsWeighed, IsWeighing}
use Rattle.ingest_row.specs.declared.body.Intake.{Intake}
use Rattle.ingest_row.specs.declared.taking.Taking.{Taking}
use Rattle.ingest_row.specs.declared.weigh.Weighed.TheVariants.{Heavy, Light}
use Rattle.ingest_row.proofs.OnlyIntake.{one_intake}
use Rattle.ingest_row.proofs.TakenLines.{rows_read-cons, taken, taking_more, taking_none}

weight-append : (xs ys : List Row) → batch_weight (xs ++ ys) ≡ batch_weight xs + batch_weight ys
weight-append xs ys = sum_by-append (λ (row : Row). weight row.fields) xs ys

-- a sum that is cut off at the largest `u64` may be cut off before
cut : (a b : ℕ) → min (min a (2 ^ 64 - 1) + b) (2 ^ 64 - 1) ≡ min (a + b) (2 ^ 64 - 1)
cut a b = omega arith

pub begins : (options : Options) (now : ℤ) (body : List ℕ) (taking : Taking) → taking.intake.rows ≡ []
    → taking.intake.refused ≡ [] → taking.number ≡ 0 → taking.weight ≡ 0 → IsTakingIn options now body body taking
begins options now body taking rows refused number weight = record {
  given = subst (λ (n : ℕ). IsTaking options now body body n taking.intake) (sym number)
      (taking_none options now body taking.intake rows refused);
  weighs = weight ∙ ap (λ (r : List Row). min (batch_weight r) (2 ^ 64 - 1)) (sym rows);
}

-- the next line gives this outcome
pub goes_on : (options : Options) (now : ℤ) (body rest line after : List ℕ) (old new : Taking) (o : Outcome)
    → lines_of rest ≡ line ∷ lines_of after → IsOutcome options now line o
    → new.intake.rows ≡ old.intake.rows ++ rows_read (o ∷ [])
    → new.intake.refused ≡ old.intake.refused ++ refused_from (suc old.number) (o ∷ [])
    → new.number ≡ suc old.number
    → new.weight ≡ min (old.weight + batch_weight (rows_read (o ∷ []))) (2 ^ 64 - 1)
    → IsTakingIn options now body rest old → IsTakingIn options now body after new
goes_on options now body rest line after old new o lines gives rows refused number weight before = record {
  given = subst (λ (n : ℕ). IsTaking options now body after n new.intake) (sym number)
      (taking_more options now body rest line after old.number old.intake new.intake o lines gives rows refused
      before.given);
  weighs = weight
      ∙ ap (λ w. min (w + batch_weight (rows_read (o ∷ []))) (2 ^ 64 - 1)) before.weighs
      ∙ cut (batch_weight old.intake.rows) (batch_weight (rows_read (o ∷ [])))
      ∙ ap (λ w. min w (2 ^ 64 - 1)) (sym (weight-append old.intake.rows (rows_read (o ∷ []))))
      ∙ ap (λ (r : List Row). min (batch_weight r) (2 ^ 64 - 1)) (sym rows);
}

pub ends : (options : Options) (now : ℤ) (body rest : List ℕ) (taking : Taking) → lines_of rest ≡ []
    → IsTakingIn options now body rest taking
    → (outcomes : List Outcome) × IsTaken options now body outcomes taking.intake
ends options now body rest taking none is = taken options now body rest taking.number taking.intake none is.given

-- what all lines weigh, where some were taken in and the others are weighed
pub record WeighsAll (options : Options) (now : ℤ) (body : List ℕ) (weight : ℕ) (outcomes : List Outcome) : Type 0
  where
    pub given : IsIntake options now body outcomes
    pub is : weight ≡ min (batch_weight (rows_read outcomes)) (2 ^ 64 - 1)

pub weighs_all : (options : Options) (now : ℤ) (body rest : List ℕ) (taking : Taking) (later : List Outcome) (weight : ℕ)
    → IsTakingIn options now body rest taking → IsWeighing options now rest taking.weight later weight
    → (outcomes : List Outcome) × WeighsAll options now body weight outcomes
weighs_all options now body rest taking later weight before weighs =
    let all = before.given later weighs.given in (
      all.0,
      record {
        given = all.1;
        is = weighs.is
            ∙ ap (λ w. min (w + batch_weight (rows_read later)) (2 ^ 64 - 1)) before.weighs
            ∙ cut (batch_weight taking.intake.rows) (batch_weight (rows_read later))
            ∙ ap (λ w. min w (2 ^ 64 - 1)) (sym (weight-append taking.intake.rows (rows_read later)))
            ∙ ap (λ (r : List Row). min (batch_weight r) (2 ^ 64 - 1)) (sym all.2);
      },
    )

beyond : (weight rows : ℕ) → weight ≡ min rows (2 ^ 64 - 1) → batch_limit < weight → batch_limit < rows
beyond weight rows is large = omega arith

within : (weight rows : ℕ) → weight ≡ min rows (2 ^ 64 - 1) → weight ≤ batch_limit → rows ≤ batch_limit
within weight rows is light = omega arith

pub heavy : (options : Options) (now : ℤ) (body rest : List ℕ) (taking : Taking) (later : List Outcome) (weight : ℕ)
    → IsTakingIn options now body rest taking → IsWeighing options now rest taking.weight later weight
    → batch_limit < weight → (outcomes : List Outcome) × IsWeighed options now body outcomes (Heavy weight)
heavy options now body rest taking later weight before weighs large =
    let all = weighs_all options now body rest taking later weight before weighs in
    (all.0, (all.1.given, all.1.is, beyond weight (batch_weight (rows_read all.0)) all.1.is large))

pub light : (options : Options) (now : ℤ) (body rest : List ℕ) (taking : Taking) (later : List Outcome) (weight : ℕ)
    → IsTakingIn options now body rest taking → IsWeighing options now rest taking.weight later weight
    → weight ≤ batch_limit → lines_of rest ≡ []
    → (outcomes : List Outcome) × IsWeighed options now body outcomes (Light taking.intake)
light options now body rest taking later weight before weighs little none =
    let all = weighs_all options now body rest taking later weight before weighs in
    let read = ends options now body rest taking none before in (
      read.0,
      (
        read.1,
        subst (λ (o : List Outcome). batch_weight (rows_read o) ≤ batch_limit)
            (one_intake options now body all.0 read.0 all.1.given read.1.given)
            (within weight (batch_weight (rows_read all.0)) all.1.is little),
      ),
    )

-- ---- lines that are only weighed

pub weighs_none : (options : Options) (now : ℤ) (lines : List ℕ) (before : ℕ) (later : List Outcome)
    → IsIntake options now lines later
    → (all : List Outcome) × IsIntake options now lines all
    × (min (before + batch_weight (rows_read all)) (2 ^ 64 - 1)
    ≡ min (before + batch_weight (rows_read later)) (2 ^ 64 - 1))
weighs_none options now lines before later given = (later, given, refl)

sum_first : (weight new first later : ℕ) → new ≡ min (weight + first) (2 ^ 64 - 1)
    → min (weight + (first + later)) (2 ^ 64 - 1) ≡ min (new + later) (2 ^ 64 - 1)
sum_first weight new first later is = omega arith

pub weighs_more : (options : Options) (now : ℤ) (lines rest line after : List ℕ) (before old new : ℕ) (o : Outcome)
    → lines_of rest ≡ line ∷ lines_of after → IsOutcome options now line o
    → new ≡ min (old + batch_weight (rows_read (o ∷ []))) (2 ^ 64 - 1)
    → ((later : List Outcome) → IsIntake options now rest later
    → (all : List Outcome) × IsIntake options now lines all
    × (min (before + batch_weight (rows_read all)) (2 ^ 64 - 1)
    ≡ min (old + batch_weight (rows_read later)) (2 ^ 64 - 1)))
    → (later : List Outcome) → IsIntake options now after later
    → (all : List Outcome) × IsIntake options now lines all
    × (min (before + batch_weight (rows_read all)) (2 ^ 64 - 1)
    ≡ min (new + batch_weight (rows_read later)) (2 ^ 64 - 1))
weighs_more options now lines rest line after before old new o cut gives weighs weighed later given =
    let zip : IsIntake options now rest (o ∷ later) = subst (λ ls. AllZip (IsOutcome options now) ls (o ∷ later))
    (sym cut) (gives, given) in
    let h = weighed (o ∷ later) zip in (
      h.0,
      h.1,
      h.2
          ∙ ap (λ (r : List Row). min (old + batch_weight r) (2 ^ 64 - 1)) (rows_read-cons o later)
          ∙ ap (λ w. min (old + w) (2 ^ 64 - 1)) (weight-append (rows_read (o ∷ [])) (rows_read later))
          ∙ sum_first old new (batch_weight (rows_read (o ∷ []))) (batch_weight (rows_read later)) weighs,
    )

whole : (weight : ℕ) → weight < 2 ^ 64 → min (weight + 0) (2 ^ 64 - 1) ≡ weight
whole weight fits = omega arith

pub weighs_end : (options : Options) (now : ℤ) (lines rest : List ℕ) (before weight : ℕ) → lines_of rest ≡ []
    → weight < 2 ^ 64
    → ((later : List Outcome) → IsIntake options now rest later
    → (all : List Outcome) × IsIntake options now lines all
    × (min (before + batch_weight (rows_read all)) (2 ^ 64 - 1)
    ≡ min (weight + batch_weight (rows_read later)) (2 ^ 64 - 1)))
    → (outcomes : List Outcome) × IsWeighing options now lines before outcomes weight
weighs_end options now lines rest before weight none fits weighed =
    let h = weighed [] (subst (λ ls. AllZip (IsOutcome options now) ls []) (sym none) tt) in
    (h.0, record { given = h.1; is = sym (h.2 ∙ whole weight fits) })
