-- Lines that are read one after another.
use Rattle.std.proofs.Common.{◌≡◌, ℕ, ℤ, suc, List, [], ◌∷◌, ◌++◌, refl, sym, ap, subst, ◌∙◌, append_assoc}
use Rattle.std.specs.List.{AllZip}
use Rattle.log_model.specs.Line.{lines_of}
use Rattle.ingest_row.specs.Ingest.{Options}
use Rattle.ingest_row.specs.Intake.{Outcome, passed_over, read, refused, IsOutcome, IsIntake, IsTaken, IsTaking}
use Rattle.ingest_row.specs.Intake.{rows_read, refused_from}
use Rattle.ingest_row.specs.declared.body.Intake.{Intake}

pub rows_read-cons : (o : Outcome) (os : List Outcome) → rows_read (o ∷ os) ≡ rows_read (o ∷ []) ++ rows_read os
rows_read-cons passed_over os = refl
rows_read-cons (read row) os = refl
rows_read-cons (refused kind) os = refl

append_nil : {X : Type 0} (xs : List X) → xs ++ [] ≡ xs
append_nil [] = refl
append_nil (x ∷ xs) = ap (λ ys. x ∷ ys) (append_nil xs)

refused_from-cons : (number : ℕ) (o : Outcome) (os : List Outcome)
    → refused_from number (o ∷ os) ≡ refused_from number (o ∷ []) ++ refused_from (suc number) os
refused_from-cons number passed_over os = refl
refused_from-cons number (read row) os = refl
refused_from-cons number (refused kind) os = refl

pub taking_none : (options : Options) (now : ℤ) (body : List ℕ) (intake : Intake)
    → intake.rows ≡ [] → intake.refused ≡ [] → IsTaking options now body body 0 intake
taking_none options now body intake rows faults later all = (later, all, rw rows refl, rw faults refl)

-- the next line gives this outcome
pub taking_more : (options : Options) (now : ℤ) (body rest line after : List ℕ) (number : ℕ) (old new : Intake)
    (o : Outcome)
    → lines_of rest ≡ line ∷ lines_of after → IsOutcome options now line o
    → new.rows ≡ old.rows ++ rows_read (o ∷ [])
    → new.refused ≡ old.refused ++ refused_from (suc number) (o ∷ [])
    → IsTaking options now body rest number old → IsTaking options now body after (suc number) new
taking_more options now body rest line after number old new o cut gives rows faults taking later all =
    let zip : IsIntake options now rest (o ∷ later) = subst (λ ls. AllZip (IsOutcome options now) ls (o ∷ later))
    (sym cut) (gives, all) in
    let h = taking (o ∷ later) zip in (
      h.0,
      h.1,
      h.2 ∙ ap (λ r. old.rows ++ r) (rows_read-cons o later)
          ∙ sym (append_assoc old.rows (rows_read (o ∷ [])) (rows_read later))
          ∙ ap (λ r. r ++ rows_read later) (sym rows),
      h.3 ∙ ap (λ r. old.refused ++ r) (refused_from-cons (suc number) o later)
          ∙ sym (append_assoc old.refused (refused_from (suc number) (o ∷ [])) (refused_from (suc (suc number)) later))
          ∙ ap (λ r. r ++ refused_from (suc (suc number)) later) (sym faults),
    )

pub taken : (options : Options) (now : ℤ) (body rest : List ℕ) (number : ℕ) (intake : Intake)
    → lines_of rest ≡ [] → IsTaking options now body rest number intake
    → (outcomes : List Outcome) × IsTaken options now body outcomes intake
taken options now body rest number intake none taking =
    let h = taking [] (subst (λ ls. AllZip (IsOutcome options now) ls []) (sym none) tt) in (
      h.0,
      record {
        given = h.1;
        rows = sym (h.2 ∙ append_nil intake.rows);
        refused = sym (h.3 ∙ append_nil intake.refused);
      },
    )
