-- The names of refused lines, as a body has them and as the program writes them.
use Rattle.std.proofs.Common.{◌≡◌, ℕ, suc, ◌+◌, ◌<◌, ◌≤◌, ◌^◌, List, [], ◌∷◌, ◌++◌, length, Option, refl, sym, ap}
use Rattle.std.proofs.Common.{subst, ◌∙◌, arith}
use Rattle.std.specs.List.{AllByRecursion, AllZip}
use Rattle.log_model.specs.Line.{lines_of}
use Rattle.log_model.proofs.Lines.{lines_le}
use Rattle.ingest_row.specs.Intake.{Outcome, passed_over, read, refused, refused_from}
use Rattle.ingest_row.specs.declared.body.LineFault.{LineFault}
use Rattle.lone_desk.specs.Seen.{Seen}
use Rattle.vl_pipe.specs.Groups.{Arrival, HasOutcome, names_after, refusal_text, refusals_from}
use Rattle.vl_pipe.specs.Load.{RefusesGroup, StopsGroup}
use Rattle.vl_pipe.specs.declared.interrupt.Interrupt.{Interrupt}
use Rattle.vl_pipe.specs.declared.interrupt.Interrupt.TheVariants.{Unreadable, Unwritable, Beyond, NoAnswer, NoMemory}

-- no number of a line is beyond the lines
numbers_fit : (before number : ℕ) (outcomes : List Outcome) → before + number + length outcomes ≤ 2 ^ 64
    → AllByRecursion (λ (fault : LineFault). before + fault.line < 2 ^ 64) (refused_from number outcomes)
numbers_fit before number [] few = tt
numbers_fit before number (passed_over ∷ os) few = numbers_fit before (suc number) os (omega arith)
numbers_fit before number (read row ∷ os) few = numbers_fit before (suc number) os (omega arith)
numbers_fit before number (refused kind ∷ os) few = (omega arith, numbers_fit before (suc number) os (omega arith))

same_length : (arrival : Arrival) (lines : List (List ℕ)) (outcomes : List Outcome)
    → AllZip (HasOutcome arrival) lines outcomes
    → length outcomes ≡ length lines
same_length arrival [] [] all = refl
same_length arrival [] (o ∷ os) all = absurd all
same_length arrival (line ∷ lines) [] all = absurd all
same_length arrival (line ∷ lines) (o ∷ os) all = ap suc (same_length arrival lines os all.1)

names_from : (before number : ℕ) (outcomes : List Outcome)
    → names_after before (refused_from number outcomes) ≡ refusals_from (before + number) outcomes
names_from before number [] = refl
names_from before number (passed_over ∷ os) = names_from before (suc number) os ∙ ap (λ n. refusals_from n os)
    (omega arith)
names_from before number (read row ∷ os) = names_from before (suc number) os ∙ ap (λ n. refusals_from n os)
    (omega arith)
names_from before number (refused kind ∷ os) =
    ap (λ text. refusal_text (before + number) kind ++ text)
    (names_from before (suc number) os ∙ ap (λ n. refusals_from n os) (omega arith))

-- the numbers of the refused lines of a body
pub numbers : (arrival : Arrival) (body : List ℕ) (before : ℕ) (outcomes : List Outcome) (told : List LineFault)
    → AllZip (HasOutcome arrival) (lines_of body) outcomes → told ≡ refused_from 1 outcomes
    → before + length body < 2 ^ 64
    → AllByRecursion (λ (fault : LineFault). before + fault.line < 2 ^ 64) told
numbers arrival body before outcomes told given are few =
    subst (AllByRecursion (λ (fault : LineFault). before + fault.line < 2 ^ 64)) (sym are)
    (numbers_fit before 1 outcomes
    (omega (arith, same_length arrival (lines_of body) outcomes given, lines_le body)))

-- their names
pub names : (before : ℕ) (outcomes : List Outcome) (told : List LineFault) → told ≡ refused_from 1 outcomes
    → names_after before told ≡ refusals_from (before + 1) outcomes
names before outcomes told are = ap (names_after before) are ∙ names_from before 1 outcomes

-- A group is not loaded, and nothing was named.
pub stops_refused : (arrival : Arrival) (body : List ℕ) (before : ℕ) (old new : Seen) (written : Option (List ℕ))
    (faults_before faults_after : ℕ) (interrupt : Interrupt) → RefusesGroup arrival body old interrupt
    → StopsGroup arrival body before old new (record {
      bytes_before = written;
      bytes_after = written;
      faults_before = faults_before;
      faults_after = faults_after;
    }) interrupt
stops_refused arrival body before old new written b a Unreadable told = absurd told
stops_refused arrival body before old new written b a Unwritable told = absurd told
stops_refused arrival body before old new written b a (Beyond limit) told = (refl, told)
stops_refused arrival body before old new written b a (NoAnswer overflow) told = absurd told
stops_refused arrival body before old new written b a NoMemory told = refl
