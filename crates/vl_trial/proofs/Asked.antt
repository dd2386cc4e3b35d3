-- That the queries of a trial have records.
use Rattle.std.proofs.Common.{◌≡◌, ℕ, pos, ◌≤◌, List, [], Ok, Err, ap, subst, sym, ◌∙◌}
use Rattle.std.specs.Prelude.{IfOk, Result}
use Rattle.std.specs.List.{AllByRecursion}
use Rattle.log_model.specs.History.{History, rows_of}
use Rattle.lq_ast.specs.Evaluation.{evaluate}
use Rattle.lq_ast.specs.Patterns.{CanBeRead, all_patterns}
use Rattle.lq_ast.specs.Question.{Question}
use Rattle.lq_grammar.specs.Query.{IsQueryText}
use Rattle.vl_trial.specs.Safety.{AlwaysEvaluates}
use Rattle.vl_trial.specs.Trial.{trial_rows}
use Rattle.lone_desk.specs.Answer.{HasRecords}

pub has_records : (text : List ℕ) (asked : Question) (now seed rows : ℕ) (history : History) → IsQueryText text asked
    → all_patterns asked ≡ [] → AlwaysEvaluates asked → rows ≤ 1_000_000 → rows_of history ≡ trial_rows seed rows
    → HasRecords text now history
has_records text asked now seed rows history spelled none always few are =
    let found = always (pos now) seed rows few in (
      found.0,
      record {
        query = asked;
        spelled = spelled;
        readable = subst (AllByRecursion CanBeRead) (sym none) tt;
        facts = ap (evaluate asked (pos now)) are ∙ found.1;
      },
    )

-- what is so of a value is so of what it becomes
pub if_ok : {T E : Type 0} (result : Result T E) (Q P : T → Type 0) → IfOk result Q → ((x : T) → Q x → P x)
    → IfOk result P
if_ok (Ok x) Q P is f = f x is
if_ok (Err e) Q P is f = tt
