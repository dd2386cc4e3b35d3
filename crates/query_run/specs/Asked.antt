-- Which texts are asked, and which are refused and why.
use Rattle.std.specs.Prelude.{◌⊎◌, ℕ, List, Err}
use Rattle.std.specs.List.{AllByRecursion}
use Rattle.lq_ast.specs.Patterns.{CanBeRead, all_patterns}
use Rattle.lq_ast.specs.Question.{Question}
use Rattle.lq_filter.specs.Refusal.{IsFirstUnreadable}
use Rattle.lq_filter.specs.declared.fault.PrepareFault.{PrepareFault}
use Rattle.lq_filter.specs.declared.fault.PrepareFault.TheVariants as preparing
use Rattle.lq_parse.specs.Query.{IsQueryText, QueryOf}
use Rattle.lq_parse.specs.QueryFault.{QueryFault}
use Rattle.lq_parse.specs.QueryFault.TheVariants as faults
use Rattle.query_run.specs.declared.query.QueryRefusal.{QueryRefusal}
use Rattle.query_run.specs.declared.query.QueryRefusal.TheVariants.{Unspelled, Pattern, Memory}

-- ---- texts

-- the text spells a query whose patterns can all be read
abbrev pub IsReadableQuery : List ℕ → Type 0
IsReadableQuery text = (query : Question) × IsQueryText text query × AllByRecursion CanBeRead (all_patterns query)

-- The text spells a query whose patterns can all be read, and of it this holds.
pub record ForReadableQuery (text : List ℕ) (holds : Question → Type 0) : Type 0 where
  pub query : Question
  pub spelled : IsQueryText text query
  pub readable : AllByRecursion CanBeRead (all_patterns query)
  pub facts : holds query

-- the text spells no query, or one whose patterns cannot all be read
abbrev pub IsNoReadableQuery : List ℕ → Type 0
IsNoReadableQuery text =
    ((query : Question) → IsQueryText text query → ⊥)
    ⊎ ((query : Question) × IsQueryText text query × (AllByRecursion CanBeRead (all_patterns query) → ⊥))

-- the text spells no query, and this is its one first fault
abbrev pub IsUnspelled : List ℕ → QueryFault → Type 0
IsUnspelled text fault = QueryOf text (Err fault)

-- The text spells a query whose regular expression with this number, counted from 0 in the order of the text, is the
-- first that cannot be read.
abbrev pub HasUnreadablePattern : List ℕ → ℕ → Type 0
HasUnreadablePattern text nth =
    (query : Question) × IsQueryText text query × IsFirstUnreadable (all_patterns query) nth

-- why the text is refused; `Memory` may always be returned
abbrev pub Refuses : List ℕ → QueryRefusal → Type 0
Refuses text (Unspelled fault) = IsUnspelled text fault
Refuses text (Pattern nth) = HasUnreadablePattern text nth
Refuses text Memory = Unit {0}

-- ---- refusals

-- the refusal that a fault of reading is
abbrev pub refused_by : QueryFault → QueryRefusal
refused_by (faults.Lex fault) = Unspelled (faults.Lex fault)
refused_by (faults.Syntax at) = Unspelled (faults.Syntax at)
refused_by (faults.TooDeep at) = Unspelled (faults.TooDeep at)
refused_by (faults.BadNumber at) = Unspelled (faults.BadNumber at)
refused_by (faults.BadTime at) = Unspelled (faults.BadTime at)
refused_by (faults.BadDuration at) = Unspelled (faults.BadDuration at)
refused_by (faults.BadPattern at) = Unspelled (faults.BadPattern at)
refused_by faults.Memory = Memory

-- the refusal that a fault of preparing is
abbrev pub refused_pattern : PrepareFault → QueryRefusal
refused_pattern (preparing.RegexRefused nth) = Pattern nth
refused_pattern preparing.Memory = Memory
