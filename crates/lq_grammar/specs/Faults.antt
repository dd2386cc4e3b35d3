-- How faults are printed.
use Rattle.std.specs.Prelude.{ℕ, List, codes, decimal, ◌++◌}
use Rattle.lq_lex.specs.Faults.{fault_text as lex_text}
use Rattle.lq_grammar.specs.declared.fault.QueryFault.{QueryFault}
use Rattle.lq_grammar.specs.declared.fault.QueryFault.TheVariants.{Lex, Syntax, TooDeep, BadNumber, BadTime}
use Rattle.lq_grammar.specs.declared.fault.QueryFault.TheVariants.{BadDuration, BadPattern, Memory}

abbrev pub fault_text : QueryFault → List ℕ
fault_text (Lex fault) = lex_text fault
fault_text (Syntax at) = codes "Syntax at " ++ decimal at
fault_text (TooDeep at) = codes "TooDeep at " ++ decimal at
fault_text (BadNumber at) = codes "BadNumber at " ++ decimal at
fault_text (BadTime at) = codes "BadTime at " ++ decimal at
fault_text (BadDuration at) = codes "BadDuration at " ++ decimal at
fault_text (BadPattern at) = codes "BadPattern at " ++ decimal at
fault_text Memory = codes "no memory"
