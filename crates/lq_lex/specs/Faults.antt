-- How errors are printed.
use Rattle.std.specs.Prelude.{ℕ, List, codes, decimal, ◌++◌}
use Rattle.lq_lex.specs.declared.fault.LexFault.{LexFault}
use Rattle.lq_lex.specs.declared.fault.LexFault.TheVariants.{TooLong, OpenQuote, BadEscape, BadChar, Memory}

abbrev pub fault_text : LexFault → List ℕ
fault_text TooLong = codes "TooLong"
fault_text (OpenQuote at) = codes "OpenQuote at " ++ decimal at
fault_text (BadEscape at) = codes "BadEscape at " ++ decimal at
fault_text (BadChar at) = codes "BadChar at " ++ decimal at
fault_text Memory = codes "no memory"
