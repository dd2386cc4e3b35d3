-- Why regular expressions are refused.
use Rattle.std.specs.Prelude.{List}
use Rattle.std.specs.List.{AllByRecursion}
use Rattle.lq_ast.specs.Patterns.{CanBeRead, Pattern}
use Rattle.lq_plain.specs.declared.fault.PlainFault.{PlainFault}
use Rattle.lq_plain.specs.declared.fault.PlainFault.TheVariants.{Unreadable, Memory}

-- The error is right for these regular expressions: not all of them are valid, or memory ran out.
abbrev pub IsRefusal : List Pattern → PlainFault → Type 0
IsRefusal patterns Unreadable = AllByRecursion CanBeRead patterns → ⊥
IsRefusal patterns Memory = Unit {0}
