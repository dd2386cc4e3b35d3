-- The faults of pipes.
use Rattle.std.specs.Prelude.{◌≡◌, ℕ, List, flat_map, Result, Err}
use Rattle.std.specs.List.{AllByRecursion}
use Rattle.lq_ast.specs.Patterns.{CanBeRead, Pattern, patterns_of_stage}
use Rattle.lq_ast.specs.Pipes.{all_piped}
use Rattle.lq_ast.specs.Records.{Record}
use Rattle.lq_ast.specs.Stage.{Stage}
use Rattle.lq_filter.specs.Refusal.{IsRefusal}
use Rattle.lq_filter.specs.declared.fault.PrepareFault.{PrepareFault}
use Rattle.lq_filter.specs.declared.fault.PrepareFault.TheVariants as prepare
use Rattle.lq_pipes.specs.declared.fault.PipeFault.{PipeFault}
use Rattle.lq_pipes.specs.declared.fault.PipeFault.TheVariants.{RegexRefused, Overflow, Memory}
use Rattle.lq_stats.specs.declared.fault.StatFault.{StatFault}
use Rattle.lq_stats.specs.declared.fault.StatFault.TheVariants as stat
use Rattle.row_pipes.specs.declared.fault.MakeFault.{MakeFault}
use Rattle.row_pipes.specs.declared.fault.MakeFault.TheVariants as make

abbrev pub of_statistics : StatFault → PipeFault
of_statistics (stat.Overflow name) = Overflow name
of_statistics stat.Memory = Memory

abbrev pub of_making : MakeFault → PipeFault
of_making (make.Overflow name) = Overflow name
of_making make.Memory = Memory

abbrev pub of_preparing : PrepareFault → PipeFault
of_preparing (prepare.RegexRefused nth) = RegexRefused nth
of_preparing prepare.Memory = Memory

-- What is refused is the first of these patterns that cannot be read. An overflow is none of reading them.
abbrev pub IsRefused : List Pattern → PipeFault → Type 0
IsRefused patterns (RegexRefused nth) = IsRefusal 0 patterns (prepare.RegexRefused nth)
IsRefused patterns (Overflow name) = ⊥
IsRefused patterns Memory = Unit {0}

-- The fault is one of making these records.
abbrev pub IsMadeFault : Result (List Record) (List ℕ) → PipeFault → Type 0
IsMadeFault made (RegexRefused nth) = ⊥
IsMadeFault made (Overflow name) = made ≡ Err name
IsMadeFault made Memory = Unit {0}

-- The first pattern is refused that cannot be read. All can be read where a total of `stats` or a number of `math`
-- overflows: the first one of these pipes over these records.
abbrev pub IsPipeFault : List Stage → List Record → PipeFault → Type 0
IsPipeFault stages records (RegexRefused nth) = IsRefused (flat_map patterns_of_stage stages) (RegexRefused nth)
IsPipeFault stages records (Overflow name) =
    AllByRecursion CanBeRead (flat_map patterns_of_stage stages) × (all_piped stages records ≡ Err name)
IsPipeFault stages records Memory = Unit {0}
