-- The faults of pipes, by those of what they call.
use Rattle.std.proofs.Common.{◌≡◌, ◌∙◌, ℕ, List, flat_map, subst, sym}
use Rattle.std.specs.Prelude.{Err, IfErr, IsErrAnd, Ok, Result}
use Rattle.std.specs.List.{AllByRecursion}
use Rattle.lq_ast.specs.Patterns.{CanBeRead, Pattern, patterns_of_stage}
use Rattle.lq_ast.specs.Pipes.{all_piped}
use Rattle.lq_ast.specs.Records.{Record}
use Rattle.lq_ast.specs.Stage.{Stage}
use Rattle.lq_filter.specs.Refusal.{IsRefusal}
use Rattle.lq_filter.specs.declared.fault.PrepareFault.{PrepareFault}
use Rattle.lq_filter.specs.declared.fault.PrepareFault.TheVariants as prepare
use Rattle.lq_pipes.specs.Faults.{IsMadeFault, IsPipeFault, IsRefused, of_preparing, of_statistics}
use Rattle.lq_pipes.specs.Passing.{Passes}
use Rattle.lq_pipes.specs.declared.fault.PipeFault.{PipeFault}
use Rattle.lq_pipes.specs.declared.fault.PipeFault.TheVariants as pipe
use Rattle.lq_stats.specs.Finish.{IsFault}
use Rattle.lq_stats.specs.declared.fault.StatFault.{StatFault}
use Rattle.lq_stats.specs.declared.fault.StatFault.TheVariants as stat

pub refused_as : (patterns : List Pattern) (fault : PrepareFault) → IsRefusal 0 patterns fault
    → IsRefused patterns (of_preparing fault)
refused_as patterns (prepare.RegexRefused nth) h = h
refused_as patterns prepare.Memory h = tt

pub made_fault : (made : Result (List Record) (List ℕ)) (fault : StatFault) → IsFault made fault
    → IsMadeFault made (of_statistics fault)
made_fault made (stat.Overflow name) h = h
made_fault made stat.Memory h = tt

-- what holds of the fault that a `?` hands on
pub handed_on : {A E : Type 0} (r : Result A E) (P : E → Type 0) (fault : E) → IsErrAnd r (λ e. e ≡ fault) → P fault
    → IfErr r P
handed_on (Ok x) P fault h p = tt
handed_on (Err e) P fault h p = rw h p

-- A fault of the pipes that are left, whose patterns can all be read, is one of all pipes.
pub pipe_fault : {T : Type 0} (result : Result T PipeFault) (stages left : List Stage) (old new : List Record)
    → Passes stages left old new → AllByRecursion CanBeRead (flat_map patterns_of_stage left)
    → IfErr result (IsMadeFault (all_piped left new)) → IfErr result (IsPipeFault stages old)
pipe_fault (Ok made) stages left old new passes readable h = tt
pipe_fault (Err (pipe.RegexRefused nth)) stages left old new passes readable h = absurd h
pipe_fault (Err (pipe.Overflow name)) stages left old new passes readable h =
    (subst (AllByRecursion CanBeRead) passes.patterns readable, sym passes.same ∙ h)
pipe_fault (Err pipe.Memory) stages left old new passes readable h = tt
