-- Which queries are asked.
use Rattle.std.proofs.Common.{◌≡◌, ◌≢◌, inl, inr, ℕ, zero, suc, List, [], ◌∷◌, ◌++◌, flat_map, Result, Ok, Err, refl}
use Rattle.std.proofs.Common.{subst, sym}
use Rattle.std.specs.Prelude.{slice_get, IsSomeAnd}
use Rattle.std.specs.List.{AllByRecursion}
use Rattle.lq_ast.specs.Question.{Question}
use Rattle.lq_ast.specs.Patterns.{CanBeRead, Pattern, all_patterns, patterns_of, patterns_of_stage}
use Rattle.lq_filter.specs.Refusal.{IsRefusal}
use Rattle.lq_filter.specs.declared.fault.PrepareFault.{PrepareFault}
use Rattle.lq_filter.specs.declared.fault.PrepareFault.TheVariants as refusals
use Rattle.lq_parse.specs.Query.{IsQueryText}
use Rattle.lq_parse.specs.QueryFault.{QueryFault}
use Rattle.lq_parse.specs.QueryFault.TheVariants.{Lex, Syntax, TooDeep, BadNumber, BadTime, BadDuration}
use Rattle.lq_parse.specs.QueryFault.TheVariants.{BadPattern}
use Rattle.lq_parse.specs.QueryFault.TheVariants.{Memory}
use Rattle.query_run.specs.Asked.{IsNoReadableQuery, refused_by, refused_pattern}
use Rattle.query_run.specs.declared.query.QueryRefusal.TheVariants as outcomes

abbrev IsOk : {A E : Type 0} → Result A E → Type 0
IsOk (Ok x) = Unit {0}
IsOk (Err e) = ⊥

abbrev IsFault : {A E : Type 0} → (E → Type 0) → Result A E → Type 0
IsFault P (Ok x) = Unit {0}
IsFault P (Err e) = P e

abbrev IsOther : QueryFault → Type 0
IsOther (Lex fault) = Unit {0}
IsOther (Syntax at) = Unit {0}
IsOther (TooDeep at) = Unit {0}
IsOther (BadNumber at) = Unit {0}
IsOther (BadTime at) = Unit {0}
IsOther (BadDuration at) = Unit {0}
IsOther (BadPattern at) = Unit {0}
IsOther Memory = ⊥

abbrev failed : (Q : Type 0) → QueryFault → Result Q QueryFault
failed Q fault = Err fault

abbrev made : (Q : Type 0) → Q → Result Q QueryFault
made Q query = Ok query

-- what an answer is of a text that spells a query that asks this
abbrev FindsQuery : (Q : Type 0) → Question → QueryFault → Type 0
FindsQuery Q c fault = (failed Q fault ≢ failed Q Memory) → failed Question fault ≡ made Question c

other_fault : (Q : Type 0) (c : Question) (fault : QueryFault) → IsOther fault → FindsQuery Q c fault → ⊥
other_fault Q c fault other finds =
    subst IsOk (sym (finds (λ same. subst (IsFault IsOther) same other))) tt

-- A text that spells a query has no fault but out of memory.
pub only_memory : (Q : Type 0) (c : Question) (fault : QueryFault) → FindsQuery Q c fault
    → refused_by fault ≡ outcomes.Memory
only_memory Q c (Lex fault) finds = absurd (other_fault Q c (Lex fault) tt finds)
only_memory Q c (Syntax at) finds = absurd (other_fault Q c (Syntax at) tt finds)
only_memory Q c (TooDeep at) finds = absurd (other_fault Q c (TooDeep at) tt finds)
only_memory Q c (BadNumber at) finds = absurd (other_fault Q c (BadNumber at) tt finds)
only_memory Q c (BadTime at) finds = absurd (other_fault Q c (BadTime at) tt finds)
only_memory Q c (BadDuration at) finds = absurd (other_fault Q c (BadDuration at) tt finds)
only_memory Q c (BadPattern at) finds = absurd (other_fault Q c (BadPattern at) tt finds)
only_memory Q c Memory finds = refl

-- The query that was read is the one that the text spells.
pub same_query : (Q : Type 0) (query : Q) (c other : Question)
    → ((made Q query ≢ failed Q Memory) → made Question c ≡ made Question other) → c ≡ other
same_query Q query c other finds =
    let same : made Question c ≡ made Question other = finds (λ bad. subst IsOk bad tt) in cc

all_but_one : (patterns : List Pattern) (n : ℕ) → AllByRecursion CanBeRead patterns
    → IsSomeAnd (slice_get patterns n) (λ pattern. CanBeRead pattern → ⊥) → ⊥
all_but_one [] n all one = one
all_but_one (p ∷ ps) zero all one = one all.0
all_but_one (p ∷ ps) (suc n) all one = all_but_one ps n all.1 one

-- Where all patterns can be read, none is refused.
pub only_memory_of : (patterns : List Pattern) → AllByRecursion CanBeRead patterns → (fault : PrepareFault)
    → IsRefusal 0 patterns fault → refused_pattern fault ≡ outcomes.Memory
only_memory_of patterns all (refusals.RegexRefused nth) refusal = absurd (all_but_one patterns _ all refusal.1.1)
only_memory_of patterns all refusals.Memory refusal = refl

-- What a prepared query was read from is a query whose patterns can all be read.
pub not_asked : (text : List ℕ) (c : Question) → IsQueryText text c
    → ((other : Question) → IsQueryText text other → c ≡ other) → AllByRecursion CanBeRead (all_patterns c)
    → IsNoReadableQuery text → ⊥
not_asked text c spelled only all (inl none) = none c spelled
not_asked text c spelled only all (inr (other, other_spelled, bad)) =
    bad (subst (λ c. AllByRecursion CanBeRead (all_patterns c)) (only other other_spelled) all)

all-behind : (xs ys : List Pattern) → AllByRecursion CanBeRead (xs ++ ys) → AllByRecursion CanBeRead ys
all-behind [] ys all = all
all-behind (x ∷ xs) ys all = all-behind xs ys all.1

-- Where all patterns of a query can be read, those of its pipes can.
pub readable_pipes : (asked : Question) → AllByRecursion CanBeRead (all_patterns asked)
    → AllByRecursion CanBeRead (flat_map patterns_of_stage asked.stages)
readable_pipes asked all = all-behind (patterns_of asked.condition) (flat_map patterns_of_stage asked.stages) all
