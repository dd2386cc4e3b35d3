-- What the functions answer, in the words of the grammar's reader.
use Rattle.std.specs.Prelude.{◌≡◌, ℕ, true, false, ◌&&◌, List, [], ◌∷◌, drop, Result, Ok, Err, Option, Some, None}
use denote.Ref.{Bor}
use Rattle.grammar.specs.Rule.{Token, Class, has, next}
use Rattle.grammar.specs.Spelling.{too_deep, refused}
use Rattle.grammar.specs.Reading.{Stop, stuck, flawed, Answer, read_name, read_at, items_at}
use Rattle.lq_grammar.specs.declared.role.Role.TheVariants.{Colon}
use Rattle.lq_grammar.specs.Roles.{any}
use Rattle.lq_grammar.specs.Values.{Bytes, Reason, bad_number, bad_time, bad_duration, bad_pattern}
use Rattle.lq_grammar.specs.LogsQL.{Parse, Name, Value, heads, rules, logsql}
use Rattle.lq_grammar.specs.declared.fault.Stop.{Stop as Halt}
use Rattle.lq_grammar.specs.declared.fault.Stop.TheVariants.{Stuck, TooDeep, BadNumber, BadTime, BadDuration, BadPattern}
use Rattle.lq_grammar.specs.declared.fault.Stop.TheVariants.{Memory}
use Rattle.lq_lex.specs.declared.fault.LexFault.{LexFault}
use Rattle.lq_lex.specs.declared.fault.LexFault.TheVariants.{Memory as LexMemory}
use Rattle.lq_grammar.specs.declared.fault.QueryFault.{QueryFault}
use Rattle.lq_grammar.specs.declared.fault.QueryFault.TheVariants.{Lex, Memory as QueryMemory}

-- The reader stops where reading does, unless memory ran out.
abbrev pub Fails : {Y : Type 0} → Halt → Result Y (Stop Reason) → Type 0
Fails (Stuck left) r = r ≡ Err (stuck left)
Fails (TooDeep at) r = r ≡ Err (flawed too_deep at)
Fails (BadNumber at) r = r ≡ Err (flawed (refused bad_number) at)
Fails (BadTime at) r = r ≡ Err (flawed (refused bad_time) at)
Fails (BadDuration at) r = r ≡ Err (flawed (refused bad_duration) at)
Fails (BadPattern at) r = r ≡ Err (flawed (refused bad_pattern) at)
Fails Memory r = Unit {0}

-- What was returned, seen by view, is what reading gives, unless memory ran out.
abbrev pub Gives : {X Y : Type 0} → (X → Y) → Result X Halt → Result Y (Stop Reason) → Type 0
Gives view (Ok x) r = r ≡ Ok (view x)
Gives view (Err halt) r = Fails halt r

-- what the rule reads, where this many may be open
abbrev pub at : {A : Type 0} → ℕ → Parse A → List (Token Bytes) → Answer Bytes Reason A
at depth rule u = read_at logsql depth rule u

-- what a name reads
abbrev pub name_at : ℕ → Name → List (Token Bytes) → Answer Bytes Reason Value
name_at depth n u = read_name heads rules depth n u

-- as long as the rule goes on
abbrev pub all_at : {A : Type 0} → ℕ → Parse A → List (Token Bytes) → Answer Bytes Reason (List A)
all_at depth rule u = items_at logsql depth rule u

-- what follows a token of the class, if one stands at the front
abbrev pub Takes : Class → List (Token Bytes) → Option (Bor (List (Token Bytes))) → Type 0
Takes class u None = next class u ≡ false
Takes class u (Some rest) = (t : Token Bytes) × (u ≡ t ∷ rest.now) × (has class t ≡ true)

-- the text of that token, too
abbrev pub TakesText : Class → List (Token Bytes) → Option (Bor Bytes × Bor (List (Token Bytes))) → Type 0
TakesText class u None = next class u ≡ false
TakesText class u (Some x) = (t : Token Bytes) × (u ≡ t ∷ x.1.now) × (has class t ≡ true) × (x.0.now ≡ t.content)

-- the text of that token, where a colon stands after it, and what follows the colon
abbrev pub TakesName : Class → List (Token Bytes) → Option (Bor Bytes × Bor (List (Token Bytes))) → Type 0
TakesName class u None = (next class u && next (any (Colon ∷ [])) (drop 1 u)) ≡ false
TakesName class u (Some x) =
    (t : Token Bytes) × (c : Token Bytes) × (u ≡ t ∷ c ∷ x.1.now) × (has class t ≡ true)
    × (has (any (Colon ∷ [])) c ≡ true) × (x.0.now ≡ t.content)

-- what becomes of a fault of a text's tokens
abbrev pub lex_fault : LexFault → QueryFault
lex_fault LexMemory = QueryMemory
lex_fault fault = Lex fault
