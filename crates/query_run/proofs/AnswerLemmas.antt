-- The rows of a look that match, and what the pipes make of them.
use Rattle.std.proofs.Common.{◌≡◌, ℕ, ℤ, suc, ◌<◌, List, [], ◌∷◌, ◌++◌, map, flat_map, length, arith, refl, sym, ap, ◌∙◌}
use Rattle.std.proofs.Common.{Bool, true, false, cond}
use Rattle.std.proofs.lemmas.Grind.{flat_map-append}
use Rattle.std.specs.Prelude.{Result, Ok, Err, IfOk, IfErr, IsErrAnd}
use denote.Ref.{Bor}
use Rattle.std.proofs.lemmas.Bool.{le-ltb, lt-ltb}
use Rattle.std.proofs.lemmas.List.{append_assoc, length-map, map-append}
use Rattle.std.specs.List.{AllByRecursion}
use Rattle.log_model.specs.Core.{Contents, Stands, parts_of}
use Rattle.log_model.specs.History.{History, Numbered, entry_rows, numbered, numbered_after, numbered_in, rows_in, rows_of}
use Rattle.log_model.specs.Row.{Row, record_of}
use Rattle.log_model.proofs.Joining.{numbered_rising, parts_joined}
use Rattle.log_model.proofs.Numbering.{rows_in_numbered}
use Rattle.lq_ast.specs.Condition.{Condition}
use Rattle.lq_ast.specs.Evaluation.{evaluate, piped_outcome, records, row_limit, rows_that_hold}
use Rattle.lq_ast.specs.Patterns.{CanBeRead, all_patterns}
use Rattle.lq_ast.specs.Pipes.{all_piped}
use Rattle.lq_ast.specs.Question.{Question}
use Rattle.lq_ast.specs.Records.{Record}
use Rattle.matching_rows.specs.Matches.{FailsFor as FailsToMatch, HaveMatches, matches_in, rows_of_all}
use Rattle.matching_rows.specs.declared.fault.MatchFault.{MatchFault}
use Rattle.matching_rows.specs.declared.fault.MatchFault.TheVariants as matching
use Rattle.lq_prune.specs.Need.{need_of}
use Rattle.lq_prune.specs.Pruning.{IsTextBlock, MissesNoneOfAll}
use Rattle.part_model.specs.Filling.{blocks_of, filled_from, has_room}
use Rattle.query_run.specs.Opened.{admitted_by}
use Rattle.query_run.specs.Answer.{FailsMatching, FailsOver, FailsPiped, FailsRun, IsAnswerOver, PrintsPiped}
use Rattle.query_run.specs.Answer.{gathering_fault, searching_fault}
use Rattle.query_run.specs.declared.fault.SearchFault.{SearchFault}
use Rattle.query_run.specs.declared.fault.SearchFault.TheVariants.{ManyRows, Overflow, Memory}

-- ---- the rows of a look

rows_after : (count : ℕ) (history : History) → rows_in (numbered_after count history) ≡ rows_of history
rows_after count [] = refl
rows_after count (entry ∷ entries) =
    map-append (λ (row : Numbered). row.row) (numbered_in (suc count) (entry_rows entry))
    (numbered_after (suc count) entries)
    ∙ ap (λ rows. rows ++ rows_in (numbered_after (suc count) entries))
    (rows_in_numbered (suc count) 0 (entry_rows entry))
    ∙ ap (λ rows. entry_rows entry ++ rows) (rows_after (suc count) entries)

-- The numbered rows of a history are its rows.
pub rows_numbered : (history : History) → rows_in (numbered history) ≡ rows_of history
rows_numbered history = rows_after 0 history

filled_rows : (block rows : List Numbered) → rows_of_all (filled_from block rows) ≡ block ++ rows
filled_rows block [] = refl
filled_rows block (row ∷ rows) = go (has_room block row) (λ block. filled_rows block rows)
  where
    go : (room : Bool) → ((block : List Numbered) → rows_of_all (filled_from block rows) ≡ block ++ rows)
        → rows_of_all (cond room (filled_from (block ++ row ∷ []) rows) (block ∷ filled_from (row ∷ []) rows))
        ≡ block ++ row ∷ rows
    go true filled = filled (block ++ row ∷ []) ∙ append_assoc block (row ∷ []) rows
    go false filled = ap (λ l. block ++ l) (filled (row ∷ []))

part_rows : (part : List Numbered) → rows_of_all (blocks_of part) ≡ part
part_rows [] = refl
part_rows (row ∷ rows) = filled_rows (row ∷ []) rows

-- The blocks have the rows of the parts.
blocks_rows : (parts : List (List Numbered)) → rows_of_all (flat_map blocks_of parts) ≡ flat_map (λ rows. rows) parts
blocks_rows [] = refl
blocks_rows (part ∷ parts) =
    flat_map-append (λ rows. rows) (blocks_of part) (flat_map blocks_of parts)
    ∙ ap (λ l. l ++ rows_of_all (flat_map blocks_of parts)) (part_rows part)
    ∙ ap (λ l. part ++ l) (blocks_rows parts)

-- The admitted blocks of a look have all rows that match.
pub have_matches : (condition : Condition) (now : ℤ) (opened : List (List Numbered))
    (held : Contents (List Numbered)) (history : History)
    → opened ≡ admitted_by (need_of now condition) (flat_map blocks_of (parts_of held))
    → AllByRecursion IsTextBlock (flat_map blocks_of (parts_of held)) → MissesNoneOfAll now condition
    → Stands (λ rows. rows) held history → HaveMatches condition now opened (numbered history)
have_matches condition now opened held history are texts misses stands = record {
  rows = flat_map (λ rows. rows) (parts_of held);
  same = parts_joined (λ rows. rows) held history stands;
  rising = numbered_rising history;
  matches = ap (λ blocks. matches_in condition now (rows_of_all blocks)) are
      ∙ misses (flat_map blocks_of (parts_of held)) texts
      ∙ ap (matches_in condition now) (blocks_rows (parts_of held));
}

-- why they are not gathered
pub fails_gathered : (condition : Condition) (now : ℤ) (history : History) (fault : MatchFault)
    → FailsToMatch (length (rows_that_hold condition now (rows_in (numbered history)))) fault
    → FailsMatching (rows_that_hold condition now (rows_of history)) (gathering_fault fault)
fails_gathered condition now history matching.ManyRows many =
    let same = ap (λ rows. length (rows_that_hold condition now rows)) (rows_numbered history) in
    omega (arith, many, same)
fails_gathered condition now history matching.Memory h = tt

-- ---- results

pub ok_so : {T E : Type 0} (result : Result T E) (P Q : T → Type 0) → IfOk result P → ((x : T) → P x → Q x)
    → IfOk result Q
ok_so (Ok x) P Q h f = f x h
ok_so (Err e) P Q h f = tt

pub err_so : {T E : Type 0} (result : Result T E) (P Q : E → Type 0) → IfErr result P → ((e : E) → P e → Q e)
    → IfErr result Q
err_so (Ok x) P Q h f = tt
err_so (Err e) P Q h f = f e h

-- what holds anyway
pub any_ok : {T E : Type 0} (result : Result T E) (P : Type 0) → P → IfOk result (λ _. P)
any_ok (Ok x) P h = h
any_ok (Err e) P h = tt

pub any_err : {T E : Type 0} (result : Result T E) (P : E → Type 0) → ((e : E) → P e) → IfErr result P
any_err (Ok x) P f = tt
any_err (Err e) P f = f e

-- what holds of an error holds of what it became
pub if_err : {T E : Type 0} (result : Result T E) (Q P : E → Type 0) → IsErrAnd result Q → ((e : E) → Q e → P e)
    → IfErr result P
if_err (Ok x) Q P is f = tt
if_err (Err e) Q P is f = f e is

map_twice : {X Y Z : Type 0} (g : Y → Z) (f : X → Y) (xs : List X) → map g (map f xs) ≡ map (λ x. g (f x)) xs
map_twice g f [] = refl
map_twice g f (x ∷ xs) = ap (λ ys. g (f x) ∷ ys) (map_twice g f xs)

-- the records of rows that are lent
pub lent_records : {R : Type 0} (row_of : R → Row) (lent : List (Bor R)) (rows : List R) (held : List Row)
    → map (λ row. row.now) lent ≡ rows → map row_of rows ≡ held
    → map (λ row. record_of (row_of row.now)) lent ≡ map record_of held
lent_records row_of lent rows held are same =
    sym (map_twice (λ row. record_of (row_of row)) (λ row. row.now) lent)
    ∙ ap (map (λ row. record_of (row_of row))) are
    ∙ sym (map_twice record_of row_of rows)
    ∙ ap (map record_of) same

-- ---- answers

module _ (query : Question) (now : ℤ) (seen : List Row) where
  -- there are too many rows, or memory ran out
  pub fails-gathering : (fault : SearchFault) → FailsMatching (rows_that_hold query.condition now seen) fault
      → FailsOver query now seen fault
  fails-gathering ManyRows h =
      rw (le-ltb (length (rows_that_hold query.condition now seen)) row_limit h) refl
  fails-gathering (Overflow name) h = absurd h
  fails-gathering Memory h = tt

  module _ (found : List Record) (held : found ≡ map record_of (rows_that_hold query.condition now seen))
      (few : length found < row_limit) where
    all_piped_of : evaluate query now seen ≡ piped_outcome (all_piped query.stages found)
    all_piped_of =
        let held_few : length (rows_that_hold query.condition now seen) < row_limit =
        omega (arith, few, ap length held, length-map (rows_that_hold query.condition now seen) record_of) in
        rw (lt-ltb (length (rows_that_hold query.condition now seen)) row_limit held_few)
        (ap (λ rs. piped_outcome (all_piped query.stages rs)) (sym held))

    pub answers : (text : List ℕ) → PrintsPiped query.stages found text → IsAnswerOver query now seen text
    answers text (made, are, printed) =
        record { found = made; evaluated = all_piped_of ∙ ap piped_outcome are; printed = printed }

    pub finds : (made : List Record) → all_piped query.stages found ≡ Ok made
        → evaluate query now seen ≡ records made
    finds made are = all_piped_of ∙ ap piped_outcome are

    pub fails : (fault : SearchFault) → FailsPiped query.stages found fault → FailsOver query now seen fault
    fails ManyRows h = absurd h
    fails (Overflow name) h = all_piped_of ∙ ap piped_outcome h
    fails Memory h = tt

  -- what stops a search stops its query
  pub fails_query : AllByRecursion CanBeRead (all_patterns query) → (fault : SearchFault)
      → FailsOver query now seen fault → FailsRun query now seen (searching_fault fault)
  fails_query readable ManyRows h = (readable, h)
  fails_query readable (Overflow name) h = (readable, h)
  fails_query readable Memory h = tt
