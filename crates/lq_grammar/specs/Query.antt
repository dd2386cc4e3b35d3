-- What a text of LogsQL is: a query with what it asks, or its first fault.
use Rattle.std.specs.Prelude.{◌≡◌, ◌<◌, ◌≤◌, ◌⊎◌, ℕ, List, [], ◌∷◌, length, map, Result, Ok, Err, IsUtf8}
use Rattle.grammar.specs.Rule.{Token}
use Rattle.grammar.specs.Spelling.{Flaw, Outcome, Spells, IsStuck, HasFlaw, too_deep, refused}
use Rattle.lq_ast.specs.Question.{Question}
use Rattle.lq_lex.specs.Token.{Token as Piece}
use Rattle.lq_lex.specs.Lexing.{HasLexed, IsTokens}
use Rattle.lq_grammar.specs.declared.fault.QueryFault.{QueryFault}
use Rattle.lq_grammar.specs.declared.fault.QueryFault.TheVariants.{Lex, Syntax, TooDeep, BadNumber, BadTime}
use Rattle.lq_grammar.specs.declared.fault.QueryFault.TheVariants.{BadDuration, BadPattern, Memory}
use Rattle.lq_grammar.specs.Values.{Bytes, Reason, bad_number, bad_time, bad_duration, bad_pattern}
use Rattle.lq_grammar.specs.LogsQL.{query, logsql}
use Rattle.lq_grammar.specs.Items.{item_of}

-- ---- tokens

abbrev pub Items : Type 0
Items = List (Token Bytes)

-- The text is in UTF-8 and in the lexical grammar, and these are its tokens as the grammar sees them.
pub record HasItems (text : Bytes) (items : Items) : Type 0 where
  pub utf8 : IsUtf8 text
  pub tokens : List Piece
  pub are_tokens : IsTokens text tokens
  pub items_are : items ≡ map item_of tokens

-- ---- queries

-- as many parentheses and negations may be open at one place
abbrev pub most_open : ℕ
most_open = 64

-- The tokens spell a query that asks this, or one with this first flaw.
abbrev pub IsQuery : Outcome Reason Question → Items → Type 0
IsQuery = Spells logsql most_open query

-- The text spells a query that asks this.
pub record IsQueryText (text : Bytes) (asked : Question) : Type 0 where
  pub items : Items
  pub has_items : HasItems text items
  pub spelled : IsQuery (Ok asked) items

-- ---- faults

-- where the next token stands, or the text's end
abbrev pub place_or_end : Bytes → Items → ℕ
place_or_end text [] = length text
place_or_end text (t ∷ ts) = t.place

-- Some query begins with the tokens before this place, and none with the one there too, or none ends there. Queries
-- with flaws count here.
pub record IsSyntax (text : Bytes) (items : Items) (at : ℕ) : Type 0 where
  pub rest : Items
  pub stops : IsStuck IsQuery items rest
  pub place_is : at ≡ place_or_end text rest

-- The tokens begin a query up to the item at this place, which has this flaw. What stands after it may be anything.
abbrev pub IsFlawed : Items → Flaw Reason → ℕ → Type 0
IsFlawed items flaw at = HasFlaw logsql most_open query (flaw, at) items

-- The tokens of the text have this fault.
abbrev pub HasFault : Bytes → Items → QueryFault → Type 0
HasFault text items (Lex fault) = ⊥
HasFault text items (Syntax at) = IsSyntax text items at
HasFault text items (TooDeep at) = IsFlawed items too_deep at
HasFault text items (BadNumber at) = IsFlawed items (refused bad_number) at
HasFault text items (BadTime at) = IsFlawed items (refused bad_time) at
HasFault text items (BadDuration at) = IsFlawed items (refused bad_duration) at
HasFault text items (BadPattern at) = IsFlawed items (refused bad_pattern) at
HasFault text items Memory = ⊥

-- the fault that a flaw is
abbrev pub flaw_fault : Flaw Reason → ℕ → QueryFault
flaw_fault too_deep at = TooDeep at
flaw_fault (refused bad_number) at = BadNumber at
flaw_fault (refused bad_time) at = BadTime at
flaw_fault (refused bad_duration) at = BadDuration at
flaw_fault (refused bad_pattern) at = BadPattern at

abbrev pub place_of : QueryFault → ℕ
place_of (Lex fault) = 0
place_of (Syntax at) = at
place_of (TooDeep at) = at
place_of (BadNumber at) = at
place_of (BadTime at) = at
place_of (BadDuration at) = at
place_of (BadPattern at) = at
place_of Memory = 0

-- which of two faults at one place comes first
abbrev pub rank : QueryFault → ℕ
rank (Lex fault) = 1
rank (Syntax at) = 2
rank (TooDeep at) = 3
rank (BadNumber at) = 4
rank (BadTime at) = 5
rank (BadDuration at) = 6
rank (BadPattern at) = 7
rank Memory = 8

-- The first stands to the left of the other, or at one place with it and has no greater rank.
abbrev pub ComesFirst : QueryFault → QueryFault → Type 0
ComesFirst fault other =
    (place_of fault < place_of other) ⊎ ((place_of fault ≡ place_of other) × (rank fault ≤ rank other))

-- The tokens have this fault, and it comes first of those that they have.
pub record IsFirstFault (text : Bytes) (items : Items) (fault : QueryFault) : Type 0 where
  pub has_fault : HasFault text items fault
  pub is_first : (other : QueryFault) → HasFault text items other → ComesFirst fault other

-- The text spells a query that asks this, or has this first fault. One without tokens is refused for that. No text has
-- two outcomes.
unfoldable pub QueryOf : Bytes → Result Question QueryFault → Type 0
QueryOf text (Ok asked) = IsQueryText text asked
QueryOf text (Err (Lex fault)) = HasLexed text (Err fault)
QueryOf text (Err fault) = (items : Items) × HasItems text items × IsFirstFault text items fault
