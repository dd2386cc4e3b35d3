-- Grammars as data: token classes, and rules with the values of the texts that they spell.
use Rattle.std.specs.Prelude.{ℕ, Bool, false, ◌||◌, ◌==◌, List, [], ◌∷◌, Result}

-- ---- tokens

-- A token: the number of its kind, its place in the text, and the content that values are made of.
pub record Token (X : Type 0) : Type 0 where
  pub kind : ℕ
  pub place : ℕ
  pub content : X

-- a token class: the kinds of its tokens
abbrev pub Class : Type 0
Class = List ℕ

abbrev pub member : ℕ → Class → Bool
member kind [] = false
member kind (k ∷ ks) = (k == kind) || member kind ks

abbrev pub has : {X : Type 0} → Class → Token X → Bool
has class t = member t.kind class

-- whether the next token is in the class
abbrev pub next : {X : Type 0} → Class → List (Token X) → Bool
next class [] = false
next class (t ∷ ts) = has class t

-- ---- rules

-- A rule, with the value of each text that it spells. X is the content of tokens, F the reason why a value is refused,
-- N the names of recursive rules, and V their values.
pub data Rule (X F N V : Type 0) : Type 0 → Type 1 where
  -- the empty text
  empty : {A : Type 0} → A → Rule X F N V A
  -- one token of the class
  one : {A : Type 0} → Class → (Token X → A) → Rule X F N V A
  -- the empty text, if the next token is not in the class
  unless : {A : Type 0} → Class → A → Rule X F N V A
  -- one rule and then another
  both : {A B C : Type 0} → (A → B → C) → Rule X F N V A → Rule X F N V B → Rule X F N V C
  either : {A : Type 0} → Rule X F N V A → Rule X F N V A → Rule X F N V A
  -- a rule zero or more times
  many : {A B : Type 0} → (List A → B) → Rule X F N V A → Rule X F N V B
  -- an item whose value can be refused
  checked : {A B : Type 0} → (A → Result B F) → Rule X F N V A → Rule X F N V B
  -- a token that opens the name, and then the name's rule, one level deeper
  deeper : {A : Type 0} → N → (V → A) → Rule X F N V A

-- the tokens that open each name, and the rule that follows them
pub record Grammar (X F N V : Type 0) : Type 1 where
  pub heads : N → Class
  pub rules : N → Rule X F N V V
