-- A parser of any rule, from left to right, with one token of lookahead.
use Rattle.std.specs.Prelude.{ℕ, zero, suc, Bool, true, false, ◌&&◌, ◌||◌, List, [], ◌∷◌, ◌++◌, length, Result, Ok}
use Rattle.std.specs.Prelude.{Err, if◌then◌else◌}
use Rattle.grammar.specs.Rule.{Token, Class, has, next, Rule, empty, one, unless, both, either, many, checked, deeper}
use Rattle.grammar.specs.Rule.{Grammar}
use Rattle.grammar.specs.Spelling.{Flaw, too_deep, refused, Outcome, ◌>>=◌, place}

-- ---- first tokens

-- whether the rule spells the empty text
abbrev pub nullable : {X F N V A : Type 0} → Rule X F N V A → Bool
nullable (empty x) = true
nullable (one class f) = false
nullable (unless class x) = true
nullable (both f a b) = nullable a && nullable b
nullable (either a b) = nullable a || nullable b
nullable (many f a) = true
nullable (checked f a) = nullable a
nullable (deeper n f) = false

-- the first tokens of the rule's texts
abbrev pub first : {X F N V A : Type 0} → (N → Class) → Rule X F N V A → Class
first heads (empty x) = []
first heads (one class f) = class
first heads (unless class x) = []
first heads (both f a b) = first heads a ++ (if nullable a then first heads b else [])
first heads (either a b) = first heads a ++ first heads b
first heads (many f a) = first heads a
first heads (checked f a) = first heads a
first heads (deeper n f) = heads n

-- ---- parsing

-- Why the parser stops: no text of the grammar continues with the next token, with n tokens left (`stuck n`), or the
-- item at this place has a flaw.
pub data Stop (F : Type 0) : Type 0 where
  stuck : ℕ → Stop F
  flawed : Flaw F → ℕ → Stop F

-- a value and the rest of the tokens, or why the parser stops
abbrev pub Answer : Type 0 → Type 0 → Type 0 → Type 0
Answer X F A = Result (A × List (Token X)) (Stop F)

abbrev pub Reader : Type 0 → Type 0 → Type 0 → Type 0
Reader X F A = List (Token X) → Answer X F A

abbrev pub one_at : {X F A : Type 0} → Class → (Token X → A) → Reader X F A
one_at class f [] = Err (stuck 0)
one_at class f (t ∷ ts) = if has class t then Ok (f t, ts) else Err (stuck (suc (length ts)))

-- reads as many values as there are; the number bounds how many
abbrev pub series_at : {X F A : Type 0} → Class → Reader X F A → ℕ → Reader X F (List A)
series_at class r zero u = if next class u then Err (stuck (length u)) else Ok ([], u)
series_at class r (suc n) u =
    if next class u then r u >>= (λ x. series_at class r n x.1 >>= λ xs. Ok (x.0 ∷ xs.0, xs.1)) else Ok ([], u)

abbrev pub check_value : {X F B : Type 0} → ℕ → List (Token X) → Result B F → Answer X F B
check_value at rest (Ok y) = Ok (y, rest)
check_value at rest (Err reason) = Err (flawed (refused reason) at)

abbrev pub read : {X F N V A : Type 0} → (N → Class) → (N → Reader X F V) → Rule X F N V A → Reader X F A
read heads inner (empty x) u = Ok (x, u)
read heads inner (one class f) u = one_at class f u
read heads inner (unless class x) u = if next class u then Err (stuck (length u)) else Ok (x, u)
read heads inner (both f a b) u = read heads inner a u >>= (λ x. read heads inner b x.1 >>= λ y. Ok (f x.0 y.0, y.1))
read heads inner (either a b) u = if next (first heads a) u then read heads inner a u else read heads inner b u
read heads inner (many f a) u = series_at (first heads a) (read heads inner a) (length u) u >>= λ xs. Ok (f xs.0, xs.1)
read heads inner (checked f a) u = read heads inner a u >>= λ x. check_value (place u) x.1 (f x.0)
read heads inner (deeper n f) u = inner n u >>= λ x. Ok (f x.0, x.1)

-- reads the token that opens a name, and then the name's rule
abbrev pub after_opening : {X F N V : Type 0} → (N → Class) → (N → Reader X F V) → N → Reader X F V
after_opening heads r n [] = Err (stuck 0)
after_opening heads r n (t ∷ ts) = if has (heads n) t then r n ts else Err (stuck (suc (length ts)))

-- reads a name, with at most `depth` nested names
unfoldable pub read_name : {X F N V : Type 0} → (N → Class) → (N → Rule X F N V V) → ℕ → N → Reader X F V
read_name heads rules zero n u = if next (heads n) u then Err (flawed too_deep (place u)) else Err (stuck (length u))
read_name heads rules (suc depth) n u =
    after_opening heads (λ n. read heads (read_name heads rules depth) (rules n)) n u

-- reads a rule, with at most `depth` nested names
abbrev pub read_at : {X F N V A : Type 0} → Grammar X F N V → ℕ → Rule X F N V A → Reader X F A
read_at g depth e u = read g.heads (read_name g.heads g.rules depth) e u

-- applies a function to the value that was read
abbrev pub mapped : {X F A B : Type 0} → (A → B) → Answer X F A → Answer X F B
mapped made r = r >>= λ x. Ok (made x.0, x.1)

-- reads a rule as many times as it matches
abbrev pub items_at : {X F N V A : Type 0} → Grammar X F N V → ℕ → Rule X F N V A → Reader X F (List A)
items_at g depth e u = series_at (first g.heads e) (read_at g depth e) (length u) u

abbrev pub end_at : {X F A : Type 0} → A → List (Token X) → Result A (Stop F)
end_at x [] = Ok x
end_at x (t ∷ ts) = Err (stuck (suc (length ts)))

-- reads a whole text
abbrev pub whole : {X F A : Type 0} → Reader X F A → List (Token X) → Result A (Stop F)
whole r u = r u >>= λ x. end_at x.0 x.1

-- what the parser returns for a text with this outcome
abbrev pub as_read : {F A : Type 0} → Outcome F A → Result A (Stop F)
as_read (Ok x) = Ok x
as_read (Err flaw) = Err (flawed flaw.0 flaw.1)
