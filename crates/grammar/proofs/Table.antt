-- The tests that a grammar has to pass so that one token of lookahead is enough to parse it.
use Rattle.std.proofs.Common.{Bool, true, false, not, ◌&&◌, cond, List, [], ◌∷◌, ◌++◌}
use Rattle.grammar.specs.Rule.{Token}
use Rattle.grammar.specs.Rule.{Class, has, next, Rule, empty, one, unless, both, either, many, checked, deeper}
use Rattle.grammar.specs.Reading.{nullable, first}
use Rattle.grammar.proofs.Sets.{apart, without}

-- the tokens that may not follow if the rule read nothing
abbrev pub bar : {X F N V A : Type 0} → Rule X F N V A → Class
bar (empty x) = []
bar (one class f) = []
bar (unless class x) = class
bar (both f a b) = []
bar (either a b) = cond (nullable a) [] (bar b)
bar (many f a) = []
bar (checked f a) = bar a
bar (deeper n f) = []

-- The tokens that can continue a complete text of the rule, and, if guards count, those that may not follow it.
abbrev pub more : {X F N V A : Type 0} → Bool → (N → Class) → (N → Class) → Rule X F N V A → Class
more guards heads ends (empty x) = []
more guards heads ends (one class f) = []
more guards heads ends (unless class x) = cond guards class []
more guards heads ends (both f a b) = more guards heads ends b ++ cond (nullable b)
    (cond guards (more guards heads ends a) (without (bar b) (more guards heads ends a))) []
more guards heads ends (either a b) = more guards heads ends a ++
    (more guards heads ends b ++ cond (nullable b) (cond guards (first heads a) (without (bar b) (first heads a))) [])
more guards heads ends (many f a) = first heads a ++ more guards heads ends a
more guards heads ends (checked f a) = more guards heads ends a
more guards heads ends (deeper n f) = ends n

abbrev pub none : Class → Bool
none [] = true
none (k ∷ ks) = false

-- One token decides each choice, and no token continues a checked item.
abbrev pub fits : {X F N V A : Type 0} → (N → Class) → (N → Class) → Rule X F N V A → Bool
fits heads ends (empty x) = true
fits heads ends (one class f) = true
fits heads ends (unless class x) = true
fits heads ends (both f a b) = fits heads ends a &&
    (fits heads ends b && apart (more false heads ends a) (first heads b))
fits heads ends (either a b) = fits heads ends a &&
    (fits heads ends b && (not (nullable a) && apart (first heads a) (first heads b)))
fits heads ends (many f a) = fits heads ends a && (not (nullable a) && apart (more false heads ends a) (first heads a))
fits heads ends (checked f a) = fits heads ends a && (not (nullable a) && none (more false heads ends a))
fits heads ends (deeper n f) = true

-- A short text of a rule. In a choice it is the text of the last alternative.
abbrev pub least : {X F N V A : Type 0} → (Class → Token X) → (N → List (Token X)) → Rule X F N V A → List (Token X)
least sample leasts (empty x) = []
least sample leasts (one class f) = sample class ∷ []
least sample leasts (unless class x) = []
least sample leasts (both f a b) = least sample leasts a ++ least sample leasts b
least sample leasts (either a b) = least sample leasts b
least sample leasts (many f a) = []
least sample leasts (checked f a) = least sample leasts a
least sample leasts (deeper n f) = leasts n

-- A short text of each name: an opening token, and a short text of the name's rule.
abbrev pub nothing : {X N : Type 0} → N → List (Token X)
nothing n = []

abbrev pub shortest : {X F N V : Type 0} → (Class → Token X) → (N → Class) → (N → Rule X F N V V) → N → List (Token X)
shortest sample heads rules n = sample (heads n) ∷ least sample nothing (rules n)

-- That text uses no names.
abbrev pub plain : {X F N V A : Type 0} → Rule X F N V A → Bool
plain (empty x) = true
plain (one class f) = true
plain (unless class x) = true
plain (both f a b) = plain a && plain b
plain (either a b) = plain b
plain (many f a) = true
plain (checked f a) = plain a
plain (deeper n f) = false

-- The rule spells that text, and it may follow what comes before it.
abbrev pub solid : {X F N V A : Type 0} → (Class → Token X) → (N → List (Token X)) → (N → Class) → (N → Class)
    → Rule X F N V A → Bool
solid sample leasts heads shuts (empty x) = true
solid sample leasts heads shuts (one class f) = has class (sample class)
solid sample leasts heads shuts (unless class x) = true
solid sample leasts heads shuts (both f a b) = solid sample leasts heads shuts a &&
    (solid sample leasts heads shuts b && not (next (more true heads shuts a) (least sample leasts b)))
solid sample leasts heads shuts (either a b) = solid sample leasts heads shuts a && solid sample leasts heads shuts b
solid sample leasts heads shuts (many f a) = solid sample leasts heads shuts a
solid sample leasts heads shuts (checked f a) = solid sample leasts heads shuts a
solid sample leasts heads shuts (deeper n f) = true
