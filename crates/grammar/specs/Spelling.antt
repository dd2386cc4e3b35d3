-- Which texts a rule spells, and which flaws a text can have.
use Rattle.std.specs.Prelude.{◌≡◌, ℕ, zero, suc, false, List, [], ◌∷◌, ◌++◌, Result, Ok, Err, IsTrue, ◌⊎◌}
use Rattle.grammar.specs.Rule.{Token, Class, has, next, Rule, empty, one, unless, both, either, many, checked, deeper}
use Rattle.grammar.specs.Rule.{Grammar}

-- ---- outcomes

-- what is wrong with an item: it is nested too deeply, or its value is refused
pub data Flaw (F : Type 0) : Type 0 where
  too_deep : Flaw F
  refused : F → Flaw F

-- a value, or the first flaw and the place of its item
abbrev pub Outcome : Type 0 → Type 0 → Type 0
Outcome F A = Result A (Flaw F × ℕ)

infixl 10 ◌>>=◌
abbrev pub ◌>>=◌ : {A B E : Type 0} → Result A E → (A → Result B E) → Result B E
(Ok x) >>= f = f x
(Err stop) >>= f = Err stop

-- the place of the next token
abbrev pub place : {X : Type 0} → List (Token X) → ℕ
place [] = 0
place (t ∷ ts) = t.place

abbrev pub outcome_at : {F B : Type 0} → Result B F → ℕ → Outcome F B
outcome_at (Ok y) at = Ok y
outcome_at (Err reason) at = Err (refused reason, at)

abbrev pub all : {F A : Type 0} → List (Outcome F A) → Outcome F (List A)
all [] = Ok []
all (x ∷ xs) = x >>= λ y. all xs >>= λ ys. Ok (y ∷ ys)

-- ---- the texts of a rule

-- A relation: the tokens of the first list, up to where the second begins, spell a text with this outcome.
abbrev pub Span : Type 0 → Type 0 → Type 0 → Type 1
Span X F A = Outcome F A → List (Token X) → List (Token X) → Type 0

abbrev pub Series : {X F A : Type 0} → Span X F A → List (Outcome F A) → List (Token X) → List (Token X) → Type 0
Series P [] u w = u ≡ w
Series {X} P (x ∷ xs) u w = (m : List (Token X)) × P x u m × Series P xs m w

abbrev pub Spelled : {X F N V A : Type 0} → (N → Span X F V) → Rule X F N V A → Span X F A
Spelled inner (empty x) r u w = (r ≡ Ok x) × (u ≡ w)
Spelled {X} inner (one class f) r u w = (t : Token X) × (u ≡ t ∷ w) × IsTrue (has class t) × (r ≡ Ok (f t))
Spelled inner (unless class x) r u w = (r ≡ Ok x) × (u ≡ w) × (next class w ≡ false)
Spelled {X} {F} inner (both {A} {B} f a b) r u w =
    (p : Outcome F A) × (q : Outcome F B) × (m : List (Token X))
    × Spelled inner a p u m × Spelled inner b q m w × (r ≡ (p >>= λ x. q >>= λ y. Ok (f x y)))
Spelled inner (either a b) r u w = Spelled inner a r u w ⊎ Spelled inner b r u w
Spelled {X} {F} inner (many {A} f a) r u w =
    (xs : List (Outcome F A)) × Series (Spelled inner a) xs u w × (r ≡ (all xs >>= λ ys. Ok (f ys)))
Spelled {X} {F} inner (checked {A} f a) r u w =
    (p : Outcome F A) × Spelled inner a p u w × (r ≡ (p >>= λ x. outcome_at (f x) (place u)))
Spelled {X} {F} {N} {V} inner (deeper n f) r u w = (p : Outcome F V) × inner n p u w × (r ≡ (p >>= λ x. Ok (f x)))

-- a token of the class, and then what the rule spells
abbrev pub Opened : {X F N V : Type 0} → (N → Class) → (N → Rule X F N V V) → (N → Span X F V) → N → Span X F V
Opened {X} heads rules inner n r u w =
    (t : Token X) × (m : List (Token X)) × (u ≡ t ∷ m) × IsTrue (has (heads n) t) × Spelled inner (rules n) r m w

-- The names, with at most `depth` nested ones. `height` bounds the height of the syntax tree. Where the limit is
-- reached, the item has a flaw, and its content must still match the grammar.
abbrev pub Within : {X F N V : Type 0} → (N → Class) → (N → Rule X F N V V) → ℕ → ℕ → N → Span X F V
Within heads rules zero depth n r u w = ⊥
Within {X} {F} {N} {V} heads rules (suc height) zero n r u w =
    (r ≡ Err (too_deep, place u)) × (p : Outcome F V) × Opened heads rules (Within heads rules height zero) n p u w
Within heads rules (suc height) (suc depth) n r u w = Opened heads rules (Within heads rules height depth) n r u w

-- The same for any height.
abbrev pub Named : {X F N V : Type 0} → (N → Class) → (N → Rule X F N V V) → ℕ → N → Span X F V
Named heads rules depth n r u w = (height : ℕ) × Within heads rules height depth n r u w

-- The rule spells this text, with at most `depth` nested names.
abbrev pub Spells : {X F N V A : Type 0} → Grammar X F N V → ℕ → Rule X F N V A → Outcome F A → List (Token X) → Type 0
Spells g depth e r u = (height : ℕ) × Spelled (Within g.heads g.rules height depth) e r u []

-- ---- flaws

-- A relation: an item in this text, at this place, has this flaw.
abbrev pub FlawsOf : Type 0 → Type 0 → Type 1
FlawsOf X F = Flaw F × ℕ → List (Token X) → Type 0

-- The text matches the rule up to an item that has this flaw. Anything may follow the item.
abbrev pub FlawIn : {X F N V A : Type 0} → (N → Span X F V) → (N → FlawsOf X F) → Rule X F N V A → FlawsOf X F
FlawIn inner deep (empty x) flaw u = ⊥
FlawIn inner deep (one class f) flaw u = ⊥
FlawIn inner deep (unless class x) flaw u = ⊥
FlawIn {X} {F} inner deep (both {A} f a b) flaw u =
    FlawIn inner deep a flaw u
    ⊎ ((p : Outcome F A) × (m : List (Token X)) × Spelled inner a p u m × FlawIn inner deep b flaw m)
FlawIn inner deep (either a b) flaw u = FlawIn inner deep a flaw u ⊎ FlawIn inner deep b flaw u
FlawIn {X} {F} inner deep (many {A} f a) flaw u =
    (xs : List (Outcome F A)) × (m : List (Token X)) × Series (Spelled inner a) xs u m × FlawIn inner deep a flaw m
FlawIn {X} {F} inner deep (checked {A} f a) flaw u =
    FlawIn inner deep a flaw u
    ⊎ ((x : A) × (reason : F) × (w : List (Token X))
    × Spelled inner a (Ok x) u w × (f x ≡ Err reason) × (flaw ≡ (refused reason, place u)))
FlawIn inner deep (deeper n f) flaw u = deep n flaw u

-- The same for names, with at most `depth` nested ones.
abbrev pub FlawInside : {X F N V : Type 0} → (N → Class) → (N → Rule X F N V V) → ℕ → N → FlawsOf X F
FlawInside heads rules zero n flaw u = IsTrue (next (heads n) u) × (flaw ≡ (too_deep, place u))
FlawInside {X} heads rules (suc depth) n flaw u =
    (t : Token X) × (m : List (Token X)) × (u ≡ t ∷ m) × IsTrue (has (heads n) t)
    × FlawIn (Named heads rules depth) (FlawInside heads rules depth) (rules n) flaw m

-- The text has this flaw, with at most `depth` nested names.
abbrev pub HasFlaw : {X F N V A : Type 0} → Grammar X F N V → ℕ → Rule X F N V A → FlawsOf X F
HasFlaw g depth e flaw u = FlawIn (Named g.heads g.rules depth) (FlawInside g.heads g.rules depth) e flaw u

-- ---- prefixes of texts

-- Both begin with the same token, or both are empty.
abbrev pub SameHead : {X : Type 0} → List (Token X) → List (Token X) → Type 0
SameHead [] [] = Unit {0}
SameHead [] (y ∷ b) = ⊥
SameHead (x ∷ a) [] = ⊥
SameHead (x ∷ a) (y ∷ b) = x ≡ y

-- Some text of the grammar begins with the tokens before `rest`. None begins with those and the next token, or, at the
-- end of the input, none ends here.
pub record IsStuck {X F A : Type 0} (S : Outcome F A → List (Token X) → Type 0) (u rest : List (Token X)) : Type 0 where
  pub before : List (Token X)
  pub parts : u ≡ before ++ rest
  pub begins : (more : List (Token X)) × (r : Outcome F A) × S r (before ++ more)
  pub longest : (more : List (Token X)) (r : Outcome F A) → SameHead rest more → S r (before ++ more) → ⊥
