-- The theorems on whole texts, for every grammar that passes the tests.
use Rattle.std.proofs.Common.{◌≡◌, ℕ, ◌<◌, true, false, List, [], ◌∷◌, length, Result, Ok, Err, ap, ◌⊎◌}
use Rattle.grammar.specs.Rule.{Token, Class, has, Rule, Grammar}
use Rattle.grammar.specs.Spelling.{Flaw, Outcome, Named, Spells, FlawInside, HasFlaw, ◌>>=◌}
use Rattle.grammar.specs.Reading.{first, nullable, Stop, flawed, Answer, read_at, read_name, end_at, whole, as_read}
use Rattle.grammar.proofs.Sets.{inside}
use Rattle.grammar.proofs.Table.{more, fits, plain, solid, nothing, shortest}
use Rattle.grammar.proofs.Complete.{takes_some, begins}
use Rattle.grammar.proofs.Sound.{sound}
use Rattle.grammar.proofs.Names.{Some_at, starts_at, sound_name, Answers, answers, only}
use Rattle.grammar.proofs.Flaws.{stopped, Behind, sound_flaw}
use Rattle.grammar.proofs.FlawNames.{sound_names, complete_at, complete_names}

-- The tests that a grammar has to pass, each by computing. For each name, `ends` lists the tokens that can continue its
-- texts, and `shuts` those and the ones that may not follow it. `sample` is a token of each class.
pub record Passes {X F N V : Type 0} (g : Grammar X F N V) : Type 0 where
  pub ends : N → Class
  pub shuts : N → Class
  pub sample : Class → Token X
  pub fit : (n : N) → fits g.heads ends (g.rules n) ≡ true
  pub ends_in : (n : N) → inside (more false g.heads ends (g.rules n)) (ends n) ≡ true
  pub shuts_in : (n : N) → inside (more true g.heads shuts (g.rules n)) (shuts n) ≡ true
  pub head_is : (n : N) → has (g.heads n) (sample (g.heads n)) ≡ true
  pub is_plain : (n : N) → plain (g.rules n) ≡ true
  pub plain_solid : (n : N) → solid sample nothing g.heads shuts (g.rules n) ≡ true
  pub is_solid : (n : N) → solid sample (shortest sample g.heads g.rules) g.heads shuts (g.rules n) ≡ true

-- the tests of a rule that is used for whole texts
pub record PassesAt {X F N V A : Type 0} {g : Grammar X F N V} (p : Passes g) (e : Rule X F N V A) : Type 0 where
  pub fit : fits g.heads p.ends e ≡ true
  pub is_solid : solid p.sample (shortest p.sample g.heads g.rules) g.heads p.shuts e ≡ true

-- the result for the text is this flaw, or one before it
abbrev pub StopsFirst : {X F A : Type 0} → Result A (Stop F) → Flaw F × ℕ → List (Token X) → Type 0
StopsFirst {X} {F} r flaw u =
    (first : Flaw F × ℕ) × (r ≡ Err (flawed first.0 first.1)) × ((first ≡ flaw) ⊎ Behind u first.1 flaw.1)

module _ {X F N V A : Type 0} {g : Grammar X F N V} (p : Passes g) (e : Rule X F N V A) (q : PassesAt p e)
    (depth : ℕ) where
  -- The parser returns the text's value, or the place where no text continues, or the place of a flaw.
  pub answered : (u : List (Token X)) → Answers (Spells g depth e) u (whole (read_at g depth e) u)
  answered u = answers g.heads g.rules p.ends p.shuts p.sample p.fit p.ends_in p.shuts_in p.head_is p.is_plain
      p.plain_solid p.is_solid e q.fit q.is_solid depth u

  -- The parser returns the outcome of every text that the rule spells. So no text has two outcomes.
  pub answered_only : (r : Outcome F A) (u : List (Token X)) → Spells g depth e r u
      → whole (read_at g depth e) u ≡ as_read r
  answered_only r u s = only g.heads g.rules p.ends p.shuts p.sample p.fit p.ends_in p.shuts_in p.head_is p.is_plain
      p.plain_solid p.is_solid e q.fit q.is_solid depth r u s

  -- The parser reports each flaw of a text, or one before it, and every reported flaw is a flaw of the text.
  pub flawed_only : (flaw : Flaw F × ℕ) (u : List (Token X)) → HasFlaw g depth e flaw u
      → StopsFirst (whole (read_at g depth e) u) flaw u
  flawed_only flaw u s =
      let c = complete_at g.heads g.rules p.ends p.shuts p.sample p.fit p.ends_in e q.fit depth
      (complete_names g.heads g.rules p.ends p.shuts p.sample p.fit p.ends_in depth) flaw u s in
      (c.0, ap (λ (a : Answer X F A). a >>= λ x. end_at x.0 x.1) c.1, c.2)

  pub flawed_so : (flaw : Flaw F × ℕ) (u : List (Token X)) → whole (read_at g depth e) u ≡ Err (flawed flaw.0 flaw.1)
      → HasFlaw g depth e flaw u
  flawed_so flaw u is =
      sound_flaw g.heads (Named g.heads g.rules depth) (FlawInside g.heads g.rules depth) (read_name g.heads g.rules depth)
      (sound_name g.heads g.rules depth) (sound_names g.heads g.rules depth) e flaw u
      (by_answer (read_at g depth e u) is)
    where
      ended : (x : A) (w : List (Token X)) → end_at {F = F} x w ≡ Err (flawed flaw.0 flaw.1) → ⊥
      ended x [] is = cc
      ended x (t ∷ ts) is = cc

      by_answer : (a : Answer X F A) → (a >>= λ x. end_at x.0 x.1) ≡ Err (flawed flaw.0 flaw.1) → a ≡ stopped flaw
      by_answer (Ok x) is = absurd (ended x.0 x.1 is)
      by_answer (Err stop) is = let same : stop ≡ flawed flaw.0 flaw.1 = cc in ap (λ (s : Stop F). Err s) same

-- a rule that is not nullable reads at least one token
pub takes : {X F N V A : Type 0} (g : Grammar X F N V) (depth : ℕ) (e : Rule X F N V A) → nullable e ≡ false
    → (u : List (Token X)) (x : A) (w : List (Token X)) → read_at g depth e u ≡ Ok (x, w) → length w < length u
takes g depth e some u x w is =
    let s = sound g.heads (Some_at g.heads g.rules depth) (read_name g.heads g.rules depth)
    (sound_name g.heads g.rules depth) e x u w is in
    (takes_some (first g.heads e) (nullable e) u w some
    (begins g.heads (Some_at g.heads g.rules depth) (λ n r u w s. starts_at g.heads g.rules s.0 depth n r u w s.1) e
    (Ok x) u w s)).0
