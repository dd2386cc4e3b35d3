-- The contents that a vault begins with, file by file.
use Rattle.std.proofs.Common.{◌≡◌, inl, inr, ℕ, List, [], ◌∷◌, true, false, refl, sym, subst, ◌∙◌}
use Rattle.std.specs.Prelude.{Bool, ◌==◌, ◌||◌, Option, Some, None, MatchBool, if◌then◌else◌}
use Rattle.std.proofs.lemmas.Bool.{eqb-true}
use Rattle.vl_vault.specs.Disk.{Event, NoChange, Began, Wrote, Shortened, Synced, Past, content, MayLeave, IsCrashImage}
use Rattle.vl_vault.specs.Moments.{IsDurable}
use Rattle.vl_vault.specs.Replay.{file_of, is_file, touches, BeginsFile, Covers}

at_false : (b : Bool) (P Q : Type 0) → b ≡ false → Q → MatchBool b P Q
at_false true P Q is q = absurd (cc)
at_false false P Q is q = q

else_at : (b : Bool) (x y : List ℕ) → b ≡ false → (if b then x else y) ≡ y
else_at true x y is = absurd (cc)
else_at false x y is = refl

both_false : (a b : Bool) → (a || b) ≡ false → (a ≡ false) × (b ≡ false)
both_false true b is = absurd (cc)
both_false false b is = (refl, is)

-- a crash leaves a file empty that no call was on
untouched : (past : Past) (f : ℕ) → touches past f ≡ false → MayLeave past f []
untouched [] f none = refl
untouched (NoChange ∷ past) f none = untouched past f none
untouched (Began g bytes ∷ past) f none = let parts = both_false (g == f) (touches past f) none in at_false (g == f)
    _ _ parts.0 (untouched past f parts.1)
untouched (Wrote g at n after ∷ past) f none = let parts = both_false (g == f) (touches past f) none in at_false (g
    == f) _ _ parts.0 (untouched past f parts.1)
untouched (Shortened g len after ∷ past) f none = let parts = both_false (g == f) (touches past f) none in at_false
    (g == f) _ _ parts.0 (untouched past f parts.1)
untouched (Synced g ∷ past) f none = let parts = both_false (g == f) (touches past f) none in at_false (g == f) _ _
    parts.0 (untouched past f parts.1)

-- and a read of it gives nothing
empty : (past : Past) (f : ℕ) → touches past f ≡ false → content past f ≡ []
empty [] f none = refl
empty (NoChange ∷ past) f none = empty past f none
empty (Began g bytes ∷ past) f none = let parts = both_false (g == f) (touches past f) none in else_at (g == f) _ _
    parts.0 ∙ empty past f parts.1
empty (Wrote g at n after ∷ past) f none = let parts = both_false (g == f) (touches past f) none in else_at (g == f)
    _ _ parts.0 ∙ empty past f parts.1
empty (Shortened g len after ∷ past) f none = let parts = both_false (g == f) (touches past f) none in else_at (g ==
    f) _ _ parts.0 ∙ empty past f parts.1
empty (Synced g ∷ past) f none = let parts = both_false (g == f) (touches past f) none in empty past f parts.1

-- a content more that a vault begins with
durable_began : (old : Past) (file f : ℕ) (bytes : List ℕ) → IsDurable old f → IsDurable (Began file bytes ∷ old) f
durable_began old file f bytes was = λ c left. by_test (file == f) c left
  where
    by_test : (b : Bool) (c : List ℕ) → MatchBool b (c ≡ bytes) (MayLeave old f c)
        → c ≡ (if b then bytes else content old f)
    by_test true c is = is
    by_test false c left = was c left

module _ (base past : Past) (event : Event) where
  -- a call on no file
  pub covers_skip : (begun : Past) → file_of event ≡ None → ((f : ℕ) → Covers base past begun f) → (f : ℕ)
      → Covers base (event ∷ past) begun f
  covers_skip begun is covers f =
      let same = λ (o : Option ℕ). MatchBool (touches begun f) (MayLeave base f (content begun f))
      ((is_file o f || touches past f) ≡ false) in
      (subst same (sym is) (covers f).0, (covers f).1)

  -- a file that a content stands for already
  known : (begun : Past) (file f : ℕ) → touches begun file ≡ true
      → MatchBool (touches begun f) (MayLeave base f (content begun f)) (touches past f ≡ false)
      → MatchBool (touches begun f) (MayLeave base f (content begun f)) (((file == f) || touches past f) ≡ false)
  known begun file f has covers = by_test (touches begun f) refl (file == f) refl covers
    where
      by_test : (b : Bool) → touches begun f ≡ b → (same : Bool) → (file == f) ≡ same
          → MatchBool b (MayLeave base f (content begun f)) (touches past f ≡ false)
          → MatchBool b (MayLeave base f (content begun f)) ((same || touches past f) ≡ false)
      by_test true is same at here = here
      by_test false is false at here = here
      by_test false is true at here = let e = eqb-true file f at in absurd (cc)

  -- a content more
  new : (begun : Past) (file f : ℕ) (bytes : List ℕ) → MayLeave base file bytes
      → MatchBool (touches begun f) (MayLeave base f (content begun f)) (touches past f ≡ false)
      → MatchBool ((file == f) || touches begun f) (MayLeave base f (if file == f then bytes else content begun f))
      (((file == f) || touches past f) ≡ false)
  new begun file f bytes left covers = by_test (file == f) refl
    where
      by_test : (b : Bool) → (file == f) ≡ b
          → MatchBool (b || touches begun f) (MayLeave base f (if b then bytes else content begun f)) ((b || touches
          past f) ≡ false)
      by_test true at = subst (λ g. MayLeave base g bytes) (eqb-true file f at) left
      by_test false at = covers

  -- what the contents say once the file's call was looked at
  abbrev Reaches : ℕ → ℕ → Past → Type 0
  Reaches file f begun =
      MatchBool (touches begun f) (MayLeave base f (content begun f)) (((file == f) || touches past f) ≡ false)

  covers_begun : (begun : Past) (file : ℕ) → file_of event ≡ Some file → (f : ℕ) → Reaches file f begun
      → IsDurable begun f → Covers base (event ∷ past) begun f
  covers_begun begun file is f reaches durable =
      let same = λ (o : Option ℕ). MatchBool (touches begun f) (MayLeave base f (content begun f))
      ((is_file o f || touches past f) ≡ false) in
      (subst same (sym is) reaches, durable)

  -- a call on a file
  pub covers_more : (old begun : Past) (file : ℕ) → file_of event ≡ Some file → BeginsFile base old begun file
      → ((f : ℕ) → Covers base past old f) → (f : ℕ) → Covers base (event ∷ past) begun f
  covers_more old begun file is (inl has) covers f =
      covers_begun begun file is f
      (subst (Reaches file f) (sym has.1) (known old file f has.0 (covers f).0))
      (subst (λ p. IsDurable p f) (sym has.1) (covers f).1)
  covers_more old begun file is (inr adds) covers f =
      covers_begun begun file is f
      (subst (Reaches file f) (sym adds.2) (new old file f adds.0 adds.1 (covers f).0))
      (subst (λ p. IsDurable p f) (sym adds.2) (durable_began old file f adds.0 (covers f).1))

-- at the end each file has a content that a crash may leave
pub covers_all : (base begun : Past) → ((f : ℕ) → Covers base base begun f) → IsCrashImage base (content begun)
covers_all base begun covers f = by_test (touches begun f) refl (covers f).0
  where
    by_test : (b : Bool) → touches begun f ≡ b → MatchBool b (MayLeave base f (content begun f)) (touches base f ≡
        false) → MayLeave base f (content begun f)
    by_test true is here = here
    by_test false is none = subst (MayLeave base f) (sym (empty begun f is)) (untouched base f none)

-- and nothing of it is pending
pub covers_durable : (base begun : Past) → ((f : ℕ) → Covers base base begun f) → (f : ℕ) → IsDurable begun f
covers_durable base begun covers f = (covers f).1
