-- What one event does to what a crash may leave.
use Rattle.std.proofs.Common.{◌≡◌, ◌≢◌, ℕ, List, ◌∷◌, true, false, refl, sym, if◌then◌else◌, ◌==◌}
use Rattle.std.proofs.lemmas.Bool.{MatchBool-at_true, MatchBool-at_false, eq-eqb, ne_eqb}
use Rattle.vl_vault.specs.Disk.{Wrote, Shortened, Synced, Past, content, MayLeave, IsTorn, IsCut}

same : (f : ℕ) → (f == f) ≡ true
same f = eq-eqb f f refl

other : (g f : ℕ) → f ≢ g → (g == f) ≡ false
other g f ne = ne_eqb g f (λ e. ne (sym e))

at_same : {A : Type 0} (f : ℕ) (x y : A) → (if f == f then x else y) ≡ x
at_same f x y = rw (same f)

at_other : {A : Type 0} (g f : ℕ) (x y : A) → f ≢ g → (if g == f then x else y) ≡ y
at_other g f x y ne = rw (other g f ne)

module _ (past : Past) (f at n : ℕ) (after c : List ℕ) where
  pub content-wrote : content (Wrote f at n after ∷ past) f ≡ after
  content-wrote = at_same f after (content past f)

  pub content-cut : content (Shortened f n after ∷ past) f ≡ after
  content-cut = at_same f after (content past f)

  pub may_leave-wrote : MayLeave (Wrote f at n after ∷ past) f c → (d : List ℕ) × MayLeave past f d × IsTorn at n d c
  may_leave-wrote left = MatchBool-at_true _ _ (same f) left

  pub may_leave-cut : MayLeave (Shortened f n after ∷ past) f c → (d : List ℕ) × MayLeave past f d × IsCut n d c
  may_leave-cut left = MatchBool-at_true _ _ (same f) left

  pub may_leave-synced : MayLeave (Synced f ∷ past) f c → c ≡ content past f
  may_leave-synced left = MatchBool-at_true _ _ (same f) left

  module _ (g : ℕ) (ne : f ≢ g) where
    pub content-wrote_other : content (Wrote g at n after ∷ past) f ≡ content past f
    content-wrote_other = at_other g f after (content past f) ne

    pub content-cut_other : content (Shortened g n after ∷ past) f ≡ content past f
    content-cut_other = at_other g f after (content past f) ne

    pub may_leave-wrote_other : MayLeave (Wrote g at n after ∷ past) f c → MayLeave past f c
    may_leave-wrote_other left = MatchBool-at_false _ _ (other g f ne) left

    pub may_leave-cut_other : MayLeave (Shortened g n after ∷ past) f c → MayLeave past f c
    may_leave-cut_other left = MatchBool-at_false _ _ (other g f ne) left

    pub may_leave-synced_other : MayLeave (Synced g ∷ past) f c → MayLeave past f c
    may_leave-synced_other left = MatchBool-at_false _ _ (other g f ne) left
