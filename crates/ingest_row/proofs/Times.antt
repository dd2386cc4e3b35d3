-- What a text says of a moment.
use Rattle.std.proofs.Common.{◌≡◌, inl, inr, ℤ, ℕ, List, Bool, IsTrue, IsFalse, arith, subst}
use Rattle.log_model.specs.MomentText.{SpellsMoment, IsMomentInRange}
use Rattle.ingest_row.specs.Ingest.{IsTimeOf, says_now}

pub true_not_false : (b : Bool) → IsTrue b → IsFalse b → ⊥
true_not_false b is isnt = grind (arith)

-- a text that says a moment of its own
pub spelled : (now : ℤ) (text : List ℕ) (time : ℤ) → IsFalse (says_now text) → IsTimeOf now text time
    → SpellsMoment text time × IsMomentInRange time
spelled now text time said (inl now_said) = absurd (true_not_false (says_now text) now_said.0 said)
spelled now text time said (inr own) = (own.1, own.2)

-- a text whose only moment is out of range says none
pub none_inside : (now : ℤ) (text : List ℕ) (time : ℤ) → IsFalse (says_now text)
    → ((one other : ℤ) → SpellsMoment text one → SpellsMoment text other → one ≡ other)
    → (moment : ℤ) × SpellsMoment text moment × (IsMomentInRange moment → ⊥) → IsTimeOf now text time → ⊥
none_inside now text time said only outside is =
    outside.2 (subst IsMomentInRange (only time outside.0 (spelled now text time said is).0 outside.1)
    (spelled now text time said is).1)
