use Rattle.std.proofs.Common.{rules, ◌≡◌, ◌||◌, ◌∙◌, Bool, true, false, refl, sym, ap, subst, map-id}
use Rattle.std.proofs.lemmas.Iterator.Adapters.{fact_from_extend}
use Rattle.std.proofs.lemmas.Iterator.Consumers.{YieldsList-from_rest}
use Rattle.std.specs.Set.{IsUnion, is_member}
use Rattle.lq_tuple.proofs.texts.unite.Goals.{then-len, else-len}
use Rattle.lq_tuple.proofs.texts.unite.Goals as goal

or_turned : (s t : Bool) → (s || t) ≡ (t || s)
or_turned true true = refl
or_turned true false = refl
or_turned false true = refl
or_turned false false = refl

pub returns-clause-union : goal.returns-clause-union
returns-clause-union g c =
    let eq = g.K.PartialEq.eq in
    let new = c.extend.new.self.keys in
    fact_from_extend (λ k. k) c.extend.result c.extend.ensures.ran
    (λ it b. YieldsList-from_rest c.if-len.others.keys (search rules))
    (λ xs e h.
    let union : IsUnion eq c.if-len.keys.keys c.if-len.others.keys new =
    subst (λ l. IsUnion eq c.if-len.keys.keys l new) (sym (map-id xs) ∙ e) h.0 in
    elim c.if-len.branch [
      | then-len w ↦
          let keys = w.keys-is ∙ w.swap.ensures.x_after in
          let others = w.others-is ∙ w.swap.ensures.y_after in
          λ q. union q ∙ or_turned (is_member eq c.if-len.keys.keys q) (is_member eq c.if-len.others.keys q)
          ∙ ap (λ s. is_member eq s.keys q || is_member eq c.if-len.keys.keys q) others
          ∙ ap (λ s. is_member eq c.args.keys.now.keys q || is_member eq s.keys q) keys
      | else-len w ↦
          λ q. union q ∙ ap (λ s. is_member eq s.keys q || is_member eq c.if-len.others.keys q) w.keys-is
          ∙ ap (λ s. is_member eq c.args.keys.now.keys q || is_member eq s.keys q) w.others-is
    ])
