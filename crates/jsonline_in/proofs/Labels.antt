-- Reading the name of a member step by step.
use Rattle.std.proofs.Common.{◌≡◌, ℕ, List, [], ◌∷◌, ◌++◌, Ok, Err, refl, sym, ap, ◌∙◌, append_assoc}
use Rattle.log_model.specs.Token.{Character, string_source, Scalar, scalar_source}
use Rattle.log_model.specs.Value.{Label, named, label_tokens}
use Rattle.jsonline_in.specs.Reading.{after_space, Fault, expect, characters_at, name_at, bare_at, prefix_of}
use Rattle.jsonline_in.specs.Clauses.{mapped, compact}
use Rattle.jsonline_in.proofs.Good.{reads_of}
use Rattle.jsonline_in.proofs.Numbers.{prefix_is}
use Rattle.jsonline_in.proofs.Decoding.{done}
use Rattle.jsonline_in.proofs.Copies.{mapped_ok}
use Rattle.jsonline_in.proofs.Values.{IsBare, good_bare}

pub no_quote : (bytes : List ℕ) (fault : Fault) → expect 34 bytes ≡ Err fault → name_at bytes ≡ Err fault
unfolding name_at
no_quote bytes fault e = rw e refl

module _ (bytes inner : List ℕ) (e : expect 34 bytes ≡ done inner) where
  pub no_text : (fault : Fault) → characters_at inner ≡ Err fault → name_at bytes ≡ Err fault
  unfolding name_at
  no_text fault f = rw (e, f) refl

  module _ (made : List Character → List ℕ) (y rest here : List ℕ)
      (f : mapped made (characters_at inner) ≡ Ok (y, rest)) (space : here ≡ after_space rest) where
    pub no_colon : (fault : Fault) → expect 58 here ≡ Err fault → name_at bytes ≡ Err fault
    unfolding name_at
    no_colon fault g =
        let m = mapped_ok made (characters_at inner) y rest f in
        let h = m.1 in
        let k : expect 58 (after_space rest) ≡ Err fault = ap (expect 58) (sym space) ∙ g in
        rw (e, h, k) refl

    pub name_made : (next behind z : List ℕ) (whole : Label → List ℕ) → expect 58 here ≡ done next
        → behind ≡ after_space next → ((name : List Character) → y ≡ made name → z ≡ whole (named name))
        → mapped whole (name_at bytes) ≡ Ok (z, behind)
    unfolding name_at
    name_made next behind z whole g last means =
        let m = mapped_ok made (characters_at inner) y rest f in
        let h = m.1 in
        let k : expect 58 (after_space rest) ≡ done next = ap (expect 58) (sym space) ∙ g in
        let n = means m.0 m.2 in
        rw (e, h, k, last, n) refl

pub label_copied : (old y z : List ℕ) (name : List Character) → z ≡ y ++ 58 ∷ [] → y ≡ old ++ string_source name
    → z ≡ old ++ compact (label_tokens (named name))
label_copied old y z name e f = e ∙ ap (λ (t : List ℕ). t ++ 58 ∷ []) f
    ∙ append_assoc old (string_source name) (58 ∷ [])

-- ---- what has no quotation marks

module _ {B : Type 0} (made : Scalar → B) (bytes rest : List ℕ) (y : B)
    (e : mapped made (bare_at bytes) ≡ Ok (y, rest)) where
  pub bare_prefix : (taken : List ℕ) × (bytes ≡ taken ++ rest)
  bare_prefix =
      let m = mapped_ok made (bare_at bytes) y rest e in
      let r = reads_of (λ reach. IsBare) bare_at good_bare bytes m.0 rest m.1 in
      (r.text, r.parts)

  pub bare_copied : (old new : List ℕ) → new ≡ old ++ prefix_of bytes rest
      → mapped (λ token. old ++ scalar_source token) (bare_at bytes) ≡ Ok (new, rest)
  bare_copied old new f =
      let m = mapped_ok made (bare_at bytes) y rest e in
      let r = reads_of (λ reach. IsBare) bare_at good_bare bytes m.0 rest m.1 in
      let prefix : prefix_of bytes rest ≡ scalar_source m.0 = ap (λ (t : List ℕ). prefix_of t rest) r.parts
      ∙ prefix_is r.text rest ∙ r.inside.spelled in
      ap (mapped (λ (token : Scalar). old ++ scalar_source token)) m.1
      ∙ ap (λ (t : List ℕ). Ok (t, rest)) (ap (λ (t : List ℕ). old ++ t) (sym prefix) ∙ sym f)
