-- One more door, and two more.
use Rattle.std.proofs.Common.{◌≡◌, ◌∙◌, ℕ, suc, ◌+◌, ◌++◌, List, [], ◌∷◌, map, append_assoc, ap, arith, subst}
use mathlib.Core.List.{map-append}
use Rattle.vl_io.specs.declared.outside.VisitKind.{VisitKind}
use Rattle.vl_io.specs.declared.outside.VisitKind.TheVariants.{Http, Syslog}
use Rattle.duvonka.specs.Workers.{all_http, in_turn}

module _ {D : Type 0} (kind : D → VisitKind) where
  one_more : (doors : List D) (door : D) (n : ℕ) → map kind doors ≡ all_http n → kind door ≡ Http
      → map kind (doors ++ door ∷ []) ≡ all_http (suc n)
  one_more doors door n before is =
      map-append kind doors (door ∷ []) ∙ ap (λ front. front ++ kind door ∷ []) before
      ∙ ap (λ last. all_http n ++ last ∷ []) is

  pub http_more : (doors : List D) (door : D) (n m : ℕ) → m ≡ n + 1 → map kind doors ≡ all_http n → kind door ≡ Http
      → map kind (doors ++ door ∷ []) ≡ all_http m
  http_more doors door n m next before is =
      let same : suc n ≡ m = omega (arith, next) in
      subst (λ k. map kind (doors ++ door ∷ []) ≡ all_http k) same (one_more doors door n before is)

  pair_more : (doors : List D) (sender page : D) (n : ℕ) → map kind doors ≡ in_turn n → kind sender ≡ Syslog
      → kind page ≡ Http → map kind (doors ++ sender ∷ page ∷ []) ≡ in_turn (suc n)
  pair_more doors sender page n before first second =
      map-append kind doors (sender ∷ page ∷ []) ∙ ap (λ front. front ++ kind sender ∷ kind page ∷ []) before
      ∙ ap (λ k. in_turn n ++ k ∷ kind page ∷ []) first ∙ ap (λ k. in_turn n ++ Syslog ∷ k ∷ []) second

  pub in_turn_more : (doors : List D) (sender page : D) (n m : ℕ) → m ≡ n + 1 → map kind doors ≡ in_turn n
      → kind sender ≡ Syslog → kind page ≡ Http
      → map kind ((doors ++ sender ∷ []) ++ page ∷ []) ≡ in_turn m
  in_turn_more doors sender page n m next before first second =
      let same : suc n ≡ m = omega (arith, next) in
      ap (map kind) (append_assoc doors (sender ∷ []) (page ∷ []))
      ∙ subst (λ k. map kind (doors ++ sender ∷ page ∷ []) ≡ in_turn k) same
      (pair_more doors sender page n before first second)
