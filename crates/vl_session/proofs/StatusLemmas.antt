-- Numbers in printed records.
use Rattle.std.proofs.Common.{◌≡◌, ℕ, zero, suc, ◌+◌, ◌%◌, ◌^◌, ◌<◌, List, [], ◌∷◌, ◌++◌, refl, ap, sym, ◌∙◌, arith}
use Rattle.std.proofs.Common.{append_assoc}
use Rattle.std.specs.Prelude.{codes, decimal}
use Rattle.std.proofs.lemmas.Fmt.{decimal_by_steps}
use Rattle.std.proofs.lemmas.Grind.{flat_map-append}
use Rattle.json.specs.Print.{escape, escape_byte}
use Rattle.log_model.specs.Print.{object_text}
use Rattle.vl_session.specs.Reply.{status_text}

digit_plain : (n : ℕ) → n < 10 → escape_byte (48 + n) ≡ (48 + n) ∷ []
unfolding escape_byte
digit_plain zero few = refl
digit_plain (suc zero) few = refl
digit_plain (suc (suc zero)) few = refl
digit_plain (suc (suc (suc zero))) few = refl
digit_plain (suc (suc (suc (suc zero)))) few = refl
digit_plain (suc (suc (suc (suc (suc zero))))) few = refl
digit_plain (suc (suc (suc (suc (suc (suc zero)))))) few = refl
digit_plain (suc (suc (suc (suc (suc (suc (suc zero))))))) few = refl
digit_plain (suc (suc (suc (suc (suc (suc (suc (suc zero)))))))) few = refl
digit_plain (suc (suc (suc (suc (suc (suc (suc (suc (suc zero))))))))) few = refl
digit_plain (suc (suc (suc (suc (suc (suc (suc (suc (suc (suc n)))))))))) few = absurd (omega (arith, few))

one_plain : (n : ℕ) → n < 10 → escape ((48 + n) ∷ []) ≡ (48 + n) ∷ []
one_plain n few = ap (λ l. l ++ []) (digit_plain n few)

-- digits stand for themselves
pub decimal_plain : (n : ℕ) → n < 2 ^ 64 → escape (decimal n) ≡ decimal n
decimal_plain =
    decimal_by_steps (λ _ ds. escape ds ≡ ds) one_plain
    (λ n ds _ plain. flat_map-append escape_byte ds ((48 + n % 10) ∷ [])
    ∙ ap (λ l. l ++ escape ((48 + n % 10) ∷ [])) plain ∙ ap (λ l. ds ++ l) (one_plain (n % 10) (omega arith)))

regroup : (x y m : List ℕ) → x ++ (34 ∷ 44 ∷ (m ++ (y ++ 34 ∷ 125 ∷ 10 ∷ [])))
    ≡ (((x ++ 34 ∷ []) ++ 44 ∷ (m ++ (y ++ 34 ∷ []))) ++ 125 ∷ []) ++ 10 ∷ []
regroup x y m =
    let quote : List ℕ = 34 ∷ [] in
    let member : List ℕ = 44 ∷ (m ++ (y ++ quote)) in
    let end : List ℕ = 125 ∷ 10 ∷ [] in
    sym (append_assoc ((x ++ quote) ++ member) (125 ∷ []) (10 ∷ []) ∙ append_assoc (x ++ quote) member end
    ∙ append_assoc x quote (member ++ end)
    ∙ ap (λ l. x ++ (34 ∷ 44 ∷ l)) (append_assoc m (y ++ quote) end ∙ ap (λ l. m ++ l) (append_assoc y quote end)))

pub status_is : (b s : ℕ) → b < 2 ^ 64 → s < 2 ^ 64
    → codes "{\"batches\":\"" ++ (decimal b ++ (codes "\",\"settled\":\"" ++ (decimal s ++ codes "\"}\n")))
    ≡ status_text b s
unfolding object_text escape_byte
status_is b s p q =
    rw (decimal_plain b p)
    (rw (decimal_plain s q)
    (ap (λ l. codes "{\"batches\":\"" ++ l) (regroup (decimal b) (decimal s) (codes "\"settled\":\""))))
