-- Two tables of texts in one.
use Rattle.std.proofs.Common.{◌≡◌, ℕ, ◌+◌, Bool, true, false, ◌||◌, cond, List, [], ◌∷◌, ◌++◌, length, map}
use Rattle.std.proofs.Common.{bytes_eq, length-append, refl, sym, ap, subst, ◌∙◌, arith, Global, String, string_bytes}
use Rattle.std.proofs.lemmas.Bool.{leb-false, leb-true}
use Rattle.std.proofs.lemmas.List.{length-map}
use Rattle.std.proofs.lemmas.List.Folds.{list_any-append}
use Rattle.std.proofs.lemmas.Slice.Eq.{bytes_eq-Decides}
use Rattle.std.specs.Bool.{nat_le}
use Rattle.std.specs.List.{AllByRecursion, IsDistinct, list_any}
use Rattle.std.specs.String.{string_eq}
use Rattle.vl_row.proofs.Sorted.{all_append}
use Rattle.lq_ast.proofs.Sorted.{split_bool}
use Rattle.lq_tuple.proofs.Members.{AreAmong, among_all, among_at, among_few, among_from, among_through, any_is}
use Rattle.lq_tuple.proofs.Members.{any_made, any_never, apart_joined, apart_made, behind, or_none, placed_any}
use Rattle.lq_tuple.proofs.Members.{united_any, united_apart}
use Rattle.lq_tuple.proofs.Packing.{other_length, packed_test}
use Rattle.lq_tuple.proofs.Positions.{bytes_itself}
use Rattle.lq_tuple.specs.Texts.{AreHeld, count_of, holds, packed, united}
use Rattle.lq_tuple.specs.declared.texts.Short.{Short}
use Rattle.lq_tuple.specs.declared.texts.Texts.{Texts}

-- ---- a text as it stands in its table, after the number of the table

unfoldable code : List ℕ → List ℕ
code q = cond (nat_le (length q) 23) (0 ∷ packed q) (1 ∷ q)

abbrev short_codes : List Short → List (List ℕ)
short_codes keys = map (λ short. 0 ∷ short.bytes) keys

abbrev long_codes : List (String Global) → List (List ℕ)
long_codes keys = map (λ text. 1 ∷ string_bytes text) keys

unfoldable codes : Texts → List (List ℕ)
codes held = short_codes held.short.keys ++ long_codes held.long.keys

codes_count : (held : Texts) → length (codes held) ≡ count_of held
unfolding codes
codes_count held =
    let whole = length-append (short_codes held.short.keys) (long_codes held.long.keys) in
    let short = length-map held.short.keys (λ short. 0 ∷ short.bytes) in
    let long = length-map held.long.keys (λ text. 1 ∷ string_bytes text) in
    omega (arith, whole, short, long)

in_short : (held : Texts) (p : List ℕ) → list_any (bytes_eq (0 ∷ p)) (codes held)
    ≡ list_any (λ short. bytes_eq p short.bytes) held.short.keys
unfolding codes
in_short held p =
    list_any-append (bytes_eq (0 ∷ p)) (short_codes held.short.keys) (long_codes held.long.keys)
    ∙ ap (λ t. t || list_any (bytes_eq (0 ∷ p)) (long_codes held.long.keys))
    (any_made (bytes_eq (0 ∷ p)) (λ short. 0 ∷ short.bytes) held.short.keys)
    ∙ ap (λ t. list_any (λ short. bytes_eq p short.bytes) held.short.keys || t)
    (any_made (bytes_eq (0 ∷ p)) (λ text. 1 ∷ string_bytes text) held.long.keys ∙ any_never held.long.keys)
    ∙ or_none (list_any (λ short. bytes_eq p short.bytes) held.short.keys)

in_long : (held : Texts) (p : List ℕ) → list_any (bytes_eq (1 ∷ p)) (codes held)
    ≡ list_any (λ text. bytes_eq p (string_bytes text)) held.long.keys
unfolding codes
in_long held p =
    list_any-append (bytes_eq (1 ∷ p)) (short_codes held.short.keys) (long_codes held.long.keys)
    ∙ ap (λ t. t || list_any (bytes_eq (1 ∷ p)) (long_codes held.long.keys))
    (any_made (bytes_eq (1 ∷ p)) (λ short. 0 ∷ short.bytes) held.short.keys ∙ any_never held.short.keys)
    ∙ any_made (bytes_eq (1 ∷ p)) (λ text. 1 ∷ string_bytes text) held.long.keys

code_held : (held : Texts) (q : List ℕ) → list_any (bytes_eq (code q)) (codes held) ≡ holds held q
unfolding code
code_held held q =
    elim (nat_le (length q) 23) as (λ t. list_any (bytes_eq (cond t (0 ∷ packed q) (1 ∷ q))) (codes held)
    ≡ cond t (list_any (λ short. bytes_eq (packed q) short.bytes) held.short.keys)
    (list_any (λ text. bytes_eq q (string_bytes text)) held.long.keys)) [
      | true ↦ in_short held (packed q)
      | false ↦ in_long held q
    ]

-- different texts have different codes
code_test : (a b : List ℕ) → bytes_eq (code a) (code b) ≡ bytes_eq a b
unfolding code
code_test a b =
    split_bool (nat_le (length a) 23) (λ s. bytes_eq (cond s (0 ∷ packed a) (1 ∷ a)) (code b) ≡ bytes_eq a b)
    (λ e.
    split_bool (nat_le (length b) 23)
    (λ t. bytes_eq (0 ∷ packed a) (cond t (0 ∷ packed b) (1 ∷ b)) ≡ bytes_eq a b)
    (λ f. packed_test a b (leb-true (length a) 23 e) (leb-true (length b) 23 f))
    (λ f. let near = leb-true (length a) 23 e in let far = leb-false (length b) 23 f in
    sym (other_length a b (λ same. omega (arith, same, near, far)))))
    (λ e. split_bool (nat_le (length b) 23) (λ t. bytes_eq (1 ∷ a) (cond t (0 ∷ packed b) (1 ∷ b)) ≡ bytes_eq a b)
    (λ f. let far = leb-false (length a) 23 e in let near = leb-true (length b) 23 f in
    sym (other_length a b (λ same. omega (arith, same, near, far))))
    (λ f. refl))

code_any : (texts : List (List ℕ)) (q : List ℕ)
    → list_any (bytes_eq (code q)) (map code texts) ≡ list_any (bytes_eq q) texts
code_any texts q =
    any_made (bytes_eq (code q)) code texts ∙ (λ i. list_any (λ x. code_test q x i) texts)

codes_apart : (texts : List (List ℕ)) → IsDistinct bytes_eq texts → IsDistinct bytes_eq (map code texts)
codes_apart texts h = apart_made bytes_eq code (λ a b e. code_test a b ∙ e) texts h

-- ---- the codes of the texts are those of the table

among_coded : (held : Texts) (texts some : List (List ℕ))
    → ((q : List ℕ) → list_any (bytes_eq q) texts ≡ true → holds held q ≡ true)
    → AreAmong some texts → AreAmong (map code some) (codes held)
among_coded held texts [] h among = tt
among_coded held texts (t ∷ ts) h among = (code_held held t ∙ h t among.0, among_coded held texts ts h among.1)

among_itself : (texts : List (List ℕ)) → AreAmong texts texts
among_itself texts = among_from texts texts (λ q e. e)

coded : (held : Texts) (texts : List (List ℕ)) → AreHeld held texts → AreAmong (codes held) (map code texts)
coded held texts h =
    let many = codes_count held in
    let few = length-map texts code in
    among_all (map code texts) (codes held) (codes_apart texts h.apart)
    (among_coded held texts texts (λ q e. h.found q ∙ placed_any texts q ∙ e) (among_itself texts))
    (omega (arith, many, few, h.counted))

-- ---- both tables

-- what holds of the keys of a table, by their texts
text_key : {Y : Type 0} (bs : List ℕ) (keys : List (String Y))
    → list_any (λ k. bytes_eq bs (string_bytes k)) keys ≡ true
    → (k : String Y) × (string_bytes k ≡ bs)
text_key bs keys e =
    let is = any_is (λ k. bytes_eq bs (string_bytes k)) keys e in
    (is.0, sym ((bytes_eq-Decides bs (string_bytes is.0)).0 is.1))

abbrev has : {Y : Type 0} → List ℕ → List (String Y) → Bool
has bs keys = list_any (λ k. bytes_eq bs (string_bytes k)) keys

text_either : {Y : Type 0} (xs ys zs : List (String Y))
    → ((q : String Y) → list_any (string_eq q) zs ≡ (list_any (string_eq q) xs || list_any (string_eq q) ys))
    → (bs : List ℕ) → has bs zs ≡ (has bs xs || has bs ys)
text_either {Y = Y} xs ys zs either bs =
    at (has bs zs) (has bs xs) (has bs ys) refl refl refl
  where
    there : (k : String Y) → string_bytes k ≡ bs → has bs zs ≡ (has bs xs || has bs ys)
    there k is = subst (λ b. has b zs ≡ (has b xs || has b ys)) is (either k)

    found : (keys : List (String Y)) → has bs keys ≡ true → has bs zs ≡ (has bs xs || has bs ys)
    found keys e = let key = text_key bs keys e in there key.0 key.1

    at : (a b c : Bool) → has bs zs ≡ a → has bs xs ≡ b → has bs ys ≡ c → has bs zs ≡ (has bs xs || has bs ys)
    at true b c ea eb ec = found zs ea
    at false true c ea eb ec = found xs eb
    at false false true ea eb ec = found ys ec
    at false false false ea eb ec = ea ∙ sym (ap (λ t. t || has bs ys) eb ∙ ec)

-- both tables have their keys from these two
pub record AreBoth (old other new : Texts) : Type 0 where
  pub short : (q : Short) → list_any (λ k. bytes_eq q.bytes k.bytes) new.short.keys
      ≡ (list_any (λ k. bytes_eq q.bytes k.bytes) old.short.keys
      || list_any (λ k. bytes_eq q.bytes k.bytes) other.short.keys)
  pub long : (q : String Global) → list_any (string_eq q) new.long.keys
      ≡ (list_any (string_eq q) old.long.keys || list_any (string_eq q) other.long.keys)
  pub short_apart : IsDistinct (λ (a b : Short). bytes_eq a.bytes b.bytes) new.short.keys
  pub long_apart : IsDistinct string_eq new.long.keys

module _ (old other new : Texts) (both : AreBoth old other new) where
  short_either : (p : List ℕ) → list_any (bytes_eq (0 ∷ p)) (codes new)
      ≡ (list_any (bytes_eq (0 ∷ p)) (codes old) || list_any (bytes_eq (0 ∷ p)) (codes other))
  short_either p =
      in_short new p ∙ both.short (record { bytes = p })
      ∙ sym (ap (λ t. t || list_any (bytes_eq (0 ∷ p)) (codes other)) (in_short old p)
      ∙ ap (λ t. list_any (λ short. bytes_eq p short.bytes) old.short.keys || t) (in_short other p))

  long_either : (p : List ℕ) → list_any (bytes_eq (1 ∷ p)) (codes new)
      ≡ (list_any (bytes_eq (1 ∷ p)) (codes old) || list_any (bytes_eq (1 ∷ p)) (codes other))
  long_either p =
      in_long new p ∙ text_either old.long.keys other.long.keys new.long.keys both.long p
      ∙ sym (ap (λ t. t || list_any (bytes_eq (1 ∷ p)) (codes other)) (in_long old p)
      ∙ ap (λ t. list_any (λ text. bytes_eq p (string_bytes text)) old.long.keys || t) (in_long other p))

  -- each text is in one of them
  held_either : (q : List ℕ) → holds new q ≡ (holds old q || holds other q)
  unfolding code
  held_either q =
      sym (code_held new q)
      ∙ split_bool (nat_le (length q) 23) (λ t. list_any (bytes_eq (cond t (0 ∷ packed q) (1 ∷ q))) (codes new)
      ≡ (list_any (bytes_eq (cond t (0 ∷ packed q) (1 ∷ q))) (codes old)
      || list_any (bytes_eq (cond t (0 ∷ packed q) (1 ∷ q))) (codes other)))
      (λ _. short_either (packed q)) (λ _. long_either q)
      ∙ ap (λ t. t || list_any (bytes_eq (code q)) (codes other)) (code_held old q)
      ∙ ap (λ t. holds old q || t) (code_held other q)

  new_apart : IsDistinct bytes_eq (codes new)
  unfolding codes
  new_apart =
      apart_joined (short_codes new.short.keys) (long_codes new.long.keys)
      (apart_made (λ (a b : Short). bytes_eq a.bytes b.bytes) (λ short. 0 ∷ short.bytes) (λ a b e. e) new.short.keys
      both.short_apart)
      (apart_made string_eq (λ text. 1 ∷ string_bytes text) (λ a b e. e) new.long.keys both.long_apart)
      (free new.long.keys)
    where
      free : (keys : List (String Global))
          → AllByRecursion (λ y. list_any (bytes_eq y) (short_codes new.short.keys) ≡ false)
          (long_codes keys)
      free [] = tt
      free (k ∷ ks) = (
        any_made (bytes_eq (1 ∷ string_bytes k)) (λ short. 0 ∷ short.bytes) new.short.keys ∙ any_never new.short.keys,
        free ks,
      )

  module _ (texts others : List (List ℕ)) (h : AreHeld old texts) (k : AreHeld other others) where
    united_held : (q : List ℕ) → holds new q ≡ list_any (bytes_eq q) (united texts others)
    united_held q =
        held_either q ∙ ap (λ t. t || holds other q) (h.found q ∙ placed_any texts q)
        ∙ ap (λ t. list_any (bytes_eq q) texts || t) (k.found q ∙ placed_any others q) ∙ sym (united_any texts others q)

    -- the code of a text of one of them is that of a text of both
    known : (q : List ℕ) → (list_any (bytes_eq q) (codes old) || list_any (bytes_eq q) (codes other)) ≡ true
        → list_any (bytes_eq q) (map code (united texts others)) ≡ true
    known q e =
        split_bool (list_any (bytes_eq q) (codes old))
        (λ t. (t || list_any (bytes_eq q) (codes other)) ≡ true
        → list_any (bytes_eq q) (map code (united texts others)) ≡ true)
        (λ there _. among_at (codes old) (map code (united texts others)) q
        (among_through (codes old) (map code texts) (map code (united texts others)) (coded old texts h)
        (among_made texts (λ r f. united_any texts others r ∙ ap (λ t. t || list_any (bytes_eq r) others) f))) there)
        (λ _ there. among_at (codes other) (map code (united texts others)) q
        (among_through (codes other) (map code others) (map code (united texts others)) (coded other others k)
        (among_made others (λ r f. united_any texts others r ∙ ap (λ t. list_any (bytes_eq r) texts || t) f
        ∙ or_true (list_any (bytes_eq r) texts)))) there) e
      where
        or_true : (t : Bool) → (t || true) ≡ true
        or_true true = refl
        or_true false = refl

        among_made : (some : List (List ℕ)) → ((r : List ℕ) → list_any (bytes_eq r) some ≡ true
            → list_any (bytes_eq r) (united texts others) ≡ true)
            → AreAmong (map code some) (map code (united texts others))
        among_made some all = made some (among_from some (united texts others) all)
          where
            made : (ts : List (List ℕ)) → AreAmong ts (united texts others)
                → AreAmong (map code ts) (map code (united texts others))
            made [] m = tt
            made (t ∷ ts) m = (code_any (united texts others) t ∙ m.0, made ts m.1)

    new_known : AreAmong (codes new) (map code (united texts others))
    unfolding codes
    new_known =
        all_append (λ y. list_any (bytes_eq y) (map code (united texts others)) ≡ true)
        (short_codes new.short.keys) (long_codes new.long.keys)
        (shorts new.short.keys (λ p e. known (0 ∷ p) (sym (short_either p) ∙ in_short new p ∙ e)))
        (longs new.long.keys (λ p e. known (1 ∷ p) (sym (long_either p) ∙ in_long new p ∙ e)))
      where
        shorts : (keys : List Short) → ((p : List ℕ) → list_any (λ short. bytes_eq p short.bytes) keys ≡ true
            → list_any (bytes_eq (0 ∷ p)) (map code (united texts others)) ≡ true)
            → AreAmong (short_codes keys) (map code (united texts others))
        shorts [] all = tt
        shorts (s ∷ ss) all = (
          all s.bytes (ap (λ t. t || list_any (λ short. bytes_eq s.bytes short.bytes) ss) (bytes_itself s.bytes)),
          shorts ss (λ p e. all p (behind (bytes_eq p s.bytes) e)),
        )

        longs : (keys : List (String Global))
            → ((p : List ℕ) → list_any (λ text. bytes_eq p (string_bytes text)) keys ≡ true
            → list_any (bytes_eq (1 ∷ p)) (map code (united texts others)) ≡ true)
            → AreAmong (long_codes keys) (map code (united texts others))
        longs [] all = tt
        longs (s ∷ ss) all = (
          all (string_bytes s)
              (ap (λ t. t || list_any (λ text. bytes_eq (string_bytes s) (string_bytes text)) ss)
              (bytes_itself (string_bytes s))),
          longs ss (λ p e. all p (behind (bytes_eq p (string_bytes s)) e)),
        )

    pub held_united : AreHeld new (united texts others)
    held_united =
        let apart = united_apart texts others h.apart k.apart in
        let few = among_few (codes new) (map code (united texts others)) new_apart new_known in
        let many = among_few (map code (united texts others)) (codes new) (codes_apart (united texts others) apart)
        (among_coded new (united texts others) (united texts others) (λ q e. united_held q ∙ e)
        (among_itself (united texts others))) in
        let codes_are = codes_count new in
        let made = length-map (united texts others) code in
        record {
          found = λ q. united_held q ∙ sym (placed_any (united texts others) q);
          counted = omega (arith, few, many, codes_are, made);
          apart = apart;
        }
