-- A few words with their hashes, of which no two are the same.
use Rattle.std.proofs.Common.{◌≡◌, ℕ, Bool, true, false, List, [], ◌∷◌, ◌++◌, map, refl, sym, ap, ◌∙◌, arith, inl, inr}
use Rattle.std.specs.Prelude.{◌||◌, ◌&&◌, ◌==◌, bytes_eq}
use Rattle.std.specs.BTreeSet.{insert_key}
use Rattle.std.specs.List.{All, AllByRecursion, IsDistinct, list_any}
use Rattle.std.proofs.lemmas.Bool.{both_ways, cases_Bool}
use Rattle.std.proofs.lemmas.Bool.Decides.{nat_tests}
use Rattle.std.proofs.lemmas.List.{map-append}
use Rattle.std.proofs.lemmas.List.Elements.{recursion_from_All}
use Rattle.std.proofs.lemmas.Slice.Eq.{bytes_eq-Decides}
use Rattle.block_model.specs.Distinct.{distinct}
use Rattle.block_model.proofs.Rising.{distinct-rising, put-again}
use Rattle.block_model.proofs.Same.{distinct-listed}
use Rattle.log_model.specs.Field.{bytes_cmp}
use Rattle.token_bloom.specs.Bits.{fnv}
use Rattle.word_filter.proofs.Sorted.{HasItsHash, Hashed, text_in}

-- ---- a word is sought by its hash first

and-false : (b : Bool) → (b && false) ≡ false
and-false true = refl
and-false false = refl

pair-step : (m n : ℕ) (b : Bool) → (b ≡ true → m ≡ n) → ((m == n) && b) ≡ b
pair-step m n true f = let e : m ≡ n = f refl in grind (arith, nat_tests)
pair-step m n false f = and-false (m == n)

sought : (hash : ℕ) (word : List ℕ) (words : List Hashed) → hash ≡ fnv word → AllByRecursion HasItsHash words
    → list_any (λ (w : Hashed). (w.0 == hash) && bytes_eq word w.1.now) words
    ≡ list_any (bytes_eq word) (map text_in words)
sought hash word [] e hs = refl
sought hash word (w ∷ ws) e hs =
    let here : ((w.0 == hash) && bytes_eq word w.1.now) ≡ bytes_eq word w.1.now = pair-step w.0 hash
    (bytes_eq word w.1.now) (λ same. hs.0 ∙ ap fnv (sym ((bytes_eq-Decides word w.1.now).0 same)) ∙ sym e) in
    ap (λ (b : Bool). b || list_any (λ (w : Hashed). (w.0 == hash) && bytes_eq word w.1.now) ws) here
    ∙ ap (λ (b : Bool). bytes_eq word w.1.now || b) (sought hash word ws e hs.1)

pub sought-by-hash : (hash : ℕ) (word : List ℕ) (words : List Hashed) → hash ≡ fnv word → All HasItsHash words
    → list_any (λ (w : Hashed). (w.0 == hash) && bytes_eq word w.1.now) words
    ≡ list_any (bytes_eq word) (map text_in words)
sought-by-hash hash word words e hs = sought hash word words e (recursion_from_All HasItsHash words hs)

-- ---- a word that is among them changes nothing

pub put-among : (texts : List (List ℕ)) (word : List ℕ) → list_any (bytes_eq word) texts ≡ true
    → distinct texts ≡ insert_key bytes_cmp (distinct texts) word
put-among texts word e =
    sym (put-again word (distinct texts) (distinct-rising texts) (distinct-listed word texts ∙ e))

-- ---- no word is there twice

pub none-twice : IsDistinct bytes_eq []
unfolding IsDistinct
none-twice = tt

left-false : (a b : Bool) → (a || b) ≡ false → a ≡ false
left-false true b e = absurd cc
left-false false b e = refl

right-false : (a b : Bool) → (a || b) ≡ false → b ≡ false
right-false true b e = absurd cc
right-false false b e = e

turned : (a b : List ℕ) → bytes_eq a b ≡ false → bytes_eq b a ≡ false
turned a b off =
    elim (cases_Bool (bytes_eq b a)) [
      | inl e ↦
          absurd (both_ways (bytes_eq a b) off ((bytes_eq-Decides a b).1 (sym ((bytes_eq-Decides b a).0 e))))
      | inr e ↦ e
    ]

apart-more : (t : List ℕ) (ts : List (List ℕ)) (text : List ℕ) → AllByRecursion (λ y. bytes_eq t y ≡ false) ts
    → bytes_eq t text ≡ false → AllByRecursion (λ y. bytes_eq t y ≡ false) (ts ++ text ∷ [])
apart-more t [] text h off = (off, tt)
apart-more t (x ∷ ts) text h off = (h.0, apart-more t ts text h.1 off)

once-more : (texts : List (List ℕ)) (text : List ℕ) → IsDistinct bytes_eq texts
    → list_any (bytes_eq text) texts ≡ false → IsDistinct bytes_eq (texts ++ text ∷ [])
unfolding IsDistinct
once-more [] text d off = (tt, tt)
once-more (t ∷ ts) text d off = (
  apart-more t ts text d.0 (turned text t (left-false (bytes_eq text t) (list_any (bytes_eq text) ts) off)),
  once-more ts text d.1 (right-false (bytes_eq text t) (list_any (bytes_eq text) ts) off),
)

pub put-once : (words : List Hashed) (word : Hashed) → IsDistinct bytes_eq (map text_in words)
    → list_any (bytes_eq word.1.now) (map text_in words) ≡ false
    → IsDistinct bytes_eq (map text_in (words ++ word ∷ []))
put-once words word d off =
    rw (map-append text_in words (word ∷ [])) (once-more (map text_in words) word.1.now d off)
