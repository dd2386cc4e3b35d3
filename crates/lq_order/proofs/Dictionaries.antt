-- Words are entered one after another, and texts are compared by the ranks of their words.
use Rattle.std.proofs.Common.{◌≡◌, ℕ, zero, suc, ◌<◌, cond, List, [], ◌∷◌, ◌++◌, map}
use Rattle.std.proofs.Common.{length}
use Rattle.std.proofs.Common.{get_or, bytes_eq, Bor, Option, Some, None, IfSome, unwrap_or, refl, sym, ap, subst, ◌∙◌, inl, inr}
use Rattle.std.proofs.Common.{arith}
use Rattle.std.proofs.Common.{length-append}
use Rattle.std.proofs.lemmas.Bool.{cases_lt}
use Rattle.std.proofs.lemmas.List.{get_or-map, get_or_default}
use Rattle.std.proofs.lemmas.Slice.Eq.{bytes_eq-Decides}
use Rattle.std.specs.HashMap.{HashMap, get_by}
use Rattle.std.specs.List.{slice_index}
use Rattle.std.specs.Ordering.{nat_cmp, on}
use Rattle.log_model.specs.Order.{value_cmp}
use Rattle.lq_ast.proofs.Sorted.{split_bool}
use Rattle.lq_order.specs.Dictionary.{AreAtWords, IsDictionary, IsAtWord, get_by_str}
use Rattle.lq_order.specs.Mirror.{Mirrors}

pub get_front : {A : Type 0} (xs ys : List A) (k : ℕ) (d : A) → k < length xs → get_or (xs ++ ys) k d ≡ get_or xs k d
get_front [] ys k d h = absurd (omega arith)
get_front (x ∷ xs) ys zero d h = refl
get_front (x ∷ xs) ys (suc k) d h = get_front xs ys k d (omega arith)

pub get_last : {A : Type 0} (xs : List A) (x : A) (k : ℕ) (d : A) → k ≡ length xs → get_or (xs ++ x ∷ []) k d ≡ x
get_last [] x zero d e = refl
get_last [] x (suc k) d e = absurd (omega arith)
get_last (y ∷ ys) x zero d e = absurd (omega arith)
get_last (y ∷ ys) x (suc k) d e = get_last ys x k d (omega arith)

some_weaker : {A : Type 0} (P Q : A → Type 0) → ((x : A) → P x → Q x) → (o : Option A) → IfSome o P → IfSome o Q
some_weaker P Q f (Some x) h = f x h
some_weaker P Q f None h = tt

-- ---- a text that is entered

pub known_pushed : {S : Type 0} (old new : HashMap (Bor (List ℕ)) ℕ S) (words : List (List ℕ)) (text : List ℕ)
    → ((q : List ℕ) → get_by (λ key. bytes_eq q key.now) new
    ≡ cond (bytes_eq text q) (Some (length words)) (get_by (λ key. bytes_eq q key.now) old))
    → AreAtWords old words → AreAtWords new (words ++ text ∷ [])
known_pushed old new words text written known q =
    let Stands = λ (place : ℕ). (place < length (words ++ text ∷ [])) × (get_or (words ++ text ∷ []) place [] ≡ q) in
    let long = length-append words (text ∷ []) in
    subst (λ o. IfSome o Stands) (sym (written q))
    (split_bool (bytes_eq text q)
    (λ t. IfSome (cond t (Some (length words)) (get_by (λ key. bytes_eq q key.now) old)) Stands)
    (λ e. (omega (arith, long), get_last words text (length words) [] refl ∙ (bytes_eq-Decides text q).0 e))
    (λ e. some_weaker (λ place. (place < length words) × (get_or words place [] ≡ q)) Stands
    (λ place h. (omega (arith, long, h.0), get_front words (text ∷ []) place [] h.0 ∙ h.1))
    (get_by (λ key. bytes_eq q key.now) old) (known q)))

pub entered_pushed : (words : List (List ℕ)) (text : List ℕ)
    → IsAtWord words (words ++ text ∷ []) text (length words)
entered_pushed words text =
    let long = length-append words (text ∷ []) in
    record {
      inside = omega (arith, long);
      is = get_last words text (length words) [] refl;
      grows = omega (arith, long);
      stay = λ k h. get_front words (text ∷ []) k [] h;
    }

pub entered_known : (words : List (List ℕ)) (text : List ℕ) (place : ℕ) → (place < length words)
    × (get_or words place [] ≡ text)
    → IsAtWord words words text place
entered_known words text place h = record { inside = h.0; is = h.1; grows = omega arith; stay = λ k l. refl }

-- a text that has a number stands at it
pub stands_at : (found : Option ℕ) (words : List (List ℕ)) (text : List ℕ) (place next : ℕ)
    → place ≡ unwrap_or found next → (place ≡ next → ⊥)
    → IfSome found (λ (p : ℕ). (p < length words) × (get_or words p [] ≡ text))
    → (place < length words) × (get_or words place [] ≡ text)
stands_at None words text place next is other known = absurd (other is)
stands_at (Some p) words text place next is other known =
    subst (λ (k : ℕ). (k < length words) × (get_or words k [] ≡ text)) (sym is) known

-- such a text changes nothing
pub known_stays : {S : Type 0} (old new : HashMap (Bor (List ℕ)) ℕ S) (words : List (List ℕ)) (text : List ℕ) (place : ℕ)
    → ((q : List ℕ) → get_by_str new q ≡ cond (bytes_eq text q) (Some place) (get_by_str old q))
    → (place < length words) × (get_or words place [] ≡ text)
    → AreAtWords old words → AreAtWords new words
known_stays old new words text place written at known q =
    let Stands = λ (p : ℕ). (p < length words) × (get_or words p [] ≡ q) in
    subst (λ o. IfSome o Stands) (sym (written q))
    (split_bool (bytes_eq text q) (λ t. IfSome (cond t (Some place) (get_by_str old q)) Stands)
    (λ e. (at.0, at.1 ∙ (bytes_eq-Decides text q).0 e)) (λ e. known q))

-- ---- a dictionary

pub dictionary_none : (words : List (List ℕ)) → IsDictionary [] words []
dictionary_none words = record { long = refl; inside = λ k h. absurd (omega arith); is = λ k h. absurd (omega arith) }

pub dictionary_more : (texts words more : List (List ℕ)) (ids : List ℕ) (text : List ℕ) (place : ℕ)
    → IsDictionary texts words ids → IsAtWord words more text place
    → IsDictionary (texts ++ text ∷ []) more (ids ++ place ∷ [])
dictionary_more texts words more ids text place all one =
    let long_texts = length-append texts (text ∷ []) in
    let long_ids = length-append ids (place ∷ []) in
    record {
      long = omega (arith, long_texts, long_ids, all.long);
      inside = λ k h. elim (cases_lt k (length texts)) [
        | inl below ↦
            let kept = get_front ids (place ∷ []) k 0 (omega (arith, all.long)) in
            omega (arith, kept, all.inside k below, one.grows)
        | inr above ↦
            let last = get_last ids place k 0 (omega (arith, all.long, long_texts, h)) in
            omega (arith, last, one.inside)
      ];
      is = λ k h. elim (cases_lt k (length texts)) [
        | inl below ↦
            ap (λ i. get_or more i []) (get_front ids (place ∷ []) k 0 (omega (arith, all.long)))
            ∙ one.stay (get_or ids k 0) (all.inside k below) ∙ all.is k below
            ∙ sym (get_front texts (text ∷ []) k [] below)
        | inr above ↦
            ap (λ i. get_or more i []) (get_last ids place k 0 (omega (arith, all.long, long_texts, h)))
            ∙ one.is ∙ sym (get_last texts text k [] (omega (arith, long_texts, h)))
      ];
    }

-- texts are compared by the ranks of their words
pub mirrors_looked_up : (texts words : List (List ℕ)) (ids ranks found : List ℕ) → IsDictionary texts words ids
    → Mirrors (on (slice_index ranks) nat_cmp) value_cmp words → found ≡ map (slice_index ranks) ids
    → Mirrors (on (slice_index found) nat_cmp) value_cmp texts
mirrors_looked_up texts words ids ranks found all m is = record {
  same = λ i j d at_i at_j.
      ap (λ a. nat_cmp a (get_or found j 0)) (read i at_i)
      ∙ ap (nat_cmp (get_or ranks (get_or ids i 0) 0)) (read j at_j)
      ∙ m.same (get_or ids i 0) (get_or ids j 0) [] (all.inside i at_i) (all.inside j at_j)
      ∙ ap (λ t. value_cmp t (get_or words (get_or ids j 0) [])) (all.is i at_i ∙ get_or_default texts i [] d at_i)
      ∙ ap (value_cmp (get_or texts i d)) (all.is j at_j ∙ get_or_default texts j [] d at_j);
}
  where
    read : (k : ℕ) → k < length texts → get_or found k 0 ≡ get_or ranks (get_or ids k 0) 0
    read k within = ap (λ l. get_or l k 0) is ∙ get_or-map (slice_index ranks) ids k 0 0 (omega (arith, all.long))
