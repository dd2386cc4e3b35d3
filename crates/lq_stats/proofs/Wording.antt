-- Words, as one more text comes, and as those of two lists are joined.
use Rattle.std.proofs.Common.{◌≡◌, ◌≤◌, ◌<◌, ◌+◌, ◌++◌, [], ◌∷◌, ◌∙◌, ◌⊎◌, ℕ, List, Option, Some, None, ap, inl, inr}
use Rattle.std.proofs.Common.{length}
use Rattle.std.proofs.Common.{append-nil, append_assoc, refl, sym, subst, is_some, arith}
use Rattle.std.specs.Option.{MatchOption}
use Rattle.std.specs.Ordering.{is_eq}
use Rattle.log_model.proofs.ValueOrder.{value_cmp_linear}
use Rattle.log_model.specs.Order.{value_cmp}
use Rattle.lq_tuple.proofs.Numbered.{stands_at}
use Rattle.lq_tuple.proofs.Once.{count_joined, count_more, once_alike, once_new, once_old}
use Rattle.lq_tuple.proofs.Tuples.{value_tells, words_new, words_old}
use Rattle.lq_tuple.specs.Once.{HasEachOnce, count}
use Rattle.lq_tuple.specs.Places.{AreKnown, IsPlaced, place_in}
use Rattle.lq_tuple.specs.declared.places.Places.{Places}
use Rattle.lq_stats.specs.Words.{AreWords}
use Rattle.lq_stats.specs.declared.words.Words.{Words}

-- a text that is placed among words is new, or one of them
placed_word : (new : Places) (words : List (List ℕ)) (text : List ℕ) (place : ℕ) → IsPlaced new words text place
    → ((place ≡ length words) × AreKnown new (words ++ text ∷ []) × (count value_cmp text words ≡ 0))
    ⊎ ((place < length words) × AreKnown new words × (1 ≤ count value_cmp text words))
placed_word new words text place placed = at (place_in words text) refl placed
  where
    at : (o : Option ℕ) → place_in words text ≡ o
        → MatchOption o ((place ≡ length words) × AreKnown new (words ++ text ∷ []))
        (λ at. (place ≡ at) × AreKnown new words)
        → ((place ≡ length words) × AreKnown new (words ++ text ∷ []) × (count value_cmp text words ≡ 0))
        ⊎ ((place < length words) × AreKnown new words × (1 ≤ count value_cmp text words))
    at None found h = inl (h.0, h.1, (words_new words text (ap is_some found)).1)
    at (Some k) found h =
        let at = stands_at words text k found in
        inr (omega (arith, h.0, at.0), h.1, words_old words text (ap is_some found))

-- a text that is new
pub word_new : (old new : Words) (texts : List (List ℕ)) (text : List ℕ) (place : ℕ)
    → IsPlaced new.places old.words.items text place → length old.words.items ≤ place
    → new.words.items ≡ old.words.items ++ text ∷ [] → AreWords old texts → AreWords new (texts ++ text ∷ [])
word_new old new texts text place placed above pushed h =
    let words = old.words.items in
    elim (placed_word new.places words text place placed) [
      | inl one ↦ record {
        known = subst (AreKnown new.places) (sym pushed) one.1;
        once = subst (λ l. HasEachOnce value_cmp l (texts ++ text ∷ [])) (sym pushed)
            (once_new value_cmp value_cmp_linear.total value_tells words texts text h.once one.2);
      }
      | inr one ↦ absurd (omega (arith, one.0, above))
    ]

-- a text that is one of the words
pub word_old : (old new : Words) (texts : List (List ℕ)) (text : List ℕ) (place : ℕ)
    → IsPlaced new.places old.words.items text place → place < length old.words.items
    → new.words.items ≡ old.words.items → AreWords old texts → AreWords new (texts ++ text ∷ [])
word_old old new texts text place placed below kept h =
    let words = old.words.items in
    elim (placed_word new.places words text place placed) [
      | inl one ↦ absurd (omega (arith, one.0, below))
      | inr one ↦ record {
        known = subst (AreKnown new.places) (sym kept) one.1;
        once = subst (λ l. HasEachOnce value_cmp l (texts ++ text ∷ [])) (sym kept)
            (once_old value_cmp value_cmp_linear.total value_tells words texts text h.once one.2);
      }
    ]

-- the words of texts that have the same items
pub words_alike : (words : Words) (texts others : List (List ℕ))
    → ((x : List ℕ) → count value_cmp x texts ≡ count value_cmp x others) → AreWords words texts → AreWords words others
words_alike words texts others same h = record {
  known = h.known;
  once = once_alike value_cmp value_cmp_linear.total value_tells words.words.items texts others same h.once;
}

-- the words of texts and of the words of others
pub words_through : (words : Words) (texts some others : List (List ℕ)) → AreWords words (texts ++ some)
    → HasEachOnce value_cmp some others → AreWords words (texts ++ others)
words_through words texts some others h k = record {
  known = h.known;
  once = record {
    each = λ x.
        let whole = count_joined (λ y. is_eq (value_cmp x y)) texts some in
        let other = count_joined (λ y. is_eq (value_cmp x y)) texts others in
        let had = h.once.each x in
        let same = k.each x in
        omega arith;
  };
}

pub words_swapped : (words : Words) (texts others : List (List ℕ)) → AreWords words (others ++ texts)
    → AreWords words (texts ++ others)
words_swapped words texts others h =
    words_alike words (others ++ texts) (texts ++ others)
    (λ x.
    let one = count_joined (λ y. is_eq (value_cmp x y)) others texts in
    let other = count_joined (λ y. is_eq (value_cmp x y)) texts others in
    omega arith) h

-- ---- words that are taken from the end of a list

-- The words are those of some texts and of the items behind these.
pub record AreWordsBehind (words : Words) (texts whole left : List (List ℕ)) : Type 0 where
  pub done : List (List ℕ)
  pub taken : AreWords words (texts ++ done)
  pub counts : (x : List ℕ) → count value_cmp x whole ≡ count value_cmp x left + count value_cmp x done

pub behind_begins : (words : Words) (texts whole : List (List ℕ)) → AreWords words texts
    → AreWordsBehind words texts whole whole
behind_begins words texts whole h = record {
  done = [];
  taken = subst (AreWords words) (sym (append-nil texts)) h;
  counts = λ x. omega arith;
}

pub behind_more : (old new : Words) (texts whole before left : List (List ℕ)) (word : List ℕ)
    → before ≡ left ++ word ∷ []
    → ((taken : List (List ℕ)) → AreWords old taken → AreWords new (taken ++ word ∷ []))
    → AreWordsBehind old texts whole before → AreWordsBehind new texts whole left
behind_more old new texts whole before left word popped takes h = record {
  done = h.done ++ word ∷ [];
  taken = subst (AreWords new) (append_assoc texts h.done (word ∷ [])) (takes (texts ++ h.done) h.taken);
  counts = λ x.
      let had = h.counts x in
      let front = ap (count value_cmp x) popped ∙ count_more (λ y. is_eq (value_cmp x y)) left word in
      let end = count_more (λ y. is_eq (value_cmp x y)) h.done word in
      omega arith;
}

pub behind_ends : (words : Words) (texts whole left : List (List ℕ)) → length left ≡ 0
    → AreWordsBehind words texts whole left → AreWords words (texts ++ whole)
behind_ends words texts whole (word ∷ left) none h = absurd (omega arith)
behind_ends words texts whole [] none h =
    words_alike words (texts ++ h.done) (texts ++ whole)
    (λ x.
    let one = count_joined (λ y. is_eq (value_cmp x y)) texts h.done in
    let other = count_joined (λ y. is_eq (value_cmp x y)) texts whole in
    let had = h.counts x in
    omega arith) h.taken
