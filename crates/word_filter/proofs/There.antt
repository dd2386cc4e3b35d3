-- Words that are there already.
use Rattle.std.proofs.Common.{◌≡◌, ℕ, ◌<◌, Bool, true, false, List, [], ◌∷◌, length, refl, ap, ◌∙◌, arith}
use Rattle.std.specs.Prelude.{◌||◌, bytes_eq}
use Rattle.std.specs.BTreeSet.{insert_key}
use Rattle.std.specs.List.{list_all, list_any}
use Rattle.std.proofs.lemmas.Bool.{le-ltb}
use Rattle.std.proofs.lemmas.Slice.Eq.{bytes_eq-Decides}
use Rattle.block_model.specs.Distinct.{distinct}
use Rattle.block_model.proofs.Distinct.{either_kept, right_true}
use Rattle.block_model.proofs.Rising.{distinct-rising, put-again}
use Rattle.block_model.proofs.Same.{distinct-listed}
use Rattle.byte_format.proofs.Cases.{both_true}
use Rattle.log_model.specs.Field.{bytes_cmp, is_empty}
use Rattle.word_filter.specs.Words.{is_there}

-- what passes for all slots passes for a text that is in one
pub passes-one : (p : List ℕ → Bool) (text : List ℕ) (slots : List (List ℕ)) → list_all p slots ≡ true
    → list_any (bytes_eq text) slots ≡ true → p text ≡ true
passes-one p text [] all one = absurd cc
passes-one p text (s ∷ ss) all one =
    by (bytes_eq text s) refl one (passes-one p text ss (both_true (p s) (list_all p ss) all).1)
  where
    by : (b : Bool) → bytes_eq text s ≡ b → (b || list_any (bytes_eq text) ss) ≡ true
        → (list_any (bytes_eq text) ss ≡ true → p text ≡ true) → p text ≡ true
    by true same h later = ap p ((bytes_eq-Decides text s).0 same) ∙ (both_true (p s) (list_all p ss) all).0
    by false same h later = later h

-- what was there stays there
pub there-kept : (texts more slots : List (List ℕ))
    → ((text : List ℕ) → list_any (bytes_eq text) texts ≡ true → list_any (bytes_eq text) more ≡ true)
    → list_all (is_there texts) slots ≡ true → list_all (is_there more) slots ≡ true
there-kept texts more [] h e = refl
there-kept texts more (s ∷ ss) h e =
    let p = both_true (is_there texts s) (list_all (is_there texts) ss) e in
    let one : is_there more s ≡ true = either_kept (is_empty s) (list_any (bytes_eq s) texts) (list_any (bytes_eq s)
    more) p.0 (h s) in
    rw one (there-kept texts more ss h p.1)

-- and so is the word
pub put-there : (texts : List (List ℕ)) (word : List ℕ) → list_any (bytes_eq word) texts ≡ true
    → is_there texts word ≡ true
put-there texts word e = right_true (is_empty word) (list_any (bytes_eq word) texts) e

-- a word that is there changes nothing when it is put
pub there-again : (texts : List (List ℕ)) (word : List ℕ) → 0 < length word → is_there texts word ≡ true
    → insert_key bytes_cmp (distinct texts) word ≡ distinct texts
there-again texts word some there =
    let filled : is_empty word ≡ false = le-ltb (length word) 1 (omega (arith, some)) in
    let listed : list_any (bytes_eq word) texts ≡ true = (rw filled at there) in
    put-again word (distinct texts) (distinct-rising texts) (distinct-listed word texts ∙ listed)
