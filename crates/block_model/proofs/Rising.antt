-- Texts in byte order, each once.
use Rattle.std.proofs.Common.{◌≡◌, ℕ, Bool, true, false, List, [], ◌∷◌, refl, sym, ap, ◌∙◌}
use Rattle.std.specs.Prelude.{◌||◌, bytes_eq}
use Rattle.std.specs.BTreeSet.{insert_key}
use Rattle.std.specs.List.{AllByRecursion, fold, list_any}
use Rattle.std.specs.List.Sorted.{IsStrictlySortedBy}
use Rattle.std.specs.Ordering.{is_eq, match_ordering, ordering_reverse}
use Rattle.std.specs.declared.cmp.Ordering.{Ordering}
use Rattle.std.specs.declared.cmp.Ordering.TheVariants.{Less, Equal, Greater}
use Rattle.std.proofs.lemmas.Cmp.{nat_list_cmp_total}
use Rattle.std.proofs.lemmas.Map.Text.{is_eq-slice_cmp}
use Rattle.block_model.specs.Distinct.{distinct}
use Rattle.block_model.proofs.Distinct.{all-there}
use Rattle.log_model.specs.Field.{bytes_cmp}

-- after the text, in byte order
abbrev pub Above : List ℕ → List (List ℕ) → Type 0
Above text texts = AllByRecursion (λ other. bytes_cmp text other ≡ Less) texts

abbrev pub IsRising : List (List ℕ) → Type 0
IsRising texts = IsStrictlySortedBy bytes_cmp texts

pub above-along : (x y : List ℕ) (texts : List (List ℕ)) → bytes_cmp x y ≡ Less → Above y texts → Above x texts
above-along x y [] h a = tt
above-along x y (t ∷ ts) h a = (nat_list_cmp_total.trans x y t h a.0, above-along x y ts h a.1)

above-put : (x key : List ℕ) (keys : List (List ℕ)) → Above x keys → bytes_cmp x key ≡ Less
    → Above x (insert_key bytes_cmp keys key)
above-put x key [] a h = (h, tt)
above-put x key (k ∷ ks) a h = by (bytes_cmp key k) (above-put x key ks a.1 h)
  where
    by : (o : Ordering) → Above x (insert_key bytes_cmp ks key)
        → Above x (match_ordering o (key ∷ k ∷ ks) (k ∷ ks) (k ∷ insert_key bytes_cmp ks key))
    by Less later = (h, a)
    by Equal later = a
    by Greater later = (a.0, later)

pub rising-put : (key : List ℕ) (keys : List (List ℕ)) → IsRising keys → IsRising (insert_key bytes_cmp keys key)
unfolding IsStrictlySortedBy
rising-put key [] s = (tt, tt)
rising-put key (k ∷ ks) s = by (bytes_cmp key k) refl (rising-put key ks s.1)
  where
    by : (o : Ordering) → bytes_cmp key k ≡ o → IsRising (insert_key bytes_cmp ks key)
        → IsRising (match_ordering o (key ∷ k ∷ ks) (k ∷ ks) (k ∷ insert_key bytes_cmp ks key))
    by Less e later = ((e, above-along key k ks e s.0), s)
    by Equal e later = s
    by Greater e later =
        let back : bytes_cmp k key ≡ Less = nat_list_cmp_total.antisymm k key ∙ ap ordering_reverse e in
        (above-put k key ks s.0 back, later)

pub rising-all : (texts keys : List (List ℕ)) → IsRising keys → IsRising (fold (insert_key bytes_cmp) keys texts)
rising-all [] keys s = s
rising-all (t ∷ ts) keys s = rising-all ts (insert_key bytes_cmp keys t) (rising-put t keys s)

pub distinct-rising : (texts : List (List ℕ)) → IsRising (distinct texts)
unfolding IsStrictlySortedBy
distinct-rising texts = rising-all texts [] tt

-- a text that comes after all of them is not one of them
pub not-behind : (key : List ℕ) (texts : List (List ℕ)) → Above key texts → list_any (bytes_eq key) texts ≡ false
not-behind key [] a = refl
not-behind key (t ∷ ts) a =
    let other : bytes_eq key t ≡ false = sym (is_eq-slice_cmp key t) ∙ ap is_eq a.0 in
    rw other (not-behind key ts a.1)

neither : (a b : Bool) → (a || b) ≡ true → a ≡ false → b ≡ true
neither true b e h = absurd (let none : true ≡ false = h in cc)
neither false b e h = e

-- one that is there changes nothing when it is put once more
pub put-again : (key : List ℕ) (keys : List (List ℕ)) → IsRising keys → list_any (bytes_eq key) keys ≡ true
    → insert_key bytes_cmp keys key ≡ keys
unfolding IsStrictlySortedBy
put-again key [] s e = absurd cc
put-again key (k ∷ ks) s e = by (bytes_cmp key k) refl (put-again key ks s.1)
  where
    by : (o : Ordering) → bytes_cmp key k ≡ o
        → (list_any (bytes_eq key) ks ≡ true → insert_key bytes_cmp ks key ≡ ks)
        → match_ordering o (key ∷ k ∷ ks) (k ∷ ks) (k ∷ insert_key bytes_cmp ks key) ≡ k ∷ ks
    by Less c later =
        let none = not-behind key (k ∷ ks) (c, above-along key k ks c s.0) in
        absurd (let no : true ≡ false = sym e ∙ none in cc)
    by Equal c later = refl
    by Greater c later =
        let other : bytes_eq key k ≡ false = sym (is_eq-slice_cmp key k) ∙ ap is_eq c in
        ap (λ (l : List (List ℕ)). k ∷ l) (later (neither (bytes_eq key k) (list_any (bytes_eq key) ks) e other))

-- those that are there change nothing when they are put once more
pub all-again : (texts keys : List (List ℕ)) → IsRising keys
    → AllByRecursion (λ text. list_any (bytes_eq text) keys ≡ true) texts → fold (insert_key bytes_cmp) keys texts ≡ keys
all-again [] keys s h = refl
all-again (t ∷ ts) keys s h =
    ap (λ (l : List (List ℕ)). fold (insert_key bytes_cmp) l ts) (put-again t keys s h.0) ∙ all-again ts keys s h.1

-- texts that were put change nothing when they are put once more
pub put-twice : (texts keys : List (List ℕ)) → IsRising keys
    → fold (insert_key bytes_cmp) (fold (insert_key bytes_cmp) keys texts) texts
    ≡ fold (insert_key bytes_cmp) keys texts
put-twice texts keys s =
    all-again texts (fold (insert_key bytes_cmp) keys texts) (rising-all texts keys s) (all-there texts keys)
