-- Which of several patterns is refused, and lists that are prepared element by element.
use Rattle.std.proofs.Common.{◌≡◌, ◌<◌, ◌≤◌, ℕ, zero, suc, ◌+◌, ◌-◌, List, [], ◌∷◌, ◌++◌, length, drop, map, get_or}
use Rattle.std.proofs.Common.{refl, sym}
use Rattle.std.proofs.Common.{ap, ◌∙◌, append_assoc, length-append, arith}
use Rattle.std.specs.Prelude.{IsErrAnd, IfErr, Result, Ok, Err, flat_map}
use Rattle.std.proofs.lemmas.List.{map-append}
use Rattle.std.specs.List.{AllByRecursion}
use Rattle.std.proofs.lemmas.List.{append-nil, drop_all}
use Rattle.lq_ast.specs.Patterns.{Pattern, CanBeRead}
use Rattle.vl_row.proofs.Sorted.{all_append}
use Rattle.lq_filter.specs.Refusal.{IsFirstUnreadable, IsRefusal}
use Rattle.lq_filter.specs.declared.fault.PrepareFault.{PrepareFault}
use Rattle.lq_filter.specs.declared.fault.PrepareFault.TheVariants.{RegexRefused, Memory}
use Rattle.lq_filter.proofs.Walks.{rest_is}

-- ---- among more patterns

first_before : (xs ys : List Pattern) (k : ℕ) → IsFirstUnreadable xs k → IsFirstUnreadable (xs ++ ys) k
first_before [] ys k h = absurd h.1
first_before (x ∷ xs) ys zero h = (tt, h.1)
first_before (x ∷ xs) ys (suc k) h = let rest = first_before xs ys k (h.0.1, h.1) in ((h.0.0, rest.0), rest.1)

first_behind : (xs ys : List Pattern) (k n : ℕ) → n ≡ length xs + k → AllByRecursion CanBeRead xs
    → IsFirstUnreadable ys k → IsFirstUnreadable (xs ++ ys) n
first_behind [] ys k n e reads h = let same : n ≡ k = omega arith in rw same h
first_behind (x ∷ xs) ys k zero e reads h = absurd (omega arith)
first_behind (x ∷ xs) ys k (suc n) e reads h =
    let rest = first_behind xs ys k n (omega arith) reads.1 h in ((reads.0, rest.0), rest.1)

pub refusal_before : (first : ℕ) (xs ys : List Pattern) (fault : PrepareFault) → IsRefusal first xs fault
    → IsRefusal first (xs ++ ys) fault
refusal_before first xs ys (RegexRefused nth) h = (h.0, first_before xs ys (nth - first) h.1)
refusal_before first xs ys Memory h = h

-- what stands before can be read
pub refusal_behind : (first : ℕ) (xs ys : List Pattern) (fault : PrepareFault) → AllByRecursion CanBeRead xs
    → IsRefusal (first + length xs) ys fault → IsRefusal first (xs ++ ys) fault
refusal_behind first xs ys (RegexRefused nth) reads h =
    (omega (arith, h.0), first_behind xs ys (nth - (first + length xs)) (nth - first) (omega (arith, h.0)) reads h.1)
refusal_behind first xs ys Memory reads h = h

pub refused_one : (nth : ℕ) (tried : Pattern) → (CanBeRead tried → ⊥) → IsRefusal nth (tried ∷ []) (RegexRefused nth)
refused_one nth tried unreadable =
    let none : nth - nth ≡ 0 = omega arith in (omega arith, rw none (tt, unreadable))

-- What is left of a list to read: the number of the next pattern counts those of the elements that were passed, what is
-- refused from here on is refused of the whole list, and all patterns can be read where those from here on can.
pub record Unread {X : Type 0} (patterns : X → List Pattern) (xs : List X) (first i nth : ℕ) : Type 0 where
  pub counted : nth + length (flat_map patterns (drop i xs)) ≡ first + length (flat_map patterns xs)
  pub refused : (fault : PrepareFault) → IsRefusal nth (flat_map patterns (drop i xs)) fault
      → IsRefusal first (flat_map patterns xs) fault
  pub readable : AllByRecursion CanBeRead (flat_map patterns (drop i xs))
      → AllByRecursion CanBeRead (flat_map patterns xs)

module _ {X : Type 0} (patterns : X → List Pattern) (xs : List X) (first : ℕ) where
  pub unread_at_first : Unread patterns xs first 0 first
  unread_at_first = record { counted = refl; refused = λ fault h. h; readable = λ h. h }

  module _ (i nth : ℕ) (unread : Unread patterns xs first i nth) where
    module _ (x : X) (below : i < length xs) (is : x ≡ get_or xs i x) where
      rest : drop i xs ≡ x ∷ drop (i + 1) xs
      rest = rest_is xs i x below is

      pub unread_refused : (fault : PrepareFault) → IsRefusal nth (patterns x) fault
          → IsRefusal first (flat_map patterns xs) fault
      unread_refused fault h = unread.refused fault (rw rest (refusal_before nth (patterns x)
          (flat_map patterns (drop (i + 1) xs)) fault h))

      pub unread_behind : (next : ℕ) → next ≡ nth + length (patterns x) → AllByRecursion CanBeRead (patterns x)
          → Unread patterns xs first (i + 1) next
      unread_behind next counted reads = record {
        counted =
            let split = ap (λ ys. length (flat_map patterns ys)) rest in
            omega (arith, split, unread.counted, length-append (patterns x) (flat_map patterns (drop (i + 1) xs)));
        refused = λ fault h. unread.refused fault
            (rw rest (refusal_behind nth (patterns x) (flat_map patterns (drop (i + 1) xs)) fault reads (rw counted at h)));
        readable = λ h. unread.readable
            (rw rest (all_append CanBeRead (patterns x) (flat_map patterns (drop (i + 1) xs)) reads h));
      }

    pub unread_counted : length xs ≤ i → nth ≡ first + length (flat_map patterns xs)
    unread_counted ends = let none = ap (λ ys. length (flat_map patterns ys)) (drop_all i xs ends) in omega
        (arith, none, unread.counted)

    pub unread_readable : length xs ≤ i → AllByRecursion CanBeRead (flat_map patterns xs)
    unread_readable ends = unread.readable (rw (drop_all i xs ends) tt)

-- What is left of a list to prepare: the same, and what is made so far is of the elements that were passed.
pub record Left {X C : Type 0} (mean : X → C) (patterns : X → List Pattern) (xs : List X) (first i : ℕ)
    (made : List C) (nth : ℕ) : Type 0 where
  pub built : made ++ map mean (drop i xs) ≡ map mean xs
  pub unread : Unread patterns xs first i nth

module _ {X C : Type 0} (mean : X → C) (patterns : X → List Pattern) (xs : List X) (first : ℕ) where
  pub left_at_first : Left mean patterns xs first 0 [] first
  left_at_first = record { built = refl; unread = unread_at_first patterns xs first }

  module _ (i : ℕ) (made : List C) (nth : ℕ) (left : Left mean patterns xs first i made nth) where
    module _ (x : X) (below : i < length xs) (is : x ≡ get_or xs i x) where
      pub refused_here : (fault : PrepareFault) → IsRefusal nth (patterns x) fault
          → IsRefusal first (flat_map patterns xs) fault
      refused_here = unread_refused patterns xs first i nth left.unread x below is

      pub left_behind : (c : C) (next : ℕ) → c ≡ mean x → next ≡ nth + length (patterns x)
          → AllByRecursion CanBeRead (patterns x) → Left mean patterns xs first (i + 1) (made ++ c ∷ []) next
      left_behind c next same counted reads = record {
        built = append_assoc made (c ∷ []) (map mean (drop (i + 1) xs))
            ∙ ap (λ d. made ++ d ∷ map mean (drop (i + 1) xs)) same
            ∙ sym (ap (λ ys. made ++ map mean ys) (rest_is xs i x below is)) ∙ left.built;
        unread = unread_behind patterns xs first i nth left.unread x below is next counted reads;
      }

    pub all_made : length xs ≤ i → made ≡ map mean xs
    all_made ends = sym (append-nil made) ∙ ap (λ ys. made ++ map mean ys) (sym (drop_all i xs ends)) ∙ left.built

    pub all_counted : length xs ≤ i → nth ≡ first + length (flat_map patterns xs)
    all_counted = unread_counted patterns xs first i nth left.unread

    pub all_readable : length xs ≤ i → AllByRecursion CanBeRead (flat_map patterns xs)
    all_readable = unread_readable patterns xs first i nth left.unread

pub flat_map-map : {X Y Z : Type 0} (f : Y → List Z) (g : X → Y) (xs : List X)
    → flat_map f (map g xs) ≡ flat_map (λ x. f (g x)) xs
flat_map-map f g [] = refl
flat_map-map f g (x ∷ xs) = ap (λ zs. f (g x) ++ zs) (flat_map-map f g xs)

-- what holds of the fault that a `?` hands on
pub handed_on : {Y : Type 0} (r : Result Y PrepareFault) (P : PrepareFault → Type 0) (fault : PrepareFault)
    → IsErrAnd r (λ e. e ≡ fault) → P fault → IfErr r P
handed_on (Ok x) P fault h p = tt
handed_on (Err e) P fault h p = rw h p

module _ {X Y : Type 0} (patterns : Y → List Pattern) (mean : X → Y) (xs items : List X) (same : items ≡ xs) where
  as_mapped : flat_map (λ x. patterns (mean x)) items ≡ flat_map patterns (map mean xs)
  as_mapped = ap (flat_map (λ x. patterns (mean x))) same ∙ sym (flat_map-map patterns mean xs)

  pub refused_mapped : (first : ℕ) (fault : PrepareFault) → IsRefusal first
      (flat_map (λ x. patterns (mean x)) items) fault
      → IsRefusal first (flat_map patterns (map mean xs)) fault
  refused_mapped first fault h = rw as_mapped at h

  pub counted_mapped : (first nth : ℕ) → nth ≡ first + length (flat_map (λ x. patterns (mean x)) items)
      → nth ≡ first + length (flat_map patterns (map mean xs))
  counted_mapped first nth h = rw as_mapped at h

  pub readable_mapped : AllByRecursion CanBeRead (flat_map (λ x. patterns (mean x)) items)
      → AllByRecursion CanBeRead (flat_map patterns (map mean xs))
  readable_mapped h = rw as_mapped at h

pub map_one_more : {X C : Type 0} (show : X → C) (xs more : List X) (x : X) → more ≡ xs ++ x ∷ []
    → map show more ≡ map show xs ++ show x ∷ []
map_one_more show xs more x e = ap (map show) e ∙ map-append show xs (x ∷ [])
