-- The groups of a tally, as they are read from texts.
use Rattle.std.proofs.Common.{◌≡◌, ℕ, ◌+◌, ◌<◌, ◌≤◌, Bool, true, false, cond, List, [], ◌∷◌, ◌++◌, length, map}
use Rattle.std.proofs.Common.{get_or, take, zip, Bor, refl, sym, ap, subst, ◌∙◌, arith}
use Rattle.std.proofs.lemmas.List.{map_push, take_all}
use Rattle.std.specs.Bool.{nat_le}
use Rattle.std.specs.List.{AllByRecursion, filter}
use Rattle.lq_ast.specs.Records.{Record}
use Rattle.lq_ast.specs.Sorting.{hits}
use Rattle.lq_ast.specs.Tuples.{Tuple}
use Rattle.lq_tuple.proofs.Lists.{filter_more}
use Rattle.lq_tuple.proofs.Once.{all_filtered}
use Rattle.lq_tuple.proofs.ReadEach.{as_long, zip_more}
use Rattle.lq_tuple.specs.Counted.{HaveLength, tuple_text}
use Rattle.lq_order.proofs.Answering.{filter_made}
use Rattle.lq_tuple.specs.Groups.{group_tuple}
use Rattle.lq_tuple.specs.declared.group.Group.{Group}
use Rattle.lq_order.specs.Groups.{IsGroup, IsNamed, group_pair}
use Rattle.lq_order.specs.Tally.{AreGroups, Tallies, has_hits}
use Rattle.lq_order.specs.declared.tally.Tally.{Tally}

-- this many records or more
abbrev is_kept : ℕ → Tuple × ℕ → Bool
is_kept least p = nat_le least p.1

module _ (texts : List (Bor (List ℕ))) (tuples : List Tuple) (numbers : List ℕ) (width least : ℕ)
    (same : map (λ text. text.now) texts ≡ map tuple_text tuples) (wide : HaveLength width tuples)
    (long : length numbers ≡ length tuples) where
  -- the groups of the first n texts
  abbrev pub AreRead : ℕ → List (Group ℕ) → Type 0
  AreRead i groups = map group_pair groups ≡ filter (is_kept least) (zip (take i tuples) (take i numbers))

  one_more : (i : ℕ) (number : ℕ) (groups : List (Group ℕ)) → i < length texts → number ≡ get_or numbers i 0
      → AreRead i groups
      → filter (is_kept least) (zip (take (i + 1) tuples) (take (i + 1) numbers))
      ≡ cond (nat_le least number) (map group_pair groups ++ (get_or tuples i [], number) ∷ []) (map group_pair groups)
  one_more i number groups within is so_far =
      ap (filter (is_kept least)) (zip_more tuples numbers i [] 0 (omega (arith, within, as_long texts tuples width same wide))
      (omega (arith, within, as_long texts tuples width same wide, long)))
      ∙ filter_more (is_kept least) (zip (take i tuples) (take i numbers)) (get_or tuples i [], get_or numbers i 0)
      ∙ ap (λ n. cond (nat_le least n)
      (filter (is_kept least) (zip (take i tuples) (take i numbers)) ++ (get_or tuples i [], n) ∷ [])
      (filter (is_kept least) (zip (take i tuples) (take i numbers)))) (sym is)
      ∙ ap (λ l. cond (nat_le least number) (l ++ (get_or tuples i [], number) ∷ []) l) (sym so_far)

  pub read_kept : (i : ℕ) (number : ℕ) (groups more : List (Group ℕ)) (group : Group ℕ) → i < length texts
      → number ≡ get_or numbers i 0 → nat_le least number ≡ true → group_tuple group ≡ get_or tuples i []
      → group.kept ≡ number → more ≡ groups ++ group ∷ [] → AreRead i groups → AreRead (i + 1) more
  read_kept i number groups more group within is keep tuple hits pushed so_far =
      ap (map group_pair) pushed ∙ map_push group_pair groups group
      ∙ ap (λ p. map group_pair groups ++ p ∷ []) (λ j. (tuple j, hits j))
      ∙ ap (λ t. cond t (map group_pair groups ++ (get_or tuples i [], number) ∷ []) (map group_pair groups)) (sym keep)
      ∙ sym (one_more i number groups within is so_far)

  pub read_left : (i : ℕ) (number : ℕ) (groups : List (Group ℕ)) → i < length texts → number ≡ get_or numbers i 0
      → nat_le least number ≡ false → AreRead i groups → AreRead (i + 1) groups
  read_left i number groups within is keep so_far =
      ap (λ t. cond t (map group_pair groups ++ (get_or tuples i [], number) ∷ []) (map group_pair groups)) (sym keep)
      ∙ sym (one_more i number groups within is so_far)

  pub read_all : (i : ℕ) (groups : List (Group ℕ)) → length texts ≤ i → AreRead i groups
      → map group_pair groups ≡ filter (is_kept least) (zip tuples numbers)
  read_all i groups all so_far =
      so_far
      ∙ ap (λ ts. filter (is_kept least) (zip ts (take i numbers))) (take_all i tuples (omega (arith, all, as_long texts tuples width same wide)))
      ∙ ap (λ ns. filter (is_kept least) (zip tuples ns)) (take_all i numbers (omega (arith, all, as_long texts tuples width same wide, long)))

-- ---- the groups of a tally

zip_made : {A B : Type 0} (f : A → B) (xs : List A) → zip xs (map f xs) ≡ map (λ x. (x, f x)) xs
zip_made f [] = refl
zip_made f (x ∷ xs) = ap (λ l. (x, f x) ∷ l) (zip_made f xs)

pairs_told : (names : List (List ℕ)) (records : List Record) (groups : List (Group ℕ)) (tuples : List Tuple)
    → AllByRecursion (IsNamed names) tuples → map group_pair groups ≡ map (λ t. (t, hits names records t)) tuples
    → (map group_tuple groups ≡ tuples) × AllByRecursion (IsGroup names records) groups
pairs_told names records [] [] named e = (refl, tt)
pairs_told names records [] (t ∷ ts) named e = absurd cc
pairs_told names records (g ∷ gs) [] named e = absurd cc
pairs_told names records (g ∷ gs) (t ∷ ts) named e =
    let first : group_pair g ≡ (t, hits names records t) = cc in
    let others : map group_pair gs ≡ map (λ u. (u, hits names records u)) ts = cc in
    let tuple : group_tuple g ≡ t = ap (λ p. p.0) first in
    let more = pairs_told names records gs ts named.1 others in (
      ap (λ u. u ∷ map group_tuple gs) tuple ∙ ap (λ l. t ∷ l) more.0,
      (
        (
          subst (IsNamed names) (sym tuple) named.0,
          ap (λ p. p.1) first ∙ ap (hits names records) (sym tuple),
        ),
        more.1,
      ),
    )

pub groups_are : (tally : Tally) (names : List (List ℕ)) (records : List Record) (least : ℕ) (groups : List (Group ℕ))
    → (h : Tallies tally names records)
    → map group_pair groups ≡ filter (is_kept least) (zip h.tuples tally.hits.items)
    → AreGroups names records least groups
groups_are tally names records least groups h read =
    let told = pairs_told names records groups (filter (has_hits names records least) h.tuples)
    (all_filtered (IsNamed names) (has_hits names records least) h.tuples h.named)
    (read
    ∙ ap (filter (is_kept least)) (ap (zip h.tuples) h.counted ∙ zip_made (hits names records) h.tuples)
    ∙ sym (filter_made (λ t. (t, hits names records t)) (is_kept least) h.tuples)) in
    record { tuples = h.tuples; once = h.once; chosen = told.0; each = told.1 }
