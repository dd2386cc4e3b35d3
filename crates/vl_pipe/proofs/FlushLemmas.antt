-- What a load writes to the vault, and the lines that say so.
use Rattle.std.proofs.Common.{◌≡◌, inl, inr, ℕ, zero, suc, ◌+◌, ◌-◌, ◌*◌, ◌/◌, ◌<◌, ◌≤◌, List, [], ◌∷◌, ◌++◌, length}
use Rattle.std.proofs.Common.{flat_map, take, refl, sym, ap, subst, ◌∙◌, arith, length-append, append_assoc}
use Rattle.std.proofs.Common.{append-nil, Ok, Err}
use Rattle.std.specs.Prelude.{IfErr, OnOk, Result}
use Rattle.std.proofs.lemmas.Grind.{flat_map-append}
use Rattle.std.proofs.lemmas.List.{map-append}
use Rattle.std.proofs.lemmas.List.Sorted.{IsPermutation-append_left, IsPermutation-sym, IsPermutation-trans}
use Rattle.std.specs.List.{AllByRecursion}
use Rattle.std.specs.List.Sorted.{IsPermutation}
use Rattle.log_model.specs.Batches.{batch_rows, batch_rows_after}
use Rattle.log_model.specs.History.{numbered_in}
use Rattle.log_model.specs.Row.{Batch}
use Rattle.vl_vault.specs.Disk.{Image, Past}
use Rattle.vl_vault.specs.Moments.{Always, EachImage}
use Rattle.vl_vault.proofs.Runs.{join, last, weaken}
use Rattle.part_store.specs.Finds.{Finds, FindsParts, HoldsWhole}
use Rattle.part_store.specs.State.{Listed, StoreState}
use Rattle.log_desk.specs.Keeping.{FindsFirst}
use Rattle.vl_pipe.specs.Flushing.{FindsFrom, FindsLoaded, FindsReached, IsSafe, flush_line, flush_lines, flush_text}
use Rattle.vl_pipe.specs.Flushing.{flush_text_so_far, round_counts, up_to}

-- ---- lines

-- one round more
pub counts_more : (first rounds : ℕ) → round_counts first (suc rounds)
    ≡ round_counts first rounds ++ (first + 16 * suc rounds) ∷ []
counts_more first rounds = map-append (λ (round : ℕ). first + 16 * round) (up_to rounds) (suc rounds ∷ [])

pub lines_more : (counts : List ℕ) (count : ℕ) → flush_lines (counts ++ count ∷ [])
    ≡ flush_lines counts ++ flush_line count
lines_more counts count =
    flat_map-append flush_line counts (count ∷ []) ∙ ap (λ l. flush_lines counts ++ l) (append-nil (flush_line count))

-- the lines so far are those of the whole rounds
pub so_far_is : (first made rounds : ℕ) → 16 * rounds ≤ made → made < 16 * rounds + 16
    → flush_text_so_far first made ≡ flush_lines (round_counts first rounds)
so_far_is first made rounds from below =
    ap (λ n. flush_lines (round_counts first n)) (let is : made / 16 ≡ rounds = omega (arith, from, below) in is)

-- a line more for the batches that are left
pub text_is : (first made rounds : ℕ) → 16 * rounds < made → made ≤ 16 * rounds + 16
    → flush_text first made ≡ flush_lines (round_counts first rounds) ++ flush_line (first + made)
text_is first zero rounds from below = absurd (omega (arith, from))
text_is first (suc made) rounds from below =
    ap (λ l. l ++ flush_line (first + suc made)) (so_far_is first made rounds (omega (arith, from))
    (omega (arith, below)))

-- nothing is left
pub text_whole : (first made rounds : ℕ) → made ≡ 16 * rounds → flush_text first made ≡ flush_lines
    (round_counts first rounds)
text_whole first zero zero whole = refl
text_whole first zero (suc rounds) whole = absurd (omega (arith, whole))
text_whole first (suc made) zero whole = absurd (omega (arith, whole))
text_whole first (suc made) (suc rounds) whole =
    text_is first (suc made) rounds (omega (arith, whole)) (omega (arith, whole))
    ∙ ap (λ n. flush_lines (round_counts first rounds) ++ flush_line (first + n)) whole
    ∙ sym (lines_more (round_counts first rounds) (first + 16 * suc rounds))
    ∙ ap flush_lines (sym (counts_more first rounds))

pub all_more : {X : Type 0} (P : X → Type 0) (xs : List X) (x : X) → AllByRecursion P xs → P x
    → AllByRecursion P (xs ++ x ∷ [])
all_more P [] x all one = (one, tt)
all_more P (y ∷ xs) x all one = (all.0, all_more P xs x all.1 one)

pub all_map : {X : Type 0} (P Q : X → Type 0) (xs : List X) → ((x : X) → P x → Q x) → AllByRecursion P xs
    → AllByRecursion Q xs
all_map P Q [] f all = tt
all_map P Q (x ∷ xs) f all = (f x all.0, all_map P Q xs f all.1)

-- No round counts more batches than this.
pub counts_within : (first rounds most : ℕ) → first + 16 * rounds ≤ most
    → AllByRecursion (λ count. count ≤ most) (round_counts first rounds)
counts_within first zero most within = tt
counts_within first (suc rounds) most within =
    subst (AllByRecursion (λ count. count ≤ most)) (sym (counts_more first rounds))
    (all_more (λ count. count ≤ most) (round_counts first rounds) (first + 16 * suc rounds)
    (counts_within first rounds most (omega (arith, within))) within)

-- ---- fronts of batches

pub take_front : {X : Type 0} (n : ℕ) (xs ys : List X) → n ≤ length xs → take n (xs ++ ys) ≡ take n xs
take_front zero xs ys few = refl
take_front (suc n) [] ys few = absurd (omega (arith, few))
take_front (suc n) (x ∷ xs) ys few = ap (λ l. x ∷ l) (take_front n xs ys (omega (arith, few)))

pub take_all : {X : Type 0} (n : ℕ) (xs : List X) → n ≡ length xs → take n xs ≡ xs
take_all zero [] all = refl
take_all zero (x ∷ xs) all = absurd (omega (arith, all))
take_all (suc n) [] all = absurd (omega (arith, all))
take_all (suc n) (x ∷ xs) all = ap (λ l. x ∷ l) (take_all n xs (omega (arith, all)))

take_held : {X : Type 0} (n : ℕ) (held made : List X) → length held ≤ n
    → take n (held ++ made) ≡ held ++ take (n - length held) made
take_held n [] made some = ap (λ m. take m made) (let is : n ≡ n - 0 = omega arith in is)
take_held zero (x ∷ held) made some = absurd (omega (arith, some))
take_held (suc n) (x ∷ held) made some =
    ap (λ l. x ∷ l) (take_held n held made (omega (arith, some))
    ∙ ap (λ m. held ++ take m made) (let is : n - length held ≡ suc n - suc (length held) = omega arith in is))

-- ---- images

pub finds_more : (least : ℕ) (batches more : List Batch) (image : Image) → FindsFrom least batches image
    → FindsFrom least (batches ++ more) image
finds_more least batches more image (front, some, few, finds) = (
  front,
  some,
  omega (arith, few, length-append batches more),
  subst (λ bs. Finds bs image) (sym (take_front front batches more few)) finds,
)

pub finds_fewer : (less least : ℕ) (batches : List Batch) (image : Image) → less ≤ least
    → FindsFrom least batches image → FindsFrom less batches image
finds_fewer less least batches image fewer (front, some, few, finds) = (front, omega (arith, some, fewer), few, finds)

-- batches came behind
pub safe_more : (told : Type 0) (first reached : ℕ) (batches more : List Batch) (start now : Past)
    → IsSafe told first reached batches start now → IsSafe told first reached (batches ++ more) start now
safe_more told first reached batches more start now safe = record {
  moments = λ tells. weaken (λ past each image may. finds_more first batches more image (each image may))
      (safe.moments tells);
  finds = λ tells image may. finds_more reached batches more image (safe.finds tells image may);
}

module _ (told : Type 0) (first front : ℕ) (batches : List Batch) (start old new : Past)
    (safe : IsSafe told first front batches start old) (from : first ≤ front) (few : front ≤ length batches) where
  first_from : (image : Image) → FindsFirst front (length batches) batches image → FindsFrom front batches image
  first_from image (inl finds) = (front, omega arith, few, finds)
  first_from image (inr finds) = (length batches, few, omega arith, finds)

  -- a round
  pub safe_round : (told → Always (EachImage (FindsFirst front (length batches) batches)) old new)
      → IsSafe told first front batches start new
  safe_round moments = record {
    moments = λ tells. join (safe.moments tells)
        (weaken (λ past each image may.
        finds_fewer first front batches image from (first_from image (each image may))) (moments tells));
    finds = λ tells image may. first_from image (last (moments tells) image may);
  }

-- all batches are on the vault
pub safe_whole : (told : Type 0) (first front : ℕ) (batches : List Batch) (start now : Past)
    → IsSafe told first front batches start now → (told → EachImage (Finds batches) now)
    → IsSafe told first (length batches) batches start now
safe_whole told first front batches start now safe finds = record {
  moments = safe.moments;
  finds = λ tells image may. (
    length batches,
    omega arith,
    omega arith,
    subst (λ bs. Finds bs image) (sym (take_all (length batches) batches refl)) (finds tells image may),
  );
}

-- ---- lists of batches that a store holds alike

rows_append : (count : ℕ) (a b : List Batch) → batch_rows_after count (a ++ b)
    ≡ batch_rows_after count a ++ batch_rows_after (count + length a) b
rows_append count [] b = ap (λ n. batch_rows_after n b) (let is : count ≡ count + 0 = omega arith in is)
rows_append count (batch ∷ a) b =
    ap (λ rows. numbered_in (suc count) batch ++ rows) (rows_append (suc count) a b)
    ∙ ap (λ n. numbered_in (suc count) batch ++ (batch_rows_after (suc count) a ++ batch_rows_after n b))
    (let is : suc count + length a ≡ count + suc (length a) = omega arith in is)
    ∙ sym (append_assoc (numbered_in (suc count) batch) (batch_rows_after (suc count) a)
    (batch_rows_after (count + suc (length a)) b))

module _ {V : Type 0} (store : StoreState V) (a b : List Batch) (holds_a : HoldsWhole store a)
    (holds_b : HoldsWhole store b) where
  same_rows : IsPermutation (batch_rows a) (batch_rows b)
  same_rows =
      IsPermutation-trans (batch_rows a) (flat_map (λ (part : Listed). part.rows) store.parts) (batch_rows b)
      (IsPermutation-sym (flat_map (λ (part : Listed). part.rows) store.parts) (batch_rows a) holds_a.are) holds_b.are

  as_long : length a ≡ length b
  as_long = omega (arith, holds_a.whole, holds_b.whole)

  same_after : (more : List Batch) → IsPermutation (batch_rows (a ++ more)) (batch_rows (b ++ more))
  same_after more =
      subst (λ rows. IsPermutation rows (batch_rows (b ++ more))) (sym (rows_append 0 a more))
      (subst (IsPermutation (batch_rows a ++ batch_rows_after (0 + length a) more)) (sym (rows_append 0 b more))
      (subst (λ n. IsPermutation (batch_rows a ++ batch_rows_after (0 + length a) more)
      (batch_rows b ++ batch_rows_after n more)) (let is : 0 + length a ≡ 0 + length b = omega (arith, as_long) in is)
      (IsPermutation-append_left (batch_rows_after (0 + length a) more) (batch_rows a) (batch_rows b) same_rows)))

  -- An image finds one with what came behind it as it finds the other.
  pub finds_same : (more : List Batch) (image : Image) → Finds (a ++ more) image → Finds (b ++ more) image
  finds_same more image (parts, found, are) =
      let long : length (a ++ more) ≡ length (b ++ more) =
      omega (arith, as_long, length-append a more, length-append b more) in (
        parts,
        subst (λ n. FindsParts n parts image) long found,
        IsPermutation-trans (flat_map (λ (part : Listed). part.rows) parts) (batch_rows (a ++ more))
            (batch_rows (b ++ more)) are (same_after more),
      )

-- ---- what was found, as batches that were held and then those of an input

module _ {V : Type 0} (store : StoreState V) (opened held made : List Batch) (holds_opened : HoldsWhole store opened)
    (holds_held : HoldsWhole store held) where
  pub reached_held : (least : ℕ) (image : Image) → length opened ≤ least
      → FindsFrom least (opened ++ made) image → FindsReached held made least image
  reached_held least image from (front, some, few, finds) =
      let count = front - length opened in
      let is = take_held front opened made (omega (arith, from, some)) in
      let found = subst (λ bs. Finds bs image) is finds in
      let long : length (held ++ take count made) ≡ front = omega (
        arith,
        from,
        some,
        few,
        as_long store opened held holds_opened holds_held,
        length-append held (take count made),
        length-append opened (take count made),
        sym (ap length is),
        length_front front (opened ++ made) few,
      ) in (
        count,
        omega (arith, long, some),
        finds_same store opened held holds_opened holds_held (take count made) image found,
      )
    where
      length_front : {X : Type 0} (n : ℕ) (xs : List X) → n ≤ length xs → length (take n xs) ≡ n
      length_front zero xs small = refl
      length_front (suc n) [] small = absurd (omega (arith, small))
      length_front (suc n) (x ∷ xs) small = ap suc (length_front n xs (omega (arith, small)))

  pub loaded_held : (image : Image) → FindsFrom (length opened) (opened ++ made) image → FindsLoaded held made image
  loaded_held image finds =
      let reached = reached_held (length opened) image (omega arith) finds in (reached.0, reached.2)

-- ---- results

-- what follows from what holds of a success
pub on_ok : {T E : Type 0} (result : Result T E) (P Q : Type 0) → (P → Q) → OnOk result P → OnOk result Q
on_ok (Ok x) P Q f is = f is
on_ok (Err e) P Q f is = tt

-- what follows from what holds of an error
pub on_err : {T E : Type 0} (result : Result T E) (P Q : E → Type 0) → ((e : E) → P e → Q e) → IfErr result P
    → IfErr result Q
on_err (Ok x) P Q f is = tt
on_err (Err e) P Q f is = f e is
