-- Rows that become records a piece at a time, and pipes that leave records as they are.
use Rattle.std.proofs.Common.{◌≡◌, ℕ, zero, suc, ◌+◌, ◌-◌, ◌<◌, ◌≤◌, ◌^◌, min, List, [], ◌∷◌, ◌++◌, map, take, drop, length, flat_map}
use Rattle.std.proofs.Common.{Option, Some, true, get_or, lit<, refl, sym, ap, ◌∙◌, arith, append_assoc, append-nil}
use Rattle.std.proofs.lemmas.List.{length-append, length-drop, length-map, length-take-le, take-append-drop}
use Rattle.std.specs.List.{AllByRecursion}
use Rattle.std.proofs.lemmas.List.{map-append}
use Rattle.lq_ast.specs.Patterns.{patterns_of_stage}
use Rattle.lq_ast.specs.Pipes.{all_piped}
use Rattle.lq_ast.specs.Records.{Record}
use Rattle.lq_ast.specs.Stage.{Stage}
use Rattle.lq_ast.specs.Records.{is_one_of}
use Rattle.lq_ast.specs.Sorting.{sorted}
use Rattle.lq_ast.specs.Stage.{SortBy, Sorting}
use Rattle.lq_order.proofs.SortedPlaces.{places_only, records_placed}
use Rattle.lq_order.specs.Places.{sorted_places}
use Rattle.lq_pipes.proofs.Fewer.{fewer}
use Rattle.lq_pipes.proofs.Narrowed.{Covers, covers_head, covers_itself, covers_tail}
use Rattle.lq_pipes.proofs.Piping.{piped_first}
use Rattle.lq_pipes.proofs.Walked.{whole_taken}
use Rattle.lq_pipes.specs.Needs.{narrowed}
use Rattle.lq_pipes.specs.Passing.{Keeps, Passes}

-- ---- pieces

-- what is left after one more piece
pub pieces_more : {A : Type 0} (whole done piece left rest : List A) → whole ≡ done ++ left → left ≡ piece ++ rest
    → whole ≡ (done ++ piece) ++ rest
pieces_more whole done piece left rest is next =
    is ∙ ap (λ l. done ++ l) next ∙ sym (append_assoc done piece rest)

pub pieces_few : {A : Type 0} (whole done piece left rest : List A) (n : ℕ) → whole ≡ done ++ left
    → left ≡ piece ++ rest → length whole < n → length done + length piece < n
pieces_few whole done piece left rest n is next few =
    omega (
      arith,
      few,
      ap length is,
      length-append done left,
      ap length next,
      length-append piece rest,
    )

pub pieces_end : {A : Type 0} (whole done left : List A) → whole ≡ done ++ left → left ≡ [] → done ≡ whole
pieces_end whole done left is none = sym (is ∙ ap (λ l. done ++ l) none ∙ append-nil done)

-- ---- pipes that leave records as they are

pub passes_none : (stages : List Stage) (records : List Record) → Passes stages stages records records
passes_none stages records = record { same = refl; patterns = refl; few = λ h. h }

pub passes_more : (stages left later : List Stage) (stage : Stage) (old new newer : List Record)
    → Passes stages left old new → left ≡ stage ∷ later → Keeps stage new newer true → Passes stages later old newer
passes_more stages left later stage old new newer h is (made, none) = record {
  same = sym (piped_first stage later new newer made) ∙ ap (λ s. all_piped s new) (sym is) ∙ h.same;
  patterns = sym (ap (flat_map patterns_of_stage) is
      ∙ ap (λ patterns. patterns ++ flat_map patterns_of_stage later) none) ∙ h.patterns;
  few = λ small. fewer stage new newer (2 ^ 32) (lit< tt) (h.few small) made;
}

-- what stands first, and what after it
pub head_split : {A : Type 0} (left : List A) (first : A) → 1 ≤ length left → first ≡ get_or left 0 first
    → left ≡ first ∷ take (length left - 1) (drop 1 left)
head_split [] first some at = absurd (omega (arith, some))
head_split (x ∷ xs) first some at =
    let whole = whole_taken xs (length (x ∷ xs) - 1) (omega arith) in λ i. sym at i ∷ sym whole i

pub head_left : {A B : Type 0} (f : A → B) (left : List A) (first : A) → 1 ≤ length left → first ≡ get_or left 0 first
    → map f left ≡ f first ∷ map f (take (length left - 1) (drop 1 left))
head_left f left first some at = ap (map f) (head_split left first some at)

-- ---- rows in the order of some of their fields

keys_covered : (keys : List SortBy) (more : List (List ℕ)) → Covers more (map (λ key. key.0) keys)
    → AllByRecursion (λ key. is_one_of more key.0 ≡ true) keys
keys_covered [] more covers = tt
keys_covered (key ∷ keys) more covers =
    let names = map (λ key. key.0) keys in
    (covers_head key.0 names more covers, keys_covered keys more (covers_tail key.0 names more covers))

-- Where records of the keys only are sorted, the records themselves stand.
pub rows_sorted : (s : Sorting) (records fewer : List Record) (places : List ℕ)
    → fewer ≡ map (narrowed (Some (map (λ key. key.0) s.keys))) records → places ≡ sorted_places s fewer
    → map (λ place. get_or records place []) places ≡ sorted s records
rows_sorted s records fewer places made is =
    let names = map (λ key. key.0) s.keys in
    ap (map (λ place. get_or records place []))
    (is ∙ ap (sorted_places s) made ∙ places_only s names (keys_covered s.keys names (covers_itself names)) records)
    ∙ records_placed s records

-- ---- one more piece of rows

drop_none : {A : Type 0} (k : ℕ) → drop {A = A} k [] ≡ []
drop_none zero = refl
drop_none (suc k) = refl

drop_more : {A : Type 0} (m k : ℕ) (xs : List A) → drop (m + k) xs ≡ drop k (drop m xs)
drop_more zero k xs = let same : zero + k ≡ k = omega arith in ap (λ n. drop n xs) same
drop_more (suc m) k [] = drop_none (suc m + k) ∙ sym (drop_none k)
drop_more (suc m) k (x ∷ xs) =
    let next : suc m + k ≡ suc (m + k) = omega arith in ap (λ n. drop n (x ∷ xs)) next ∙ drop_more m k xs

module _ {A : Type 0} (f : A → Record) (needs newer : Option (List (List ℕ))) (xs left : List A) (m k most : ℕ)
    (within : m ≤ length xs) (is : left ≡ take (length xs - m) (drop m xs)) (some : 1 ≤ length left)
    (long : k ≡ min (length left) most) (room : 1 ≤ most) where
  left_whole : left ≡ drop m xs
  left_whole = is ∙ whole_taken (drop m xs) (length xs - m) (omega (arith, length-drop m xs))

  piece_long : length (take k left) ≡ k
  piece_long = length-take-le k left (omega (arith, long))

  rest_is : drop (m + length (take k left)) xs ≡ drop k left
  rest_is = ap (λ n. drop (m + n) xs) piece_long ∙ drop_more m k xs ∙ ap (drop k) (sym left_whole)

  -- the records of the rows that are left, and of those of them that come after the next ones
  pub next_piece : (records : List Record) → newer ≡ needs
      → records ≡ map (narrowed needs) (map f (take k left))
      → map (narrowed needs) (map f (drop m xs))
      ≡ records ++ map (narrowed newer) (map f (drop (m + length (take k left)) xs))
  next_piece records same made =
      ap (λ l. map (narrowed needs) (map f l)) (sym left_whole ∙ sym (take-append-drop k left))
      ∙ ap (map (narrowed needs)) (map-append f (take k left) (drop k left))
      ∙ map-append (narrowed needs) (map f (take k left)) (map f (drop k left))
      ∙ (λ i. sym made i ++ map (narrowed (sym same i)) (map f (sym rest_is i)))

  pub fewer_left : length (map (narrowed newer) (map f (drop (m + length (take k left)) xs)))
      < length (map (narrowed needs) (map f (drop m xs)))
  fewer_left =
      omega (
        arith,
        some,
        long,
        room,
        ap length left_whole,
        ap length rest_is,
        length-drop k left,
        length-map (map f (drop (m + length (take k left)) xs)) (narrowed newer),
        length-map (drop (m + length (take k left)) xs) f,
        length-map (map f (drop m xs)) (narrowed needs),
        length-map (drop m xs) f,
      )
