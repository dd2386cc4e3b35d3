-- Line feeds in bytes, counted from the front.
use Rattle.std.proofs.Common.{◌≡◌, ◌≢◌, ℕ, zero, suc, ◌+◌, ◌-◌, ◌<◌, ◌≤◌, false, cond, List, [], ◌∷◌, ◌++◌, length, take, drop, get_or, refl, sym, ap, subst, ◌∙◌, arith, append_assoc, zero-add}
use Rattle.std.proofs.Math.Seq.{take-add, take-append_seam}
use Rattle.std.proofs.lemmas.List.{length-drop, take-append-drop}
use Rattle.std.proofs.lemmas.List.Sums.{sum_by-append, sum_by-cons}
use Rattle.std.proofs.lemmas.Bool.Decides.{nat_tests}
use Rattle.std.specs.Prelude.{count_by}
use Rattle.vl_io.specs.Lines.{AreLines, is_feed}

pub feeds-append : (xs ys : List ℕ) → count_by is_feed (xs ++ ys) ≡ count_by is_feed xs + count_by is_feed ys
feeds-append xs ys = sum_by-append (λ b. cond (is_feed b) 1 0) xs ys

other : (x : ℕ) → (x ≢ 10) → is_feed x ≡ false
other x n = grind (arith, nat_tests)

skip : (x : ℕ) (xs : List ℕ) → (x ≢ 10) → count_by is_feed (x ∷ xs) ≡ count_by is_feed xs
skip x xs n =
    sum_by-cons (λ b. cond (is_feed b) 1 0) x xs ∙ ap (λ t. cond t 1 0 + count_by is_feed xs) (other x n) ∙ zero-add
    (count_by is_feed xs)

pub no_feeds : (xs : List ℕ) → ((k : ℕ) → k < length xs → get_or xs k 0 ≢ 10) → count_by is_feed xs ≡ 0
no_feeds [] none = refl
no_feeds (x ∷ xs) none =
    skip x xs (none 0 (omega arith)) ∙ no_feeds xs (λ k below. none (suc k) (omega arith))

-- up to the first line feed
pub first_feed : (xs : List ℕ) (i : ℕ) → i < length xs → get_or xs i 0 ≡ 10 → ((k : ℕ) → k < i → get_or xs k 0 ≢ 10)
    → (count_by is_feed (take (suc i) xs) ≡ 1) × (take (suc i) xs ≡ take i xs ++ 10 ∷ [])
first_feed [] i within feed before = absurd (omega arith)
first_feed (x ∷ xs) zero within feed before = (rw feed refl, ap (λ b. b ∷ []) feed)
first_feed (x ∷ xs) (suc i) within feed before =
    let rest = first_feed xs i (omega arith) feed (λ k below. before (suc k) (omega arith)) in
    (skip x (take (suc i) xs) (before 0 (omega arith)) ∙ rest.0, ap (λ l. x ∷ l) rest.1)

-- this many lines end there, and this many are missing
pub record Counts (bytes : List ℕ) (lines end missing : ℕ) : Type 0 where
  pub within : end ≤ length bytes
  pub counted : count_by is_feed (take end bytes) + missing ≡ lines
  pub ends : missing < lines → (front : List ℕ) × (take end bytes ≡ front ++ 10 ∷ [])

pub counts_none : (bytes : List ℕ) (lines : ℕ) → Counts bytes lines 0 lines
counts_none bytes lines = record { within = omega arith; counted = omega arith; ends = λ less. absurd (omega arith) }

pub counts_more : (bytes : List ℕ) (lines end missing place : ℕ) → Counts bytes lines end missing → 0 < missing
    → place < length (drop end bytes) → get_or (drop end bytes) place 0 ≡ 10 →
    ((k : ℕ) → k < place → get_or (drop end bytes) k 0 ≢ 10)
    → Counts bytes lines (end + (place + 1)) (missing - 1)
counts_more bytes lines end missing place before some within feed none =
    let found = first_feed (drop end bytes) place within feed none in
    let cut : take (end + suc place) bytes ≡ take end bytes ++ take (suc place) (drop end bytes) = take-add end
    (suc place) bytes in
    let same : end + (place + 1) ≡ end + suc place = omega arith in
    let all : take (end + (place + 1)) bytes ≡ take end bytes ++ take (suc place) (drop end bytes) = ap
    (λ n. take n bytes) same ∙ cut in
    record {
      within = omega (arith, before.within, length-drop end bytes);
      counted = omega (
        arith,
        ap (count_by is_feed) all,
        feeds-append (take end bytes) (take (suc place) (drop end bytes)),
        found.0,
        before.counted,
      );
      ends = λ less. (
        take end bytes ++ take place (drop end bytes),
        all ∙ ap (λ l. take end bytes ++ l) found.1 ∙ sym
            (append_assoc (take end bytes) (take place (drop end bytes)) (10 ∷ [])),
      );
    }

-- there are no more
pub counts_short : (bytes : List ℕ) (lines end missing : ℕ) → Counts bytes lines end missing
    → ((k : ℕ) → k < length (drop end bytes) → get_or (drop end bytes) k 0 ≢ 10) → count_by is_feed bytes + missing
    ≡ lines
counts_short bytes lines end missing before none =
    omega (
      arith,
      ap (count_by is_feed) (take-append-drop end bytes),
      feeds-append (take end bytes) (drop end bytes),
      no_feeds (drop end bytes) none,
      before.counted,
    )

pub counts_all : (bytes : List ℕ) (lines end missing : ℕ) → 0 < lines → Counts bytes lines end missing → missing ≡ 0
    → AreLines lines (take end bytes)
counts_all bytes lines end missing some before none =
    let ends = before.ends (omega arith) in
    record { feeds = omega (arith, before.counted); front = ends.0; ends = ends.1 }

-- lines after lines
pub lines_after : (bytes : List ℕ) (seen end missing lines : ℕ) → count_by is_feed (take seen bytes) + missing ≡ lines
    → seen ≤ length bytes
    → end ≤ length (drop seen bytes) → AreLines missing (take end (drop seen bytes)) → (seen + end ≤ length bytes)
    × AreLines lines (take (seen + end) bytes)
lines_after bytes seen end missing lines counted within here are =
    let all : take (seen + end) bytes ≡ take seen bytes ++ take end (drop seen bytes) = take-add seen end bytes in (
      omega (arith, length-drop seen bytes),
      record {
        feeds = omega (
          arith,
          ap (count_by is_feed) all,
          feeds-append (take seen bytes) (take end (drop seen bytes)),
          are.feeds,
          counted,
        );
        front = take seen bytes ++ are.front;
        ends = all ∙ ap (λ l. take seen bytes ++ l) are.ends ∙ sym (append_assoc (take seen bytes) are.front (10 ∷ []));
      },
    )

-- all bytes have too few
pub fewer : (bytes : List ℕ) (seen missing fewer lines : ℕ) → count_by is_feed (take seen bytes) + missing ≡ lines
    → count_by is_feed (drop seen bytes) + fewer ≡ missing
    → count_by is_feed bytes + fewer ≡ lines
fewer bytes seen missing still lines counted rest =
    omega (
      arith,
      ap (count_by is_feed) (take-append-drop seen bytes),
      feeds-append (take seen bytes) (drop seen bytes),
      counted,
      rest,
    )

pub counted_before : (old new piece : List ℕ) (missing lines : ℕ) → new ≡ old ++ piece
    → count_by is_feed old + missing ≡ lines → count_by is_feed (take (length old) new) + missing ≡ lines
counted_before old new piece missing lines grown counted = subst (λ l. count_by is_feed l + missing ≡ lines)
    (sym (ap (take (length old)) grown ∙ take-append_seam old piece)) counted
