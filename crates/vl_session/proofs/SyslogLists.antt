-- Messages, their rows and batches, one run after another.
use Rattle.std.proofs.Common.{◌≡◌, ℕ, suc, zero, ◌+◌, ◌*◌, ◌≤◌, List, [], ◌∷◌, ◌++◌, length, take, drop, cond}
use Rattle.std.proofs.Common.{Option, None, Some, refl, sym, ap, subst, ◌∙◌, arith, append-nil}
use Rattle.std.specs.Prelude.{count_by, is_none, slice_get, flat_map}
use Rattle.std.specs.List.{AllByRecursion, AllZip}
use Rattle.std.proofs.lemmas.Grind.{flat_map-append}
use Rattle.std.proofs.lemmas.List.{take-append-le, drop-append-le, length-drop, length-append, take-append-drop}
use Rattle.std.proofs.lemmas.List.Sums.{sum_by-append}
use Rattle.log_model.specs.Field.{weight}
use Rattle.log_model.specs.Row.{Batch, IsRow, Row, batch_weight}
use Rattle.log_desk.specs.Seen.{Caller, Seen}
use Rattle.vl_session.specs.Seen.{batches_of_rows}
use Rattle.vl_session.specs.SyslogSession.{AreBatches, IsMessageOutcome, IsTakenUp, Read, TakesAll, batches_of, outcomes_of}
use Rattle.vl_session.specs.SyslogSession.{message_rows}
use Rattle.vl_session.specs.SyslogTaking.{BeginWith}

-- ---- what holds of the first elements of a list and those of another

module _ {X Y : Type 0} (P : X → Y → Type 0) where
  -- there are this many
  pub zip_within : (xs : List X) (ys : List Y) → AllZip P (take (length ys) xs) ys → length ys ≤ length xs
  zip_within xs [] a = omega arith
  zip_within [] (y ∷ ys) a = absurd a
  zip_within (x ∷ xs) (y ∷ ys) a = omega (arith, zip_within xs ys a.1)

  -- some more after them
  pub zip_append : (xs : List X) (ys zs : List Y) → AllZip P (take (length ys) xs) ys
      → AllZip P (take (length zs) (drop (length ys) xs)) zs → AllZip P (take (length (ys ++ zs)) xs) (ys ++ zs)
  zip_append xs [] zs a b = b
  zip_append [] (y ∷ ys) zs a b = absurd a
  zip_append (x ∷ xs) (y ∷ ys) zs a b = (a.0, zip_append xs ys zs a.1 b)

  -- the one at a place
  pub zip_one : (xs : List X) (n : ℕ) (x : X) (y : Y) → slice_get xs n ≡ Some x → P x y
      → AllZip P (take 1 (drop n xs)) (y ∷ [])
  zip_one [] zero x y is p = absurd cc
  zip_one [] (suc n) x y is p = absurd cc
  zip_one (z ∷ xs) zero x y is p = (let same : x ≡ z = cc in subst (λ x. P x y) same p, tt)
  zip_one (z ∷ xs) (suc n) x y is p = zip_one xs n x y is p

  pub zip_length : (xs : List X) (ys : List Y) → AllZip P xs ys → length xs ≡ length ys
  zip_length [] [] a = refl
  zip_length [] (y ∷ ys) a = absurd a
  zip_length (x ∷ xs) [] a = absurd a
  zip_length (x ∷ xs) (y ∷ ys) a = ap suc (zip_length xs ys a.1)

slice_drop : {X : Type 0} (k n : ℕ) (xs : List X) → slice_get (drop k xs) n ≡ slice_get xs (k + n)
slice_drop zero n xs = let same : n ≡ zero + n = omega arith in ap (λ m. slice_get xs m) same
slice_drop (suc k) n [] = let more : suc k + n ≡ suc (k + n) = omega arith in ap (λ m. slice_get [] m) (sym more)
slice_drop (suc k) n (x ∷ xs) =
    let more : suc k + n ≡ suc (k + n) = omega arith in
    slice_drop k n xs ∙ ap (λ m. slice_get (x ∷ xs) m) (sym more)

pub each_append : {X : Type 0} (P : X → Type 0) (xs ys : List X) → AllByRecursion P xs → AllByRecursion P ys
    → AllByRecursion P (xs ++ ys)
each_append P [] ys a b = b
each_append P (x ∷ xs) ys a b = (a.0, each_append P xs ys a.1 b)

-- one more is joined to what is joined
pub flat_more : {X Y : Type 0} (f : X → List Y) (xs : List X) (x : X)
    → flat_map f (xs ++ x ∷ []) ≡ flat_map f xs ++ f x
flat_more f xs x = flat_map-append f xs (x ∷ []) ∙ ap (λ l. flat_map f xs ++ l) (append-nil (f x))

-- ---- the rows of messages

pub rows_append : (xs ys : List (Option Row)) → message_rows (xs ++ ys) ≡ message_rows xs ++ message_rows ys
rows_append [] ys = refl
rows_append (Some row ∷ xs) ys = ap (λ rows. row ∷ rows) (rows_append xs ys)
rows_append (None ∷ xs) ys = rows_append xs ys

pub none_append : (xs ys : List (Option Row)) → count_by is_none (xs ++ ys) ≡ count_by is_none xs + count_by is_none ys
none_append xs ys = sum_by-append (λ x. cond (is_none x) 1 0) xs ys

-- each message has a row or none
pub rows_or_none : (xs : List (Option Row)) → length xs ≡ length (message_rows xs) + count_by is_none xs
rows_or_none [] = omega arith
rows_or_none (Some row ∷ xs) = omega (arith, rows_or_none xs)
rows_or_none (None ∷ xs) = omega (arith, rows_or_none xs, none_append (None ∷ []) xs)

-- ---- batches

-- after full batches there are others
pub batches_append : (rows more : List Row) (batches others : List Batch) → AreBatches rows batches
    → length rows ≡ 256 * length batches → AreBatches more others → AreBatches (rows ++ more) (batches ++ others)
batches_append rows more [] others none full b = subst (λ l. AreBatches (l ++ more) others) (sym none) b
batches_append rows more (batch ∷ batches) others a full b =
    let enough : 256 ≤ length rows = omega (arith, full) in
    let left : length (drop 256 rows) ≡ 256 * length batches = omega (arith, full, length-drop 256 rows) in (
      a.0,
      a.1 ∙ sym (take-append-le 256 rows more enough),
      subst (λ l. AreBatches l (batches ++ others)) (sym (drop-append-le 256 rows more enough))
          (batches_append (drop 256 rows) more batches others a.2 left b),
    )

take_all : {X : Type 0} (n : ℕ) (xs : List X) → length xs ≤ n → take n xs ≡ xs
take_all zero [] few = refl
take_all (suc n) [] few = refl
take_all zero (x ∷ xs) few = absurd (omega (arith, few))
take_all (suc n) (x ∷ xs) few = ap (λ l. x ∷ l) (take_all n xs (omega (arith, few)))

drop_all : {X : Type 0} (n : ℕ) (xs : List X) → length xs ≤ n → drop n xs ≡ []
drop_all zero [] few = refl
drop_all (suc n) [] few = refl
drop_all zero (x ∷ xs) few = absurd (omega (arith, few))
drop_all (suc n) (x ∷ xs) few = drop_all n xs (omega (arith, few))

pub taken_all : {X : Type 0} (n : ℕ) (xs : List X) → n ≡ length xs → take n xs ≡ xs
taken_all n xs all = take_all n xs (omega (arith, all))

pub one_batch : (rows : List Row) → length rows ≤ 256 → AreBatches rows (batches_of_rows rows)
one_batch [] few = refl
one_batch (row ∷ rows) few =
    (omega arith, sym (take_all 256 (row ∷ rows) few), drop_all 256 (row ∷ rows) few)

pub one_full : (rows : List Row) → length rows ≡ 256 → length (batches_of_rows rows) ≡ 1
one_full [] full = absurd (omega (arith, full))
one_full (row ∷ rows) full = refl

-- of no rows there are no batches
pub no_batches : (batches : List Batch) → AreBatches [] batches → batches ≡ []
no_batches [] a = refl
no_batches (batch ∷ batches) a = absurd (omega (arith, a.0, ap length a.1))

pub takes_append : (caller : Caller) (old mid new : Seen) (batches others : List Batch)
    → TakesAll caller old batches mid → TakesAll caller mid others new → TakesAll caller old (batches ++ others) new
takes_append caller old mid new [] others same b = subst (λ seen. TakesAll caller seen others new) same b
takes_append caller old mid new (batch ∷ batches) others a b =
    (a.0, a.1, takes_append caller a.0 mid new batches others a.2 b)

-- ---- messages that are read one after another

-- one message more has an outcome
pub read_more : (now start end : ℕ) (messages : List (List ℕ)) (outcomes : List (Option Row)) (message : List ℕ)
    (outcome : Option Row) → BeginWith now (drop start messages) outcomes → end ≡ start + length outcomes
    → slice_get messages end ≡ Some message → IsMessageOutcome now message outcome
    → BeginWith now (drop start messages) (outcomes ++ outcome ∷ [])
read_more now start end messages outcomes message outcome given end_is at is =
    zip_append (IsMessageOutcome now) (drop start messages) outcomes (outcome ∷ []) given
    (zip_one (IsMessageOutcome now) (drop start messages) (length outcomes) message outcome
    (slice_drop start (length outcomes) messages ∙ ap (slice_get messages) (sym end_is) ∙ at) is)

-- one row more is not too heavy
pub light_more : (rows : List Row) (row : Row) → batch_weight rows ≤ 262_144 * length rows → IsRow row
    → batch_weight (rows ++ row ∷ []) ≤ 262_144 * length (rows ++ row ∷ [])
light_more rows row light is = omega (
  arith,
  light,
  is.light,
  sum_by-append (λ (row : Row). weight row.fields) rows (row ∷ []),
  length-append rows (row ∷ []),
)

-- Batches, joined, are the rows that they are made of.
batches_joined : (rows : List Row) (batches : List Batch) → AreBatches rows batches
    → flat_map (λ batch. batch) batches ≡ rows
batches_joined rows [] none = sym none
batches_joined rows (batch ∷ batches) are =
    ap (λ later. batch ++ later) (batches_joined (drop 256 rows) batches are.2)
    ∙ ap (λ (first : List Row). first ++ drop 256 rows) are.1 ∙ take-append-drop 256 rows

-- So are those of all reads.
pub reads_joined : (reads : List Read) → AllByRecursion IsTakenUp reads
    → flat_map (λ batch. batch) (batches_of reads) ≡ message_rows (outcomes_of reads)
reads_joined [] each = refl
reads_joined (read ∷ reads) each =
    flat_map-append (λ (batch : Batch). batch) read.batches (batches_of reads)
    ∙ ap (λ (rows : List Row). rows ++ flat_map (λ batch. batch) (batches_of reads))
    (batches_joined (message_rows read.outcomes) read.batches each.0.cut)
    ∙ ap (λ (rows : List Row). message_rows read.outcomes ++ rows) (reads_joined reads each.1)
    ∙ sym (rows_append read.outcomes (outcomes_of reads))
