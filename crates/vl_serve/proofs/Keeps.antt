-- What a keeper does while doors are served: rounds one after another, and calls of others between them.
use Rattle.std.proofs.Common.{◌≡◌, inl, inr, ℕ, zero, suc, ◌∷◌, ◌<◌, ◌≤◌, List, [], ◌++◌, length, take, drop, refl, sym, ap, subst, ◌∙◌, arith, length-append, append_assoc, append-nil}
use Rattle.std.specs.Prelude.{◌⊎◌, ◌||◌, Bool, Option, None, Some, Result, Ok, Err, MatchResult, true, false}
use Rattle.std.specs.Option.{option_or}
use Rattle.std.proofs.lemmas.List.{map-append}
use Rattle.std.proofs.lemmas.Option.{none-some}
use Rattle.log_model.specs.Batches.{AreOf}
use Rattle.log_model.specs.History.{batches_in, entry_rows}
use Rattle.log_model.specs.Row.{Batch}
use Rattle.vl_io.specs.Faults.{Rose}
use Rattle.vl_vault.specs.Disk.{Past, Image}
use Rattle.vl_vault.specs.Moments.{Always, now, EachImage}
use Rattle.vl_vault.proofs.Runs.{join, weaken}
use Rattle.part_store.specs.State.{StoreState}
use Rattle.part_store.specs.Finds.{Finds, FindsParts}
use Rattle.log_desk.specs.Calls.{KeepsMark, Looked}
use Rattle.log_desk.specs.EntryRows.{EntryRows}
use Rattle.log_desk.specs.Keeping.{EndsRound, FindsFirst, HasKept, HoldsFront, IsMerged, IsRound, MayKeep}
use Rattle.log_desk.specs.Keeping.{batches_seen, later_batches}
use Rattle.log_desk.specs.Keeping.{GoesOn as KeeperGoesOn}
use Rattle.log_desk.specs.LogEntries.{seen_history}
use Rattle.log_desk.specs.Passes.{IsPassOf, LockId, PassState, StaysAtSplit}
use Rattle.log_desk.specs.Seen.{Caller, caller_of, seen_of}
use Rattle.log_desk.specs.declared.fault.KeepFault.{KeepFault}
use Rattle.log_desk.specs.declared.fault.KeepFault.TheVariants as faults
use Rattle.log_desk.proofs.KeepLaws.{finds_held, holds_seen, length-batches, take_on}
use Rattle.log_desk.proofs.SeenLaws.{length-seen}
use Rattle.vl_serve.specs.Doors.{GoesOn}
use Rattle.vl_serve.specs.Keeping.{AreNumbersUp, FindsOnward, HasKeptCause, HaveRounds, HoldsThat, IsKeeping}
use Rattle.vl_serve.specs.Keeping.{kept_of, kept_then, no_rounds}
use Rattle.vl_serve.specs.declared.keep.Kept.{Kept}
use Rattle.vl_serve.proofs.Ends.{goes_on_by, goes_on_far}

-- ---- what is seen

-- The batches of what is seen begin with those of before.
pub batches_on : (p q : PassState EntryRows) (on : GoesOn (seen_of p) (seen_of q))
    → batches_seen q.seen ≡ batches_seen p.seen ++ batches_in on.0
batches_on p q on = ap batches_in on.1 ∙ map-append entry_rows (seen_history p.seen) on.0

pub longer_seen : (p q : PassState EntryRows) → GoesOn (seen_of p) (seen_of q) → length p.seen ≤ length q.seen
longer_seen p q on = omega (
  arith,
  ap length on.1,
  length-append (seen_history p.seen) on.0,
  length-seen p.seen,
  length-seen q.seen,
)

pub goes_on_self : (p : PassState EntryRows) → GoesOn (seen_of p) (seen_of p)
goes_on_self p = ([], sym (append-nil (seen_history p.seen)))

pub goes_on_split : (p q : PassState EntryRows) → StaysAtSplit p q → GoesOn (seen_of p) (seen_of q)
goes_on_split p q stays = ([], ap seen_history stays.seen.0 ∙ sym (append-nil (seen_history p.seen)))

pub marks_far : (p q r : PassState EntryRows) → caller_of q ≡ caller_of p → KeepsMark p q → KeepsMark q r → KeepsMark p r
marks_far p q r same first next =
    let rises = first.rises in
    let more = next.rises in
    record {
      rises = omega (arith, rises, more);
      stays = λ may. next.stays (subst (λ n. 0 < n) (sym (ap (λ (c : Caller). c.may_settle) same)) may) ∙ first.stays may;
    }

-- ---- a round may follow

holds_on : {V : Type 0} (s : StoreState V) (bs cs later : List Batch) → cs ≡ bs ++ later → HoldsFront s bs
    → HoldsFront s cs
holds_on s bs cs later is holds =
    let within = holds.within in
    record {
      within = omega (arith, ap length is, length-append bs later, within);
      are = subst (AreOf (λ part. part.rows) s.parts) (sym (take_on s.front bs cs later is within)) holds.are;
    }

module _ {V : Type 0} (lock : LockId) (s : StoreState V) (p q : PassState EntryRows) (may : MayKeep lock s p) (is : IsPassOf lock q) where
  keeps_on : q.may_settle ≡ p.may_settle → q.mark ≡ p.mark → GoesOn (seen_of p) (seen_of q) → MayKeep lock s q
  keeps_on settles mark on = record {
    of_desk = is;
    may_settle = subst (λ n. 0 < n) (sym settles) may.may_settle;
    holds = holds_on s (batches_seen p.seen) (batches_seen q.seen) (batches_in on.0) (batches_on p q on) may.holds;
    mark = subst (λ n. n ≤ s.front) (sym mark) may.mark;
  }

  -- after doors were served
  pub keeps_served : caller_of q ≡ caller_of p → KeepsMark p q → GoesOn (seen_of p) (seen_of q) → MayKeep lock s q
  keeps_served same mark on = keeps_on (ap (λ (c : Caller). c.may_settle) same) (mark.stays may.may_settle) on

  -- after a split
  pub keeps_split : StaysAtSplit p q → MayKeep lock s q
  keeps_split stays = keeps_on stays.may_settle stays.seen.1 (goes_on_split p q stays)

take_and_drop : {X : Type 0} (k : ℕ) (xs : List X) → take k xs ++ drop k xs ≡ xs
take_and_drop zero xs = refl
take_and_drop (suc k) [] = refl
take_and_drop (suc k) (x ∷ xs) = ap (λ ys. x ∷ ys) (take_and_drop k xs)

length_take : {X : Type 0} (k : ℕ) (xs : List X) → k ≤ length xs → length (take k xs) ≡ k
length_take zero xs few = refl
length_take (suc k) [] few = absurd (omega (arith, few))
length_take (suc k) (x ∷ xs) few = ap suc (length_take k xs (omega (arith, few)))

-- Of fewer batches, as many at least as the front says, the store holds the first too.
holds_front : {V : Type 0} (s : StoreState V) (n : ℕ) (batches : List Batch) → s.front ≤ n → n ≤ length batches
    → HoldsFront s batches → HoldsFront s (take n batches)
holds_front s n batches few there holds =
    let within : s.front ≤ length (take n batches) = omega (arith, few, length_take n batches there) in
    record {
      within = within;
      are = subst (AreOf (λ part. part.rows) s.parts)
          (take_on s.front (take n batches) batches (drop n batches) (sym (take_and_drop n batches)) within) holds.are;
    }

-- ---- images

-- Of one list a shorter front begins a longer one.
front_take : {X : Type 0} (m n : ℕ) (xs : List X) → m ≤ n → (rest : List X) × (take n xs ≡ take m xs ++ rest)
front_take zero n xs few = (take n xs, refl)
front_take (suc m) zero xs few = absurd (omega (arith, few))
front_take (suc m) (suc n) [] few = ([], refl)
front_take (suc m) (suc n) (x ∷ xs) few =
    let on = front_take m n xs (omega (arith, few)) in (on.0, ap (λ l. x ∷ l) on.1)

within_seen : {V : Type 0} (lock : LockId) (s : StoreState V) (p : PassState EntryRows) → MayKeep lock s p
    → s.front ≤ length (batches_seen p.seen)
within_seen lock s p may = may.holds.within

-- A longer front of what is seen later begins with the batches from before.
begins : (m n : ℕ) (p q : PassState EntryRows) → m ≤ length (batches_seen p.seen) → m ≤ n
    → GoesOn (seen_of p) (seen_of q)
    → (rest : List Batch) × (take n (batches_seen q.seen) ≡ take m (batches_seen p.seen) ++ rest)
begins m n p q within few on =
    let more = front_take m n (batches_seen q.seen) few in (
      more.0,
      more.1 ∙ ap (λ l. l ++ more.0)
          (take_on m (batches_seen p.seen) (batches_seen q.seen) (batches_in on.0) (batches_on p q on) within),
    )

onward : (held far : List Batch) (image : Image) (rest : List Batch) → far ≡ held ++ rest → FindsOnward far image
    → FindsOnward held image
onward held far image rest is finds =
    (rest ++ finds.0, subst (λ b. Finds b image) (ap (λ l. l ++ finds.0) is ∙ append_assoc held rest finds.0) finds.1)

found_onward : (held far : List Batch) (image : Image) (rest : List Batch) → far ≡ held ++ rest → Finds far image
    → FindsOnward held image
found_onward held far image rest is finds = (rest, subst (λ b. Finds b image) is finds)

-- ---- rounds one after another

module _ {V : Type 0} (told : Type 0) (past : V → Past) where
  -- No round: others went on.
  pub keeping_still : (lock : LockId) (s : StoreState V) (p q : PassState EntryRows) → MayKeep lock s p
      → (told → s.halted ≡ None → EachImage (FindsParts s.front s.parts) (past s.vault))
      → q.numbers ≡ p.numbers → q.may_settle ≡ p.may_settle → GoesOn (seen_of p) (seen_of q)
      → IsKeeping told past s s p q
  keeping_still lock s p q may finds numbers settles on = record {
    numbers = numbers;
    may_settle = settles;
    goes_on = on;
    rises = omega arith;
    halts = λ n is. refl;
    moments = λ tells is. now (λ image leaves.
        found_onward (take s.front (batches_seen p.seen)) (take s.front (batches_seen p.seen)) image [] (sym (append-nil (take s.front (batches_seen p.seen))))
        (finds_held s (batches_seen p.seen) (past s.vault) may.holds (finds tells is) image leaves));
  }

  -- Others went on before.
  pub keeping_before : (lock : LockId) (a b : StoreState V) (p q r : PassState EntryRows) → MayKeep lock a p
      → q.numbers ≡ p.numbers → q.may_settle ≡ p.may_settle → GoesOn (seen_of p) (seen_of q)
      → IsKeeping told past a b q r → IsKeeping told past a b p r
  keeping_before lock a b p q r may numbers settles on next = record {
    numbers = next.numbers ∙ numbers;
    may_settle = next.may_settle ∙ settles;
    goes_on = goes_on_far (seen_of p) (seen_of q) (seen_of r) on next.goes_on;
    rises = next.rises;
    halts = next.halts;
    moments = λ tells is. subst (λ held. Always (EachImage (FindsOnward held)) (past a.vault) (past b.vault))
        (take_on a.front (batches_seen p.seen) (batches_seen q.seen) (batches_in on.0) (batches_on p q on) may.holds.within)
        (next.moments tells is);
  }

  -- Others went on after.
  pub keeping_after : (a b : StoreState V) (p q r : PassState EntryRows) → IsKeeping told past a b p q
      → r.numbers ≡ q.numbers → r.may_settle ≡ q.may_settle → GoesOn (seen_of q) (seen_of r)
      → IsKeeping told past a b p r
  keeping_after a b p q r first numbers settles on = record {
    numbers = numbers ∙ first.numbers;
    may_settle = settles ∙ first.may_settle;
    goes_on = goes_on_far (seen_of p) (seen_of q) (seen_of r) first.goes_on on;
    rises = first.rises;
    halts = first.halts;
    moments = first.moments;
  }

  -- Rounds, and then further ones.
  pub keeping_far : (lock : LockId) (a b c : StoreState V) (p q r : PassState EntryRows) → MayKeep lock a p
      → IsKeeping told past a b p q → IsKeeping told past b c q r → IsKeeping told past a c p r
  keeping_far lock a b c p q r may first next =
      let up = first.rises in
      let more = next.rises in
      record {
        numbers = next.numbers ∙ first.numbers;
        may_settle = next.may_settle ∙ first.may_settle;
        goes_on = goes_on_far (seen_of p) (seen_of q) (seen_of r) first.goes_on next.goes_on;
        rises = omega (arith, up, more);
        halts = λ n is. next.halts n (ap (λ (s : StoreState V). s.halted) (first.halts n is) ∙ is) ∙ first.halts n is;
        moments = λ tells is. by_halted tells is b.halted refl;
      }
    where
      held : List Batch
      held = take a.front (batches_seen p.seen)

      far : List Batch
      far = take b.front (batches_seen q.seen)

      on : (rest : List Batch) × (far ≡ held ++ rest)
      on = begins a.front b.front p q (within_seen lock a p may) first.rises first.goes_on

      by_halted : told → a.halted ≡ None → (h : Option ℕ) → b.halted ≡ h
          → Always (EachImage (FindsOnward held)) (past a.vault) (past c.vault)
      by_halted tells was None is =
          join (first.moments tells was)
          (weaken (λ moment each image leaves. onward held far image on.0 on.1 (each image leaves)) (next.moments tells is))
      by_halted tells was (Some n) is =
          subst (λ (s : StoreState V). Always (EachImage (FindsOnward held)) (past a.vault) (past s.vault))
          (sym (next.halts n is)) (first.moments tells was)

  -- One round.
  pub keeping_round : (lock : LockId) (count : ℕ) (a b : StoreState V) (p q : PassState EntryRows) → MayKeep lock a p
      → IsRound told past count a b p q → KeeperGoesOn lock p q → ((n : ℕ) → a.halted ≡ Some n → b ≡ a)
      → IsKeeping told past a b p q
  keeping_round lock count a b p q may round goes halts = record {
    numbers = ap (λ (c : Caller). c.numbers) goes.caller;
    may_settle = ap (λ (c : Caller). c.may_settle) goes.caller;
    goes_on = on;
    rises = by_front round.front;
    halts = halts;
    moments = λ tells is. weaken (λ moment each image leaves. pick image (each image leaves)) (round.moments tells is);
  }
    where
      on : GoesOn (seen_of p) (seen_of q)
      on = goes_on_by lock.passes p q goes.adds

      held : List Batch
      held = take a.front (batches_seen p.seen)

      by_front : (b.front ≡ a.front) ⊎ (b.front ≡ count) → a.front ≤ b.front
      by_front (inl same) = omega (arith, same)
      by_front (inr is) = let few = round.goes_on in omega (arith, few, is)

      finds_first : (n : ℕ) (image : Image) → a.front ≤ n → Finds (take n (batches_seen q.seen)) image → FindsOnward held image
      finds_first n image few finds =
          let more = begins a.front n p q (within_seen lock a p may) few on in
          found_onward held (take n (batches_seen q.seen)) image more.0 more.1 finds

      pick : (image : Image) → FindsFirst a.front count (batches_seen q.seen) image → FindsOnward held image
      pick image (inl was) = finds_first a.front image (omega arith) was
      pick image (inr new) = finds_first count image round.goes_on new

  module _ (risen : V → ℕ) where
    -- ---- what rounds came to

    abbrev pub Ends : ℕ → StoreState V → StoreState V → PassState EntryRows → Result ℕ KeepFault → Type 0
    Ends count a b q answer =
        MatchResult answer (HasKept told past count a b q) (EndsRound risen (later_batches a count (batches_seen q.seen)) a b)

    halted_ends : (count : ℕ) (a b : StoreState V) (q : PassState EntryRows) (answer : Result ℕ KeepFault)
        → ((n : ℕ) → a.halted ≡ Some n → answer ≡ Err (faults.Halted n)) → Ends count a b q answer
        → (n : ℕ) → a.halted ≡ Some n → b ≡ a
    halted_ends count a b q answer halted ends n is =
        (subst (Ends count a b q) (halted n is) ends).1

    not_halted : (a : StoreState V) (answer : Result ℕ KeepFault)
        → ((n : ℕ) → a.halted ≡ Some n → answer ≡ Err (faults.Halted n))
        → ((n : ℕ) → answer ≡ Err (faults.Halted n) → ⊥) → a.halted ≡ None
    not_halted a answer halted other = by a.halted refl
      where
        by : (h : Option ℕ) → a.halted ≡ h → a.halted ≡ None
        by None is = is
        by (Some n) is = absurd (other n (halted n is))

    below : (m n : ℕ) → (m < n) ⊎ (n ≤ m)
    below zero zero = inr (omega arith)
    below zero (suc n) = inl (omega arith)
    below (suc m) zero = inr (omega arith)
    below (suc m) (suc n) = elim (below m n) [
      | inl less ↦ inl (omega (arith, less))
      | inr few ↦ inr (omega (arith, few))
    ]

    numbers_same : (a b : StoreState V) → b ≡ a → AreNumbersUp a b
    numbers_same a b same =
        subst (λ (s : StoreState V). AreNumbersUp a s) (sym same) (omega arith, omega arith)

    numbers_merged : (a b : StoreState V) (batches : List Batch) → IsMerged batches a b → AreNumbersUp a b
    numbers_merged a b batches merged =
        let replaced = merged.replaced in
        let up = replaced.generation in
        let more = replaced.next_file in (omega (arith, up), omega (arith, more))

    -- No number of the store falls.
    numbers_of : (count : ℕ) (a b : StoreState V) (p q : PassState EntryRows) (answer : Result ℕ KeepFault)
        → IsRound told past count a b p q → Ends count a b q answer → AreNumbersUp a b
    numbers_of count a b p q (Ok n) round ends = elim (below a.front n) [
      | inl less ↦ numbers_merged a b (later_batches a n (batches_seen q.seen)) (ends.merged less)
      | inr not_less ↦ numbers_same a b
          (round.quiet (same_count not_less ends.counted round.goes_on))
    ]
      where
        same_count : n ≤ a.front → n ≡ count → a.front ≤ count → count ≡ a.front
        same_count few counted goes = omega (arith, few, counted, goes)
    numbers_of count a b p q (Err (faults.Halted n)) round ends = numbers_same a b ends.1
    numbers_of count a b p q (Err faults.Spent) round ends = numbers_same a b ends.0
    numbers_of count a b p q (Err faults.VaultFault) round ends =
        let same = ends.2 in
        let generation = same.generation in
        let next_file = same.next_file in (omega (arith, generation), omega (arith, next_file))
    numbers_of count a b p q (Err faults.Memory) round ends = elim ends.1 [
      | inl same ↦ numbers_same a b same
      | inr merged ↦ numbers_merged a b (later_batches a count (batches_seen q.seen)) merged
    ]

    cause_of : (count : ℕ) (a b : StoreState V) (q : PassState EntryRows) (answer : Result ℕ KeepFault)
        → a.front ≤ count → count ≤ length (batches_seen q.seen) → HoldsFront a (batches_seen q.seen)
        → AreNumbersUp a b → Ends count a b q answer → a.front ≤ b.front → HasKeptCause risen a b (kept_of answer).fault
    cause_of count a b q (Ok n) goes few holds numbers ends up = tt
    cause_of count a b q (Err (faults.Halted n)) goes few holds numbers ends up = ends.0
    cause_of count a b q (Err faults.Spent) goes few holds numbers ends up = record {
      at = a;
      since = (omega arith, (omega arith, omega arith));
      until = (up, numbers);
      batches = take count (batches_seen q.seen);
      holds = holds_front a count (batches_seen q.seen) goes few holds;
      files = ends.1;
      parts = ends.2;
      merge = ends.3;
      spent = ends.4;
    }
    cause_of count a b q (Err faults.VaultFault) goes few holds numbers ends up = ends.0
    cause_of count a b q (Err faults.Memory) goes few holds numbers ends up = tt

    on_of : (count : ℕ) (a b : StoreState V) (q : PassState EntryRows) (answer : Result ℕ KeepFault)
        → ((n : ℕ) → a.halted ≡ Some n → answer ≡ Err (faults.Halted n)) → Ends count a b q answer
        → (kept_of answer).fault ≡ None → b.halted ≡ a.halted
    on_of count a b q (Ok n) halted ends none = ends.on ∙ sym (not_halted a (Ok n) halted (λ m is. absurd cc))
    on_of count a b q (Err (faults.Halted n)) halted ends none = absurd (none-some (faults.Halted n) (sym none))
    on_of count a b q (Err faults.Spent) halted ends none = absurd (none-some faults.Spent (sym none))
    on_of count a b q (Err faults.VaultFault) halted ends none = absurd (none-some faults.VaultFault (sym none))
    on_of count a b q (Err faults.Memory) halted ends none =
        ends.0 ∙ sym (not_halted a (Err faults.Memory) halted (λ m is. absurd cc))

    pub rounds_one : (lock : LockId) (count : ℕ) (a b : StoreState V) (p q : PassState EntryRows)
        (answer : Result ℕ KeepFault) → MayKeep lock a p → KeeperGoesOn lock p q → IsRound told past count a b p q
        → Ends count a b q answer → ((n : ℕ) → a.halted ≡ Some n → answer ≡ Err (faults.Halted n))
        → risen a.vault ≤ risen b.vault → HaveRounds told past risen a b p q (kept_of answer)
    rounds_one lock count a b p q answer may goes round ends halted stays =
        let keeping = keeping_round lock count a b p q may round goes (halted_ends count a b q answer halted ends) in
        let numbers = numbers_of count a b p q answer round ends in
        let few = round.at_most in
        record {
          keeping = keeping;
          stays = stays;
          numbers = numbers;
          cause = cause_of count a b q answer round.goes_on (omega (arith, few, length-batches q.seen))
              (holds_seen a lock.passes p.numbers p.seen q.seen goes.adds may.holds) numbers ends keeping.rises;
          on = on_of count a b q answer halted ends;
        }

    pub holds_one : (count : ℕ) (a b : StoreState V) (p q : PassState EntryRows) (answer : Result ℕ KeepFault)
        → IsRound told past count a b p q → Ends count a b q answer → HoldsThat b p (kept_of answer)
    holds_one count a b p q (Ok n) round ends none full =
        let least = round.at_least in omega (arith, least, ends.front, ends.counted)
    holds_one count a b p q (Err (faults.Halted n)) round ends none full = absurd (none-some (faults.Halted n) (sym none))
    holds_one count a b p q (Err faults.Spent) round ends none full = absurd (none-some faults.Spent (sym none))
    holds_one count a b p q (Err faults.VaultFault) round ends none full = absurd (none-some faults.VaultFault (sym none))
    holds_one count a b p q (Err faults.Memory) round ends none full = absurd cc

    rose_on : (a b c d : ℕ) → Rose b c → a ≤ b → c ≤ d → Rose a d
    rose_on a b c d rose first next = omega (arith, rose, first, next)

    -- the first cause, after further rounds
    numbers_far : (a b c : StoreState V) → AreNumbersUp a b → AreNumbersUp b c → AreNumbersUp a c
    numbers_far a b c first next = (omega (arith, first.0, next.0), omega (arith, first.1, next.1))

    cause_stays : (a b c : StoreState V) (fault : KeepFault) → b.front ≤ c.front → AreNumbersUp b c
        → risen b.vault ≤ risen c.vault → HasKeptCause risen a b (Some fault) → HasKeptCause risen a c (Some fault)
    cause_stays a b c (faults.Halted n) up numbers more cause = cause
    cause_stays a b c faults.Spent up numbers more cause =
        let until = cause.until.0 in
        record {
          at = cause.at;
          since = cause.since;
          until = (omega (arith, until, up), numbers_far cause.at b c cause.until.1 numbers);
          batches = cause.batches;
          holds = cause.holds;
          files = cause.files;
          parts = cause.parts;
          merge = cause.merge;
          spent = cause.spent;
        }
    cause_stays a b c faults.VaultFault up numbers more cause =
        rose_on (risen a.vault) (risen a.vault) (risen b.vault) (risen c.vault) cause (omega arith) more
    cause_stays a b c faults.Memory up numbers more cause = absurd cause

    -- a later cause, after rounds without one
    cause_later : (a b c : StoreState V) (fault : Option KeepFault) → b.halted ≡ a.halted → a.front ≤ b.front
        → AreNumbersUp a b → risen a.vault ≤ risen b.vault → HasKeptCause risen b c fault
        → HasKeptCause risen a c fault
    cause_later a b c None on up numbers more cause = tt
    cause_later a b c (Some (faults.Halted n)) on up numbers more cause = sym on ∙ cause
    cause_later a b c (Some faults.Spent) on up numbers more cause =
        let since = cause.since.0 in
        record {
          at = cause.at;
          since = (omega (arith, since, up), numbers_far a b cause.at numbers cause.since.1);
          until = cause.until;
          batches = cause.batches;
          holds = cause.holds;
          files = cause.files;
          parts = cause.parts;
          merge = cause.merge;
          spent = cause.spent;
        }
    cause_later a b c (Some faults.VaultFault) on up numbers more cause =
        rose_on (risen a.vault) (risen b.vault) (risen c.vault) (risen c.vault) cause more (omega arith)
    cause_later a b c (Some faults.Memory) on up numbers more cause = absurd cause

    cause_far : (a b c : StoreState V) (first next : Option KeepFault) → (first ≡ None → b.halted ≡ a.halted)
        → a.front ≤ b.front → b.front ≤ c.front → AreNumbersUp a b → AreNumbersUp b c
        → risen a.vault ≤ risen b.vault → risen b.vault ≤ risen c.vault
        → HasKeptCause risen a b first → HasKeptCause risen b c next → HasKeptCause risen a c (option_or first next)
    cause_far a b c None next on up up_more numbers numbers_more stays stays_more cause later =
        cause_later a b c next (on refl) up numbers stays later
    cause_far a b c (Some fault) next on up up_more numbers numbers_more stays stays_more cause later =
        cause_stays a b c fault up_more numbers_more stays_more cause

    on_far : (a b c : StoreState V) (first next : Option KeepFault) → (first ≡ None → b.halted ≡ a.halted)
        → (next ≡ None → c.halted ≡ b.halted) → option_or first next ≡ None → c.halted ≡ a.halted
    on_far a b c None next on later none = later none ∙ on refl
    on_far a b c (Some fault) next on later none = absurd (none-some fault (sym none))

    -- Rounds, and then further ones.
    pub rounds_far : (lock : LockId) (a b c : StoreState V) (p q r : PassState EntryRows) (first next : Kept)
        → MayKeep lock a p → HaveRounds told past risen a b p q first → HaveRounds told past risen b c q r next
        → HaveRounds told past risen a c p r (kept_then first next)
    rounds_far lock a b c p q r first next may before after =
        let stays = before.stays in
        let more = after.stays in
        record {
          keeping = keeping_far lock a b c p q r may before.keeping after.keeping;
          stays = omega (arith, stays, more);
          numbers = numbers_far a b c before.numbers after.numbers;
          cause = cause_far a b c first.fault next.fault before.on before.keeping.rises after.keeping.rises
              before.numbers after.numbers stays more before.cause after.cause;
          on = on_far a b c first.fault next.fault before.on after.on;
        }

    pub rounds_still : (lock : LockId) (s : StoreState V) (p : PassState EntryRows) → MayKeep lock s p
        → (told → s.halted ≡ None → EachImage (FindsParts s.front s.parts) (past s.vault))
        → HaveRounds told past risen s s p p no_rounds
    rounds_still lock s p may finds = record {
      keeping = keeping_still lock s p p may finds refl refl (goes_on_self p);
      stays = omega arith;
      numbers = (omega arith, omega arith);
      cause = tt;
      on = λ none. refl;
    }

    pub rounds_before : (lock : LockId) (a b : StoreState V) (p q r : PassState EntryRows) (kept : Kept) → MayKeep lock a p
        → q.numbers ≡ p.numbers → q.may_settle ≡ p.may_settle → GoesOn (seen_of p) (seen_of q)
        → HaveRounds told past risen a b q r kept → HaveRounds told past risen a b p r kept
    rounds_before lock a b p q r kept may numbers settles on have = record {
      keeping = keeping_before lock a b p q r may numbers settles on have.keeping;
      stays = have.stays;
      numbers = have.numbers;
      cause = have.cause;
      on = have.on;
    }

    pub rounds_after : (a b : StoreState V) (p q r : PassState EntryRows) (kept : Kept)
        → HaveRounds told past risen a b p q kept
        → r.numbers ≡ q.numbers → r.may_settle ≡ q.may_settle → GoesOn (seen_of q) (seen_of r)
        → HaveRounds told past risen a b p r kept
    rounds_after a b p q r kept have numbers settles on = record {
      keeping = keeping_after a b p q r have.keeping numbers settles on;
      stays = have.stays;
      numbers = have.numbers;
      cause = have.cause;
      on = have.on;
    }

    -- The desk was asked how many batches wait.
    pub rounds_looked : (lock : LockId) (a b : StoreState V) (p q r : PassState EntryRows) (kept : Kept)
        → HaveRounds told past risen a b p q kept → Looked lock q r → HaveRounds told past risen a b p r kept
    rounds_looked lock a b p q r kept have looked =
        let same = looked.took.caller in
        rounds_after a b p q r kept have (ap (λ (c : Caller). c.numbers) same) (ap (λ (c : Caller). c.may_settle) same)
        (goes_on_by lock.passes q r looked.adds)

  -- What the last rounds hold, the first ones and these do.
  pub holds_far : (b : StoreState V) (p q : PassState EntryRows) (first next : Kept) → GoesOn (seen_of p) (seen_of q)
      → HoldsThat b q next → HoldsThat b p (kept_then first next)
  holds_far b p q first next on holds none full =
      let few = longer_seen p q on in
      let more = holds (later_none first.fault next.fault none) (later_false first.memory next.memory full) in
      omega (arith, few, more)
    where
      later_none : (x y : Option KeepFault) → option_or x y ≡ None → y ≡ None
      later_none None y is = is
      later_none (Some fault) y is = absurd (none-some fault (sym is))

      later_false : (x y : Bool) → (x || y) ≡ false → y ≡ false
      later_false true y is = absurd cc
      later_false false y is = is

  -- What the first rounds hold, these and the next ones do.
  pub holds_on_far : (b c : StoreState V) (p : PassState EntryRows) (first next : Kept) → b.front ≤ c.front
      → HoldsThat b p first → HoldsThat c p (kept_then first next)
  holds_on_far b c p first next up holds none full =
      let few = holds (first_none first.fault next.fault none) (first_false first.memory next.memory full) in
      omega (arith, few, up)
    where
      first_none : (x y : Option KeepFault) → option_or x y ≡ None → x ≡ None
      first_none None y is = refl
      first_none (Some fault) y is = absurd (none-some fault (sym is))

      first_false : (x y : Bool) → (x || y) ≡ false → x ≡ false
      first_false true y is = absurd cc
      first_false false y is = refl

-- ---- by what rounds came to, and where branches meet

pub rounds_by : {V : Type 0} (told : Type 0) (past : V → Past) (risen : V → ℕ) (a b : StoreState V)
    (p q : PassState EntryRows) (kept is : Kept) → kept ≡ is → HaveRounds told past risen a b p q is
    → HaveRounds told past risen a b p q kept
rounds_by told past risen a b p q kept is same = subst (HaveRounds told past risen a b p q) (sym same)

pub cause_by : {V : Type 0} (risen : V → ℕ) (a b : StoreState V) (kept is : Kept) → kept ≡ is
    → HasKeptCause risen a b is.fault → HasKeptCause risen a b kept.fault
cause_by risen a b kept is same = subst (λ (k : Kept). HasKeptCause risen a b k.fault) (sym same)

pub holds_by : {V : Type 0} (s : StoreState V) (p : PassState EntryRows) (kept is : Kept) → kept ≡ is
    → HoldsThat s p is → HoldsThat s p kept
holds_by s p kept is same = subst (HoldsThat s p) (sym same)

-- A round may follow rounds that came to this.
abbrev pub Holds : {V : Type 0} → Type 0 → (V → Past) → (V → ℕ) → LockId → StoreState V → PassState EntryRows
    → StoreState V → PassState EntryRows → Kept → Type 0
Holds told past risen lock old before new after kept =
    MayKeep lock new after × HaveRounds told past risen old new before after kept

pub moved : {A B C : Type 0} (P : A → B → C → Type 0) (a a' : A) (b b' : B) (c c' : C) → a ≡ a' → b ≡ b' → c ≡ c'
    → P a' b' c' → P a b c
moved P a a' b b' c c' a_is b_is c_is x =
    subst (λ v. P v b c) (sym a_is) (subst (λ v. P a' v c) (sym b_is) (subst (λ v. P a' b' v) (sym c_is) x))
