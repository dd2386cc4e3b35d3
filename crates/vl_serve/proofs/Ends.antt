-- How doors end.
use Rattle.std.proofs.Common.{◌≡◌, inl, inr, ℕ, zero, suc, ◌+◌, ◌<◌, ◌≤◌, Bool, true, false, cond, List, [], ◌∷◌, ◌++◌}
use Rattle.std.proofs.Common.{append-nil, append_assoc, length, map, slice_index_or, slice_set, drop, take, Option}
use Rattle.std.proofs.Common.{None, Some, refl, sym, ap, subst, ◌∙◌, arith}
use mir.Val.{bool_byte}
use Rattle.std.specs.Prelude.{count_by, is_some, zip, MatchOption}
use Rattle.std.specs.List.{AllByRecursion, AllZip}
use Rattle.std.proofs.lemmas.Bool.Decides.{nat_tests}
use Rattle.std.proofs.lemmas.List.Sums.{sum_by-cons}
use Rattle.log_desk.specs.Passes.{PassState}
use Rattle.log_desk.specs.EntryRows.{EntryRows}
use Rattle.log_desk.specs.Seen.{Seen, seen_of}
use Rattle.log_desk.specs.LogEntries.{entry_of, seen_history}
use Rattle.log_desk.specs.LockEntries.{Continues}
use Rattle.std.proofs.lemmas.List.{length-map, map-append}
use Rattle.vl_io.specs.Visits.{HasNoVisit}
use Rattle.vl_serve.specs.Doors.{AreServed, DoorChange, EndDoors, GoesOn, IsOver, IsServed, are_left, is_failed, has_visits}
use Rattle.vl_serve.specs.Workers.{EndsAs, HasWorked, HaveEnded}
use Rattle.vl_serve.specs.declared.worker.Worker.{Worker}

abbrev pub one_if : Bool → ℕ
one_if passes = cond passes 1 0

counted : {X : Type 0} (p : X → Bool) (x : X) (xs : List X) → count_by p (x ∷ xs) ≡ one_if (p x) + count_by p xs
counted p x xs = sum_by-cons (λ y. cond (p y) 1 0) x xs

-- ---- what follows of the doors

is_over : (change : DoorChange) (is_fault : Bool) → IsServed change is_fault → IsOver change
is_over change true served = inl served
is_over change false served = inr served

all_over : (changes : List DoorChange) (ends : List Bool) → AllZip IsServed changes ends
    → AllByRecursion IsOver changes
all_over [] [] each = tt
all_over [] (end ∷ ends) each = absurd each
all_over (change ∷ changes) [] each = absurd each
all_over (change ∷ changes) (end ∷ ends) each = (is_over change end each.0, all_over changes ends each.1)

fault_counts : (change : DoorChange) (is_fault : Bool) → IsServed change is_fault
    → one_if is_fault ≤ one_if (is_failed change)
fault_counts change true served =
    let risen : is_failed change ≡ true = grind (arith, nat_tests, served) in
    subst (λ failed. 1 ≤ one_if failed) (sym risen) (omega arith)
fault_counts change false served = omega arith

none_left : (left : Option ℕ) → HasNoVisit left → are_left left ≡ false
none_left None none = refl
none_left (Some count) none = grind (arith, nat_tests, none)

visits_count : (change : DoorChange) (is_fault : Bool) → IsServed change is_fault
    → one_if (has_visits change) ≤ one_if is_fault
visits_count change true served = at_most (has_visits change)
  where
    at_most : (b : Bool) → one_if b ≤ 1
    at_most true = omega arith
    at_most false = omega arith
visits_count change false served =
    subst (λ left. one_if left ≤ 0) (sym (none_left change.left served)) (omega arith)

at_most : (changes : List DoorChange) (ends : List Bool) → AllZip IsServed changes ends
    → count_by (λ is_fault. is_fault) ends ≤ count_by is_failed changes
at_most [] [] each = omega arith
at_most [] (end ∷ ends) each = absurd each
at_most (change ∷ changes) [] each = absurd each
at_most (change ∷ changes) (end ∷ ends) each =
    omega (
      arith,
      counted (λ is_fault. is_fault) end ends,
      counted is_failed change changes,
      fault_counts change end each.0,
      at_most changes ends each.1,
    )

at_least : (changes : List DoorChange) (ends : List Bool) → AllZip IsServed changes ends
    → count_by has_visits changes ≤ count_by (λ is_fault. is_fault) ends
at_least [] [] each = omega arith
at_least [] (end ∷ ends) each = absurd each
at_least (change ∷ changes) [] each = absurd each
at_least (change ∷ changes) (end ∷ ends) each =
    omega (
      arith,
      counted (λ is_fault. is_fault) end ends,
      counted has_visits change changes,
      visits_count change end each.0,
      at_least changes ends each.1,
    )

pub ends_doors : (changes : List DoorChange) (door_faults : ℕ) → AreServed changes door_faults
    → EndDoors changes door_faults
ends_doors changes door_faults served = record {
  served = served;
  over = all_over changes served.ends served.each;
  most = omega (arith, served.counted, at_most changes served.ends served.each);
  least = omega (arith, served.counted, at_least changes served.ends served.each);
}

-- ---- lists

same_length : {X Y : Type 0} (R : X → Y → Type 0) (xs : List X) (ys : List Y) → AllZip R xs ys → length xs ≡ length ys
same_length R [] [] each = refl
same_length R [] (y ∷ ys) each = absurd each
same_length R (x ∷ xs) [] each = absurd each
same_length R (x ∷ xs) (y ∷ ys) each = ap suc (same_length R xs ys each.1)

take_front : {X : Type 0} (n : ℕ) (xs ys : List X) → n ≡ length xs → take n (xs ++ ys) ≡ xs
take_front zero [] ys is = refl
take_front zero (x ∷ xs) ys is = absurd (omega (arith, is))
take_front (suc n) [] ys is = absurd (omega (arith, is))
take_front (suc n) (x ∷ xs) ys is = ap (λ zs. x ∷ zs) (take_front n xs ys (omega (arith, is)))

each_more : {X Y : Type 0} (R : X → Y → Type 0) (xs : List X) (ys : List Y) (x : X) (y : Y) → AllZip R xs ys → R x y
    → AllZip R (xs ++ x ∷ []) (ys ++ y ∷ [])
each_more R [] [] x y each is = (is, tt)
each_more R [] (b ∷ ys) x y each is = absurd each
each_more R (a ∷ xs) [] x y each is = absurd each
each_more R (a ∷ xs) (b ∷ ys) x y each is = (each.0, each_more R xs ys x y each.1 is)

map_more : {X Y : Type 0} (f : X → Y) (xs : List X) (x : X) → map f (xs ++ x ∷ []) ≡ map f xs ++ f x ∷ []
map_more f [] x = refl
map_more f (y ∷ xs) x = ap (λ ys. f y ∷ ys) (map_more f xs x)

count_more : {X : Type 0} (p : X → Bool) (xs : List X) (x : X) → count_by p (xs ++ x ∷ []) ≡ count_by p xs + one_if (p x)
count_more p [] x = omega (arith, counted p x [])
count_more p (y ∷ xs) x = omega (arith, counted p y (xs ++ x ∷ []), counted p y xs, count_more p xs x)

-- ---- workers

module _ {D : Type 0} (change : D → D → DoorChange) where
  abbrev pub changes : List D → List D → List DoorChange
  changes olds news = map (λ pair. change pair.0 pair.1) (zip olds news)

  -- A door whose worker has worked is served, or was left as it was, and is served then.
  serves : (old new : Worker D) (end : D × Bool) → HasWorked change old new → EndsAs change new end
      → IsServed (change old.door end.0) end.1
  serves old new end worked ends = by_pass old.pass new.pass worked.same_pass worked.served ends
    where
      by_pass : (before after : Option (PassState EntryRows)) → is_some after ≡ is_some before
          → MatchOption before ((new.door ≡ old.door) × (new.is_fault ≡ old.is_fault))
          (λ _. IsServed (change old.door new.door) new.is_fault)
          → MatchOption after (IsServed (change new.door end.0) end.1)
          (λ _. (end.0 ≡ new.door) × (end.1 ≡ new.is_fault))
          → IsServed (change old.door end.0) end.1
      by_pass None None same idle served = subst (λ door. IsServed (change door end.0) end.1) idle.0 served
      by_pass None (Some pass) same idle served = cc
      by_pass (Some pass) None same served left = cc
      by_pass (Some pass) (Some other) same served left =
          subst (λ door. IsServed (change old.door door) end.1) (sym left.0)
          (subst (λ is_fault. IsServed (change old.door new.door) is_fault) (sym left.1) served)

  serve_each : (olds news : List (Worker D)) (ends : List (D × Bool)) → AllZip (HasWorked change) olds news
      → AllZip (EndsAs change) news ends
      → AllZip IsServed (changes (map (λ worker. worker.door) olds) (map (λ end. end.0) ends)) (map (λ end. end.1) ends)
  serve_each [] [] [] worked left = tt
  serve_each [] [] (end ∷ ends) worked left = absurd left
  serve_each [] (new ∷ news) ends worked left = absurd worked
  serve_each (old ∷ olds) [] ends worked left = absurd worked
  serve_each (old ∷ olds) (new ∷ news) [] worked left = absurd left
  serve_each (old ∷ olds) (new ∷ news) (end ∷ ends) worked left =
      (serves old new end worked.0 left.0, serve_each olds news ends worked.1 left.1)

  count_ends : (ends : List (D × Bool))
      → count_by (λ end. end.1) ends ≡ count_by (λ is_fault. is_fault) (map (λ end. end.1) ends)
  count_ends [] = refl
  count_ends (end ∷ ends) =
      counted (λ end. end.1) end ends
      ∙ ap (λ n. one_if end.1 + n) (count_ends ends)
      ∙ sym (counted (λ is_fault. is_fault) end.1 (map (λ end. end.1) ends))

  -- All of the workers are those that have worked.
  pub all_worked : (n : ℕ) (worked hired : List (Worker D)) (news : List D) (door_faults : ℕ) → n ≡ length worked
      → HaveEnded change (take n (worked ++ drop (length worked) hired)) news door_faults
      → HaveEnded change worked news door_faults
  all_worked n worked hired news door_faults is =
      subst (λ workers. HaveEnded change workers news door_faults) (take_front n worked (drop (length worked) hired) is)

  -- What the doors come to once their workers have worked and left.
  pub are_served : (doors news : List D) (hired worked : List (Worker D)) (door_faults : ℕ)
      → map (λ worker. worker.door) hired ≡ doors → AllZip (HasWorked change) hired worked
      → HaveEnded change worked news door_faults → AreServed (changes doors news) door_faults
  are_served doors news hired worked door_faults are has ended = record {
    ends = map (λ end. end.1) ended.ends;
    each = subst (λ olds. AllZip IsServed (changes olds news) (map (λ end. end.1) ended.ends)) are
        (subst (λ news. AllZip IsServed (changes (map (λ worker. worker.door) hired) news) (map (λ end. end.1) ended.ends))
        (sym ended.doors_are) (serve_each hired worked ended.ends has ended.each));
    counted = ended.counted ∙ count_ends ended.ends;
  }

  -- There are as many doors as before.
  pub as_many : (doors news : List D) (hired worked : List (Worker D)) (door_faults : ℕ)
      → map (λ worker. worker.door) hired ≡ doors → AllZip (HasWorked change) hired worked
      → HaveEnded change worked news door_faults → length news ≡ length doors
  as_many doors news hired worked door_faults are has ended = omega (
    arith,
    ap length are,
    length-map hired (λ (worker : Worker D). worker.door),
    same_length (HasWorked change) hired worked has,
    same_length (EndsAs change) worked ended.ends ended.each,
    ap length ended.doors_are,
    length-map ended.ends (λ (end : D × Bool). end.0),
  )

  -- Of all workers the first ones have left, and `rest` are those that have not.
  pub record HaveLeft (all rest : List (Worker D)) (doors : List D) (door_faults : ℕ) : Type 0 where
    pub left : List (Worker D)
    pub split : all ≡ left ++ rest
    pub ended : HaveEnded change left doors door_faults

  pub none_left_yet : (all : List (Worker D)) → HaveLeft all all [] 0
  none_left_yet all = record { left = []; split = refl; ended = record { ends = []; each = tt; doors_are = refl; counted = refl } }

  pub one_more_left : (all rest : List (Worker D)) (worker : Worker D) (doors : List D) (door_faults : ℕ) (door : D)
      (is_fault : Bool) → HaveLeft all (worker ∷ rest) doors door_faults → EndsAs change worker (door, is_fault)
      → HaveLeft all rest (doors ++ door ∷ []) (door_faults + one_if is_fault)
  one_more_left all rest worker doors door_faults door is_fault h ends = record {
    left = h.left ++ worker ∷ [];
    split = h.split ∙ sym (append_assoc h.left (worker ∷ []) rest);
    ended = record {
      ends = h.ended.ends ++ (door, is_fault) ∷ [];
      each = each_more (EndsAs change) h.left h.ended.ends worker (door, is_fault) h.ended.each ends;
      doors_are = ap (λ ds. ds ++ door ∷ []) h.ended.doors_are
          ∙ sym (map_more (λ (end : D × Bool). end.0) h.ended.ends (door, is_fault));
      counted = omega (arith, h.ended.counted, count_more (λ (end : D × Bool). end.1) h.ended.ends (door, is_fault));
    };
  }

  pub all_left : (all : List (Worker D)) (doors : List D) (door_faults : ℕ) → HaveLeft all [] doors door_faults
      → HaveEnded change all doors door_faults
  all_left all doors door_faults h =
      subst (λ workers. HaveEnded change workers doors door_faults) (sym (h.split ∙ append-nil h.left)) h.ended

-- ---- what is seen

pub goes_on_by : (passes : ℕ) (old new : PassState EntryRows) → Continues passes old.numbers old.seen new.seen
    → GoesOn (seen_of old) (seen_of new)
goes_on_by passes old new continues = (
  seen_history continues.rest,
  ap seen_history continues.begins ∙ map-append entry_of old.seen continues.rest,
)

pub goes_on_far : (old mid new : Seen) → GoesOn old mid → GoesOn mid new → GoesOn old new
goes_on_far old mid new first then = (
  first.0 ++ then.0,
  then.1 ∙ ap (λ history. history ++ then.0) first.1 ∙ append_assoc old.history first.0 then.0,
)

-- ---- a bit as a number

pub bit : (n : ℕ) (b : Bool) → n ≡ bool_byte b → n ≡ one_if b
bit n true is = is
bit n false is = is

pub bit_small : (b : Bool) → one_if b ≤ 1
bit_small true = omega arith
bit_small false = omega arith

-- ---- doors one after another

index_behind : {X : Type 0} (i : ℕ) (xs : List X) (d : X) → slice_index_or xs i d ≡ slice_index_or (drop i xs) 0 d
index_behind zero xs d = refl
index_behind (suc i) [] d = refl
index_behind (suc i) (x ∷ xs) d = index_behind i xs d

drop_one_more : {X : Type 0} (i : ℕ) (xs : List X) → drop (suc i) xs ≡ drop 1 (drop i xs)
drop_one_more zero xs = refl
drop_one_more (suc i) [] = refl
drop_one_more (suc i) (x ∷ xs) = drop_one_more i xs

drop_behind_set : {X : Type 0} (i : ℕ) (xs : List X) (x : X) → drop (suc i) (slice_set xs i x) ≡ drop (suc i) xs
drop_behind_set zero [] x = refl
drop_behind_set zero (y ∷ xs) x = refl
drop_behind_set (suc i) [] x = refl
drop_behind_set (suc i) (y ∷ xs) x = drop_behind_set i xs x

pub same_behind : {X : Type 0} (i : ℕ) (xs ys : List X) (x : X) → drop i xs ≡ drop i ys
    → drop (suc i) (slice_set xs i x) ≡ drop (suc i) ys
same_behind i xs ys x same =
    drop_behind_set i xs x ∙ drop_one_more i xs ∙ ap (drop 1) same ∙ sym (drop_one_more i ys)

pub same_there : {X : Type 0} (i : ℕ) (xs ys : List X) (d : X) → drop i xs ≡ drop i ys
    → slice_index_or xs i d ≡ slice_index_or ys i d
same_there i xs ys d same =
    index_behind i xs d ∙ ap (λ rest. slice_index_or rest 0 d) same ∙ sym (index_behind i ys d)

pub as_long : {X : Type 0} (i : ℕ) (xs : List X) (x : X) → length (slice_set xs i x) ≡ length xs
as_long i [] x = refl
as_long zero (y ∷ xs) x = refl
as_long (suc i) (y ∷ xs) x = ap suc (as_long i xs x)

module _ {D : Type 0} (change : D → D → DoorChange) where
  each_set : (i : ℕ) (olds nows : List D) (ends : List Bool) (d new : D) (is_fault : Bool) → i < length olds
      → length nows ≡ length olds → AllZip IsServed (changes change (take i olds) (take i nows)) ends
      → IsServed (change (slice_index_or olds i d) new) is_fault
      → AllZip IsServed (changes change (take (suc i) olds) (take (suc i) (slice_set nows i new))) (ends ++ is_fault ∷ [])
  each_set i [] nows ends d new is_fault small same each is = absurd (omega (arith, small))
  each_set i (old ∷ olds) [] ends d new is_fault small same each is = absurd (omega (arith, same))
  each_set zero (old ∷ olds) (now ∷ nows) [] d new is_fault small same each is = (is, tt)
  each_set zero (old ∷ olds) (now ∷ nows) (end ∷ ends) d new is_fault small same each is = absurd each
  each_set (suc i) (old ∷ olds) (now ∷ nows) [] d new is_fault small same each is = absurd each
  each_set (suc i) (old ∷ olds) (now ∷ nows) (end ∷ ends) d new is_fault small same each is = (
    each.0,
    each_set i olds nows ends d new is_fault (omega (arith, small)) (omega (arith, same)) each.1 is,
  )

  pub served_more : (i : ℕ) (olds nows : List D) (door_faults : ℕ) (d new : D) (is_fault : Bool) → i < length olds
      → length nows ≡ length olds → AreServed (changes change (take i olds) (take i nows)) door_faults
      → IsServed (change (slice_index_or olds i d) new) is_fault
      → AreServed (changes change (take (suc i) olds) (take (suc i) (slice_set nows i new))) (door_faults + one_if is_fault)
  served_more i olds nows door_faults d new is_fault small same served is = record {
    ends = served.ends ++ is_fault ∷ [];
    each = each_set i olds nows served.ends d new is_fault small same served.each is;
    counted = omega (arith, served.counted, count_more (λ b. b) served.ends is_fault);
  }

-- ---- by index

pub zip_by_index : {X : Type 0} (R : X → X → Type 0) (xs ys : List X) → length ys ≡ length xs
    → ((i : ℕ) (d : X) → i < length xs → R (slice_index_or xs i d) (slice_index_or ys i d)) → AllZip R xs ys
zip_by_index R [] [] same each = tt
zip_by_index R [] (y ∷ ys) same each = absurd (omega (arith, same))
zip_by_index R (x ∷ xs) [] same each = absurd (omega (arith, same))
zip_by_index R (x ∷ xs) (y ∷ ys) same each = (
  each 0 x (omega arith),
  zip_by_index R xs ys (omega (arith, same)) (λ i d small. each (suc i) d (omega (arith, small))),
)
