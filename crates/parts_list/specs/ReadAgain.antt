-- A list that is written is read again.
use Rattle.std.proofs.Common.{◌≡◌, ℕ, ◌<◌, ◌^◌, ◌∙◌, Bool, true, List, [], ◌∷◌, ◌++◌, length, Ok, refl}
use Rattle.std.proofs.Common.{sym, ap}
use Rattle.std.proofs.Common.{arith, append_assoc}
use Rattle.std.specs.Prelude.{◌&&◌, ◌==◌, ◌%◌, nat_le, nat_lt, bytes_eq}
use Rattle.std.specs.List.{AllByRecursion, flat_map, list_all}
use Rattle.std.specs.Int.{Width, byte_len, w16, w32, w64, from_le_bytes, to_le_bytes}
use Rattle.std.proofs.lemmas.Bool.{ltb-true}
use Rattle.std.proofs.lemmas.List.{append-nil}
use Rattle.std.proofs.lemmas.Nat.{from_le_bytes-to_le_bytes_2, from_le_bytes-to_le_bytes_4, from_le_bytes-to_le_bytes_8}
use Rattle.byte_format.specs.Format.{Format, value, exactly, followed, many, front, whole, ended, ◌>>=◌}
use Rattle.byte_format.specs.Items.{number, number_that, any_number}
use Rattle.byte_format.specs.Spelling.{IsReadAgain}
use Rattle.byte_format.proofs.Cases.{both_true, some_from}
use Rattle.byte_format.proofs.Readings.{front-followed, front-item}
use Rattle.byte_format.proofs.Turns.{many-again}
use Rattle.parts_list.specs.declared.list.Entry.{Entry}
use Rattle.parts_list.specs.declared.list.List.{List as Listing}
use Rattle.parts_list.specs.Listing.{is_generation, is_front, is_next_file, is_file_below, is_entry}
use Rattle.parts_list.specs.Listing.{are_in_order, have_distinct_files, is_list, is_list_of}
use Rattle.parts_list.specs.Format.{these_bytes, magic, is_version, entry, counted_entries, listing, slot_format}
use Rattle.parts_list.specs.Format.{entry_bytes, head_bytes, numbers_bytes, parts_bytes, body_of, slot_writing}

-- a number that passes the test
number_step : {A : Type 0} (w : Width) (test : ℕ → Bool) (next : ℕ → Format A) (n : ℕ) (rest : List ℕ)
    → from_le_bytes w (to_le_bytes w n) ≡ n → length (to_le_bytes w n) ≡ byte_len w → test n ≡ true
    → front (followed (number_that w test) next) (to_le_bytes w n ++ rest) ≡ front (next n) rest
number_step w test next n rest back len good =
    front-item (exactly (byte_len w)) (λ bytes. test (from_le_bytes w bytes)) (λ bytes. next (from_le_bytes w bytes))
    (to_le_bytes w n) rest (sym len) (ap test back ∙ good)
    ∙ ap (λ m. front (next m) rest) back

-- a number of each width
step16 : {A : Type 0} (test : ℕ → Bool) (next : ℕ → Format A) (n : ℕ) (rest : List ℕ) → n < 2 ^ 16 → test n ≡ true
    → front (followed (number_that w16 test) next) (to_le_bytes w16 n ++ rest) ≡ front (next n) rest
step16 test next n rest fits good = number_step w16 test next n rest (from_le_bytes-to_le_bytes_2 n fits) refl good

step32 : {A : Type 0} (test : ℕ → Bool) (next : ℕ → Format A) (n : ℕ) (rest : List ℕ) → n < 2 ^ 32 → test n ≡ true
    → front (followed (number_that w32 test) next) (to_le_bytes w32 n ++ rest) ≡ front (next n) rest
step32 test next n rest fits good = number_step w32 test next n rest (from_le_bytes-to_le_bytes_4 n fits) refl good

step64 : {A : Type 0} (test : ℕ → Bool) (next : ℕ → Format A) (n : ℕ) (rest : List ℕ) → n < 2 ^ 64 → test n ≡ true
    → front (followed (number_that w64 test) next) (to_le_bytes w64 n ++ rest) ≡ front (next n) rest
step64 test next n rest fits good = number_step w64 test next n rest (from_le_bytes-to_le_bytes_8 n fits) refl good

entry-again : (next : ℕ) (e : Entry) (rest : List ℕ) → next < 2 ^ 64 → is_entry next e ≡ true
    → front (entry next) (entry_bytes e ++ rest) ≡ Ok (e, rest)
unfolding entry entry_bytes
entry-again next e rest small good =
    let p = both_true (nat_lt e.day (2 ^ 32) && nat_lt e.bytes (2 ^ 64)) (is_file_below next e.file) good in
    let q = both_true (nat_lt e.day (2 ^ 32)) (nat_lt e.bytes (2 ^ 64)) p.0 in
    let r = both_true (nat_le 2 e.file) (nat_lt e.file next) p.1 in
    let day = to_le_bytes w32 e.day in
    let file = to_le_bytes w64 e.file in
    let size = to_le_bytes w64 e.bytes in
    let below : e.file < next = ltb-true e.file next r.1 in
    ap (front (entry next)) (append_assoc (day ++ file) size rest ∙ append_assoc day file (size ++ rest))
    ∙ step32 any_number (λ day. followed (number_that w64 (is_file_below next)) (λ file. followed (number w64) (λ
    bytes. value (record { day = day; file = file; bytes = bytes })))) e.day (file ++ (size ++ rest)) (ltb-true
    e.day (2 ^ 32) q.0) refl
    ∙ step64 (is_file_below next) (λ file. followed (number w64) (λ bytes. value (record {
      day = e.day;
      file = file;
      bytes = bytes;
    }))) e.file (size ++ rest) (omega (arith, below, small)) p.1
    ∙ step64 any_number (λ bytes. value (record { day = e.day; file = e.file; bytes = bytes })) e.bytes rest
    (ltb-true e.bytes (2 ^ 64) q.1) refl

-- what the rules say, one by one
record Rules (l : Listing) : Type 0 where
  generation : is_generation l.generation ≡ true
  front : is_front l.front ≡ true
  next_file : is_next_file l.next_file ≡ true
  count : nat_lt (length l.entries) (2 ^ 32) ≡ true
  entries : list_all (is_entry l.next_file) l.entries ≡ true

rules_of : (l : Listing) → is_list l ≡ true → Rules l
rules_of l good =
    let g = is_generation l.generation in
    let f = is_front l.front in
    let n = is_next_file l.next_file in
    let c = nat_lt (length l.entries) (2 ^ 32) in
    let e = list_all (is_entry l.next_file) l.entries in
    let o = are_in_order l.entries in
    let p6 = both_true (g && f && n && c && e && o) (have_distinct_files l.entries) good in
    let p5 = both_true (g && f && n && c && e) o p6.0 in
    let p4 = both_true (g && f && n && c) e p5.0 in
    let p3 = both_true (g && f && n) c p4.0 in
    let p2 = both_true (g && f) n p3.0 in
    let p1 = both_true g f p2.0 in
    record { generation = p1.0; front = p1.1; next_file = p2.1; count = p3.1; entries = p4.1 }

-- a list has fewer than 2^32 entries
pub few_entries : (l : Listing) → is_list l ≡ true → length l.entries < 2 ^ 32
few_entries l good = ltb-true (length l.entries) (2 ^ 32) (rules_of l good).count

all_by_recursion : (next : ℕ) (es : List Entry) → list_all (is_entry next) es ≡ true
    → AllByRecursion (λ e. is_entry next e ≡ true) es
all_by_recursion next [] good = tt
all_by_recursion next (e ∷ es) good = let p = both_true (is_entry next e) (list_all (is_entry next) es) good in (
  p.0,
  all_by_recursion next es p.1,
)

counted-again : (l : Listing) → Rules l → l.next_file < 2 ^ 64
    → front (counted_entries l.next_file) (to_le_bytes w32 (length l.entries) ++ (flat_map entry_bytes l.entries ++ []))
    ≡ Ok (l.entries, [])
unfolding counted_entries
counted-again l rules small =
    let es = l.entries in
    step32 any_number (λ count. many count (entry l.next_file)) (length es) (flat_map entry_bytes es ++ [])
    (ltb-true (length es) (2 ^ 32) rules.count) refl
    ∙ many-again (entry l.next_file) entry_bytes (λ e. is_entry l.next_file e ≡ true)
    (λ e rest good. entry-again l.next_file e rest small good) es [] (all_by_recursion l.next_file es rules.entries)

-- the list of these numbers and entries
abbrev listed : ℕ → ℕ → ℕ → List Entry → Format Listing
listed generation batches next entries =
    value (record { generation = generation; front = batches; next_file = next; entries = entries })

-- the items one after another, the last ones together
regrouped : (m v g f n c e : List ℕ) → (m ++ v) ++ ((g ++ f) ++ n) ++ (c ++ e)
    ≡ m ++ (v ++ (g ++ (f ++ (n ++ (c ++ (e ++ []))))))
regrouped m v g f n c e =
    append_assoc (m ++ v) ((g ++ f) ++ n) (c ++ e)
    ∙ append_assoc m v (((g ++ f) ++ n) ++ (c ++ e))
    ∙ ap (λ x. m ++ (v ++ x)) (append_assoc (g ++ f) n (c ++ e) ∙ append_assoc g f (n ++ (c ++ e)))
    ∙ ap (λ x. m ++ (v ++ (g ++ (f ++ (n ++ (c ++ x)))))) (sym (append-nil e))

spelled-front : (l : Listing) → is_list l ≡ true → front slot_format (1 ∷ body_of l) ≡ Ok (l, [])
unfolding slot_format listing body_of head_bytes numbers_bytes parts_bytes
spelled-front l good =
    let rules = rules_of l good in
    let g = both_true (nat_le 1 l.generation) (nat_lt l.generation (2 ^ 63)) rules.generation in
    let n = both_true (nat_le 2 l.next_file) (nat_lt l.next_file (2 ^ 63)) rules.next_file in
    let generation_small : l.generation < 2 ^ 63 = ltb-true l.generation (2 ^ 63) g.1 in
    let f = both_true (nat_le 0 l.front) (nat_lt l.front (2 ^ 63)) rules.front in
    let front_small : l.front < 2 ^ 63 = ltb-true l.front (2 ^ 63) f.1 in
    let next_small : l.next_file < 2 ^ 63 = ltb-true l.next_file (2 ^ 63) n.1 in
    let entries = to_le_bytes w32 (length l.entries) ++ (flat_map entry_bytes l.entries ++ []) in
    let from_next = to_le_bytes w64 l.next_file ++ entries in
    let from_front = to_le_bytes w64 l.front ++ from_next in
    let from_generation = to_le_bytes w64 l.generation ++ from_front in
    let from_version = to_le_bytes w16 1 ++ from_generation in
    let to_next = λ (generation front : ℕ). followed (number_that w64 is_next_file) (λ next.
    followed (counted_entries next) (listed generation front next)) in
    let to_front = λ (generation : ℕ). followed (number_that w64 is_front) (λ front. to_next generation front) in
    let to_generation = followed (number_that w64 is_generation) (λ generation. to_front generation) in
    let to_version = followed (number_that w16 is_version) (λ version. to_generation) in
    ap (λ (b : List ℕ). front slot_format (1 ∷ b)) (regrouped magic (to_le_bytes w16 1) (to_le_bytes w64
    l.generation) (to_le_bytes w64 l.front) (to_le_bytes w64 l.next_file) (to_le_bytes w32 (length l.entries))
    (flat_map entry_bytes l.entries))
    ∙ front-item (exactly 1) (λ found. bytes_eq found (1 ∷ [])) (λ gate. followed (these_bytes magic) (λ name.
    to_version)) (1 ∷ []) (magic ++ from_version) refl refl
    ∙ front-item (exactly 6) (λ found. bytes_eq found magic) (λ name. to_version) magic from_version refl refl
    ∙ step16 is_version (λ version. to_generation) 1 from_generation (omega arith) refl
    ∙ step64 is_generation to_front l.generation from_front (omega (arith, generation_small)) rules.generation
    ∙ step64 is_front (to_next l.generation) l.front from_next (omega (arith, front_small)) rules.front
    ∙ step64 is_next_file (λ next. followed (counted_entries next) (listed l.generation l.front next))
    l.next_file entries (omega (arith, next_small)) rules.next_file
    ∙ front-followed (counted_entries l.next_file) (listed l.generation l.front l.next_file) entries
    ∙ ap (λ r. r >>= λ x. front (listed l.generation l.front l.next_file x.0) x.1)
    (counted-again l rules (omega (arith, next_small)))

pub list-again : (slot : ℕ) → IsReadAgain slot_format (slot_writing slot)
list-again slot l bytes written =
    let p = some_from (is_list_of slot l) (1 ∷ body_of l) bytes written in
    let q = both_true (l.generation % 2 == slot) (is_list l) p.0 in
    ap (whole slot_format) (sym p.1) ∙ ap (λ r. r >>= ended) (spelled-front l q.1)
