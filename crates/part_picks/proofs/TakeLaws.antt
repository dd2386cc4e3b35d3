-- Rows that are taken from the front of others.
use Rattle.std.proofs.Common.{◌≡◌, ℕ, zero, suc, ◌+◌, ◌<◌, ◌≤◌, List, [], ◌∷◌, ◌++◌, length, get_or, take, drop, sym, ap, subst, ◌∙◌, arith}
use Rattle.std.proofs.lemmas.List.{append-nil, append_assoc, drop_all, drop_at, drop_more, length-append, take-append-drop}
use Rattle.std.proofs.lemmas.List.{take_at, take_more}
use Rattle.std.proofs.lemmas.List.Concat.{flat_map-append}
use Rattle.log_model.specs.Field.{Field}
use Rattle.log_model.specs.History.{Numbered}
use Rattle.block_format.specs.Rows.{labels_of}
use Rattle.part_model.specs.Filling.{rows_in_blocks}
use Rattle.part_picks.proofs.EndLaws.{IsOther}

pub rows-push : (picks : List (List Numbered)) (pick : List Numbered)
    → rows_in_blocks (picks ++ pick ∷ []) ≡ rows_in_blocks picks ++ pick
rows-push picks pick =
    flat_map-append (λ (p : List Numbered). p) picks (pick ∷ [])
    ∙ ap (λ (l : List Numbered). rows_in_blocks picks ++ l) (append-nil pick)

-- the first of the picks moves
pub move-first : (picks new queue rest : List (List Numbered)) (pick old : List Numbered) → queue ≡ pick ∷ rest
    → new ≡ picks ++ pick ∷ [] → rows_in_blocks picks ++ rows_in_blocks queue ≡ old
    → rows_in_blocks new ++ rows_in_blocks rest ≡ old
move-first picks new queue rest pick old is_queue is_new e =
    ap (λ (l : List (List Numbered)). rows_in_blocks l ++ rows_in_blocks rest) is_new
    ∙ ap (λ (l : List Numbered). l ++ rows_in_blocks rest) (rows-push picks pick)
    ∙ append_assoc (rows_in_blocks picks) pick (rows_in_blocks rest)
    ∙ ap (λ (l : List (List Numbered)). rows_in_blocks picks ++ rows_in_blocks l) (sym is_queue) ∙ e

-- the front of the first of the picks moves
pub move-front : (picks new queue rest left : List (List Numbered)) (pick front back old : List Numbered)
    → queue ≡ pick ∷ rest → left ≡ back ∷ rest → new ≡ picks ++ front ∷ [] → front ++ back ≡ pick
    → rows_in_blocks picks ++ rows_in_blocks queue ≡ old → rows_in_blocks new ++ rows_in_blocks left ≡ old
move-front picks new queue rest left pick front back old is_queue is_left is_new parts e =
    ap (λ (l : List (List Numbered)). rows_in_blocks l ++ rows_in_blocks left) is_new
    ∙ ap (λ (l : List Numbered). l ++ rows_in_blocks left) (rows-push picks front)
    ∙ append_assoc (rows_in_blocks picks) front (rows_in_blocks left)
    ∙ ap (λ (l : List (List Numbered)). rows_in_blocks picks ++ (front ++ rows_in_blocks l)) is_left
    ∙ ap (λ (l : List Numbered). rows_in_blocks picks ++ l) (sym (append_assoc front back (rows_in_blocks rest))
    ∙ ap (λ (l : List Numbered). l ++ rows_in_blocks rest) parts)
    ∙ ap (λ (l : List (List Numbered)). rows_in_blocks picks ++ rows_in_blocks l) (sym is_queue) ∙ e

pub count-push : (picks new : List (List Numbered)) (pick : List Numbered) → new ≡ picks ++ pick ∷ []
    → length (rows_in_blocks new) ≡ length (rows_in_blocks picks) + length pick
count-push picks new pick is_new =
    ap (λ (l : List (List Numbered)). length (rows_in_blocks l)) is_new ∙ ap length (rows-push picks pick)
    ∙ length-append (rows_in_blocks picks) pick

pub taken-is : (taken left old : List Numbered) (count : ℕ) → taken ++ left ≡ old → length taken ≡ count
    → taken ≡ take count old
taken-is taken left old count e n = sym (take_at taken left count n) ∙ ap (take count) e

pub left-is : (taken left old : List Numbered) (count : ℕ) → taken ++ left ≡ old → length taken ≡ count
    → left ≡ drop count old
left-is taken left old count e n = sym (drop_at taken left count n) ∙ ap (drop count) e

-- ---- the first of the picks

pub rows-more : (queue : List (List Numbered)) (i : ℕ) (pick : List Numbered) → i < length queue
    → pick ≡ get_or queue i pick → rows_in_blocks (take (i + 1) queue) ≡ rows_in_blocks (take i queue) ++ pick
rows-more queue i pick lt is =
    ap rows_in_blocks (take_more queue i pick lt ∙ ap (λ (p : List Numbered). take i queue ++ p ∷ []) (sym is))
    ∙ rows-push (take i queue) pick

pub rows-parts : (queue : List (List Numbered)) (i : ℕ)
    → rows_in_blocks (take i queue) ++ rows_in_blocks (drop i queue) ≡ rows_in_blocks queue
rows-parts queue i =
    sym (flat_map-append (λ (p : List Numbered). p) (take i queue) (drop i queue))
    ∙ ap rows_in_blocks (take-append-drop i queue)

pub some-rows : (queue : List (List Numbered)) (first : List Numbered) → 0 < length queue → first ≡ get_or queue 0 first
    → 0 < length first → 0 < length (rows_in_blocks queue)
some-rows [] first some e rows = absurd (omega (arith, some))
some-rows (p ∷ queue) first some e rows = omega (arith, length-append p (rows_in_blocks queue), ap length e, rows)

-- ---- streams

pub labels-first : (queue : List (List Numbered)) (first : List Numbered) → 0 < length queue → first ≡ get_or queue 0 first
    → 0 < length first → labels_of (rows_in_blocks queue) ≡ labels_of first
labels-first [] first some e rows = absurd (omega (arith, some))
labels-first ([] ∷ queue) first some e rows = absurd (omega (arith, rows, ap length e))
labels-first ((r ∷ p) ∷ queue) first some e rows = sym (ap labels_of e)

pub not-first : (queue : List (List Numbered)) (i : ℕ) (first pick : List Numbered) → i < length queue
    → first ≡ get_or queue 0 first → pick ≡ get_or queue i pick → (labels_of first ≡ labels_of pick → ⊥) → 0 < i
not-first [] i first pick lt e f other = absurd (omega (arith, lt))
not-first (p ∷ queue) zero first pick lt e f other = absurd (other (ap labels_of (e ∙ sym f)))
not-first (p ∷ queue) (suc i) first pick lt e f other = omega arith

pub some-taken : (queue : List (List Numbered)) (i : ℕ) (first : List Numbered) → 0 < i → 0 < length queue
    → first ≡ get_or queue 0 first → 0 < length first → 0 < length (rows_in_blocks (take i queue))
some-taken queue zero first up some e rows = absurd (omega (arith, up))
some-taken [] (suc i) first up some e rows = absurd (omega (arith, some))
some-taken (p ∷ queue) (suc i) first up some e rows =
    omega (arith, length-append p (rows_in_blocks (take i queue)), ap length e, rows)

pub other-rest : (queue : List (List Numbered)) (i : ℕ) (pick : List Numbered) (labels : List Field) → i < length queue
    → pick ≡ get_or queue i pick → 0 < length pick → (labels ≡ labels_of pick → ⊥)
    → IsOther labels (rows_in_blocks (drop i queue))
other-rest queue i pick labels lt e some other =
    subst (λ (l : List (List Numbered)). IsOther labels (rows_in_blocks l)) (sym (drop_more queue i pick lt ∙ ap (λ (p : List
    Numbered). p ∷ drop (i + 1) queue) (sym e))) (by pick some other)
  where
    by : (p : List Numbered) → 0 < length p → (labels ≡ labels_of p → ⊥)
        → IsOther labels (rows_in_blocks (p ∷ drop (i + 1) queue))
    by [] some other = absurd (omega (arith, some))
    by (r ∷ p) some other = other

pub none-left : (queue : List (List Numbered)) (i : ℕ) (labels : List Field) → length queue ≤ i
    → IsOther labels (rows_in_blocks (drop i queue))
none-left queue i labels le =
    subst (λ (l : List (List Numbered)). IsOther labels (rows_in_blocks l)) (sym (drop_all i queue le)) tt
