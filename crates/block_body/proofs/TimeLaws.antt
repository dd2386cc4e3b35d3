-- The times of the rows of a block, as they are held.
use Rattle.std.proofs.Common.{◌≡◌, ◌∙◌, ℕ, ℤ, zero, suc, ◌<◌, ◌≤◌, ◌≤ℤ◌, true, List, [], ◌∷◌, ap, arith}
use Rattle.std.proofs.Common.{get_or, length, map, refl, sym}
use Rattle.std.specs.List.{AllByRecursion, list_all}
use Rattle.std.proofs.lemmas.Int.{ints}
use Rattle.byte_format.proofs.Cases.{both_true}
use Rattle.log_model.specs.History.{Numbered}
use Rattle.block_model.specs.Keys.{keys_of}
use Rattle.block_model.specs.declared.keys.Key.{Key}
use Rattle.block_format.specs.Keys.{zipped}
use Rattle.block_format.specs.Rows.{are_ordered, comes_before}
use Rattle.block_body.specs.Held.{AreEven, keys_in, numbers_in}
use Rattle.block_body.specs.Outlines.{DoNotFall, time_of}
use Rattle.block_body.specs.declared.body.Batches.{Batches}
use Rattle.block_body.specs.declared.body.Body.{Body}
use Rattle.block_body.proofs.SpanLaws.{first-least}
use Rattle.block_body.proofs.StoreLaws.{numbers-wide}

times-zipped : (ts : List ℤ) (bs ps : List ℕ) → length bs ≡ length ts → length ps ≡ length ts
    → map (λ (key : Key). key.time) (zipped ts bs ps) ≡ ts
times-zipped [] bs ps b p = refl
times-zipped (t ∷ ts) [] ps b p = absurd (omega (arith, b))
times-zipped (t ∷ ts) (b ∷ bs) [] e p = absurd (omega (arith, p))
times-zipped (t ∷ ts) (b ∷ bs) (p ∷ ps) e f =
    ap (λ (l : List ℤ). t ∷ l) (times-zipped ts bs ps (omega (arith, e)) (omega (arith, f)))

times-of : (rows : List Numbered) → map (λ (key : Key). key.time) (keys_of rows) ≡ map time_of rows
times-of [] = refl
times-of (n ∷ ns) = ap (λ (l : List ℤ). time_of n ∷ l) (times-of ns)

pub times-held : (rows : List Numbered) (body : Body) (numbers : Batches) → AreEven body numbers
    → keys_in body numbers ≡ keys_of rows → body.times.items ≡ map time_of rows
times-held rows body numbers even keys =
    sym (times-zipped body.times.items (numbers_in (length body.times.items) numbers) body.places.items
    (numbers-wide (length body.times.items) numbers even.wide) even.places)
    ∙ ap (map (λ (key : Key). key.time)) keys ∙ times-of rows

-- ---- they do not fall

above-all : (least : ℤ) (rows : List Numbered) (j : ℕ) (time : ℤ)
    → AllByRecursion (λ (n : Numbered). least ≤ℤ time_of n) rows → j < length (map time_of rows)
    → least ≤ℤ get_or (map time_of rows) j time
above-all least [] j time h lt = absurd (omega (arith, lt))
above-all least (n ∷ ns) zero time h lt = h.0
above-all least (n ∷ ns) (suc j) time h lt = above-all least ns j time h.1 (omega (arith, lt))

pub times-ordered : (rows : List Numbered) → are_ordered rows ≡ true → DoNotFall (map time_of rows)
times-ordered [] e i j time le lt = absurd (omega (arith, lt))
times-ordered (n ∷ ns) e zero zero time le lt = omega (arith, ints)
times-ordered (n ∷ ns) e (suc i) zero time le lt = absurd (omega (arith, le))
times-ordered (n ∷ ns) e zero (suc j) time le lt =
    let p = both_true (list_all (comes_before n) ns) (are_ordered ns) e in
    above-all (time_of n) ns j time (first-least n ns p.0) (omega (arith, lt))
times-ordered (n ∷ ns) e (suc i) (suc j) time le lt =
    let p = both_true (list_all (comes_before n) ns) (are_ordered ns) e in
    times-ordered ns p.1 i j time (omega (arith, le)) (omega (arith, lt))
