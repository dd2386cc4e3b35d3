-- The part that the items of blocks say.
use Rattle.std.proofs.Common.{◌≡◌, ℕ, ◌<◌, Bool, true, false, List, [], length, map, refl, sym, ap, subst, ◌∙◌, arith}
use Rattle.std.proofs.Common.{None, Ok, IsTrue, ◌↔◌, ◌+◌, ◌≤◌, ◌++◌, ◌∷◌, get_or, take}
use Rattle.std.specs.Prelude.{◌&&◌}
use Rattle.std.proofs.lemmas.Bool.{and_from}
use Rattle.std.proofs.lemmas.List.{append-nil, map_more}
use Rattle.std.proofs.lemmas.List.Concat.{flat_map-append}
use Rattle.std.proofs.lemmas.List.Folds.{list_all-append, list_all-map, list_all_at}
use Rattle.std.proofs.lemmas.List.Sums.{sum_by-append, sum_by-cons}
use Rattle.std.specs.List.Sorted.{IsSorted, IsStrictlySortedBy}
use Rattle.log_model.specs.Field.{weight}
use Rattle.log_model.specs.Row.{Row, batch_limit, batch_weight}
use Rattle.block_format.specs.Rows.{are_numbered_apart, number_cmp, number_of}
use Rattle.block_format.proofs.NumberLaws.{apart-is}
use Rattle.std.specs.List.{list_all}
use Rattle.std.specs.List.Sorted.{IsPermutation}
use Rattle.byte_format.specs.Format.{front, value, ◌>>=◌}
use Rattle.byte_format.specs.Gives.{Stops}
use Rattle.byte_format.specs.declared.Stop.{Stop}
use Rattle.byte_format.specs.declared.Stop.TheVariants as stops
use Rattle.byte_format.proofs.Readings.{front-followed}
use Rattle.log_model.specs.History.{Numbered}
use Rattle.block_format.specs.Reading.{has_spelling}
use Rattle.part_model.specs.Filling.{rows_in_blocks}
use Rattle.part_model.specs.Order.{in_order}
use Rattle.part_model.specs.Part.{ArePartRows, IsPart, rows_weight}
use Rattle.part_model.proofs.PartLaws.{part-is, rows-back}
use Rattle.part_file.specs.Format.{part, part_blocks, part_writing, rows_said}
use Rattle.part_file.specs.TestLaws.{no-part}

said-all : (blocks : List (List Numbered)) → list_all has_spelling blocks ≡ true
    → rows_said blocks ≡ in_order (rows_in_blocks blocks)
unfolding rows_said
said-all blocks e = rw e refl

said-none : (blocks : List (List Numbered)) → list_all has_spelling blocks ≡ false → rows_said blocks ≡ []
unfolding rows_said
said-none blocks e = rw e refl

-- one block is none
pub none-said : (blocks : List (List Numbered)) → list_all has_spelling blocks ≡ false
    → part_writing (rows_said blocks) ≡ None
none-said blocks e = ap part_writing (said-none blocks e) ∙ no-part [] (λ h. absurd (omega (arith, h.some)))

-- the rows are none of a part
pub no-rows : (blocks : List (List Numbered)) (rows : List Numbered) → list_all has_spelling blocks ≡ true
    → rows ≡ rows_in_blocks blocks → (ArePartRows rows → ⊥) → part_writing (rows_said blocks) ≡ None
no-rows blocks rows e same h =
    ap part_writing (said-all blocks e)
    ∙ no-part (in_order (rows_in_blocks blocks)) (λ p. h (subst ArePartRows (sym same) (rows-back (rows_in_blocks blocks) p)))

pub part-said : (blocks : List (List Numbered)) (rows made : List Numbered) → list_all has_spelling blocks ≡ true
    → rows ≡ rows_in_blocks blocks → ArePartRows rows → IsPart made → IsPermutation made rows → made ≡ rows_said blocks
part-said blocks rows made e same h is permuted =
    part-is rows made h is permuted ∙ ap in_order same ∙ sym (said-all blocks e)

-- ---- the items of a part

front-part : (bytes : List ℕ) → front part bytes ≡ front part_blocks bytes >>= λ x. front (value (rows_said x.0)) x.1
unfolding part
front-part bytes = front-followed part_blocks (λ (l : List (List Numbered)). value (rows_said l)) bytes

pub part-read : (bytes rest : List ℕ) (blocks : List (List Numbered)) → front part_blocks bytes ≡ Ok (blocks, rest)
    → front part bytes ≡ Ok (rows_said blocks, rest)
part-read bytes rest blocks e = front-part bytes ∙ rw e refl

pub part-stops : (stop : Stop) (bytes : List ℕ) → Stops stop (front part_blocks bytes) → Stops stop (front part bytes)
part-stops stops.Memory bytes s = tt
part-stops (stops.Left left) bytes s = front-part bytes ∙ rw s refl

-- ---- blocks one after another

pub items-more : {X : Type 0} (f : X → List Numbered) (items : List X) (i : ℕ) (item : X) → i < length items
    → item ≡ get_or items i item
    → rows_in_blocks (map f (take (i + 1) items)) ≡ rows_in_blocks (map f (take i items)) ++ f item
items-more f items i item lt is =
    ap rows_in_blocks (map_more f items i item lt ∙ ap (λ x. map f (take i items) ++ f x ∷ []) (sym is))
    ∙ flat_map-append (λ (b : List Numbered). b) (map f (take i items)) (f item ∷ [])
    ∙ ap (λ (l : List Numbered). rows_in_blocks (map f (take i items)) ++ l) (append-nil (f item))

pub passes-more : {X : Type 0} (p : List Numbered → Bool) (f : X → List Numbered) (items : List X) (i : ℕ) (item : X)
    → i < length items → item ≡ get_or items i item → list_all p (map f (take i items)) ≡ true → p (f item) ≡ true
    → list_all p (map f (take (i + 1) items)) ≡ true
passes-more p f items i item lt is all one =
    ap (list_all p) (map_more f items i item lt ∙ ap (λ x. map f (take i items) ++ f x ∷ []) (sym is))
    ∙ list_all-append p (map f (take i items)) (f item ∷ [])
    ∙ and_from (list_all p (map f (take i items))) (p (f item) && true) all (and_from (p (f item)) true one refl)

pub one-fails : {X : Type 0} (p : List Numbered → Bool) (f : X → List Numbered) (items : List X) (i : ℕ) (item : X)
    → i < length items → item ≡ get_or items i item → p (f item) ≡ false → list_all p (map f items) ≡ false
one-fails p f items i item lt is e =
    list_all-map p f items ∙ list_all_at (λ x. p (f x)) items i item lt (ap (λ x. p (f x)) (sym is) ∙ e)

-- ---- the rules

pub row-weight-more : (rows : List Numbered) (i : ℕ) (row : Numbered) → i < length rows → row ≡ get_or rows i row
    → rows_weight (take (i + 1) rows) ≡ rows_weight (take i rows) + weight row.row.fields
row-weight-more rows i row lt is =
    let more : map (λ (n : Numbered). n.row) (take (i + 1) rows) ≡ map (λ (n : Numbered). n.row) (take i rows) ++ row.row
    ∷ [] = map_more (λ (n : Numbered). n.row) rows i row lt ∙ ap (λ (n : Numbered). map (λ (m : Numbered). m.row) (take i
    rows) ++ n.row ∷ []) (sym is) in
    let parts = ap batch_weight more
    ∙ sum_by-append (λ (r : Row). weight r.fields) (map (λ (n : Numbered). n.row) (take i rows)) (row.row ∷ []) in
    omega (arith, parts, sum_by-cons (λ (r : Row). weight r.fields) row.row [])

pub rules-are : (b : Bool) (rows : List Numbered) (numbers : List (ℕ × ℕ)) → IsPermutation (map number_of rows) numbers
    → IsSorted number_cmp numbers → (IsTrue b ↔ IsStrictlySortedBy number_cmp numbers) → 0 < length rows
    → rows_weight rows ≤ batch_limit → IsTrue b ↔ ArePartRows rows
rules-are b rows numbers same sorted rising some light =
    let is : b ≡ are_numbered_apart rows = apart-is b rows numbers same sorted rising in
    ((λ t. record { some = some; apart = sym is ∙ t; light = light }), (λ h. is ∙ h.apart))
