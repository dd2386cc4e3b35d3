-- The columns of rows that are picked, by one column more.
use Rattle.std.proofs.Common.{◌≡◌, ℕ, ◌+◌, ◌<◌, ◌≤◌, ◌*◌, Bool, true, false, List, [], ◌∷◌, ◌++◌, length}
use Rattle.std.proofs.Common.{filter, map, take, get_or}
use Rattle.std.proofs.Common.{Bor, Some, cond, refl, sym, ap, subst, ◌∙◌, arith, slice_get}
use Rattle.std.specs.Prelude.{◌||◌, not, sum_by}
use Rattle.std.specs.List.{list_any}
use Rattle.std.proofs.lemmas.Bool.{false≢true, le-ltb}
use Rattle.std.proofs.lemmas.List.{map-append}
use Rattle.std.proofs.lemmas.List.Sums.{sum_by-cons}
use Rattle.std.proofs.lemmas.Option.{slice_get-get_or}
use Rattle.byte_format.proofs.Cases.{some_is}
use Rattle.log_model.specs.Field.{is_empty}
use Rattle.log_model.specs.History.{Numbered}
use Rattle.word_filter.specs.Words.{filter_of}
use Rattle.block_body.specs.Outline.{NamedFilter}
use Rattle.block_body.specs.Outlines.{filter_named}
use Rattle.block_body.proofs.HeldLaws.{get-map}
use Rattle.block_model.specs.Columns.{values_of}
use Rattle.block_gather.specs.Gathered.{cell_weight, column_weight, has_text, is_used, name_weight}
use Rattle.block_gather.proofs.NameLaws.{kept-more, left-out}
use Rattle.block_gather.proofs.WeightLaws.{weight-more}

-- the text at a place is the name there
pub text-is : (texts : List (Bor (List ℕ))) (names : List (List ℕ)) (i : ℕ) (d : Bor (List ℕ))
    → map (λ t. t.now) texts ≡ names → i < length texts → (get_or texts i d).now ≡ get_or names i []
text-is texts names i d same lt =
    sym (get-map (λ (t : Bor (List ℕ)). t.now) texts i d [] lt) ∙ ap (λ (l : List (List ℕ)). get_or l i []) same

pub name-is : (names others : List (List ℕ)) (i : ℕ) (name : List ℕ) → others ≡ names → i < length names
    → slice_get others i ≡ Some name → name ≡ get_or names i []
name-is names others i name same lt e =
    some_is name (get_or names i []) (sym e ∙ ap (λ (l : List (List ℕ)). slice_get l i) same
    ∙ slice_get-get_or names i [] lt)

-- ---- a column that is used

pub head-more : (rows : List Numbered) (names : List (List ℕ)) (i : ℕ) (name bloom : List ℕ) (old new : List NamedFilter)
    → i < length names → name ≡ get_or names i [] → is_used rows (get_or names i []) ≡ true
    → bloom ≡ filter_of (values_of rows (get_or names i []))
    → old ≡ map (filter_named rows) (filter (is_used rows) (take i names)) → new ≡ old ++ (name, bloom) ∷ []
    → new ≡ map (filter_named rows) (filter (is_used rows) (take (i + 1) names))
head-more rows names i name bloom old new lt is used words before e =
    let here : List ℕ = get_or names i [] in
    let kept : List (List ℕ) = filter (is_used rows) (take i names) in
    e ∙ ap (λ (l : List NamedFilter). l ++ (name, bloom) ∷ []) before
    ∙ ap (λ (n : List ℕ). map (filter_named rows) kept ++ (n, bloom) ∷ []) is
    ∙ ap (λ (b : List ℕ). map (filter_named rows) kept ++ (here, b) ∷ []) words
    ∙ sym (map-append (filter_named rows) kept (here ∷ []))
    ∙ ap (map (filter_named rows)) (sym (kept-more (is_used rows) names i lt used))

pub values-more : (rows : List Numbered) (names : List (List ℕ)) (i : ℕ) (values : List (List ℕ))
    (old new : List (List (List ℕ))) → i < length names → is_used rows (get_or names i []) ≡ true
    → values ≡ values_of rows (get_or names i [])
    → old ≡ map (values_of rows) (filter (is_used rows) (take i names)) → new ≡ old ++ values ∷ []
    → new ≡ map (values_of rows) (filter (is_used rows) (take (i + 1) names))
values-more rows names i values old new lt used are before e =
    let here : List ℕ = get_or names i [] in
    let kept : List (List ℕ) = filter (is_used rows) (take i names) in
    e ∙ ap (λ (l : List (List (List ℕ))). l ++ values ∷ []) before
    ∙ ap (λ (v : List (List ℕ)). map (values_of rows) kept ++ v ∷ []) are
    ∙ sym (map-append (values_of rows) kept (here ∷ []))
    ∙ ap (map (values_of rows)) (sym (kept-more (is_used rows) names i lt used))

-- ---- a column that is not

weight-zero : (name : ℕ) (values : List (List ℕ)) → list_any has_text values ≡ false → column_weight name values ≡ 0
weight-zero name [] h = refl
weight-zero name ([] ∷ vs) h =
    let none : cell_weight name [] ≡ 0 = refl in
    omega (arith, none, sum_by-cons (cell_weight name) [] vs, weight-zero name vs h)
weight-zero name ((b ∷ bs) ∷ vs) h =
    let filled : is_empty (b ∷ bs) ≡ false = le-ltb (length (b ∷ bs)) 1 (omega arith) in
    let there : (not (is_empty (b ∷ bs)) || list_any has_text vs) ≡ true = rw filled refl in
    absurd (false≢true (sym h ∙ there))

pub heads-stay : (rows : List Numbered) (names : List (List ℕ)) (i : ℕ) (heads : List NamedFilter) → i < length names
    → is_used rows (get_or names i []) ≡ false
    → heads ≡ map (filter_named rows) (filter (is_used rows) (take i names))
    → heads ≡ map (filter_named rows) (filter (is_used rows) (take (i + 1) names))
heads-stay rows names i heads lt none e =
    e ∙ ap (map (filter_named rows)) (sym (left-out (is_used rows) names i lt none))

pub values-stay : (rows : List Numbered) (names : List (List ℕ)) (i : ℕ) (values : List (List (List ℕ)))
    → i < length names → is_used rows (get_or names i []) ≡ false
    → values ≡ map (values_of rows) (filter (is_used rows) (take i names))
    → values ≡ map (values_of rows) (filter (is_used rows) (take (i + 1) names))
values-stay rows names i values lt none e =
    e ∙ ap (map (values_of rows)) (sym (left-out (is_used rows) names i lt none))

pub weight-stays : (rows : List Numbered) (names : List (List ℕ)) (i weight : ℕ) → i < length names
    → is_used rows (get_or names i []) ≡ false → weight ≡ sum_by (name_weight rows) (take i names)
    → weight ≡ sum_by (name_weight rows) (take (i + 1) names)
weight-stays rows names i weight lt none e =
    let here = weight-zero (length (get_or names i [])) (values_of rows (get_or names i [])) none in
    let next = (weight-more (name_weight rows) names i (sum_by (name_weight rows) names) lt refl).0 in
    omega (arith, e, here, next)
