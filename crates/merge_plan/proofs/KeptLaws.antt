-- The parts that are kept when one more file is old.
use Rattle.std.proofs.Common.{◌≡◌, ◌≢◌, ℕ, Bool, true, false, cond, eqb, List, [], ◌∷◌, ◌++◌, refl, sym, ap, ◌∙◌, arith}
use Rattle.std.specs.Prelude.{◌||◌, not}
use Rattle.std.proofs.Common.{eq-eqb}
use Rattle.std.proofs.lemmas.Bool.{ne_eqb}
use Rattle.std.proofs.lemmas.List.Elements.{filter-append}
use Rattle.std.proofs.lemmas.List.Folds.{list_any-append}
use Rattle.std.specs.List.{AllByRecursion, filter}
use Rattle.part_store.specs.State.{AreInOrder, ComesBefore, Listed, kept}
use Rattle.merge_plan.specs.Grouping.{is_among}
use Rattle.merge_plan.proofs.Lists.{all-parts, all-weaker}

abbrev IsOther : Listed → Listed → Type 0
IsOther part other = other.file ≢ part.file

-- the other parts have other files
pub others : (before : List Listed) (part : Listed) (after : List Listed) → AreInOrder (before ++ part ∷ after)
    → AllByRecursion (λ (other : Listed). other.file ≢ part.file) before
    × AllByRecursion (λ (other : Listed). other.file ≢ part.file) after
others [] part after order =
    (tt, all-weaker (ComesBefore part) (IsOther part) (λ other h same. h.1 (sym same)) after order.0)
others (x ∷ before) part after order =
    let rest = others before part after order.1 in
    let first = (all-parts (ComesBefore x) before (part ∷ after) order.0).1 in
    ((first.0.1, rest.0), rest.1)

or-false : (b : Bool) → (b || false) ≡ b
or-false true = refl
or-false false = refl

or-true : (b : Bool) → (b || true) ≡ true
or-true true = refl
or-true false = refl

pub among-other : (files : List ℕ) (file other : ℕ) → other ≢ file
    → is_among (files ++ file ∷ []) other ≡ is_among files other
among-other files file other differ =
    list_any-append (λ (f : ℕ). eqb f other) files (file ∷ [])
    ∙ ap (λ (b : Bool). is_among files other || (b || false)) (ne_eqb file other (λ same. differ (sym same)))
    ∙ or-false (is_among files other)

pub among-itself : (files : List ℕ) (file : ℕ) → is_among (files ++ file ∷ []) file ≡ true
among-itself files file =
    list_any-append (λ (f : ℕ). eqb f file) files (file ∷ [])
    ∙ ap (λ (b : Bool). is_among files file || (b || false)) (eq-eqb file file refl)
    ∙ or-true (is_among files file)

pub kept-other : (files : List ℕ) (file : ℕ) (parts : List Listed)
    → AllByRecursion (λ (part : Listed). part.file ≢ file) parts → kept (files ++ file ∷ []) parts ≡ kept files parts
kept-other files file [] h = refl
kept-other files file (part ∷ parts) h =
    ap (λ (b : Bool). cond (not b) (part ∷ kept (files ++ file ∷ []) parts) (kept (files ++ file ∷ []) parts))
    (among-other files file part.file h.0)
    ∙ ap (λ (l : List Listed). cond (not (is_among files part.file)) (part ∷ l) l) (kept-other files file parts h.1)

pub kept-append : (files : List ℕ) (xs ys : List Listed) → kept files (xs ++ ys) ≡ kept files xs ++ kept files ys
kept-append files xs ys = filter-append (λ (part : Listed). not (is_among files part.file)) xs ys

-- a part that is not old is kept
pub kept-with : (files : List ℕ) (before : List Listed) (part : Listed) (after : List Listed)
    → is_among files part.file ≡ false
    → kept files (before ++ part ∷ after) ≡ kept files before ++ part ∷ kept files after
kept-with files before part after fresh =
    kept-append files before (part ∷ after)
    ∙ ap (λ (b : Bool). kept files before ++ cond (not b) (part ∷ kept files after) (kept files after)) fresh

-- once its file is old, too, the others are
pub kept-without : (files : List ℕ) (before : List Listed) (part : Listed) (after : List Listed)
    → AreInOrder (before ++ part ∷ after)
    → kept (files ++ part.file ∷ []) (before ++ part ∷ after) ≡ kept files before ++ kept files after
kept-without files before part after order =
    let apart = others before part after order in
    kept-append (files ++ part.file ∷ []) before (part ∷ after)
    ∙ ap (λ (l : List Listed). l ++ kept (files ++ part.file ∷ []) (part ∷ after))
    (kept-other files part.file before apart.0)
    ∙ ap (λ (b : Bool). kept files before ++ cond (not b) (part ∷ kept (files ++ part.file ∷ []) after)
    (kept (files ++ part.file ∷ []) after)) (among-itself files part.file)
    ∙ ap (λ (l : List Listed). kept files before ++ l) (kept-other files part.file after apart.1)
