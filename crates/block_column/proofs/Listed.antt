-- A dictionary that is as it would be made.
use Rattle.std.proofs.Common.{◌≡◌, ℕ, zero, suc, ◌<◌, ◌≤◌, Bool, true, false, List, [], ◌∷◌, length, map, get_or}
use Rattle.std.proofs.Common.{refl, sym, ap, ◌∙◌, arith}
use Rattle.std.specs.Prelude.{◌||◌, bytes_eq, nat_eq, nat_le, nat_lt}
use Rattle.std.specs.List.{list_all, list_any}
use Rattle.std.proofs.lemmas.Bool.{eqb-true, le-leb, ltb-true}
use Rattle.std.proofs.lemmas.List.Folds.{list_any_at}
use Rattle.std.proofs.lemmas.Slice.Eq.{bytes_eq-Decides}
use Rattle.byte_format.proofs.Cases.{both_true}
use Rattle.block_model.specs.Distinct.{HaveSameTexts, code_of, distinct, is_listed, is_short, text_at}
use Rattle.block_column.specs.Kinds.{fits_dictionary}
use Rattle.block_model.proofs.Distinct.{code-is, right_true}
use Rattle.block_model.proofs.Rising.{IsRising, distinct-rising}
use Rattle.block_model.proofs.Same.{code-at, distinct-listed, same-rising}

-- each code below the count is there
abbrev pub AreUsed : ℕ → List ℕ → Type 0
AreUsed count codes = (code : ℕ) → code < count → list_any (nat_eq code) codes ≡ true

same-test : (a b : Bool) → (a ≡ true → b ≡ true) → (b ≡ true → a ≡ true) → a ≡ b
same-test true b f g = sym (f refl)
same-test false true f g = g refl
same-test false false f g = refl

-- a code that is there has its text among those of the rows
coded : (held : List (List ℕ)) (codes : List ℕ) (code : ℕ) → list_any (nat_eq code) codes ≡ true
    → is_listed (map (text_at held) codes) (get_or held code []) ≡ true
coded held [] code e = absurd cc
coded held (c ∷ cs) code e = by (nat_eq code c) refl e (coded held cs code)
  where
    equal : (k : ℕ) → nat_eq code k ≡ true → code ≡ k
    equal k h = eqb-true code k h

    by : (b : Bool) → nat_eq code c ≡ b → (b || list_any (nat_eq code) cs) ≡ true
        → (list_any (nat_eq code) cs ≡ true → is_listed (map (text_at held) cs) (get_or held code []) ≡ true)
        → is_listed (map (text_at held) (c ∷ cs)) (get_or held code []) ≡ true
    by true here h later =
        let same : bytes_eq (get_or held code []) (get_or held c []) ≡ true = (bytes_eq-Decides (get_or held code [])
        (get_or held c [])).1 (ap (λ (k : ℕ). get_or held k []) (equal c here)) in
        rw same refl
    by false here h later =
        right_true (bytes_eq (get_or held code []) (get_or held c [])) (is_listed (map (text_at held) cs) (get_or held code []))
        (later h)

-- and the texts of the rows are held
rows-held : (held : List (List ℕ)) (codes : List ℕ) (text : List ℕ)
    → list_all (λ code. nat_lt code (length held)) codes ≡ true → is_listed (map (text_at held) codes) text ≡ true
    → is_listed held text ≡ true
rows-held held [] text below e = absurd cc
rows-held held (c ∷ cs) text below e =
    let parts = both_true (nat_lt c (length held)) (list_all (λ code. nat_lt code (length held)) cs) below in
    by (bytes_eq text (get_or held c [])) refl e (ltb-true c (length held) parts.0) (rows-held held cs text parts.1)
  where
    by : (b : Bool) → bytes_eq text (get_or held c []) ≡ b → (b || is_listed (map (text_at held) cs) text) ≡ true
        → c < length held → (is_listed (map (text_at held) cs) text ≡ true → is_listed held text ≡ true)
        → is_listed held text ≡ true
    by true here h lt later = list_any_at (bytes_eq text) held c [] lt here
    by false here h lt later = later h

-- texts in order, of which each is used, are the distinct texts of the rows
pub held-distinct : (held : List (List ℕ)) (codes : List ℕ) → IsRising held
    → list_all (λ code. nat_lt code (length held)) codes ≡ true → AreUsed (length held) codes
    → held ≡ distinct (map (text_at held) codes)
held-distinct held codes rising below used =
    same-rising held (distinct (map (text_at held) codes)) rising (distinct-rising (map (text_at held) codes)) same
  where
    there : (text : List ℕ) → is_listed held text ≡ true → is_listed (map (text_at held) codes) text ≡ true
    there text h =
        let at = code-is held text h in
        ap (is_listed (map (text_at held) codes)) (sym at.0) ∙ coded held codes (code_of held text) (used (code_of held text) at.1)

    same : HaveSameTexts held (distinct (map (text_at held) codes))
    same text =
        same-test (is_listed held text) (is_listed (map (text_at held) codes) text) (there text) (rows-held held codes text below)
        ∙ sym (distinct-listed text (map (text_at held) codes))

-- the code of each text of the rows is the one that it has
pub codes-are : (held : List (List ℕ)) (codes : List ℕ) → IsRising held
    → list_all (λ code. nat_lt code (length held)) codes ≡ true
    → codes ≡ map (code_of held) (map (text_at held) codes)
codes-are held [] rising below = refl
codes-are held (c ∷ cs) rising below =
    let parts = both_true (nat_lt c (length held)) (list_all (λ code. nat_lt code (length held)) cs) below in
    ap (λ (k : ℕ). k ∷ cs) (sym (code-at held (get_or held c []) c rising (ltb-true c (length held) parts.0) refl))
    ∙ ap (λ (l : List ℕ). code_of held (get_or held c []) ∷ l) (codes-are held cs rising parts.1)

pub short-at : (held : List (List ℕ)) (i : ℕ) → i < length held → list_all is_short held ≡ true
    → is_short (get_or held i []) ≡ true
short-at [] i lt e = absurd (omega (arith, lt))
short-at (t ∷ ts) zero lt e = (both_true (is_short t) (list_all is_short ts) e).0
short-at (t ∷ ts) (suc i) lt e = short-at ts i (omega (arith, lt)) (both_true (is_short t) (list_all is_short ts) e).1

rows-short : (held : List (List ℕ)) (codes : List ℕ) → list_all (λ code. nat_lt code (length held)) codes ≡ true
    → list_all is_short held ≡ true → list_all is_short (map (text_at held) codes) ≡ true
rows-short held [] below short = refl
rows-short held (c ∷ cs) below short =
    let parts = both_true (nat_lt c (length held)) (list_all (λ code. nat_lt code (length held)) cs) below in
    rw (short-at held c (ltb-true c (length held) parts.0) short) (rows-short held cs parts.1 short)

pub held-fits : (held : List (List ℕ)) (codes : List ℕ) → length held ≤ 255 → list_all is_short held ≡ true
    → list_all (λ code. nat_lt code (length held)) codes ≡ true → held ≡ distinct (map (text_at held) codes)
    → fits_dictionary (map (text_at held) codes) ≡ true
held-fits held codes few short below e =
    let count : nat_le (length (distinct (map (text_at held) codes))) 255 ≡ true = le-leb
    (length (distinct (map (text_at held) codes))) 255 (omega (arith, few, ap length e)) in
    rw count (rows-short held codes below short)

-- ---- one code more

-- Those that were marked are there.
abbrev pub AreThere : List Bool → List ℕ → Type 0
AreThere used codes = (code : ℕ) → get_or used code false ≡ true → list_any (nat_eq code) codes ≡ true

-- where all are marked, each code is there
pub all-used : (used : List Bool) (codes : List ℕ) (count : ℕ) → length used ≡ count
    → list_all (λ is_used. is_used) used ≡ true → AreThere used codes → AreUsed count codes
all-used used codes count len all there code lt = there code (marked used code (omega (arith, lt, len)) all)
  where
    marked : (used : List Bool) (i : ℕ) → i < length used → list_all (λ is_used. is_used) used ≡ true
        → get_or used i false ≡ true
    marked [] i lt e = absurd (omega (arith, lt))
    marked (u ∷ us) zero lt e = (both_true u (list_all (λ is_used. is_used) us) e).0
    marked (u ∷ us) (suc i) lt e =
        marked us i (omega (arith, lt)) (both_true u (list_all (λ is_used. is_used) us) e).1
