-- Walks over the cells of a row that is lent.
use Rattle.std.proofs.Common.{◌≡◌, ℕ, ◌+◌, ◌<◌, ◌≤◌, Bool, true, false, not, ◌||◌, cond, List, [], ◌∷◌, ◌++◌, drop, length}
use Rattle.std.proofs.Common.{refl, sym, ap, ◌∙◌, append_assoc, append-nil, arith}
use Rattle.std.proofs.lemmas.Bool.{false≢true, le-ltb}
use Rattle.std.proofs.lemmas.Grind.{flat_map-append}
use Rattle.std.proofs.lemmas.List.{drop_all, drop_more}
use Rattle.json.specs.Token.{Token, key, string}
use Rattle.log_model.specs.Field.{Field, is_empty, set_field, without}
use Rattle.lent_row.specs.Cells.{cell_at, has_value}
use Rattle.lq_pipes.specs.Cells.{StepsOver, fields_among, fields_behind}
use Rattle.lq_pipes.specs.Merge.{fields_before, fields_from, is_after}
use Rattle.lq_pipes.specs.Tokens.{member_tokens, members_tokens}

-- ---- cells

among_first : (cell : Field) (cells : List Field)
    → fields_among (cell ∷ cells) ≡ fields_among (cell ∷ []) ++ fields_among cells
among_first cell cells =
    elim (has_value cell) as (λ b. cond b (cell ∷ fields_among cells) (fields_among cells)
    ≡ cond b (cell ∷ []) [] ++ fields_among cells) [ true ↦ refl | false ↦ refl ]

-- the field of one more cell
pub behind_next : (cells : List Field) (place : ℕ) → place < length cells
    → fields_behind place cells ≡ fields_among (cell_at cells place ∷ []) ++ fields_behind (place + 1) cells
behind_next cells place below =
    ap fields_among (drop_more cells place ([], []) below) ∙ among_first (cell_at cells place) (drop (place + 1) cells)

pub behind_end : (cells : List Field) (place : ℕ) → length cells ≤ place → fields_behind place cells ≡ []
behind_end cells place ends = ap fields_among (drop_all place cells ends)

-- ---- the place of a name

passed : (name : List ℕ) (cell : Field) (fields : List Field) → (is_empty cell.1 || is_after name cell) ≡ true →
    (fields_before name (fields_among (cell ∷ []) ++ fields) ≡ fields_among (cell ∷ []) ++ fields_before name fields)
    × (fields_from name (fields_among (cell ∷ []) ++ fields) ≡ fields_from name fields)
passed name cell fields =
    elim (is_empty cell.1) as (λ e. (e || is_after name cell) ≡ true →
    (fields_before name (cond (not e) (cell ∷ []) [] ++ fields) ≡ cond (not e) (cell ∷ []) [] ++ fields_before name fields)
    × (fields_from name (cond (not e) (cell ∷ []) [] ++ fields) ≡ fields_from name fields)) [
      | true ↦ λ _. (refl, refl)
      | false ↦ λ h. (
        ap (λ b. cond b (cell ∷ fields_before name fields) []) h,
        ap (λ b. cond b (fields_from name fields) (cell ∷ fields)) h,
      )
    ]

stopped : (name : List ℕ) (cell : Field) (fields : List Field) → (is_empty cell.1 || is_after name cell) ≡ false →
    fields_before name (fields_among (cell ∷ []) ++ fields) ≡ []
stopped name cell fields =
    elim (is_empty cell.1) as (λ e. (e || is_after name cell) ≡ false →
    fields_before name (cond (not e) (cell ∷ []) [] ++ fields) ≡ []) [
      | true ↦ λ h. absurd (false≢true (sym h))
      | false ↦ λ h. ap (λ b. cond b (cell ∷ fields_before name fields) []) h
    ]

module _ (name : List ℕ) (cells : List Field) (place : ℕ) (cell : Field) (below : place < length cells)
    (is : cell ≡ cell_at cells place) where
  next_is : fields_behind place cells ≡ fields_among (cell ∷ []) ++ fields_behind (place + 1) cells
  next_is = behind_next cells place below ∙ ap (λ c. fields_among (c ∷ []) ++ fields_behind (place + 1) cells) (sym is)

  pub steps_over : (is_empty cell.1 || is_after name cell) ≡ true → StepsOver name cells place cell
  steps_over h =
      let both = passed name cell (fields_behind (place + 1) cells) h in
      record {
        within = below;
        first = ap (fields_before name) next_is ∙ both.0;
        rest = ap (fields_from name) next_is ∙ both.1;
      }

  pub stops : (is_empty cell.1 || is_after name cell) ≡ false → fields_before name (fields_behind place cells) ≡ []
  stops h = ap (fields_before name) next_is ∙ stopped name cell (fields_behind (place + 1) cells) h

pub ends_before : (name : List ℕ) (cells : List Field) (place : ℕ) → length cells ≤ place
    → fields_before name (fields_behind place cells) ≡ []
ends_before name cells place ends = ap (fields_before name) (behind_end cells place ends)

-- Where no field comes before the name all of them are left.
pub all_left : (name : List ℕ) (fields : List Field) → fields_before name fields ≡ [] → fields_from name fields ≡ fields
all_left name [] none = refl
all_left name (field ∷ fields) none =
    elim (is_after name field) as (λ b. cond b (field ∷ fields_before name fields) [] ≡ []
    → cond b (fields_from name fields) (field ∷ fields) ≡ field ∷ fields) [
      | true ↦ λ h. let bad : ⊥ = cc in absurd bad
      | false ↦ λ _. refl
    ] none

-- ---- what is written

-- the members of the next fields
pub written_more : (tokens new whole : List Token) (fields more later : List Field)
    → tokens ++ members_tokens fields ≡ whole → new ≡ tokens ++ members_tokens more → fields ≡ more ++ later
    → new ++ members_tokens later ≡ whole
written_more tokens new whole fields more later before is split =
    ap (λ t. t ++ members_tokens later) is ∙ append_assoc tokens (members_tokens more) (members_tokens later)
    ∙ ap (λ t. tokens ++ t) (sym (flat_map-append member_tokens more later))
    ∙ ap (λ fs. tokens ++ members_tokens fs) (sym split) ∙ before

-- all of them
pub written_all : (tokens whole : List Token) (fields : List Field) → tokens ++ members_tokens fields ≡ whole
    → fields ≡ [] → tokens ≡ whole
written_all tokens whole fields before none =
    sym (append-nil tokens) ∙ ap (λ fs. tokens ++ members_tokens fs) (sym none) ∙ before

-- and one more field
pub written_last : (first tokens new : List Token) (fields : List Field) (name value : List ℕ)
    → tokens ≡ first ++ members_tokens fields → new ≡ tokens ++ key name ∷ string value ∷ []
    → new ≡ first ++ members_tokens (fields ++ (name, value) ∷ [])
written_last first tokens new fields name value before is =
    is ∙ ap (λ t. t ++ key name ∷ string value ∷ []) before
    ∙ append_assoc first (members_tokens fields) (key name ∷ string value ∷ [])
    ∙ ap (λ t. first ++ t) (sym (flat_map-append member_tokens fields ((name, value) ∷ [])))

-- ---- one cell

pub none_written : (tokens : List Token) (name value : List ℕ) → is_empty value ≡ true
    → tokens ≡ tokens ++ members_tokens (fields_among ((name, value) ∷ []))
none_written tokens name value e =
    sym (append-nil tokens) ∙ ap (λ b. tokens ++ members_tokens (cond (not b) ((name, value) ∷ []) [])) (sym e)

pub one_written : (tokens : List Token) (name value : List ℕ) → is_empty value ≡ false
    → tokens ++ key name ∷ string value ∷ [] ≡ tokens ++ members_tokens (fields_among ((name, value) ∷ []))
one_written tokens name value e =
    ap (λ b. tokens ++ members_tokens (cond (not b) ((name, value) ∷ []) [])) (sym e)

pub set_none : (r : List Field) (name value : List ℕ) → is_empty value ≡ true → without r name ≡ set_field r name value
set_none r name [] e = refl
set_none r name (byte ∷ bytes) e =
    absurd (false≢true (sym (le-ltb (length (byte ∷ bytes)) 1 (omega arith)) ∙ e))

pub some_text : (value : List ℕ) → is_empty value ≡ false → 0 < length value
some_text [] e = absurd (false≢true (sym e))
some_text (byte ∷ bytes) e = omega arith
