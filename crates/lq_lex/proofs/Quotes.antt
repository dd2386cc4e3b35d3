-- The closing quote of a quoted string, and its first unknown escape sequence.
use Rattle.std.proofs.Common.{◌≡◌, ℕ, Bool, true, false, not, cond, eqb, List, [], ◌∷◌, ◌++◌, Some, None, refl, sym, ap, ◌∙◌, subst}
use Rattle.std.specs.List.{list_all}
use Rattle.std.proofs.lemmas.Bool.{cond-true, cond-false, and_parts, and_from, eqb-true}
use Rattle.lq_lex.specs.Lexing.{Piece, plain, escape, is_raw, is_piece, is_backslash, is_escape, sources}
use Rattle.lq_lex.specs.Reading.{quote_end, first_bad}

not_true : (b : Bool) → not b ≡ true → b ≡ false
not_true true e = absurd cc
not_true false e = refl

pub clash : (b : Bool) → b ≡ true → b ≡ false → ⊥
clash b e f = absurd cc

backslash_is : (quote c : ℕ) → is_backslash quote c ≡ true → c ≡ 92
backslash_is quote c e = eqb-true c 92 (and_parts (eqb c 92) (not (eqb quote 96)) e).0

-- ---- the closing quote is found

pub quote_found : (quote : ℕ) (pieces : List Piece) (rest : List ℕ) → eqb 92 quote ≡ false → eqb quote quote ≡ true → list_all (is_raw quote) pieces ≡ true → quote_end quote false (sources pieces ++ quote ∷ rest) ≡ Some rest
quote_found quote [] rest other same raw = cond-true (eqb quote quote) (Some rest) _ same
quote_found quote (plain c ∷ pieces) rest other same raw =
    let p = and_parts (is_raw quote (plain c)) (list_all (is_raw quote) pieces) raw in
    let q = and_parts (not (eqb c quote)) (not (is_backslash quote c)) p.0 in
    cond-false (eqb c quote) (Some (sources pieces ++ quote ∷ rest)) _ (not_true (eqb c quote) q.0)
    ∙ ap (λ (b : Bool). quote_end quote b (sources pieces ++ quote ∷ rest)) (not_true (is_backslash quote c) q.1)
    ∙ quote_found quote pieces rest other same p.1
quote_found quote (escape c ∷ pieces) rest other same raw =
    let p = and_parts (is_raw quote (escape c)) (list_all (is_raw quote) pieces) raw in
    cond-false (eqb 92 quote) (Some (c ∷ (sources pieces ++ quote ∷ rest))) _ other
    ∙ ap (λ (b : Bool). quote_end quote b (c ∷ (sources pieces ++ quote ∷ rest))) p.0
    ∙ quote_found quote pieces rest other same p.1

-- ---- what is found is a closing quote

pub record Closes (quote : ℕ) (text rest : List ℕ) : Type 0 where
  pub pieces : List Piece
  pub are_raw : list_all (is_raw quote) pieces ≡ true
  pub spelled : text ≡ sources pieces ++ quote ∷ rest

abbrev ClosesFrom : ℕ → Bool → List ℕ → List ℕ → Type 0
ClosesFrom quote false text rest = Closes quote text rest
ClosesFrom quote true text rest = (c : ℕ) × (cs : List ℕ) × (text ≡ c ∷ cs) × Closes quote cs rest

some_inj : (x y : List ℕ) → Some x ≡ Some y → x ≡ y
some_inj x y e = cc

plain_first : (quote c : ℕ) (cs rest : List ℕ) → eqb c quote ≡ false → is_backslash quote c ≡ false → Closes quote cs rest → Closes quote (c ∷ cs) rest
plain_first quote c cs rest other none h = record {
  pieces = plain c ∷ h.pieces;
  are_raw = and_from (is_raw quote (plain c)) (list_all (is_raw quote) h.pieces) (and_from (not (eqb c quote)) (not (is_backslash quote c)) (ap not other) (ap not none)) h.are_raw;
  spelled = ap (λ (l : List ℕ). c ∷ l) h.spelled;
}

escape_first : (quote c : ℕ) (cs rest : List ℕ) → is_backslash quote c ≡ true → ClosesFrom quote true cs rest → Closes quote (c ∷ cs) rest
escape_first quote c cs rest slash (d, ds, e, h) =
    let is : c ≡ 92 = backslash_is quote c slash in
    record {
      pieces = escape d ∷ h.pieces;
      are_raw = and_from (is_raw quote (escape d)) (list_all (is_raw quote) h.pieces) (subst (λ (x : ℕ). is_backslash quote x ≡ true) is slash) h.are_raw;
      spelled = ap (λ (x : ℕ). x ∷ cs) is ∙ ap (λ (l : List ℕ). 92 ∷ l) (e ∙ ap (λ (l : List ℕ). d ∷ l) h.spelled);
    }

closes_from : (quote : ℕ) (backslash : Bool) (text rest : List ℕ) → quote_end quote backslash text ≡ Some rest → ClosesFrom quote backslash text rest
closes_from quote true [] rest e = absurd cc
closes_from quote false [] rest e = absurd cc
closes_from quote true (c ∷ cs) rest e = (c, cs, refl, closes_from quote false cs rest e)
closes_from quote false (c ∷ cs) rest e = by_close (eqb c quote) refl (is_backslash quote c) refl (closes_from quote (is_backslash quote c) cs rest)
  where
    by_close : (b : Bool) → eqb c quote ≡ b → (s : Bool) → is_backslash quote c ≡ s → (quote_end quote (is_backslash quote c) cs ≡ Some rest → ClosesFrom quote (is_backslash quote c) cs rest) → Closes quote (c ∷ cs) rest
    by_close true is s slash ih =
        let same : c ≡ quote = eqb-true c quote is in
        record { pieces = []; are_raw = refl; spelled = ap (λ (x : ℕ). x ∷ cs) same ∙ ap (λ (l : List ℕ). quote ∷ l) (some_inj cs rest (sym (cond-true (eqb c quote) (Some cs) _ is) ∙ e)) }
    by_close false is true slash ih = escape_first quote c cs rest slash (subst (λ (b : Bool). ClosesFrom quote b cs rest) slash (ih (sym (cond-false (eqb c quote) (Some cs) _ is) ∙ e)))
    by_close false is false slash ih = plain_first quote c cs rest is slash (subst (λ (b : Bool). ClosesFrom quote b cs rest) slash (ih (sym (cond-false (eqb c quote) (Some cs) _ is) ∙ e)))

pub closes : (quote : ℕ) (text rest : List ℕ) → quote_end quote false text ≡ Some rest → Closes quote text rest
closes quote text rest e = closes_from quote false text rest e

-- ---- unknown escape sequences

first_plain : (quote c : ℕ) (cs : List ℕ) → eqb c quote ≡ false → is_backslash quote c ≡ false → first_bad quote (c ∷ cs) ≡ first_bad quote cs
first_plain quote c [] other none = refl
first_plain quote c (d ∷ ds) other none = cond-false (eqb c quote) None _ other ∙ cond-false (is_backslash quote c) _ (first_bad quote (d ∷ ds)) none

first_escape : (quote d : ℕ) (cs : List ℕ) → eqb 92 quote ≡ false → is_backslash quote 92 ≡ true → first_bad quote (92 ∷ d ∷ cs) ≡ cond (is_escape d) (first_bad quote cs) (Some (92 ∷ d ∷ cs))
first_escape quote d cs other slash = cond-false (eqb 92 quote) None _ other ∙ cond-true (is_backslash quote 92) _ (first_bad quote (d ∷ cs)) slash

first_close : (quote : ℕ) (rest : List ℕ) → eqb quote quote ≡ true → first_bad quote (quote ∷ rest) ≡ None
first_close quote [] same = refl
first_close quote (d ∷ ds) same = cond-true (eqb quote quote) None _ same

-- no unknown escape sequence is found exactly where each piece is valid
pub none_bad : (quote : ℕ) (pieces : List Piece) (rest : List ℕ) → eqb 92 quote ≡ false → eqb quote quote ≡ true → list_all (is_piece quote) pieces ≡ true → first_bad quote (sources pieces ++ quote ∷ rest) ≡ None
none_bad quote [] rest other same good = first_close quote rest same
none_bad quote (plain c ∷ pieces) rest other same good =
    let p = and_parts (is_piece quote (plain c)) (list_all (is_piece quote) pieces) good in
    let q = and_parts (not (eqb c quote)) (not (is_backslash quote c)) p.0 in
    first_plain quote c (sources pieces ++ quote ∷ rest) (not_true (eqb c quote) q.0) (not_true (is_backslash quote c) q.1) ∙ none_bad quote pieces rest other same p.1
none_bad quote (escape d ∷ pieces) rest other same good =
    let p = and_parts (is_piece quote (escape d)) (list_all (is_piece quote) pieces) good in
    let q = and_parts (is_raw quote (escape d)) (is_escape d) p.0 in
    first_escape quote d (sources pieces ++ quote ∷ rest) other q.0 ∙ cond-true (is_escape d) (first_bad quote (sources pieces ++ quote ∷ rest)) _ q.1 ∙ none_bad quote pieces rest other same p.1

some_not_none : (x : List ℕ) → Some x ≡ None → ⊥
some_not_none x e = absurd cc

pub all_good : (quote : ℕ) (pieces : List Piece) (rest : List ℕ) → eqb 92 quote ≡ false → list_all (is_raw quote) pieces ≡ true → first_bad quote (sources pieces ++ quote ∷ rest) ≡ None → list_all (is_piece quote) pieces ≡ true
all_good quote [] rest other raw none = refl
all_good quote (plain c ∷ pieces) rest other raw none =
    let p = and_parts (is_raw quote (plain c)) (list_all (is_raw quote) pieces) raw in
    let q = and_parts (not (eqb c quote)) (not (is_backslash quote c)) p.0 in
    and_from (is_piece quote (plain c)) (list_all (is_piece quote) pieces) p.0
    (all_good quote pieces rest other p.1 (sym (first_plain quote c (sources pieces ++ quote ∷ rest) (not_true (eqb c quote) q.0) (not_true (is_backslash quote c) q.1)) ∙ none))
all_good quote (escape d ∷ pieces) rest other raw none =
    let p = and_parts (is_raw quote (escape d)) (list_all (is_raw quote) pieces) raw in
    by_escape p.0 p.1 (is_escape d) refl (all_good quote pieces rest other p.1)
  where
    tail : List ℕ
    tail = sources pieces ++ quote ∷ rest

    by_escape : is_raw quote (escape d) ≡ true → list_all (is_raw quote) pieces ≡ true → (b : Bool) → is_escape d ≡ b → (first_bad quote (sources pieces ++ quote ∷ rest) ≡ None → list_all (is_piece quote) pieces ≡ true) → list_all (is_piece quote) (escape d ∷ pieces) ≡ true
    by_escape here there true is ih =
        and_from (is_piece quote (escape d)) (list_all (is_piece quote) pieces) (and_from (is_raw quote (escape d)) (is_escape d) here is)
        (ih (sym (cond-true (is_escape d) (first_bad quote (sources pieces ++ quote ∷ rest)) (Some (92 ∷ d ∷ (sources pieces ++ quote ∷ rest))) is) ∙ sym (first_escape quote d (sources pieces ++ quote ∷ rest) other here) ∙ none))
    by_escape here there false is ih =
        absurd (some_not_none (92 ∷ d ∷ (sources pieces ++ quote ∷ rest))
        (sym (cond-false (is_escape d) (first_bad quote (sources pieces ++ quote ∷ rest)) (Some (92 ∷ d ∷ (sources pieces ++ quote ∷ rest))) is) ∙ sym (first_escape quote d (sources pieces ++ quote ∷ rest) other here) ∙ none))

-- the first unknown escape sequence after valid pieces is found
pub bad_found : (quote : ℕ) (pieces : List Piece) (d : ℕ) (remaining : List ℕ) → eqb 92 quote ≡ false → is_backslash quote 92 ≡ true → is_escape d ≡ false → list_all (is_piece quote) pieces ≡ true
    → first_bad quote (sources pieces ++ 92 ∷ d ∷ remaining) ≡ Some (92 ∷ d ∷ remaining)
bad_found quote [] d remaining other slash bad good = first_escape quote d remaining other slash ∙ cond-false (is_escape d) (first_bad quote remaining) (Some (92 ∷ d ∷ remaining)) bad
bad_found quote (plain c ∷ pieces) d remaining other slash bad good =
    let p = and_parts (is_piece quote (plain c)) (list_all (is_piece quote) pieces) good in
    let q = and_parts (not (eqb c quote)) (not (is_backslash quote c)) p.0 in
    first_plain quote c (sources pieces ++ 92 ∷ d ∷ remaining) (not_true (eqb c quote) q.0) (not_true (is_backslash quote c) q.1) ∙ bad_found quote pieces d remaining other slash bad p.1
bad_found quote (escape e ∷ pieces) d remaining other slash bad good =
    let p = and_parts (is_piece quote (escape e)) (list_all (is_piece quote) pieces) good in
    let q = and_parts (is_raw quote (escape e)) (is_escape e) p.0 in
    first_escape quote e (sources pieces ++ 92 ∷ d ∷ remaining) other q.0 ∙ cond-true (is_escape e) (first_bad quote (sources pieces ++ 92 ∷ d ∷ remaining)) _ q.1 ∙ bad_found quote pieces d remaining other slash bad p.1

pub record HasBad (quote : ℕ) (text bad : List ℕ) : Type 0 where
  pub pieces : List Piece
  pub escape_value : ℕ
  pub remaining : List ℕ
  pub are_pieces : list_all (is_piece quote) pieces ≡ true
  pub slash : is_backslash quote 92 ≡ true
  pub is_bad : is_escape escape_value ≡ false
  pub bad_is : bad ≡ 92 ∷ escape_value ∷ remaining
  pub spelled : text ≡ sources pieces ++ bad

plain_before : (quote c : ℕ) (cs bad : List ℕ) → eqb c quote ≡ false → is_backslash quote c ≡ false → HasBad quote cs bad → HasBad quote (c ∷ cs) bad
plain_before quote c cs bad other none h = record {
  pieces = plain c ∷ h.pieces;
  escape_value = h.escape_value;
  remaining = h.remaining;
  are_pieces = and_from (is_piece quote (plain c)) (list_all (is_piece quote) h.pieces) (and_from (not (eqb c quote)) (not (is_backslash quote c)) (ap not other) (ap not none)) h.are_pieces;
  slash = h.slash;
  is_bad = h.is_bad;
  bad_is = h.bad_is;
  spelled = ap (λ (l : List ℕ). c ∷ l) h.spelled;
}

escape_before : (quote c d : ℕ) (cs bad : List ℕ) → is_backslash quote c ≡ true → is_escape d ≡ true → HasBad quote cs bad → HasBad quote (c ∷ d ∷ cs) bad
escape_before quote c d cs bad slash good h =
    let is : c ≡ 92 = backslash_is quote c slash in
    record {
      pieces = escape d ∷ h.pieces;
      escape_value = h.escape_value;
      remaining = h.remaining;
      are_pieces = and_from (is_piece quote (escape d)) (list_all (is_piece quote) h.pieces) (and_from (is_raw quote (escape d)) (is_escape d) h.slash good) h.are_pieces;
      slash = h.slash;
      is_bad = h.is_bad;
      bad_is = h.bad_is;
      spelled = ap (λ (x : ℕ). x ∷ d ∷ cs) is ∙ ap (λ (l : List ℕ). 92 ∷ d ∷ l) h.spelled;
    }

pub has_bad : (quote : ℕ) (text bad : List ℕ) → first_bad quote text ≡ Some bad → HasBad quote text bad
has_bad quote [] bad e = absurd cc
has_bad quote (c ∷ []) bad e = absurd cc
has_bad quote (c ∷ d ∷ cs) bad e = by_close (eqb c quote) refl (is_backslash quote c) refl (is_escape d) refl (has_bad quote cs bad) (has_bad quote (d ∷ cs) bad)
  where
    none_some : None ≡ Some bad → ⊥
    none_some f = absurd cc

    by_close : (b : Bool) → eqb c quote ≡ b → (s : Bool) → is_backslash quote c ≡ s → (g : Bool) → is_escape d ≡ g → (first_bad quote cs ≡ Some bad → HasBad quote cs bad) → (first_bad quote (d ∷ cs) ≡ Some bad → HasBad quote (d ∷ cs) bad) → HasBad quote (c ∷ d ∷ cs) bad
    by_close true is s slash g good two one = absurd (none_some (sym (cond-true (eqb c quote) None _ is) ∙ e))
    by_close false is true slash true good two one =
        escape_before quote c d cs bad slash good
        (two (sym (cond-false (eqb c quote) None _ is ∙ cond-true (is_backslash quote c) _ (first_bad quote (d ∷ cs)) slash ∙ cond-true (is_escape d) (first_bad quote cs) (Some (c ∷ d ∷ cs)) good) ∙ e))
    by_close false is true slash false good two one =
        let c_is : c ≡ 92 = backslash_is quote c slash in
        let here : c ∷ d ∷ cs ≡ bad =
        some_inj (c ∷ d ∷ cs) bad
        (sym (cond-false (eqb c quote) None _ is ∙ cond-true (is_backslash quote c) _ (first_bad quote (d ∷ cs)) slash ∙ cond-false (is_escape d) (first_bad quote cs) (Some (c ∷ d ∷ cs)) good) ∙ e) in
        record {
          pieces = [];
          escape_value = d;
          remaining = cs;
          are_pieces = refl;
          slash = subst (λ (x : ℕ). is_backslash quote x ≡ true) c_is slash;
          is_bad = good;
          bad_is = sym here ∙ ap (λ (x : ℕ). x ∷ d ∷ cs) c_is;
          spelled = here;
        }
    by_close false is false slash g good two one = plain_before quote c (d ∷ cs) bad is slash (one (sym (cond-false (eqb c quote) None _ is ∙ cond-false (is_backslash quote c) _ (first_bad quote (d ∷ cs)) slash) ∙ e))
