-- Fields that are set in the order of their names, and labels among fields.
use Rattle.std.proofs.Common.{◌≡◌, ℕ, zero, suc, ◌<◌, Bool, true, false, cond, get_or, List, [], ◌∷◌, ◌++◌, length, filter, map, refl, sym}
use Rattle.std.proofs.Common.{ap, ◌∙◌, arith, append_assoc, take, drop, ltb, inl, inr}
use Rattle.std.specs.Prelude.{◌&&◌, ◌||◌, bytes_eq, not}
use Rattle.std.specs.List.{AllByRecursion, list_all, list_any}
use Rattle.std.specs.List.Sorted.{IsStrictlySortedBy}
use Rattle.std.specs.Map.{keys_of}
use Rattle.std.specs.Ordering.{is_eq, ordering_reverse}
use Rattle.std.specs.declared.cmp.Ordering.TheVariants.{Less}
use Rattle.std.proofs.lemmas.Bool.{both_ways, cases_Bool}
use Rattle.std.proofs.lemmas.Bool.Decides.{nat_tests}
use Rattle.std.proofs.lemmas.Cmp.{nat_list_cmp_total}
use Rattle.std.proofs.lemmas.List.{append-nil, drop_all, take_all}
use Rattle.std.proofs.lemmas.Map.Keys.{sorted_head, sorted_tail}
use Rattle.std.proofs.lemmas.Map.Text.{is_eq-slice_cmp}
use Rattle.std.proofs.lemmas.Slice.Eq.{bytes_eq-Decides}
use Rattle.block_model.proofs.Rising.{above-along}
use Rattle.byte_format.proofs.Cases.{both_true}
use Rattle.log_model.specs.Field.{Field, bytes_cmp, field_value, is_empty, is_filled, set_all, set_field}
use Rattle.log_model.specs.Row.{has_field}
use Rattle.vl_row.specs.Names.{is_among}
use Rattle.vl_row.specs.Place.{AllBelow, IsGapAt}
use Rattle.vl_row.proofs.Sorted.{all_append, gap, set_field-filled}

-- ---- names in order

abbrev pub Above : List ℕ → List (List ℕ) → Type 0
Above name names = AllByRecursion (λ other. bytes_cmp name other ≡ Less) names

abbrev pub IsRising : List (List ℕ) → Type 0
IsRising names = IsStrictlySortedBy bytes_cmp names

apart : (x y : List ℕ) → bytes_cmp x y ≡ Less → bytes_eq x y ≡ false
apart x y h = sym (is_eq-slice_cmp x y) ∙ ap is_eq h

apart-back : (x y : List ℕ) → bytes_cmp x y ≡ Less → bytes_eq y x ≡ false
apart-back x y h = sym (is_eq-slice_cmp y x) ∙ ap is_eq (nat_list_cmp_total.antisymm y x ∙ ap ordering_reverse h)

above-listed : (x key : List ℕ) (names : List (List ℕ)) → Above x names → list_any (bytes_eq key) names ≡ true
    → bytes_cmp x key ≡ Less
above-listed x key [] a e = absurd cc
above-listed x key (n ∷ ns) a e = by (bytes_eq key n) refl e (above-listed x key ns a.1)
  where
    by : (b : Bool) → bytes_eq key n ≡ b → (b || list_any (bytes_eq key) ns) ≡ true
        → (list_any (bytes_eq key) ns ≡ true → bytes_cmp x key ≡ Less) → bytes_cmp x key ≡ Less
    by true same h later = ap (bytes_cmp x) ((bytes_eq-Decides key n).0 same) ∙ a.0
    by false same h later = later h

above-place : (x : List ℕ) (fields : List Field) (i : ℕ) (d : Field) → Above x (keys_of fields) → i < length fields
    → bytes_cmp x (get_or fields i d).0 ≡ Less
above-place x [] i d a lt = absurd (omega (arith, lt))
above-place x (f ∷ fs) zero d a lt = a.0
above-place x (f ∷ fs) (suc i) d a lt = above-place x fs i d a.1 (omega (arith, lt))

-- ---- fields that are set

-- each field has one of the names
abbrev pub AreListed : List Field → List (List ℕ) → Type 0
AreListed fields names = AllByRecursion (λ (field : Field). list_any (bytes_eq field.0) names ≡ true) fields

abbrev pub value_named : List Field → List ℕ → Field
value_named fields name = (name, field_value fields name)

pub no-value : (fields : List Field) (name : List ℕ) → Above name (keys_of fields) → field_value fields name ≡ []
no-value [] name a = refl
no-value (f ∷ fs) name a = rw (apart name f.0 a.0) (no-value fs name a.1)

pub values-behind : (f : Field) (fs : List Field) (names : List (List ℕ)) → Above f.0 names
    → map (value_named (f ∷ fs)) names ≡ map (value_named fs) names
values-behind f fs [] a = refl
values-behind f fs (n ∷ ns) a =
    let one : value_named (f ∷ fs) n ≡ value_named fs n = rw (apart-back f.0 n a.0) refl in
    ap (λ (x : Field). x ∷ map (value_named (f ∷ fs)) ns) one
    ∙ ap (λ (l : List Field). value_named fs n ∷ l) (values-behind f fs ns a.1)

listed-behind : (name : List ℕ) (names : List (List ℕ)) (fields : List Field) → Above name (keys_of fields)
    → AreListed fields (name ∷ names) → AreListed fields names
listed-behind name names [] a l = tt
listed-behind name names (f ∷ fs) a l =
    let one : list_any (bytes_eq f.0) names ≡ true = rw (apart-back name f.0 a.0) at l.0 in
    (one, listed-behind name names fs a.1 l.1)

at-end : (fields : List Field) (name : List ℕ) → AllBelow fields name → IsGapAt fields name (length fields)
at-end fields name below =
    let all : take (length fields) fields ≡ fields = take_all (length fields) fields (omega arith) in
    let none : drop (length fields) fields ≡ [] = drop_all (length fields) fields (omega arith) in
    gap fields name (length fields) (omega arith) (rw all below) (rw none tt)

not-set : (fields : List Field) (name : List ℕ) → AllBelow fields name → set_field fields name [] ≡ fields
not-set fields name below = (at-end fields name below).unchanged

pub set-last : (fields : List Field) (name value : List ℕ) → AllBelow fields name → 0 < length value
    → set_field fields name value ≡ fields ++ (name, value) ∷ []
set-last fields name value below some =
    let all : take (length fields) fields ≡ fields = take_all (length fields) fields (omega arith) in
    let none : drop (length fields) fields ≡ [] = drop_all (length fields) fields (omega arith) in
    set_field-filled fields name value some ∙ (at-end fields name below).inserted value
    ∙ ap (λ (l : List Field). l ++ (name, value) ∷ drop (length fields) fields) all
    ∙ ap (λ (l : List Field). fields ++ (name, value) ∷ l) none

second-false : (a b : Bool) → not (a || b) ≡ true → b ≡ false
second-false true b e = absurd cc
second-false false true e = absurd cc
second-false false false e = refl

some-bytes : (n : ℕ) → ltb n 1 ≡ false → 0 < n
some-bytes n h = grind (arith, nat_tests)

pub filled-value : (f : Field) → is_filled f ≡ true → 0 < length f.1
filled-value f e = some-bytes (length f.1) (second-false (ltb (length f.0) 1) (ltb (length f.1) 1) e)

listed-other : (f : Field) (name : List ℕ) (names : List (List ℕ)) → list_any (bytes_eq f.0) (name ∷ names) ≡ true
    → (name ≡ f.0 → ⊥) → list_any (bytes_eq f.0) names ≡ true
listed-other f name names e other = by (bytes_eq f.0 name) refl e
  where
    by : (b : Bool) → bytes_eq f.0 name ≡ b → (b || list_any (bytes_eq f.0) names) ≡ true
        → list_any (bytes_eq f.0) names ≡ true
    by true same h = absurd (other (sym ((bytes_eq-Decides f.0 name).0 same)))
    by false same h = h

pub below-more : (acc : List Field) (f : Field) (names : List (List ℕ)) → AllByRecursion (AllBelow acc) names
    → Above f.0 names → AllByRecursion (AllBelow (acc ++ f ∷ [])) names
below-more acc f [] b a = tt
below-more acc f (n ∷ ns) b a =
    (all_append (λ (field : Field). bytes_cmp field.0 n ≡ Less) acc (f ∷ []) b.0 (a.0, tt), below-more acc f ns b.1 a.1)

-- The fields of some of the names, set in the order of all of them, are the fields again.
pub set-again : (names : List (List ℕ)) (acc fields : List Field) → IsRising names → IsRising (keys_of fields)
    → list_all is_filled fields ≡ true → AreListed fields names → AllByRecursion (AllBelow acc) names
    → set_all acc (map (value_named fields) names) ≡ acc ++ fields
set-again [] acc [] s t h l b = sym (append-nil acc)
set-again [] acc (f ∷ fs) s t h l b = absurd (let e : false ≡ true = l.0 in cc)
set-again (n ∷ ns) acc [] s t h l b =
    ap (λ (old : List Field). set_all old (map (value_named []) ns)) (not-set acc n b.0)
    ∙ set-again ns acc [] (sorted_tail bytes_cmp n ns s) t h l b.1
set-again (n ∷ ns) acc (f ∷ fs) s t h l b =
    elim (cases_Bool (bytes_eq n f.0)) [
      | inl same ↦
          let name : n ≡ f.0 = (bytes_eq-Decides n f.0).0 same in
          let above : Above f.0 ns = rw (sym name) (sorted_head bytes_cmp n ns s) in
          let filled = both_true (is_filled f) (list_all is_filled fs) h in
          let value : field_value (f ∷ fs) n ≡ f.1 = rw same refl in
          let first : set_field acc n (field_value (f ∷ fs) n) ≡ acc ++ f ∷ [] =
          ap (set_field acc n) value ∙ set-last acc n f.1 b.0 (filled-value f filled.0)
          ∙ ap (λ (k : List ℕ). acc ++ (k, f.1) ∷ []) name in
          let rest = listed-behind n ns fs (rw name (sorted_head bytes_cmp f.0 (keys_of fs) t)) l.1 in
          ap (λ (old : List Field). set_all old (map (value_named (f ∷ fs)) ns)) first
          ∙ ap (set_all (acc ++ f ∷ [])) (values-behind f fs ns above)
          ∙ set-again ns (acc ++ f ∷ []) fs (sorted_tail bytes_cmp n ns s) (sorted_tail bytes_cmp f.0 (keys_of fs) t)
          filled.1 rest (below-more acc f ns b.1 above)
          ∙ append_assoc acc (f ∷ []) fs
      | inr other ↦
          let in_rest = listed-other f n ns l.0 (λ same. both_ways (bytes_eq n f.0) other ((bytes_eq-Decides n f.0).1
          same)) in
          let above : Above n (keys_of (f ∷ fs)) = (
            above-listed n f.0 ns (sorted_head bytes_cmp n ns s) in_rest,
            above-along n f.0 (keys_of fs) (above-listed n f.0 ns (sorted_head bytes_cmp n ns s) in_rest) (sorted_head
                bytes_cmp f.0 (keys_of fs) t),
          ) in
          ap (λ (old : List Field). set_all old (map (value_named (f ∷ fs)) ns)) (ap (set_field acc n) (no-value
          (f ∷ fs) n above) ∙ not-set acc n b.0)
          ∙ set-again ns acc (f ∷ fs) (sorted_tail bytes_cmp n ns s) t h (listed-behind n ns (f ∷ fs) above l) b.1
    ]

abbrev is_valued : Field → Bool
is_valued cell = not (is_empty cell.1)

valued-from : (f : Field) → is_filled f ≡ true → is_valued f ≡ true
valued-from f e = ap not (second-false (is_empty f.0) (is_empty f.1) e)

-- The values of the fields under all of the names, without those that are empty, are the fields again.
pub valued-again : (names : List (List ℕ)) (fields : List Field) → IsRising names → IsRising (keys_of fields)
    → list_all is_filled fields ≡ true → AreListed fields names
    → filter (λ (cell : Field). not (is_empty cell.1)) (map (value_named fields) names) ≡ fields
valued-again [] [] s t h l = refl
valued-again [] (f ∷ fs) s t h l = absurd (let e : false ≡ true = l.0 in cc)
valued-again (n ∷ ns) [] s t h l = valued-again ns [] (sorted_tail bytes_cmp n ns s) t h l
valued-again (n ∷ ns) (f ∷ fs) s t h l =
    elim (cases_Bool (bytes_eq n f.0)) [
      | inl same ↦
          let name : n ≡ f.0 = (bytes_eq-Decides n f.0).0 same in
          let above : Above f.0 ns = rw (sym name) (sorted_head bytes_cmp n ns s) in
          let filled = both_true (is_filled f) (list_all is_filled fs) h in
          let value : field_value (f ∷ fs) n ≡ f.1 = rw same refl in
          let first : value_named (f ∷ fs) n ≡ f = ap (λ (v : List ℕ). (n, v)) value
          ∙ ap (λ (k : List ℕ). (k, f.1)) name in
          let rest = listed-behind n ns fs (rw name (sorted_head bytes_cmp f.0 (keys_of fs) t)) l.1 in
          ap (λ (cell : Field). filter is_valued (cell ∷ map (value_named (f ∷ fs)) ns)) first
          ∙ ap (λ (b : Bool). cond b (f ∷ filter is_valued (map (value_named (f ∷ fs)) ns))
          (filter is_valued (map (value_named (f ∷ fs)) ns))) (valued-from f filled.0)
          ∙ ap (λ (cells : List Field). f ∷ filter is_valued cells) (values-behind f fs ns above)
          ∙ ap (λ (more : List Field). f ∷ more) (valued-again ns fs (sorted_tail bytes_cmp n ns s)
          (sorted_tail bytes_cmp f.0 (keys_of fs) t) filled.1 rest)
      | inr other ↦
          let in_rest = listed-other f n ns l.0 (λ same. both_ways (bytes_eq n f.0) other ((bytes_eq-Decides n f.0).1
          same)) in
          let above : Above n (keys_of (f ∷ fs)) = (
            above-listed n f.0 ns (sorted_head bytes_cmp n ns s) in_rest,
            above-along n f.0 (keys_of fs) (above-listed n f.0 ns (sorted_head bytes_cmp n ns s) in_rest) (sorted_head
                bytes_cmp f.0 (keys_of fs) t),
          ) in
          ap (λ (v : List ℕ). filter is_valued ((n, v) ∷ map (value_named (f ∷ fs)) ns)) (no-value (f ∷ fs) n above)
          ∙ valued-again ns (f ∷ fs) (sorted_tail bytes_cmp n ns s) t h (listed-behind n ns (f ∷ fs) above l)
    ]

-- the value of the field at a place is that of its name
value-from : (fields : List Field) (i : ℕ) (d : Field) → IsRising (keys_of fields) → i < length fields
    → field_value fields (get_or fields i d).0 ≡ (get_or fields i d).1
value-from [] i d s lt = absurd (omega (arith, lt))
value-from (f ∷ fs) zero d s lt =
    let same : bytes_eq f.0 f.0 ≡ true = (bytes_eq-Decides f.0 f.0).1 refl in
    rw same refl
value-from (f ∷ fs) (suc i) d s lt =
    let other = apart-back f.0 (get_or fs i d).0 (above-place f.0 fs i d (sorted_head bytes_cmp f.0 (keys_of fs) s) (omega
    (arith, lt))) in
    rw other (value-from fs i d (sorted_tail bytes_cmp f.0 (keys_of fs) s) (omega (arith, lt)))

pub value-there : (fields : List Field) (i : ℕ) (f : Field) → IsRising (keys_of fields) → i < length fields
    → f ≡ get_or fields i f → field_value fields f.0 ≡ f.1
value-there fields i f s lt e =
    ap (λ (g : Field). field_value fields g.0) e ∙ value-from fields i f s lt ∙ ap (λ (g : Field). g.1) (sym e)

-- ---- labels

-- each is a field
abbrev pub AreFields : List Field → List Field → Type 0
AreFields fields labels = AllByRecursion (λ (label : Field). has_field fields label ≡ true) labels

above-field : (x : List ℕ) (fields : List Field) (label : Field) → Above x (keys_of fields)
    → has_field fields label ≡ true → bytes_cmp x label.0 ≡ Less
above-field x [] label a e = absurd cc
above-field x (f ∷ fs) label a e =
    by (bytes_eq label.0 f.0 && bytes_eq label.1 f.1) refl e (above-field x fs label a.1)
  where
    by : (b : Bool) → (bytes_eq label.0 f.0 && bytes_eq label.1 f.1) ≡ b → (b || has_field fs label) ≡ true
        → (has_field fs label ≡ true → bytes_cmp x label.0 ≡ Less) → bytes_cmp x label.0 ≡ Less
    by true same h later =
        let p = both_true (bytes_eq label.0 f.0) (bytes_eq label.1 f.1) same in
        ap (bytes_cmp x) ((bytes_eq-Decides label.0 f.0).0 p.0) ∙ a.0
    by false same h later = later h

field-behind : (f : Field) (fs : List Field) (label : Field) → bytes_eq label.0 f.0 ≡ false
    → has_field (f ∷ fs) label ≡ true → has_field fs label ≡ true
field-behind f fs label other e = rw other at e

fields-behind : (f : Field) (fs labels : List Field) → Above f.0 (keys_of labels) → AreFields (f ∷ fs) labels
    → AreFields fs labels
fields-behind f fs [] a h = tt
fields-behind f fs (l ∷ ls) a h =
    (field-behind f fs l (apart-back f.0 l.0 a.0) h.0, fields-behind f fs ls a.1 h.1)

not-among : (name : List ℕ) (names : List (List ℕ)) → Above name names → is_among names name ≡ false
not-among name [] a = refl
not-among name (n ∷ ns) a = rw (apart name n a.0) (not-among name ns a.1)

among-behind : (name : List ℕ) (names : List (List ℕ)) (fields : List Field) → Above name (keys_of fields)
    → filter (λ (field : Field). is_among (name ∷ names) field.0) fields
    ≡ filter (λ (field : Field). is_among names field.0) fields
among-behind name names [] a = refl
among-behind name names (f ∷ fs) a =
    rw (apart-back name f.0 a.0) (ap (λ (l : List Field). cond (is_among names f.0) (f ∷ l) l) (among-behind name
    names fs a.1))

-- The fields that have the names of the labels are the labels again.
pub labels-again : (fields labels : List Field) → IsRising (keys_of fields) → IsRising (keys_of labels)
    → AreFields fields labels → filter (λ (field : Field). is_among (keys_of labels) field.0) fields ≡ labels
unfolding IsStrictlySortedBy
labels-again [] [] s t h = refl
labels-again [] (l ∷ ls) s t h = absurd (let e : false ≡ true = h.0 in cc)
labels-again (f ∷ fs) [] s t h = labels-again fs [] (sorted_tail bytes_cmp f.0 (keys_of fs) s) tt tt
labels-again (f ∷ fs) (l ∷ ls) s t h =
    elim (cases_Bool (bytes_eq l.0 f.0 && bytes_eq l.1 f.1)) [
      | inl same ↦
          let p = both_true (bytes_eq l.0 f.0) (bytes_eq l.1 f.1) same in
          let name : l.0 ≡ f.0 = (bytes_eq-Decides l.0 f.0).0 p.0 in
          let content : l.1 ≡ f.1 = (bytes_eq-Decides l.1 f.1).0 p.1 in
          let whole : l ≡ f = ap (λ (k : List ℕ). (k, l.1)) name ∙ ap (λ (v : List ℕ). (f.0, v)) content in
          let first : bytes_eq f.0 l.0 ≡ true = (bytes_eq-Decides f.0 l.0).1 (sym name) in
          let above : Above l.0 (keys_of fs) = rw name (sorted_head bytes_cmp f.0 (keys_of fs) s) in
          let above_labels : Above f.0 (keys_of ls) = rw (sym name) (sorted_head bytes_cmp l.0 (keys_of ls) t) in
          let rest = labels-again fs ls (sorted_tail bytes_cmp f.0 (keys_of fs) s) (sorted_tail bytes_cmp l.0
          (keys_of ls) t) (fields-behind f fs ls above_labels h.1) in
          rw first (ap (λ (k : List Field). f ∷ k) (among-behind l.0 (keys_of ls) fs above ∙ rest)
          ∙ ap (λ (k : Field). k ∷ ls) (sym whole))
      | inr other ↦
          let in_rest : has_field fs l ≡ true = rw other at h.0 in
          let below = above-field f.0 fs l (sorted_head bytes_cmp f.0 (keys_of fs) s) in_rest in
          let above : Above f.0 (keys_of (l ∷ ls)) = (
            below,
            above-along f.0 l.0 (keys_of ls) below (sorted_head bytes_cmp l.0 (keys_of ls) t),
          ) in
          rw (not-among f.0 (keys_of (l ∷ ls)) above) (labels-again fs (l ∷ ls) (sorted_tail bytes_cmp f.0
          (keys_of fs) s) t (fields-behind f fs (l ∷ ls) above h))
    ]
