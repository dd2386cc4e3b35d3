-- Pipes that set fields make of the fields that they look at what they make of whole records.
use Rattle.std.proofs.Common.{◌≡◌, ℕ, true, false, cond, List, [], ◌∷◌, ◌++◌, ℤ, Option, Some, Result, Ok, Err}
use Rattle.std.proofs.Common.{refl, sym, ap, ◌∙◌, append_assoc, bytes_eq, codes, decimal, flat_map, fold, length, map}
use Rattle.std.specs.Prelude.{IfOk}
use Rattle.std.specs.List.{AllByRecursion}
use Rattle.vl_row.specs.Field.{Field, field_value}
use Rattle.vl_row.specs.Order.{number_of}
use Rattle.vl_row.specs.Place.{IsInOrder}
use Rattle.lq_ast.specs.Grouping.{all, ◌>>=◌}
use Rattle.lq_ast.specs.Made.{extracted, formatted, made, math_fields, number_text, operation}
use Rattle.lq_ast.specs.Made.{put_extracted, worth}
use Rattle.lq_ast.specs.Making.{Expression, Making, MathItem, extract, format, len, math, two, value_of, whole}
use Rattle.lq_ast.specs.PatternText.{Pieces, named, plain}
use Rattle.lq_ast.specs.Records.{Record, is_one_of, only_fields, put_field}
use Rattle.lq_pipes.specs.Needs.{named_by, named_in_expression, named_in_item, named_in_piece}
use Rattle.lq_pipes.proofs.Narrowed.{Covers, covers_first, covers_head, covers_itself, covers_others, in_order_filtered}
use Rattle.lq_pipes.proofs.Narrowed.{in_order_folded, in_order_put, only_twice, put_kept, value_kept}

-- ---- records with the same values of some fields

record Agree (names : List (List ℕ)) (a b : Record) : Type 0 where
  same : only_fields names a ≡ only_fields names b

agree_fewer : (more names : List (List ℕ)) (a b : Record) → Covers more names → Agree more a b → Agree names a b
agree_fewer more names a b covers agree = record {
  same = sym (only_twice more names covers a) ∙ ap (only_fields names) agree.same ∙ only_twice more names covers b;
}

value_alike : (names : List (List ℕ)) (a b : Record) (name : List ℕ) → is_one_of names name ≡ true → Agree names a b
    → field_value a name ≡ field_value b name
value_alike names a b name one agree =
    sym (value_kept names a name one) ∙ ap (λ r. field_value r name) agree.same ∙ value_kept names b name one

put_alike : (names : List (List ℕ)) (a b : Record) (name value : List ℕ) → IsInOrder a → IsInOrder b
    → Agree names a b → Agree names (put_field a name value) (put_field b name value)
put_alike names a b name value s t agree = record {
  same = put_kept names name value a s
      ∙ ap (λ r. cond (is_one_of names name) (put_field r name value) r) agree.same
      ∙ sym (put_kept names name value b t);
}

-- ---- extract

in_order_extracted : (r : Record) (field : Field) → IsInOrder r → IsInOrder (put_extracted r field)
in_order_extracted r field s =
    let put = in_order_put r field.0 field.1 s in
    elim (bytes_eq field.0 (codes "_")) as (λ t. IsInOrder (cond t r (put_field r field.0 field.1))) [
      | true ↦ s
      | false ↦ put
    ]

extracted_alike : (names : List (List ℕ)) (a b : Record) (field : Field) → IsInOrder a → IsInOrder b
    → Agree names a b → Agree names (put_extracted a field) (put_extracted b field)
extracted_alike names a b field s t agree =
    let put = put_alike names a b field.0 field.1 s t agree in
    elim (bytes_eq field.0 (codes "_")) as
    (λ t. Agree names (cond t a (put_field a field.0 field.1)) (cond t b (put_field b field.0 field.1))) [
      | true ↦ agree
      | false ↦ put
    ]

all_extracted_alike : (names : List (List ℕ)) (fields : List Field) (a b : Record) → IsInOrder a → IsInOrder b
    → Agree names a b → Agree names (fold put_extracted a fields) (fold put_extracted b fields)
all_extracted_alike names [] a b s t agree = agree
all_extracted_alike names (field ∷ fields) a b s t agree =
    all_extracted_alike names fields (put_extracted a field) (put_extracted b field) (in_order_extracted a field s)
    (in_order_extracted b field t) (extracted_alike names a b field s t agree)

-- ---- format

formatted_alike : (names : List (List ℕ)) (pieces : Pieces) (a b : Record)
    → Covers names (flat_map named_in_piece pieces) → Agree names a b → formatted pieces a ≡ formatted pieces b
formatted_alike names [] a b covers agree = refl
formatted_alike names (plain text ∷ pieces) a b covers agree =
    ap (λ rest. text ++ rest) (formatted_alike names pieces a b covers agree)
formatted_alike names (named name ∷ pieces) a b covers agree =
    let others = flat_map named_in_piece pieces in
    let value = value_alike names a b name (covers_head name others names covers) agree in
    let rest = formatted_alike names pieces a b (covers_others (name ∷ []) others names covers) agree in
    λ i. value i ++ rest i

-- ---- math

worth_alike : (names : List (List ℕ)) (name : List ℕ) (e : Expression) (a b : Record)
    → Covers names (named_in_expression e) → Agree names a b → worth name a e ≡ worth name b e
worth_alike names name (whole n) a b covers agree = refl
worth_alike names name (value_of field) a b covers agree =
    ap (λ value. Ok (number_of value)) (value_alike names a b field (covers_head field [] names covers) agree)
worth_alike names name (two op left right) a b covers agree =
    let mine = named_in_expression left in
    let others = named_in_expression right in
    let first = worth_alike names name left a b (covers_first mine others names covers) agree in
    let second = worth_alike names name right a b (covers_others mine others names covers) agree in
    λ i. first i >>= λ x. second i >>= λ y. operation name op x y

-- what is left of a record that is made
abbrev pub kept : List (List ℕ) → Result Record (List ℕ) → Result Record (List ℕ)
kept later outcome = outcome >>= λ r. Ok (only_fields later r)

module _ (later : List (List ℕ)) where
  math_alike : (items : List MathItem) (a b : Record) → IsInOrder a → IsInOrder b
      → Agree (flat_map named_in_item items ++ later) a b
      → kept later (math_fields items a) ≡ kept later (math_fields items b)
  math_alike [] a b s t agree = ap Ok agree.same
  math_alike (item ∷ items) a b s t agree =
      let mine = named_in_item item in
      let others = flat_map named_in_item items in
      let names = (mine ++ others) ++ later in
      let both = covers_first (mine ++ others) later names (covers_itself names) in
      let rest : Covers names (others ++ later) =
      covers_others mine (others ++ later) names (rw append_assoc (covers_itself (mine ++ (others ++ later)))) in
      let fewer = agree_fewer names (others ++ later) a b rest agree in
      let set = λ (n : Option ℤ) (r : Record). put_field r item.1 (number_text n) in
      let step : (outcome : Result (Option ℤ) (List ℕ))
      → kept later (outcome >>= λ n. math_fields items (set n a)) ≡ kept later (outcome >>= λ n. math_fields items (set n b)) =
      λ outcome. elim outcome as (λ o. kept later (o >>= λ n. math_fields items (set n a)) ≡ kept later (o >>= λ n. math_fields items (set n b))) [
        | Ok n ↦ math_alike items (set n a) (set n b) (in_order_put a item.1 (number_text n) s)
            (in_order_put b item.1 (number_text n) t)
            (put_alike (others ++ later) a b item.1 (number_text n) s t fewer)
        | Err name ↦ refl
      ] in
      ap (λ o. kept later (o >>= λ n. math_fields items (set n a)))
      (worth_alike names item.1 item.0 a b (covers_first mine others names both) agree)
      ∙ step (worth item.1 b item.0)

  -- ---- all

  made_alike : (m : Making) (a b : Record) → IsInOrder a → IsInOrder b → Agree (named_by m ++ later) a b
      → kept later (made m a) ≡ kept later (made m b)
  made_alike (extract pieces from) a b s t agree =
      let names = from ∷ later in
      let value = value_alike names a b from (covers_head from later names (covers_itself names)) agree in
      let fewer = agree_fewer names later a b (covers_others (from ∷ []) later names (covers_itself names)) agree in
      let fields = λ (value : List ℕ). extracted pieces (Some value) in
      ap (λ v. kept later (Ok (fold put_extracted a (fields v)))) value
      ∙ ap Ok (all_extracted_alike later (fields (field_value b from)) a b s t fewer).same
  made_alike (format pieces name) a b s t agree =
      let mine = flat_map named_in_piece pieces in
      let names = mine ++ later in
      let text = formatted_alike names pieces a b (covers_first mine later names (covers_itself names)) agree in
      let fewer = agree_fewer names later a b (covers_others mine later names (covers_itself names)) agree in
      ap (λ v. kept later (Ok (put_field a name v))) text
      ∙ ap Ok (put_alike later a b name (formatted pieces b) s t fewer).same
  made_alike (len from name) a b s t agree =
      let names = from ∷ later in
      let value = value_alike names a b from (covers_head from later names (covers_itself names)) agree in
      let fewer = agree_fewer names later a b (covers_others (from ∷ []) later names (covers_itself names)) agree in
      ap (λ v. kept later (Ok (put_field a name (decimal (length v))))) value
      ∙ ap Ok (put_alike later a b name (decimal (length (field_value b from))) s t fewer).same
  made_alike (math items) a b s t agree = math_alike items a b s t agree

-- ---- what is made is in order

math_in_order : (items : List MathItem) (r : Record) → IsInOrder r → IfOk (math_fields items r) IsInOrder
math_in_order [] r s = s
math_in_order (item ∷ items) r s =
    elim (worth item.1 r item.0) as
    (λ o. IfOk (o >>= λ n. math_fields items (put_field r item.1 (number_text n))) IsInOrder) [
      | Ok n ↦ math_in_order items (put_field r item.1 (number_text n)) (in_order_put r item.1 (number_text n) s)
      | Err name ↦ tt
    ]

made_in_order : (m : Making) (r : Record) → IsInOrder r → IfOk (made m r) IsInOrder
made_in_order (extract pieces from) r s =
    in_order_folded put_extracted in_order_extracted (extracted pieces (Some (field_value r from))) r s
made_in_order (format pieces name) r s = in_order_put r name (formatted pieces r) s
made_in_order (len from name) r s = in_order_put r name (decimal (length (field_value r from))) s
made_in_order (math items) r s = math_in_order items r s

-- ---- records

pub all_in_order : (m : Making) (records : List Record) → AllByRecursion IsInOrder records
    → IfOk (all (map (made m) records)) (AllByRecursion IsInOrder)
all_in_order m [] h = tt
all_in_order m (r ∷ records) h = at (made m r) (all (map (made m) records)) (made_in_order m r h.0)
    (all_in_order m records h.1)
  where
    at : (first : Result Record (List ℕ)) (rest : Result (List Record) (List ℕ)) → IfOk first IsInOrder
        → IfOk rest (AllByRecursion IsInOrder)
        → IfOk (first >>= λ x. rest >>= λ xs. Ok (x ∷ xs)) (AllByRecursion IsInOrder)
    at (Err name) rest one all = tt
    at (Ok x) (Err name) one all = tt
    at (Ok x) (Ok xs) one all = (one, all)

-- what is left of records that are made
abbrev pub all_kept : List (List ℕ) → Result (List Record) (List ℕ) → Result (List Record) (List ℕ)
all_kept later outcome = outcome >>= λ rs. Ok (map (only_fields later) rs)

kept_more : (later : List (List ℕ)) (first : Result Record (List ℕ)) (rest : Result (List Record) (List ℕ))
    → all_kept later (first >>= λ x. rest >>= λ xs. Ok (x ∷ xs))
    ≡ (kept later first >>= λ x. all_kept later rest >>= λ xs. Ok (x ∷ xs))
kept_more later (Err name) rest = refl
kept_more later (Ok x) (Err name) = refl
kept_more later (Ok x) (Ok xs) = refl

module _ (m : Making) (more later : List (List ℕ)) (covers : Covers more (named_by m ++ later)) where
  abbrev less : Record → Record
  less r = only_fields more r

  one_alike : (r : Record) → IsInOrder r → kept later (made m (less r)) ≡ kept later (made m r)
  one_alike r s =
      made_alike later m (less r) r (in_order_filtered (λ f. is_one_of more f.0) r s) s
      record { same = only_twice more (named_by m ++ later) covers r }

  pub makings_alike : (records : List Record) → AllByRecursion IsInOrder records
      → all_kept later (all (map (made m) (map less records))) ≡ all_kept later (all (map (made m) records))
  makings_alike [] h = refl
  makings_alike (r ∷ records) h =
      let one = one_alike r h.0 in
      let rest = makings_alike records h.1 in
      kept_more later (made m (less r)) (all (map (made m) (map less records)))
      ∙ (λ i. one i >>= λ x. rest i >>= λ xs. Ok (x ∷ xs))
      ∙ sym (kept_more later (made m r) (all (map (made m) records)))
