-- The bytes of the fields of rows, by the names of the fields.
use Rattle.std.proofs.Common.{◌≡◌, ℕ, zero, suc, ◌+◌, ◌*◌, ◌<◌, ◌≤◌, ◌^◌, Bool, true, false, cond, List, []}
use Rattle.std.proofs.Common.{◌∷◌, ◌++◌, length, map}
use Rattle.std.proofs.Common.{Bor, filter, take, get_or, Some, refl, sym, ap, subst, ◌∙◌, arith, unwrap_or}
use Rattle.std.specs.Prelude.{◌||◌, bytes_eq, not, sum_by}
use Rattle.std.specs.List.{AllByRecursion, flat_map, list_any}
use Rattle.std.specs.Map.{lookup}
use Rattle.std.proofs.lemmas.Bool.{le-ltb}
use Rattle.std.proofs.lemmas.List.Sums.{sum_by-cons, sum_by-take-le, sum_by_push}
use Rattle.std.proofs.lemmas.List.{map_more, take_more}
use Rattle.std.proofs.lemmas.Slice.Eq.{bytes_eq-Decides}
use Rattle.log_model.specs.Field.{Field, field_value, is_empty, weight}
use Rattle.log_model.specs.History.{Numbered}
use Rattle.block_body.specs.Outlines.{weight_of}
use Rattle.block_model.specs.Columns.{names_of, values_of}
use Rattle.block_model.specs.Keys.{IsNumbered}
use Rattle.block_model.proofs.FieldLaws.{value_named, valued-again}
use Rattle.block_model.proofs.NameLaws.{AreNamed}
use Rattle.block_model.proofs.Rising.{IsRising, distinct-rising}
use Rattle.block_model.proofs.Sizes.{value-size}
use Rattle.block_gather.specs.Gathered.{cell_weight, column_weight, has_text, name_weight, names_in}
use Rattle.block_gather.specs.Picked.{Picked, rows_picked}
use Rattle.block_gather.proofs.NameLaws.{picked-named}

-- the bytes of the field of a name
abbrev field_weight : List Field → List ℕ → ℕ
field_weight fields name = cell_weight (length name) (field_value fields name)

abbrev is_valued : Field → Bool
is_valued cell = not (is_empty cell.1)

valued-weight : (fields : List Field) (names : List (List ℕ))
    → weight (filter is_valued (map (value_named fields) names)) ≡ sum_by (field_weight fields) names
valued-weight fields [] = refl
valued-weight fields (n ∷ ns) =
    by (is_empty (field_value fields n)) (valued-weight fields ns)
    ∙ sym (sum_by-cons (field_weight fields) n ns)
  where
    rest : List Field
    rest = filter is_valued (map (value_named fields) ns)

    by : (b : Bool) → weight rest ≡ sum_by (field_weight fields) ns
        → weight (cond (not b) (value_named fields n ∷ rest) rest)
        ≡ cond b 0 (length n + length (field_value fields n)) + sum_by (field_weight fields) ns
    by true later = omega (arith, later)
    by false later =
        sum_by-cons (λ (field : Field). length field.0 + length field.1) (value_named fields n) rest
        ∙ ap (λ (k : ℕ). length n + length (field_value fields n) + k) later

sum-both : (f g h : List ℕ → ℕ) (names : List (List ℕ)) → ((name : List ℕ) → f name ≡ g name + h name)
    → sum_by f names ≡ sum_by g names + sum_by h names
sum-both f g h [] e = refl
sum-both f g h (n ∷ ns) e =
    omega (arith, sum_by-cons f n ns, sum_by-cons g n ns, sum_by-cons h n ns, e n, sum-both f g h ns e)

sum-none : (names : List (List ℕ)) → sum_by (name_weight []) names ≡ 0
sum-none [] = refl
sum-none (n ∷ ns) =
    let none : name_weight [] n ≡ 0 = refl in
    omega (arith, none, sum_by-cons (name_weight []) n ns, sum-none ns)

weights-are : (rows : List Numbered) (names : List (List ℕ)) → IsRising names → AllByRecursion IsNumbered rows
    → AreNamed names rows → weight_of rows ≡ sum_by (name_weight rows) names
weights-are [] names s h l = sym (sum-none names)
weights-are (n ∷ ns) names s h l =
    let row : weight n.row.fields ≡ sum_by (field_weight n.row.fields) names =
    ap weight (sym (valued-again names n.row.fields s h.0.row.fields.ordered h.0.row.fields.filled l.0))
    ∙ valued-weight n.row.fields names in
    let rest : weight_of ns ≡ sum_by (name_weight ns) names = weights-are ns names s h.1 l.1 in
    let both = sum-both (name_weight (n ∷ ns)) (field_weight n.row.fields) (name_weight ns) names
    (λ name. sum_by-cons (cell_weight (length name)) (field_value n.row.fields name) (values_of ns name)) in
    let first = sum_by-cons (λ (x : Numbered). weight x.row.fields) n ns in
    omega (arith, row, rest, both, first)

-- the weight of the rows that are picked, by the names of their blocks
pub weight-picked : (picks : List Picked) → AllByRecursion IsNumbered (rows_picked picks)
    → sum_by (name_weight (rows_picked picks)) (names_in picks) ≡ weight_of (rows_picked picks)
weight-picked picks h =
    sym (weights-are (rows_picked picks) (names_in picks) (distinct-rising (flat_map (λ (p : Picked). names_of p.block)
    picks)) h (picked-named picks h))

-- ---- limits

cell-within : (fields : List Field) (name : List ℕ) → field_weight fields name ≤ weight fields
cell-within [] name = omega arith
cell-within (f ∷ fs) name = by (bytes_eq name f.0) refl (cell-within fs name)
  where
    all : weight (f ∷ fs) ≡ length f.0 + length f.1 + weight fs
    all = sum_by-cons (λ (field : Field). length field.0 + length field.1) f fs

    short : (b : Bool) → length name ≡ length f.0 → cond b 0 (length name + length f.1) ≤ weight (f ∷ fs)
    short true e = omega arith
    short false e = omega (arith, all, e)

    by : (b : Bool) → bytes_eq name f.0 ≡ b → field_weight fs name ≤ weight fs
        → cell_weight (length name) (unwrap_or (cond b (Some f.1) (lookup (bytes_eq name) fs)) []) ≤ weight (f ∷ fs)
    by true same h = short (is_empty f.1) (ap length ((bytes_eq-Decides name f.0).0 same))
    by false same h = omega (arith, all, h)

pub name-within : (rows : List Numbered) (name : List ℕ) → AllByRecursion IsNumbered rows
    → name_weight rows name ≤ 262_144 * length rows
name-within [] name h = omega arith
name-within (n ∷ ns) name h =
    omega (
      arith,
      sum_by-cons (cell_weight (length name)) (field_value n.row.fields name) (values_of ns name),
      cell-within n.row.fields name,
      h.0.row.light,
      name-within ns name h.1,
    )

pub values-within : (rows : List Numbered) (name : List ℕ) → AllByRecursion IsNumbered rows
    → sum_by length (values_of rows name) ≤ 262_144 * length rows
values-within [] name h = omega arith
values-within (n ∷ ns) name h =
    omega (
      arith,
      sum_by-cons length (field_value n.row.fields name) (values_of ns name),
      value-size n.row.fields name,
      h.0.row.light,
      values-within ns name h.1,
    )

pub weight-within : (rows : List Numbered) → AllByRecursion IsNumbered rows → weight_of rows ≤ 262_144 * length rows
weight-within [] h = omega arith
weight-within (n ∷ ns) h =
    omega (
      arith,
      sum_by-cons (λ (x : Numbered). weight x.row.fields) n ns,
      h.0.row.light,
      weight-within ns h.1,
    )

-- ---- one name or one value more

pub weight-more : (f : List ℕ → ℕ) (names : List (List ℕ)) (i : ℕ) (total : ℕ) → i < length names
    → sum_by f names ≡ total
    → (sum_by f (take (i + 1) names) ≡ sum_by f (take i names) + f (get_or names i []))
    × (sum_by f (take i names) + f (get_or names i []) ≤ total)
weight-more f names i total lt sum =
    let next : sum_by f (take (i + 1) names) ≡ sum_by f (take i names) + f (get_or names i []) =
    ap (sum_by f) (take_more names i [] lt) ∙ sum_by_push f (take i names) (get_or names i []) in
    (next, omega (arith, next, sum_by-take-le f names (i + 1), sum))

weight-front : (name : ℕ) (texts : List (Bor (List ℕ))) (k : ℕ)
    → column_weight name (map (λ t. t.now) (take k texts)) ≤ column_weight name (map (λ t. t.now) texts)
weight-front name texts zero = omega arith
weight-front name [] (suc k) = omega arith
weight-front name (t ∷ ts) (suc k) =
    omega (
      arith,
      sum_by-cons (cell_weight name) t.now (map (λ (u : Bor (List ℕ)). u.now) (take k ts)),
      sum_by-cons (cell_weight name) t.now (map (λ (u : Bor (List ℕ)). u.now) ts),
      weight-front name ts k,
    )

-- the weight of one text more
pub text-more : (name : ℕ) (texts : List (Bor (List ℕ))) (i : ℕ) (d : Bor (List ℕ)) (w : ℕ) → i < length texts
    → w ≡ cell_weight name (get_or texts i d).now → column_weight name (map (λ u. u.now) texts) < 2 ^ 32
    → (column_weight name (map (λ u. u.now) (take (i + 1) texts))
    ≡ column_weight name (map (λ u. u.now) (take i texts)) + w)
    × (column_weight name (map (λ u. u.now) (take i texts)) + w < 2 ^ 32)
text-more name texts i d w lt is small =
    let next : column_weight name (map (λ u. u.now) (take (i + 1) texts))
    ≡ column_weight name (map (λ u. u.now) (take i texts)) + cell_weight name (get_or texts i d).now =
    ap (column_weight name) (map_more (λ (u : Bor (List ℕ)). u.now) texts i d lt)
    ∙ sum_by_push (cell_weight name) (map (λ (u : Bor (List ℕ)). u.now) (take i texts)) (get_or texts i d).now in
    (omega (arith, next, is), omega (arith, next, is, weight-front name texts (i + 1), small))

pub text-small : (name : ℕ) (texts : List (Bor (List ℕ))) (i : ℕ) (d : Bor (List ℕ)) → i < length texts
    → column_weight name (map (λ u. u.now) texts) < 2 ^ 32 → cell_weight name (get_or texts i d).now < 2 ^ 32
text-small name texts i d lt small =
    omega (arith, (text-more name texts i d (cell_weight name (get_or texts i d).now) lt refl small).1)

-- a column has bytes if some value is not empty
pub weight-none : (name : ℕ) (values : List (List ℕ)) → column_weight name values < 1 → list_any has_text values ≡ false
weight-none name [] h = refl
weight-none name ([] ∷ vs) h =
    let none : cell_weight name [] ≡ 0 = refl in
    weight-none name vs (omega (arith, h, none, sum_by-cons (cell_weight name) [] vs))
weight-none name ((b ∷ bs) ∷ vs) h =
    let filled : is_empty (b ∷ bs) ≡ false = le-ltb (length (b ∷ bs)) 1 (omega arith) in
    let cell : cell_weight name (b ∷ bs) ≡ name + length (b ∷ bs) = rw filled refl in
    absurd (omega (arith, h, cell, sum_by-cons (cell_weight name) (b ∷ bs) vs))

pub weight-some : (name : ℕ) (values : List (List ℕ)) → 1 ≤ column_weight name values → list_any has_text values ≡ true
weight-some name [] h = absurd (let none : column_weight name [] ≡ 0 = refl in omega (arith, h, none))
weight-some name ([] ∷ vs) h =
    let none : cell_weight name [] ≡ 0 = refl in
    weight-some name vs (omega (arith, h, none, sum_by-cons (cell_weight name) [] vs))
weight-some name ((b ∷ bs) ∷ vs) h =
    let filled : is_empty (b ∷ bs) ≡ false = le-ltb (length (b ∷ bs)) 1 (omega arith) in
    rw filled refl
