-- How many names rows have.
use Rattle.std.proofs.Common.{◌≡◌, ℕ, ◌≤◌, Bool, true, false, List, [], ◌∷◌, ◌++◌, length, refl, sym, ap, subst, ◌∙◌}
use Rattle.std.proofs.Common.{◌+◌, Bor, Some, map, take}
use Rattle.std.specs.Prelude.{◌&&◌, ◌||◌, bytes_eq, slice_get}
use Rattle.std.specs.BTreeSet.{insert_key}
use Rattle.std.specs.Cmp.{IsEquivalence}
use Rattle.std.specs.List.{AllByRecursion, IsDistinct, flat_map, list_all, list_any}
use Rattle.std.specs.List.Sorted.{IsStrictlySortedBy}
use Rattle.std.specs.declared.cmp.Ordering.TheVariants.{Equal, Less}
use Rattle.std.proofs.lemmas.Bool.{and_from, and_parts}
use Rattle.std.proofs.lemmas.Cmp.{nat_list_cmp_total, nat_list_eq_equiv, tied_itself}
use Rattle.std.proofs.lemmas.List.{take_more}
use Rattle.std.proofs.lemmas.List.Folds.{list_all-append}
use Rattle.std.proofs.lemmas.Map.Made.{length-le_from_is_member}
use Rattle.std.proofs.lemmas.Option.{get_or_from_slice_get, slice_get_within}
use Rattle.std.proofs.lemmas.Slice.Eq.{bytes_eq-Decides}
use Rattle.log_model.specs.Field.{Field, bytes_cmp}
use Rattle.log_model.specs.History.{Numbered}
use Rattle.block_model.specs.Columns.{names_in, names_of}
use Rattle.block_model.proofs.Distinct.{distinct-pass, map-put, put-has, put-keeps}
use Rattle.block_model.proofs.NameLaws.{are-named, names-rising}
use Rattle.block_body.specs.Outline.{NamedFilter, Outline}
use Rattle.block_body.specs.Outlines.{filter_named, outline_of}
use Rattle.part_picks.specs.Names.{AreListed, AreNamed}

abbrev is_among : List (List ℕ) → List ℕ → Bool
is_among names text = list_any (bytes_eq text) names

fields-named : (names : List (List ℕ)) (fields : List Field) → AreListed fields names
    → list_all (is_among names) (names_in fields) ≡ true
fields-named names [] h = refl
fields-named names (f ∷ fields) h =
    and_from (is_among names f.0) (list_all (is_among names) (names_in fields)) h.0 (fields-named names fields h.1)

abbrev all_names : List Numbered → List (List ℕ)
all_names rows = flat_map (λ numbered. names_in numbered.row.fields) rows

rows-named : (names : List (List ℕ)) (rows : List Numbered) → AreNamed names rows
    → list_all (is_among names) (all_names rows) ≡ true
rows-named names [] h = refl
rows-named names (n ∷ rows) h =
    list_all-append (is_among names) (names_in n.row.fields) (all_names rows)
    ∙ and_from (list_all (is_among names) (names_in n.row.fields)) (list_all (is_among names) (all_names rows)) (fields-named
    names n.row.fields h.0) (rows-named names rows h.1)

-- ---- names that rise are distinct

below-differs : (x y : List ℕ) (t : Bool) → bytes_eq x y ≡ t → bytes_cmp x y ≡ Less → bytes_eq x y ≡ false
below-differs x y false e less = e
below-differs x y true e less =
    let same : x ≡ y = (bytes_eq-Decides x y).0 e in
    let tied : bytes_cmp x x ≡ Less = subst (λ (z : List ℕ). bytes_cmp x z ≡ Less) (sym same) less in
    let no : Equal ≡ Less = sym (tied_itself nat_list_cmp_total x) ∙ tied in
    absurd cc

all-differ : (x : List ℕ) (texts : List (List ℕ)) → AllByRecursion (λ (y : List ℕ). bytes_cmp x y ≡ Less) texts
    → AllByRecursion (λ (y : List ℕ). bytes_eq x y ≡ false) texts
all-differ x [] h = tt
all-differ x (y ∷ texts) h = (below-differs x y (bytes_eq x y) refl h.0, all-differ x texts h.1)

rising-distinct : (texts : List (List ℕ)) → IsStrictlySortedBy bytes_cmp texts → IsDistinct bytes_eq texts
unfolding IsStrictlySortedBy IsDistinct
rising-distinct [] h = tt
rising-distinct (x ∷ texts) h = (all-differ x texts h.0, rising-distinct texts h.1)

member-passes : (p : List ℕ → Bool) (texts : List (List ℕ)) (q : List ℕ) → list_all p texts ≡ true
    → list_any (bytes_eq q) texts ≡ true → p q ≡ true
member-passes p [] q all there = absurd cc
member-passes p (x ∷ texts) q all there =
    let h = and_parts (p x) (list_all p texts) all in
    by (bytes_eq q x) refl h.0 (member-passes p texts q h.1) there
  where
    by : (t : Bool) → bytes_eq q x ≡ t → p x ≡ true → (list_any (bytes_eq q) texts ≡ true → p q ≡ true)
        → (t || list_any (bytes_eq q) texts) ≡ true → p q ≡ true
    by true e one more there = ap p ((bytes_eq-Decides q x).0 e) ∙ one
    by false e one more there = more there

-- Rows have no more names than these, if each of their fields has one of them.
pub few-names : (names : List (List ℕ)) (rows : List Numbered) → AreNamed names rows
    → length (names_of rows) ≤ length names
few-names names rows h =
    let passed : list_all (is_among names) (names_of rows) ≡ true = distinct-pass (is_among names) (all_names rows)
    (rows-named names rows h) in
    length-le_from_is_member nat_list_eq_equiv (names_of rows) names (rising-distinct (names_of rows) (names-rising rows)) (λ
    q there. member-passes (is_among names) (names_of rows) q passed there)

-- ---- one name more

fields-kept : (names : List (List ℕ)) (key : List ℕ) (fields : List Field) → AreListed fields names
    → AreListed fields (insert_key bytes_cmp names key)
fields-kept names key [] h = tt
fields-kept names key (f ∷ fields) h = (put-keeps (bytes_eq f.0) key names h.0, fields-kept names key fields h.1)

rows-kept : (names : List (List ℕ)) (key : List ℕ) (rows : List Numbered) → AreNamed names rows
    → AreNamed (insert_key bytes_cmp names key) rows
rows-kept names key [] h = tt
rows-kept names key (n ∷ rows) h = (fields-kept names key n.row.fields h.0, rows-kept names key rows h.1)

-- These names are among the others.
abbrev pub AreAmong : List (List ℕ) → List (List ℕ) → Type 0
AreAmong names others = AllByRecursion (λ (name : List ℕ). list_any (bytes_eq name) others ≡ true) names

among-kept : (names others : List (List ℕ)) (key : List ℕ) → AreAmong names others
    → AreAmong names (insert_key bytes_cmp others key)
among-kept [] others key h = tt
among-kept (n ∷ names) others key h = (put-keeps (bytes_eq n) key others h.0, among-kept names others key h.1)

among-push : (names others : List (List ℕ)) (key : List ℕ) → AreAmong names others
    → list_any (bytes_eq key) others ≡ true → AreAmong (names ++ key ∷ []) others
among-push [] others key h e = (e, tt)
among-push (n ∷ names) others key h e = (h.0, among-push names others key h.1 e)

pub among-more : (names others new : List (List ℕ)) (key : List ℕ) → new ≡ insert_key bytes_cmp others key
    → AreAmong names others → AreAmong (names ++ key ∷ []) new
among-more names others new key e h =
    subst (AreAmong (names ++ key ∷ [])) (sym e) (among-push names (insert_key bytes_cmp others key) key (among-kept names
    others key h) (put-has key others))

name-among : (names others : List (List ℕ)) (text : List ℕ) → AreAmong names others
    → list_any (bytes_eq text) names ≡ true → list_any (bytes_eq text) others ≡ true
name-among [] others text h e = absurd cc
name-among (n ∷ names) others text h e = by (bytes_eq text n) refl h.0 (name-among names others text h.1) e
  where
    by : (t : Bool) → bytes_eq text n ≡ t → list_any (bytes_eq n) others ≡ true
        → (list_any (bytes_eq text) names ≡ true → list_any (bytes_eq text) others ≡ true)
        → (t || list_any (bytes_eq text) names) ≡ true → list_any (bytes_eq text) others ≡ true
    by true e one more there =
        ap (λ (t : List ℕ). list_any (bytes_eq t) others) ((bytes_eq-Decides text n).0 e) ∙ one
    by false e one more there = more there

fields-among : (names others : List (List ℕ)) (fields : List Field) → AreAmong names others → AreListed fields names
    → AreListed fields others
fields-among names others [] h k = tt
fields-among names others (f ∷ fields) h k =
    (name-among names others f.0 h k.0, fields-among names others fields h k.1)

pub rows-among : (names others : List (List ℕ)) (rows : List Numbered) → AreAmong names others → AreNamed names rows
    → AreNamed others rows
rows-among names others [] h k = tt
rows-among names others (n ∷ rows) h k =
    (fields-among names others n.row.fields h k.0, rows-among names others rows h k.1)

-- the names of the columns of a block
heads-named : (rows : List Numbered) (names : List (List ℕ))
    → map (λ (column : NamedFilter). column.0) (map (filter_named rows) names) ≡ names
heads-named rows [] = refl
heads-named rows (n ∷ names) = ap (λ (l : List (List ℕ)). n ∷ l) (heads-named rows names)

pub block-named : (rows : List Numbered) (head : Outline) → head ≡ outline_of rows
    → AreNamed (map (λ (column : NamedFilter). column.0) head.columns) rows
block-named rows head e =
    subst (λ (l : List (List ℕ)). AreNamed l rows) (sym (ap (λ (o : Outline). map (λ (column : NamedFilter). column.0)
    o.columns) e ∙ heads-named rows (names_of rows))) (are-named rows)

-- one name more is taken
pub name-taken : (names : List (List ℕ)) (i : ℕ) (name : List ℕ) → slice_get names i ≡ Some name
    → take (i + 1) names ≡ take i names ++ name ∷ []
name-taken names i name e =
    take_more names i name (slice_get_within names i name e) ∙ ap (λ (n : List ℕ). take i names ++ n ∷ [])
    (get_or_from_slice_get names i name name e)

abbrev pub now_of : Bor (List ℕ) → List ℕ
now_of t = t.now

pub put-is : (keys new : List (Bor (List ℕ))) (key : Bor (List ℕ))
    → new ≡ insert_key (λ x y. bytes_cmp (now_of x) (now_of y)) keys key
    → map now_of new ≡ insert_key bytes_cmp (map now_of keys) (now_of key)
put-is keys new key e = ap (map now_of) e ∙ map-put now_of keys key

pub kept-more : (names new : List (List ℕ)) (key : List ℕ) (rows : List Numbered) → new ≡ insert_key bytes_cmp names key
    → AreNamed names rows → AreNamed new rows
kept-more names new key rows e h =
    subst (λ (l : List (List ℕ)). AreNamed l rows) (sym e) (rows-kept names key rows h)
