-- The names of rows that are picked are those names of their blocks that are used.
use Rattle.std.proofs.Common.{◌≡◌, ℕ, zero, suc, ◌+◌, ◌-◌, ◌<◌, ◌≤◌, Bool, true, false, cond, List, [], ◌∷◌}
use Rattle.std.proofs.Common.{◌++◌, length, map}
use Rattle.std.proofs.Common.{filter, take, drop, get_or, Some, None, refl, sym, ap, subst, ◌∙◌, arith, inl}
use Rattle.std.proofs.Common.{inr, slice_get, unwrap_or}
use Rattle.std.specs.Prelude.{◌&&◌, ◌||◌, bytes_eq, not, replicate}
use Rattle.std.specs.BTreeSet.{insert_key}
use Rattle.std.specs.List.{AllByRecursion, flat_map, fold, list_all, list_any, slice_range}
use Rattle.std.specs.Map.{lookup}
use Rattle.std.proofs.lemmas.Bool.{cases_Bool, false≢true}
use Rattle.std.proofs.lemmas.Grind.{flat_map-append}
use Rattle.std.proofs.lemmas.List.{append-nil, length-drop, length-take, map-append, take_more}
use Rattle.std.proofs.lemmas.List.Elements.{filter-append}
use Rattle.std.proofs.lemmas.List.Folds.{list_any-append}
use Rattle.std.proofs.lemmas.List.Kept.{IsStrictlySortedBy-filter}
use Rattle.std.proofs.lemmas.List.Sums.{fold-append, fold_push}
use Rattle.std.proofs.lemmas.Slice.Eq.{bytes_eq-Decides}
use Rattle.std.proofs.lemmas.Option.{slice_get-get_or}
use Rattle.byte_format.proofs.Cases.{both_true, some_is}
use Rattle.log_model.specs.Field.{Field, bytes_cmp, field_value, is_empty, is_filled}
use Rattle.log_model.specs.History.{Numbered}
use Rattle.vl_row.specs.Names.{is_among}
use Rattle.block_model.specs.Columns.{names_in as field_names, names_of, values_of}
use Rattle.block_model.specs.Distinct.{HaveSameTexts, distinct, is_listed}
use Rattle.block_model.specs.Keys.{IsNumbered}
use Rattle.block_model.proofs.Distinct.{map-put}
use Rattle.block_model.proofs.FieldLaws.{AreListed}
use Rattle.block_model.proofs.NameLaws.{AreNamed, are-named, names-rising}
use Rattle.block_model.proofs.Rising.{IsRising, distinct-rising, put-twice}
use Rattle.block_model.proofs.Same.{distinct-listed, same-rising}
use Rattle.block_gather.specs.Gathered.{has_text, is_used, names_in}
use Rattle.block_gather.specs.Picked.{Picked, rows_of, rows_picked}
use Rattle.block_gather.proofs.SliceLaws.{all-slice}

abbrev put_all : List (List ℕ) → List (List ℕ) → List (List ℕ)
put_all names texts = fold (insert_key bytes_cmp) names texts

abbrev block_names : Picked → List (List ℕ)
block_names pick = names_of pick.block

abbrev names_at : Numbered → List (List ℕ)
names_at n = field_names n.row.fields

-- ---- names that are put

pub put-text : {X : Type 0} (f : X → List ℕ) (keys new : List X) (key : X) (names texts : List (List ℕ)) (i : ℕ)
    → i < length texts → new ≡ insert_key (λ x y. bytes_cmp (f x) (f y)) keys key → f key ≡ get_or texts i []
    → map f keys ≡ put_all names (take i texts) → map f new ≡ put_all names (take (i + 1) texts)
put-text f keys new key names texts i lt put is so_far =
    ap (map f) put ∙ map-put f keys key
    ∙ ap (λ (l : List (List ℕ)). insert_key bytes_cmp l (f key)) so_far
    ∙ ap (insert_key bytes_cmp (put_all names (take i texts))) is
    ∙ sym (fold_push (insert_key bytes_cmp) names (take i texts) (get_or texts i []))
    ∙ ap (put_all names) (sym (take_more texts i [] lt))

-- those of one block more
pub names-more : (picks : List Picked) (i : ℕ) (d : Picked) → i < length picks
    → names_in (take (i + 1) picks) ≡ put_all (names_in (take i picks)) (names_of (get_or picks i d).block)
names-more picks i d lt =
    ap names_in (take_more picks i d lt)
    ∙ ap distinct (flat_map-append block_names (take i picks) (get_or picks i d ∷ []))
    ∙ fold-append (insert_key bytes_cmp) [] (flat_map block_names (take i picks))
    (flat_map block_names (get_or picks i d ∷ []))
    ∙ ap (put_all (names_in (take i picks))) (append-nil (block_names (get_or picks i d)))

pub names-put : (picks : List Picked) (i : ℕ) (p : Picked) → i < length picks → p ≡ get_or picks i p
    → names_in (take (i + 1) picks) ≡ put_all (names_in (take i picks)) (names_of p.block)
names-put picks i p lt is =
    names-more picks i p lt ∙ ap (λ (q : Picked). put_all (names_in (take i picks)) (names_of q.block)) (sym is)

-- a block with the names of the one before adds none
pub names-known : (picks : List Picked) (i : ℕ) (p q : Picked) → i < length picks → 0 < i → p ≡ get_or picks i p
    → q ≡ get_or picks (i - 1) q → names_of p.block ≡ names_of q.block
    → names_in (take (i + 1) picks) ≡ names_in (take i picks)
names-known picks i p q lt later is is_other same =
    let back : (i - 1) + 1 ≡ i = omega (arith, later) in
    let before : names_in (take i picks) ≡ put_all (names_in (take (i - 1) picks)) (names_of q.block) =
    ap (λ (k : ℕ). names_in (take k picks)) (sym back) ∙ names-put picks (i - 1) q (omega (arith, lt, later)) is_other in
    names-put picks i p lt is
    ∙ ap (put_all (names_in (take i picks))) same
    ∙ ap (λ (l : List (List ℕ)). put_all l (names_of q.block)) before
    ∙ put-twice (names_of q.block) (names_in (take (i - 1) picks)) (distinct-rising (flat_map block_names (take (i - 1)
    picks)))
    ∙ sym before

-- names that agree in one place more
pub same-more : (names others : List (List ℕ)) (i : ℕ) (name other : List ℕ) → i < length names → i < length others
    → slice_get names i ≡ Some name → slice_get others i ≡ Some other → name ≡ other → take i names ≡ take i others
    → take (i + 1) names ≡ take (i + 1) others
same-more names others i name other lt also is is_other same before =
    let first : get_or names i [] ≡ name = some_is (get_or names i []) name (sym (slice_get-get_or names i [] lt) ∙ is) in
    let second : other ≡ get_or others i [] = some_is other (get_or others i []) (sym is_other
    ∙ slice_get-get_or others i [] also) in
    take_more names i [] lt
    ∙ ap (λ (l : List (List ℕ)). l ++ get_or names i [] ∷ []) before
    ∙ ap (λ (n : List ℕ). take i others ++ n ∷ []) (first ∙ same ∙ second)
    ∙ sym (take_more others i [] also)

-- ---- names without a value

unlisted : (fields : List Field) (names : List (List ℕ)) (name : List ℕ) → AreListed fields names
    → is_listed names name ≡ false → field_value fields name ≡ []
unlisted [] names name listed none = refl
unlisted (f ∷ fs) names name listed none = by (bytes_eq name f.0) refl (unlisted fs names name listed.1 none)
  where
    by : (b : Bool) → bytes_eq name f.0 ≡ b → field_value fs name ≡ []
        → unwrap_or (cond b (Some f.1) (lookup (bytes_eq name) fs)) [] ≡ []
    by true same later =
        let other : list_any (bytes_eq name) names ≡ true =
        ap (λ (text : List ℕ). list_any (bytes_eq text) names) ((bytes_eq-Decides name f.0).0 same) ∙ listed.0 in
        absurd (false≢true (sym none ∙ other))
    by false same later = later

-- an empty value for each
empty-each : (rows : List Numbered) (names : List (List ℕ)) (name : List ℕ) → AreNamed names rows
    → is_listed names name ≡ false → AllByRecursion (λ (n : Numbered). field_value n.row.fields name ≡ []) rows
empty-each [] names name h none = tt
empty-each (n ∷ ns) names name h none =
    (unlisted n.row.fields names name h.0 none, empty-each ns names name h.1 none)

pub empty-slice : (block : List Numbered) (a b : ℕ) (name : List ℕ) → is_listed (names_of block) name ≡ false
    → AllByRecursion (λ (n : Numbered). field_value n.row.fields name ≡ []) (slice_range block a b)
empty-slice block a b name none =
    all-slice (λ (n : Numbered). field_value n.row.fields name ≡ []) block a b
    (empty-each block (names_of block) name (are-named block) none)

empty-values : (rows : List Numbered) (name : List ℕ)
    → AllByRecursion (λ (n : Numbered). field_value n.row.fields name ≡ []) rows
    → replicate (length rows) [] ≡ values_of rows name
empty-values [] name h = refl
empty-values (n ∷ ns) name h =
    ap (λ (l : List (List ℕ)). [] ∷ l) (empty-values ns name h.1)
    ∙ ap (λ (v : List ℕ). v ∷ values_of ns name) (sym h.0)

pub none-picked : (block : List Numbered) (a b : ℕ) (name : List ℕ) → a < b → b ≤ length block
    → is_listed (names_of block) name ≡ false
    → replicate (b - a) [] ≡ values_of (slice_range block a b) name
none-picked block a b name some within none =
    let count : b - a ≡ length (slice_range block a b) = omega (
      arith,
      some,
      within,
      length-take (b - a) (drop a block),
      length-drop a block,
    ) in
    ap (λ (n : ℕ). replicate n []) count ∙ empty-values (slice_range block a b) name (empty-slice block a b name none)

unused : (rows : List Numbered) (name : List ℕ)
    → AllByRecursion (λ (n : Numbered). field_value n.row.fields name ≡ []) rows → is_used rows name ≡ false
unused [] name h = refl
unused (n ∷ ns) name h = rw h.0 (unused ns name h.1)

used-append : (rows more : List Numbered) (name : List ℕ)
    → is_used (rows ++ more) name ≡ (is_used rows name || is_used more name)
used-append rows more name =
    ap (list_any has_text) (map-append (λ (n : Numbered). field_value n.row.fields name) rows more)
    ∙ list_any-append has_text (values_of rows name) (values_of more name)

split-false : (a b : Bool) → (a || b) ≡ false → (a ≡ false) × (b ≡ false)
split-false true b h = absurd cc
split-false false b h = (refl, h)

unused-all : (picks : List Picked) (name : List ℕ) → is_listed (flat_map block_names picks) name ≡ false
    → is_used (rows_picked picks) name ≡ false
unused-all [] name h = refl
unused-all (p ∷ ps) name h =
    let parts = split-false (is_listed (names_of p.block) name) (is_listed (flat_map block_names ps) name)
    (sym (list_any-append (bytes_eq name) (names_of p.block) (flat_map block_names ps)) ∙ h) in
    let first : is_used (rows_of p) name ≡ false =
    unused (rows_of p) name (empty-slice p.block p.from p.to name parts.0) in
    used-append (rows_of p) (rows_picked ps) name ∙ rw first (unused-all ps name parts.1)

-- a name that is used is one of the blocks
pub used-listed : (picks : List Picked) (name : List ℕ) → is_used (rows_picked picks) name ≡ true
    → is_listed (names_in picks) name ≡ true
used-listed picks name used =
    elim (cases_Bool (is_listed (flat_map block_names picks) name)) [
      | inl there ↦ distinct-listed name (flat_map block_names picks) ∙ there
      | inr missing ↦ absurd (false≢true (sym (unused-all picks name missing) ∙ used))
    ]

-- ---- the names of rows are those that are used

filled-value : (a b : Bool) → not (a || b) ≡ true → not b ≡ true
filled-value true b h = absurd cc
filled-value false b h = h

field-used : (fields : List Field) (name : List ℕ) → list_all is_filled fields ≡ true
    → is_listed (field_names fields) name ≡ has_text (field_value fields name)
field-used [] name h = refl
field-used (f ∷ fs) name h = by (bytes_eq name f.0) (field-used fs name parts.1)
  where
    parts : (is_filled f ≡ true) × (list_all is_filled fs ≡ true)
    parts = both_true (is_filled f) (list_all is_filled fs) h

    by : (b : Bool) → is_listed (field_names fs) name ≡ has_text (field_value fs name)
        → (b || is_listed (field_names fs) name)
        ≡ has_text (unwrap_or (cond b (Some f.1) (lookup (bytes_eq name) fs)) [])
    by true later = sym (filled-value (is_empty f.0) (is_empty f.1) parts.0)
    by false later = later

rows-used : (rows : List Numbered) (name : List ℕ) → AllByRecursion IsNumbered rows
    → is_listed (flat_map names_at rows) name ≡ is_used rows name
rows-used [] name h = refl
rows-used (n ∷ ns) name h =
    list_any-append (bytes_eq name) (names_at n) (flat_map names_at ns)
    ∙ ap (λ (b : Bool). b || is_listed (flat_map names_at ns) name) (field-used n.row.fields name h.0.row.fields.filled)
    ∙ ap (λ (b : Bool). has_text (field_value n.row.fields name) || b) (rows-used ns name h.1)

and-false : (a : Bool) → (a && false) ≡ false
and-false true = refl
and-false false = refl

pub filter-listed : (p : List ℕ → Bool) (names : List (List ℕ)) (name : List ℕ)
    → is_listed (filter p names) name ≡ (is_listed names name && p name)
filter-listed p [] name = refl
filter-listed p (x ∷ xs) name =
    elim (cases_Bool (bytes_eq name x)) [
      | inl same ↦
          let at : name ≡ x = (bytes_eq-Decides name x).0 same in
          rw same (by-same (p x) (p name) (ap p (sym at)) same (filter-listed p xs name))
      | inr other ↦ rw other (by-other (p x) other (filter-listed p xs name))
    ]
  where
    by-same : (b q : Bool) → b ≡ q → bytes_eq name x ≡ true
        → is_listed (filter p xs) name ≡ (is_listed xs name && q)
        → is_listed (cond b (x ∷ filter p xs) (filter p xs)) name ≡ q
    by-same true true e same later = rw same refl
    by-same true false e same later = absurd cc
    by-same false true e same later = absurd cc
    by-same false false e same later = later ∙ and-false (is_listed xs name)

    by-other : (b : Bool) → bytes_eq name x ≡ false → is_listed (filter p xs) name ≡ (is_listed xs name && p name)
        → is_listed (cond b (x ∷ filter p xs) (filter p xs)) name ≡ (is_listed xs name && p name)
    by-other true other later = rw other later
    by-other false other later = later

same-test : (a b : Bool) → (b ≡ true → a ≡ true) → b ≡ (a && b)
same-test true b h = refl
same-test false true h = absurd (false≢true (h refl))
same-test false false h = refl

pub names-used : (picks : List Picked) → AllByRecursion IsNumbered (rows_picked picks)
    → filter (is_used (rows_picked picks)) (names_in picks) ≡ names_of (rows_picked picks)
names-used picks h =
    let rows : List Numbered = rows_picked picks in
    sym (same-rising (names_of rows) (filter (is_used rows) (names_in picks)) (names-rising rows)
    (IsStrictlySortedBy-filter bytes_cmp (is_used rows) (names_in picks) (distinct-rising (flat_map block_names picks)))
    (λ name.
    distinct-listed name (flat_map names_at rows) ∙ rows-used rows name h
    ∙ same-test (is_listed (names_in picks) name) (is_used rows name) (used-listed picks name)
    ∙ sym (filter-listed (is_used rows) (names_in picks) name)))

-- ---- each field has a name among them

and-first : (a b : Bool) → (a && b) ≡ true → a ≡ true
and-first true b h = refl
and-first false b h = h

listed-in-all : (p : List ℕ → Bool) (names : List (List ℕ)) (fields : List Field) → AreListed fields (filter p names)
    → AreListed fields names
listed-in-all p names [] h = tt
listed-in-all p names (f ∷ fs) h =
    (and-first (is_listed names f.0) (p f.0) (sym (filter-listed p names f.0) ∙ h.0), listed-in-all p names fs h.1)

named-in-all : (p : List ℕ → Bool) (names : List (List ℕ)) (rows : List Numbered) → AreNamed (filter p names) rows
    → AreNamed names rows
named-in-all p names [] h = tt
named-in-all p names (n ∷ ns) h = (listed-in-all p names n.row.fields h.0, named-in-all p names ns h.1)

pub picked-named : (picks : List Picked) → AllByRecursion IsNumbered (rows_picked picks)
    → AreNamed (names_in picks) (rows_picked picks)
picked-named picks h =
    named-in-all (is_used (rows_picked picks)) (names_in picks) (rows_picked picks)
    (subst (λ (l : List (List ℕ)). AreNamed l (rows_picked picks)) (sym (names-used picks h)) (are-named (rows_picked
    picks)))

-- ---- one column more

pub kept-more : (p : List ℕ → Bool) (names : List (List ℕ)) (i : ℕ) → i < length names → p (get_or names i []) ≡ true
    → filter p (take (i + 1) names) ≡ filter p (take i names) ++ get_or names i [] ∷ []
kept-more p names i lt kept =
    ap (filter p) (take_more names i [] lt)
    ∙ filter-append p (take i names) (get_or names i [] ∷ [])
    ∙ rw kept refl

pub left-out : (p : List ℕ → Bool) (names : List (List ℕ)) (i : ℕ) → i < length names → p (get_or names i []) ≡ false
    → filter p (take (i + 1) names) ≡ filter p (take i names)
left-out p names i lt dropped =
    ap (filter p) (take_more names i [] lt)
    ∙ filter-append p (take i names) (get_or names i [] ∷ [])
    ∙ rw dropped (append-nil (filter p (take i names)))
