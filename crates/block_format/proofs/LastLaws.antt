-- Of the columns of one name the last counts.
use Rattle.std.proofs.Common.{◌≡◌, ℕ, Bool, true, false, cond, get_or, List, [], ◌∷◌, ◌++◌, length, map, refl, sym, ap, ◌∙◌}
use Rattle.std.proofs.Common.{◌+◌, ◌<◌, Bor, append-nil, append_assoc, arith, eqb, filter, not, subst, suc, take, zero}
use Rattle.std.specs.Prelude.{bytes_eq, if◌then◌else◌}
use Rattle.std.specs.BTreeMap.{insert_entry, is_at}
use Rattle.std.specs.List.{AllByRecursion, list_all}
use Rattle.std.specs.List.Sorted.{IsStrictlySortedBy}
use Rattle.std.specs.Map.{keys_of, remove_entry}
use Rattle.std.specs.Ordering.{is_eq, match_ordering, ordering_reverse}
use Rattle.std.specs.declared.cmp.Ordering.{Ordering}
use Rattle.std.specs.declared.cmp.Ordering.TheVariants.{Less, Equal, Greater}
use Rattle.std.proofs.lemmas.Cmp.{nat_list_cmp_total}
use Rattle.std.proofs.lemmas.Map.Keys.{sorted_head, sorted_tail}
use Rattle.std.proofs.lemmas.Map.Text.{is_eq-slice_cmp}
use Rattle.std.proofs.lemmas.Slice.Eq.{bytes_eq-Decides}
use Rattle.std.proofs.lemmas.Bool.{le-ltb}
use Rattle.std.proofs.lemmas.List.{take_more}
use Rattle.std.proofs.lemmas.List.Elements.{filter-append}
use Rattle.byte_format.proofs.Cases.{both_true}
use Rattle.block_format.specs.Columns.{AreSaid, HasRows, IsWhole, LentColumn, lent_column, text_cmp}
use Rattle.block_format.specs.Reading.{has_name}
use Rattle.block_format.proofs.SaidLaws.{said-push}
use Rattle.block_model.specs.Columns.{Column, fields_at}
use Rattle.block_model.proofs.FieldLaws.{Above, IsRising, below-more, set-last}
use Rattle.block_model.proofs.Rising.{above-along}
use Rattle.block_model.proofs.RowLaws.{none-below}
use Rattle.log_model.specs.Field.{Field, bytes_cmp, is_empty, set_all, set_field, without}
use Rattle.vl_row.specs.Place.{AllBelow}

module _ {K X : Type 0} (name : K → List ℕ) (content : X → List ℕ) where
  abbrev pub said : K × X → Field
  said e = (name e.0, content e.1)

  abbrev pub name_cmp : K → K → Ordering
  name_cmp k l = bytes_cmp (name k) (name l)

  -- a field before others, unless its value is empty
  abbrev front : List ℕ → List ℕ → List Field → List Field
  front key [] fields = fields
  front key (b ∷ bs) fields = (key, b ∷ bs) ∷ fields

  -- what entries in the order of their names say
  abbrev kept : List (K × X) → List Field
  kept [] = []
  kept (e ∷ es) = front (name e.0) (content e.1) (kept es)

  abbrev names : List (K × X) → List (List ℕ)
  names es = map (λ (e : K × X). name e.0) es

  above-names : (x : List ℕ) (es : List (K × X)) → AllByRecursion (λ (y : K). bytes_cmp x (name y) ≡ Less) (keys_of es)
      → Above x (names es)
  above-names x [] a = tt
  above-names x (e ∷ es) a = (a.0, above-names x es a.1)

  rising : (es : List (K × X)) → IsStrictlySortedBy name_cmp (keys_of es) → IsRising (names es)
  unfolding IsStrictlySortedBy
  rising [] s = tt
  rising (e ∷ es) s = (above-names (name e.0) es s.0, rising es s.1)

  -- ---- one name

  apart : (x y : List ℕ) → bytes_cmp x y ≡ Less → bytes_eq x y ≡ false
  apart x y h = sym (is_eq-slice_cmp x y) ∙ ap is_eq h

  same : (x y : List ℕ) → bytes_cmp x y ≡ Equal → bytes_eq x y ≡ true
  same x y h = sym (is_eq-slice_cmp x y) ∙ ap is_eq h

  other : (x y : List ℕ) → bytes_cmp x y ≡ Greater → bytes_eq x y ≡ false
  other x y h = sym (is_eq-slice_cmp x y) ∙ ap is_eq h

  none-above : (key : List ℕ) (fields : List Field) → Above key (keys_of fields) → without fields key ≡ fields
  none-above key [] a = refl
  none-above key (f ∷ fs) a = rw (apart key f.0 a.0) (ap (λ (l : List Field). f ∷ l) (none-above key fs a.1))

  apart-back : (x y : List ℕ) → bytes_cmp x y ≡ Less → bytes_eq y x ≡ false
  apart-back x y h = sym (is_eq-slice_cmp y x) ∙ ap is_eq (nat_list_cmp_total.antisymm y x ∙ ap ordering_reverse h)

  none-there : (key : List ℕ) (fields : List Field) → AllBelow fields key → without fields key ≡ fields
  none-there key [] b = refl
  none-there key (f ∷ fs) b = rw (apart-back f.0 key b.0) (ap (λ (l : List Field). f ∷ l) (none-there key fs b.1))

  above-front : (x key value : List ℕ) (fields : List Field) → bytes_cmp x key ≡ Less → Above x (keys_of fields)
      → Above x (keys_of (front key value fields))
  above-front x key [] fields h a = a
  above-front x key (b ∷ bs) fields h a = (h, a)

  set-front : (key value : List ℕ) (fields : List Field) → Above key (keys_of fields)
      → front key value fields ≡ set_field fields key value
  set-front key [] fields a = sym (none-above key fields a)
  set-front key (b ∷ bs) [] a = refl
  set-front key (b ∷ bs) (f ∷ fs) a = rw a.0 refl

  set-same : (key old value : List ℕ) (fields : List Field) → bytes_cmp key key ≡ Equal → Above key (keys_of fields)
      → front key value fields ≡ set_field (front key old fields) key value
  set-same key [] value fields h a = set-front key value fields a
  set-same key (c ∷ cs) [] fields h a = rw (same key key h) refl
  set-same key (c ∷ cs) (b ∷ bs) fields h a = rw h refl

  set-behind : (key first old value : List ℕ) (fields : List Field) → bytes_cmp key first ≡ Greater
      → front first old (set_field fields key value) ≡ set_field (front first old fields) key value
  set-behind key first [] value fields h = refl
  set-behind key first (c ∷ cs) [] fields h = rw (other key first h) refl
  set-behind key first (c ∷ cs) (b ∷ bs) fields h = rw h refl

  -- ---- all names

  above-kept : (x : List ℕ) (es : List (K × X)) → Above x (names es) → Above x (keys_of (kept es))
  above-kept x [] a = tt
  above-kept x (e ∷ es) a = above-front x (name e.0) (content e.1) (kept es) a.0 (above-kept x es a.1)

  put-kept : (es : List (K × X)) (k : K) (v : X) → IsRising (names es)
      → kept (insert_entry name_cmp es k v) ≡ set_field (kept es) (name k) (content v)
  put-kept [] k v s = set-front (name k) (content v) [] tt
  put-kept (e ∷ es) k v s =
      by (bytes_cmp (name k) (name e.0)) refl (put-kept es k v (sorted_tail bytes_cmp (name e.0) (names es) s))
    where
      above : Above (name e.0) (keys_of (kept es))
      above = above-kept (name e.0) es (sorted_head bytes_cmp (name e.0) (names es) s)

      by : (o : Ordering) → bytes_cmp (name k) (name e.0) ≡ o
          → kept (insert_entry name_cmp es k v) ≡ set_field (kept es) (name k) (content v)
          → kept (match_ordering o ((k, v) ∷ e ∷ es) ((e.0, v) ∷ es) (e ∷ insert_entry name_cmp es k v))
          ≡ set_field (front (name e.0) (content e.1) (kept es)) (name k) (content v)
      by Less h rest =
          set-front (name k) (content v) (kept (e ∷ es)) (above-front (name k) (name e.0) (content e.1) (kept es) h
          (above-along (name k) (name e.0) (keys_of (kept es)) h above))
      by Equal h rest =
          let key : name k ≡ name e.0 = (bytes_eq-Decides (name k) (name e.0)).0 (same (name k) (name e.0) h) in
          let itself : bytes_cmp (name e.0) (name e.0) ≡ Equal = ap (λ (n : List ℕ). bytes_cmp n (name e.0)) (sym key)
          ∙ h in
          set-same (name e.0) (content e.1) (content v) (kept es) itself above
          ∙ ap (λ (n : List ℕ). set_field (front (name e.0) (content e.1) (kept es)) n (content v)) (sym key)
      by Greater h rest =
          ap (front (name e.0) (content e.1)) rest
          ∙ set-behind (name k) (name e.0) (content e.1) (content v) (kept es) h

  drop-front : (key first old : List ℕ) (fields : List Field) (b : Bool) → bytes_eq key first ≡ b
      → Above first (keys_of fields)
      → cond b fields (front first old (without fields key)) ≡ without (front first old fields) key
  drop-front key first [] fields true e a =
      let one : key ≡ first = (bytes_eq-Decides key first).0 e in
      sym (ap (without fields) one ∙ none-above first fields a)
  drop-front key first [] fields false e a = refl
  drop-front key first (c ∷ cs) fields true e a = rw e refl
  drop-front key first (c ∷ cs) fields false e a = rw e refl

  drop-kept : (es : List (K × X)) (k : K) → IsRising (names es)
      → kept (remove_entry (is_at (name_cmp k)) es) ≡ without (kept es) (name k)
  drop-kept [] k s = refl
  drop-kept (e ∷ es) k s =
      by (is_eq (bytes_cmp (name k) (name e.0))) refl (drop-kept es k (sorted_tail bytes_cmp (name e.0) (names es) s))
    where
      above : Above (name e.0) (keys_of (kept es))
      above = above-kept (name e.0) es (sorted_head bytes_cmp (name e.0) (names es) s)

      by : (b : Bool) → is_eq (bytes_cmp (name k) (name e.0)) ≡ b
          → kept (remove_entry (is_at (name_cmp k)) es) ≡ without (kept es) (name k)
          → kept (cond b es (e ∷ remove_entry (is_at (name_cmp k)) es))
          ≡ without (front (name e.0) (content e.1) (kept es)) (name k)
      by true h rest = drop-front (name k) (name e.0) (content e.1) (kept es) true (sym (is_eq-slice_cmp (name k) (name e.0))
          ∙ h) above
      by false h rest = ap (front (name e.0) (content e.1)) rest
          ∙ drop-front (name k) (name e.0) (content e.1) (kept es) false (sym (is_eq-slice_cmp (name k) (name e.0))
          ∙ h) above

  said-kept : (acc : List Field) (es : List (K × X)) → IsRising (names es)
      → AllByRecursion (AllBelow acc) (names es) → set_all acc (map said es) ≡ acc ++ kept es
  said-kept acc [] s b = sym (append-nil acc)
  said-kept acc (e ∷ es) s b =
      by (content e.1) (λ (l : List Field) more. said-kept l es (sorted_tail bytes_cmp (name e.0) (names es) s) more)
    where
      by : (value : List ℕ)
          → ((l : List Field) → AllByRecursion (AllBelow l) (names es) → set_all l (map said es) ≡ l ++ kept es)
          → set_all (set_field acc (name e.0) value) (map said es) ≡ acc ++ front (name e.0) value (kept es)
      by [] rest = ap (λ (l : List Field). set_all l (map said es)) (none-there (name e.0) acc b.0) ∙ rest acc b.1
      by (c ∷ cs) rest =
          let field : Field = (name e.0, c ∷ cs) in
          ap (λ (l : List Field). set_all l (map said es)) (set-last acc (name e.0) (c ∷ cs) b.0 (omega arith))
          ∙ rest (acc ++ field ∷ []) (below-more acc field (names es) b.1 (sorted_head bytes_cmp (name e.0) (names es)
          s))
          ∙ append_assoc acc (field ∷ []) (kept es)

  all-said : (es : List (K × X)) → IsStrictlySortedBy name_cmp (keys_of es) → set_all [] (map said es) ≡ kept es
  all-said es s = said-kept [] es (rising es s) (none-below (names es))

  -- The field of one name more is set.
  pub put-said : (es : List (K × X)) (k : K) (v : X) → IsStrictlySortedBy name_cmp (keys_of es)
      → IsStrictlySortedBy name_cmp (keys_of (insert_entry name_cmp es k v))
      → set_all [] (map said (insert_entry name_cmp es k v))
      ≡ set_field (set_all [] (map said es)) (name k) (content v)
  put-said es k v s t =
      all-said (insert_entry name_cmp es k v) t ∙ put-kept es k v (rising es s)
      ∙ ap (λ (l : List Field). set_field l (name k) (content v)) (sym (all-said es s))

  pub drop-said : (es : List (K × X)) (k : K) → IsStrictlySortedBy name_cmp (keys_of es)
      → IsStrictlySortedBy name_cmp (keys_of (remove_entry (is_at (name_cmp k)) es))
      → set_all [] (map said (remove_entry (is_at (name_cmp k)) es)) ≡ without (set_all [] (map said es)) (name k)
  drop-said es k s t =
      all-said (remove_entry (is_at (name_cmp k)) es) t ∙ drop-kept es k (rising es s)
      ∙ ap (λ (l : List Field). without l (name k)) (sym (all-said es s))

-- ---- columns that are lent

abbrev name_of : Bor (List ℕ) → List ℕ
name_of t = t.now

abbrev value_at : ℕ → Bor (List (List ℕ)) → List ℕ
value_at i values = get_or values.now i []

said-lent : (es : List LentColumn) (i : ℕ)
    → map (λ (column : Column). (column.0, get_or column.1 i [])) (map lent_column es)
    ≡ map (said name_of (value_at i)) es
said-lent [] i = refl
said-lent (e ∷ es) i = ap (λ (l : List Field). (e.0.now, get_or e.1.now i []) ∷ l) (said-lent es i)

fields-lent : (es : List LentColumn) (i : ℕ)
    → fields_at (map lent_column es) i ≡ set_all [] (map (said name_of (value_at i)) es)
fields-lent es i = ap (set_all []) (said-lent es i)

pub named : (name : List ℕ) (values : List (List ℕ)) → eqb (length name) 0 ≡ false → has_name (name, values) ≡ true
named [] values e = absurd (let k : true ≡ false = e in cc)
named (c ∷ cs) values e = ap not (le-ltb (length (c ∷ cs)) 1 (omega arith))

some-named : (name : List ℕ) (values : List (List ℕ)) → has_name (name, values) ≡ true → 0 < length name
some-named [] values e = absurd (let k : false ≡ true = e in cc)
some-named (c ∷ cs) values e = omega arith

empty-at : (values : List (List ℕ)) (i : ℕ) → list_all (bytes_eq []) values ≡ true → get_or values i [] ≡ []
empty-at [] zero e = refl
empty-at [] (suc i) e = refl
empty-at (v ∷ vs) zero e =
    let p = both_true (bytes_eq [] v) (list_all (bytes_eq []) vs) e in
    sym ((bytes_eq-Decides [] v).0 p.0)
empty-at (v ∷ vs) (suc i) e =
    let p = both_true (bytes_eq [] v) (list_all (bytes_eq []) vs) e in
    empty-at vs i p.1

-- A column with a name counts in the place of the one before.
pub last-put : (es new : List LentColumn) (k : Bor (List ℕ)) (v : Bor (List (List ℕ))) (column : Column) (i : ℕ)
    → new ≡ insert_entry text_cmp es k v → IsStrictlySortedBy text_cmp (keys_of es)
    → IsStrictlySortedBy text_cmp (keys_of new) → (k.now, v.now) ≡ column → has_name (k.now, v.now) ≡ true
    → fields_at (map lent_column new) i
    ≡ (if has_name column then set_field (fields_at (map lent_column es) i) column.0 (get_or column.1 i [])
    else fields_at (map lent_column es) i)
last-put es new k v column i put s t whole named =
    let fields : List Field = fields_at (map lent_column es) i in
    let one : fields_at (map lent_column new) i ≡ set_field (fields_at (map lent_column es) i) k.now (get_or v.now i [])
    = fields-lent new i ∙ ap (λ (l : List LentColumn). set_all [] (map (said name_of (value_at i)) l)) put
    ∙ put-said name_of (value_at i) es k v s (subst (λ (l : List LentColumn). IsStrictlySortedBy text_cmp (keys_of l))
    put t)
    ∙ ap (λ (l : List Field). set_field l k.now (get_or v.now i [])) (sym (fields-lent es i)) in
    let there : set_field (fields_at (map lent_column es) i) k.now (get_or v.now i [])
    ≡ (if has_name (k.now, v.now) then set_field (fields_at (map lent_column es) i) k.now (get_or v.now i [])
    else fields_at (map lent_column es) i) = rw named refl in
    one ∙ there ∙ ap (λ (d : Column). if has_name d then set_field fields d.0 (get_or d.1 i []) else fields) whole

-- One without values takes it away.
pub last-dropped : (es new : List LentColumn) (k : Bor (List ℕ)) (values : List (List ℕ)) (column : Column) (i : ℕ)
    → new ≡ remove_entry (is_at (text_cmp k)) es → IsStrictlySortedBy text_cmp (keys_of es)
    → IsStrictlySortedBy text_cmp (keys_of new) → (k.now, values) ≡ column → has_name (k.now, values) ≡ true
    → list_all (bytes_eq []) values ≡ true
    → fields_at (map lent_column new) i
    ≡ (if has_name column then set_field (fields_at (map lent_column es) i) column.0 (get_or column.1 i [])
    else fields_at (map lent_column es) i)
last-dropped es new k values column i dropped s t whole named none =
    let fields : List Field = fields_at (map lent_column es) i in
    let one : fields_at (map lent_column new) i ≡ set_field (fields_at (map lent_column es) i) k.now []
    = fields-lent new i ∙ ap (λ (l : List LentColumn). set_all [] (map (said name_of (value_at i)) l)) dropped
    ∙ drop-said name_of (value_at i) es k s (subst (λ (l : List LentColumn). IsStrictlySortedBy text_cmp (keys_of l))
    dropped t)
    ∙ ap (λ (l : List Field). without l k.now) (sym (fields-lent es i)) in
    let there : set_field (fields_at (map lent_column es) i) k.now (get_or values i [])
    ≡ (if has_name (k.now, values) then set_field (fields_at (map lent_column es) i) k.now (get_or values i [])
    else fields_at (map lent_column es) i) = rw named refl in
    one ∙ ap (set_field fields k.now) (sym (empty-at values i none))
    ∙ there ∙ ap (λ (d : Column). if has_name d then set_field fields d.0 (get_or d.1 i []) else fields) whole

whole-put : (rows : ℕ) (es : List LentColumn) (k : Bor (List ℕ)) (v : Bor (List (List ℕ)))
    → AllByRecursion (IsWhole rows) es → 0 < length k.now → length v.now ≡ rows
    → AllByRecursion (IsWhole rows) (insert_entry text_cmp es k v)
whole-put rows [] k v h some each = ((some, each), tt)
whole-put rows (e ∷ es) k v h some each = by (text_cmp k e.0) (whole-put rows es k v h.1 some each)
  where
    by : (o : Ordering) → AllByRecursion (IsWhole rows) (insert_entry text_cmp es k v)
        → AllByRecursion (IsWhole rows) (match_ordering o ((k, v) ∷ e ∷ es) ((e.0, v) ∷ es) (e ∷ insert_entry text_cmp
        es k v))
    by Less rest = ((some, each), h)
    by Equal rest = ((h.0.0, each), h.1)
    by Greater rest = (h.0, rest)

whole-dropped : (rows : ℕ) (es : List LentColumn) (test : Bor (List ℕ) → Bool) → AllByRecursion (IsWhole rows) es
    → AllByRecursion (IsWhole rows) (remove_entry test es)
whole-dropped rows [] test h = tt
whole-dropped rows (e ∷ es) test h = by (test e.0) (whole-dropped rows es test h.1)
  where
    by : (b : Bool) → AllByRecursion (IsWhole rows) (remove_entry test es) → AllByRecursion (IsWhole rows) (cond b es (e ∷ remove_entry test es))
    by true rest = h.1
    by false rest = (h.0, rest)

pub said-put : (rows : ℕ) (es new : List LentColumn) (k : Bor (List ℕ)) (v : Bor (List (List ℕ))) (column : Column)
    → new ≡ insert_entry text_cmp es k v → IsStrictlySortedBy text_cmp (keys_of new) → AreSaid rows es
    → (k.now, v.now) ≡ column → HasRows rows column → has_name (k.now, v.now) ≡ true → AreSaid rows new
said-put rows es new k v column put t h whole each named =
    record {
      ordered = t;
      whole = subst (AllByRecursion (IsWhole rows)) (sym put) (whole-put rows es k v h.whole (some-named k.now v.now
          named) (ap (λ (d : Column). length d.1) whole ∙ each));
    }

pub said-dropped : (rows : ℕ) (es new : List LentColumn) (k : Bor (List ℕ))
    → new ≡ remove_entry (is_at (text_cmp k)) es → IsStrictlySortedBy text_cmp (keys_of new) → AreSaid rows es
    → AreSaid rows new
said-dropped rows es new k dropped t h =
    record {
      ordered = t;
      whole = subst (AllByRecursion (IsWhole rows)) (sym dropped) (whole-dropped rows es (is_at (text_cmp k)) h.whole);
    }

pub nothing-said : (rows : ℕ) (es : List LentColumn) → es ≡ [] → AreSaid rows es
unfolding IsStrictlySortedBy
nothing-said rows es e = subst (AreSaid rows) (sym e) (record { ordered = tt; whole = tt })

-- ---- one column more

filter-one : (columns : List Column) (column : Column) (fields : List Field) (i : ℕ)
    → fields ≡ fields_at (filter has_name columns) i
    → (if has_name column then set_field fields column.0 (get_or column.1 i []) else fields)
    ≡ fields_at (filter has_name (columns ++ column ∷ [])) i
filter-one columns column fields i so_far =
    by (has_name column) ∙ ap (λ (l : List Column). fields_at l i) (sym (filter-append has_name columns (column ∷ [])))
  where
    by : (b : Bool)
        → (if b then set_field fields column.0 (get_or column.1 i []) else fields)
        ≡ fields_at (filter has_name columns ++ cond b (column ∷ []) []) i
    by true = ap (λ (l : List Field). set_field l column.0 (get_or column.1 i [])) so_far
        ∙ sym (said-push (filter has_name columns) column i)
    by false = so_far ∙ ap (λ (l : List Column). fields_at l i) (sym (append-nil (filter has_name columns)))

pub named-more : (columns : List Column) (k : ℕ) (column : Column) (fields : List Field) (i : ℕ) → k < length columns
    → column ≡ get_or columns k column → fields ≡ fields_at (filter has_name (take k columns)) i
    → (if has_name column then set_field fields column.0 (get_or column.1 i []) else fields)
    ≡ fields_at (filter has_name (take (k + 1) columns)) i
named-more columns k column fields i lt is so_far =
    filter-one (take k columns) column fields i so_far
    ∙ ap (λ (d : Column). fields_at (filter has_name (take k columns ++ d ∷ [])) i) is
    ∙ ap (λ (l : List Column). fields_at (filter has_name l) i) (sym (take_more columns k column lt))
