-- Columns are compared as the records that they were made of.
use Rattle.std.proofs.Common.{◌≡◌, ℕ, zero, suc, ◌+◌, ◌<◌, ◌≤◌, cond, List, [], ◌∷◌, ◌++◌, map, length, get_or}
use Rattle.std.proofs.Common.{take, refl, sym, ap, subst}
use Rattle.std.proofs.Common.{Bor, Option, Some, None, ◌∙◌, arith}
use Rattle.std.proofs.lemmas.List.{get_or-map, length-map, map_more}
use Rattle.std.proofs.lemmas.Option.{slice_get-get_or, slice_get-map, slice_get_past}
use Rattle.std.specs.List.{slice_get}
use Rattle.std.specs.Option.{option_cmp, option_map}
use Rattle.std.specs.Ordering.{on, ordering_reverse, ordering_then}
use Rattle.std.specs.Slice.{IsItemAt}
use Rattle.std.specs.declared.cmp.Ordering.{Ordering}
use Rattle.std.specs.declared.cmp.Ordering.TheVariants.{Equal, Greater, Less}
use Rattle.log_model.specs.Field.{field_value}
use Rattle.log_model.specs.Order.{Key, key_cmp, key_of, value_cmp}
use Rattle.lq_ast.specs.PipeView.{sort_by}
use Rattle.lq_ast.specs.Records.{Record}
use Rattle.lq_ast.specs.Stage.{SortBy}
use Rattle.lq_ast.specs.declared.pipe.SortKey.{SortKey}
use Rattle.lq_order.specs.Column.{column_cmp, columns_cmp, values_cmp}
use Rattle.lq_order.specs.Mirror.{Mirrors}
use Rattle.lq_ast.specs.Sorting.{field_cmp, record_cmp}
use Rattle.lq_order.specs.declared.column.Column.{Column}
use Rattle.lq_order.specs.declared.values.Values.{Values}

-- ---- the values of a field

pub item_read : {A : Type 0} (items : List A) (i : ℕ) (found : Option (Bor A)) → IsItemAt items i found
    → option_map (λ x. x.now) found ≡ slice_get items i
item_read items i None (is, here, there, at, default) = sym (slice_get_past items i at)
item_read items i (Some x) (is, here, there, at, default) = ap Some here ∙ sym (slice_get-get_or items i x.now at.0)

lent_cmp : {A : Type 0} (order : A → A → Ordering) (p q : Option (Bor A))
    → option_cmp (λ x y. order x.now y.now) p q
    ≡ option_cmp order (option_map (λ x. x.now) p) (option_map (λ x. x.now) q)
lent_cmp order None None = refl
lent_cmp order None (Some y) = refl
lent_cmp order (Some x) None = refl
lent_cmp order (Some x) (Some y) = refl

-- what is read at two places is compared as what stands there
pub read_cmp : {A : Type 0} (order : A → A → Ordering) (items : List A) (i j : ℕ) (p q : Option (Bor A))
    → IsItemAt items i p → IsItemAt items j q
    → option_cmp (λ x y. order x.now y.now) p q ≡ on (slice_get items) (option_cmp order) i j
read_cmp order items i j p q at_i at_j =
    lent_cmp order p q ∙ ap (λ o. option_cmp order o (option_map (λ x. x.now) q)) (item_read items i p at_i)
    ∙ ap (option_cmp order (slice_get items i)) (item_read items j q at_j)

-- keys are compared as the texts
pub mirrors_keyed : (keys : List Key) (texts : List (List ℕ)) → keys ≡ map key_of texts
    → Mirrors (on (slice_get keys) (option_cmp key_cmp)) value_cmp texts
unfolding value_cmp
mirrors_keyed keys texts is = record {
  same = λ i j d at_i at_j.
      let read = λ (k : ℕ) (within : k < length texts).
      ap (λ l. slice_get l k) is ∙ slice_get-map key_of texts k
      ∙ ap (option_map key_of) (slice_get-get_or texts k d within) in
      ap (λ o. option_cmp key_cmp o (slice_get keys j)) (read i at_i)
      ∙ ap (option_cmp key_cmp (Some (key_of (get_or texts i d)))) (read j at_j);
}

mirrors_field : (column : Column) (key : SortBy) (records : List Record) → column.desc ≡ key.1
    → Mirrors (values_cmp column.values) value_cmp (map (λ r. field_value r key.0) records)
    → Mirrors (column_cmp column) (field_cmp key) records
mirrors_field column key records way m = record {
  same = λ i j d at_i at_j.
      let value = λ (r : Record). field_value r key.0 in
      let is = m.same i j [] (omega (arith, length-map records value)) (omega (arith, length-map records value)) in
      let order = rw (get_or-map value records i d [] at_i, get_or-map value records j d [] at_j) at is in
      ap (λ o. cond column.desc (ordering_reverse o) o) order
      ∙ ap (λ t. cond t (ordering_reverse (value_cmp (value (get_or records i d)) (value (get_or records j d))))
      (value_cmp (value (get_or records i d)) (value (get_or records j d)))) way;
}

-- the column that has these values
pub mirrors_made : (column : Column) (values : Values) (key : SortBy) (name : List ℕ) (records : List Record)
    → column.values ≡ values → column.desc ≡ key.1 → name ≡ key.0
    → Mirrors (values_cmp values) value_cmp (map (λ r. field_value r name) records)
    → Mirrors (column_cmp column) (field_cmp key) records
mirrors_made column values key name records is way named m =
    mirrors_field column key records way
    (subst (λ n. Mirrors (values_cmp column.values) value_cmp (map (λ r. field_value r n) records)) named
    (subst (λ v. Mirrors (values_cmp v) value_cmp (map (λ r. field_value r name) records)) (sym is) m))

then_assoc : (o p q : Ordering) → ordering_then (ordering_then o p) q ≡ ordering_then o (ordering_then p q)
then_assoc Less p q = refl
then_assoc Equal p q = refl
then_assoc Greater p q = refl

then_equal : (o : Ordering) → ordering_then o Equal ≡ o
then_equal Less = refl
then_equal Equal = refl
then_equal Greater = refl

columns_push : (columns : List Column) (column : Column) (a b : ℕ)
    → columns_cmp (columns ++ column ∷ []) a b ≡ ordering_then (columns_cmp columns a b) (column_cmp column a b)
columns_push [] column a b = then_equal (column_cmp column a b)
columns_push (c ∷ cs) column a b =
    ap (ordering_then (column_cmp c a b)) (columns_push cs column a b)
    ∙ sym (then_assoc (column_cmp c a b) (columns_cmp cs a b) (column_cmp column a b))

keys_push : (keys : List SortBy) (key : SortBy) (a b : Record)
    → record_cmp (keys ++ key ∷ []) a b ≡ ordering_then (record_cmp keys a b) (field_cmp key a b)
keys_push [] key a b = then_equal (field_cmp key a b)
keys_push (k ∷ ks) key a b =
    ap (ordering_then (field_cmp k a b)) (keys_push ks key a b)
    ∙ sym (then_assoc (field_cmp k a b) (record_cmp ks a b) (field_cmp key a b))

pub mirrors_none : (records : List Record) → Mirrors (columns_cmp []) (record_cmp []) records
mirrors_none records = record { same = λ i j d at_i at_j. refl }

mirrors_push : (columns : List Column) (column : Column) (keys : List SortBy) (key : SortBy) (records : List Record)
    → Mirrors (columns_cmp columns) (record_cmp keys) records → Mirrors (column_cmp column) (field_cmp key) records
    → Mirrors (columns_cmp (columns ++ column ∷ [])) (record_cmp (keys ++ key ∷ [])) records
mirrors_push columns column keys key records all one = record {
  same = λ i j d at_i at_j.
      columns_push columns column i j
      ∙ ap (λ o. ordering_then o (column_cmp column i j)) (all.same i j d at_i at_j)
      ∙ ap (ordering_then (record_cmp keys (get_or records i d) (get_or records j d))) (one.same i j d at_i at_j)
      ∙ sym (keys_push keys key (get_or records i d) (get_or records j d));
}

-- one more column, for one more key
pub mirrors_more : (columns more : List Column) (column : Column) (keys : List SortKey) (i : ℕ) (key : SortKey)
    (records : List Record) → i < length keys → key ≡ get_or keys i key → more ≡ columns ++ column ∷ []
    → Mirrors (columns_cmp columns) (record_cmp (map sort_by (take i keys))) records
    → Mirrors (column_cmp column) (field_cmp (sort_by key)) records
    → Mirrors (columns_cmp more) (record_cmp (map sort_by (take (i + 1) keys))) records
mirrors_more columns more column keys i key records within at pushed all one =
    rw (pushed, map_more sort_by keys i key within, sym at)
    (mirrors_push columns column (map sort_by (take i keys)) (sort_by key) records all one)

pub take_whole : {A : Type 0} (xs : List A) (n : ℕ) → length xs ≤ n → take n xs ≡ xs
take_whole [] zero h = refl
take_whole [] (suc n) h = refl
take_whole (x ∷ xs) zero h = absurd (omega arith)
take_whole (x ∷ xs) (suc n) h = ap (λ l. x ∷ l) (take_whole xs n (omega arith))
