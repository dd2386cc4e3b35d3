-- The places of sorted records.
use Rattle.std.proofs.Common.{◌≡◌, ℕ, ◌+◌, true, if◌then◌else◌, List, [], ◌∷◌, length, map, get_or, drop, refl, sym}
use Rattle.std.proofs.Common.{ap, ◌∙◌}
use Rattle.std.proofs.Common.{bytes_eq, unwrap_or}
use Rattle.std.proofs.lemmas.List.{drop-map}
use Rattle.std.proofs.lemmas.Map.Entries.{lookup-filter-keys}
use Rattle.std.proofs.lemmas.Slice.Eq.{bytes_eq-Decides}
use Rattle.std.specs.List.{AllByRecursion, enumerate_from}
use Rattle.std.specs.Ordering.{on, ordering_reverse, ordering_then}
use Rattle.log_model.specs.Field.{field_value}
use Rattle.log_model.specs.Order.{value_cmp}
use Rattle.lq_ast.proofs.Sorted.{map_sorted}
use Rattle.lq_ast.specs.Records.{Record, is_one_of, only_fields}
use Rattle.lq_ast.specs.Sorting.{at_most, record_cmp, sorted}
use Rattle.lq_ast.specs.Stage.{SortBy, Sorting}
use Rattle.lq_ast.specs.Tuples.{sorted_by}
use Rattle.lq_tuple.proofs.Lists.{map_twice}
use Rattle.lq_order.specs.Places.{ArePlaces, sorted_places}
use Rattle.lq_order.proofs.Picked.{items_chosen, map_at_most, places_chosen}

pub places_apart : (s : Sorting) (records : List Record) → ArePlaces (length records) (sorted_places s records)
places_apart s records = places_chosen records (record_cmp s.keys) s.offset s.limit

-- the sorted records stand at the sorted places
pub records_placed : (s : Sorting) (records : List Record)
    → map (λ place. get_or records place []) (sorted_places s records) ≡ sorted s records
records_placed s records = items_chosen records (record_cmp s.keys) s.offset s.limit []

-- ---- records that are made of others, and are compared as these

enumerate_made : (f : Record → Record) (n : ℕ) (records : List Record)
    → enumerate_from n (map f records) ≡ map (λ p. (p.0, f p.1)) (enumerate_from n records)
enumerate_made f n [] = refl
enumerate_made f n (r ∷ records) = ap (λ l. (n, f r) ∷ l) (enumerate_made f (n + 1) records)

pub places_alike : (s : Sorting) (f : Record → Record)
    → ((a b : Record) → record_cmp s.keys (f a) (f b) ≡ record_cmp s.keys a b) → (records : List Record)
    → sorted_places s (map f records) ≡ sorted_places s records
places_alike s f same records =
    let made : ℕ × Record → ℕ × Record = λ p. (p.0, f p.1) in
    let order = on (λ (p : ℕ × Record). p.1) (record_cmp s.keys) in
    let placed = enumerate_from 0 records in
    let inner : sorted_by order (enumerate_from 0 (map f records)) ≡ map made (sorted_by order placed) =
    ap (sorted_by order) (enumerate_made f 0 records)
    ∙ sym (map_sorted made order placed)
    ∙ (λ i. map made (sorted_by (λ p q. same p.1 q.1 i) placed)) in
    ap (λ ps. map (λ p. p.0) (at_most s.limit (drop s.offset ps))) inner
    ∙ ap (λ ps. map (λ p. p.0) (at_most s.limit ps)) (drop-map made s.offset (sorted_by order placed))
    ∙ ap (map (λ p. p.0)) (sym (map_at_most made s.limit (drop s.offset (sorted_by order placed))))
    ∙ map_twice made (λ p. p.0) (at_most s.limit (drop s.offset (sorted_by order placed)))

-- ---- records of some of their fields only

value_only : (names : List (List ℕ)) (r : Record) (name : List ℕ) → is_one_of names name ≡ true
    → field_value (only_fields names r) name ≡ field_value r name
value_only names r name one =
    ap (λ found. unwrap_or found []) (lookup-filter-keys (bytes_eq name) (is_one_of names) true
    (λ key same. ap (is_one_of names) (sym ((bytes_eq-Decides name key).0 same)) ∙ one) r)

-- Records are compared by the fields of the keys only.
pub compared_only : (names : List (List ℕ)) (keys : List SortBy)
    → AllByRecursion (λ key. is_one_of names key.0 ≡ true) keys → (a b : Record)
    → record_cmp keys (only_fields names a) (only_fields names b) ≡ record_cmp keys a b
compared_only names [] h a b = refl
compared_only names ((name, desc) ∷ keys) h a b =
    let of_a = value_only names a name h.0 in
    let of_b = value_only names b name h.0 in
    let rest = compared_only names keys h.1 a b in
    λ i. ordering_then
    (let order = value_cmp (of_a i) (of_b i) in if desc then ordering_reverse order else order) (rest i)

pub places_only : (s : Sorting) (names : List (List ℕ))
    → AllByRecursion (λ key. is_one_of names key.0 ≡ true) s.keys → (records : List Record)
    → sorted_places s (map (only_fields names) records) ≡ sorted_places s records
places_only s names h records = places_alike s (only_fields names) (compared_only names s.keys h) records
