-- Pipes make of the fields that they need what they make of whole records.
use Rattle.std.proofs.Common.{◌≡◌, ℕ, zero, suc, Bool, true, false, cond, List, [], ◌∷◌, ◌++◌, Option, Some, None}
use Rattle.std.proofs.Common.{Result, Ok, Err, option_map}
use Rattle.std.proofs.Common.{◌+◌, ◌<◌, ◌≤◌, refl, sym, ap, ◌∙◌, drop, filter, get_or, length, map, take}
use Rattle.std.proofs.lemmas.List.{drop_all}
use Rattle.std.specs.List.{AllByRecursion, drop-map, take-map}
use Rattle.std.specs.Ordering.{ordering_reverse, ordering_then}
use Rattle.std.specs.Prelude.{IfOk, if◌then◌else◌}
use Rattle.log_model.specs.Field.{IsFieldList}
use Rattle.log_model.specs.Order.{value_cmp}
use Rattle.lq_ast.specs.Grouping.{all, ◌>>=◌}
use Rattle.lq_ast.specs.Holds.{record_holds}
use Rattle.lq_ast.specs.Made.{made}
use Rattle.lq_ast.specs.Pipes.{all_piped}
use Rattle.lq_ast.specs.Records.{Record, copy_fields, is_one_of, only_fields, rename_fields, without_fields}
use Rattle.lq_ast.specs.Sorting.{at_most, record_cmp, sorted}
use Rattle.lq_ast.specs.Stage.{SortBy, Sorting, Stage}
use Rattle.lq_ast.specs.Stage as does
use Rattle.lq_ast.specs.Tuples.{sorted_by}
use Rattle.lq_ast.proofs.Sorted.{all_sorted, map_sorted}
use Rattle.vl_row.specs.Place.{IsInOrder}
use Rattle.lq_ast.specs.PipeView.{stage}
use Rattle.lq_ast.specs.declared.pipe.Pipe.{Pipe}
use Rattle.lq_filter.proofs.Walks.{rest_is}
use Rattle.lq_pipes.specs.Needs.{looked_at, makes_anew, named_by, narrowed, needed}
use Rattle.lq_pipes.proofs.Alike.{filtered_alike, grouped_alike, holds_alike, top_alike, uniq_alike}
use Rattle.lq_pipes.proofs.Makings.{all_in_order, all_kept, makings_alike}
use Rattle.lq_pipes.proofs.Narrowed.{Covers, copies_kept, covers_first, covers_head, covers_itself, covers_others}
use Rattle.lq_pipes.proofs.Narrowed.{covers_tail, deleted_kept, in_order_copies, in_order_filtered, in_order_renames}
use Rattle.lq_pipes.proofs.Narrowed.{only_twice, renames_kept, value_kept}

abbrev Ordered : List Record → Type 0
Ordered records = AllByRecursion IsInOrder records

-- ---- records stay in order

ordered_mapped : (f : Record → Record) → ((r : Record) → IsInOrder r → IsInOrder (f r)) → (records : List Record)
    → Ordered records → Ordered (map f records)
ordered_mapped f keeps [] h = tt
ordered_mapped f keeps (r ∷ records) h = (keeps r h.0, ordered_mapped f keeps records h.1)

ordered_taken : (n : ℕ) (records : List Record) → Ordered records → Ordered (take n records)
ordered_taken zero records h = tt
ordered_taken (suc n) [] h = tt
ordered_taken (suc n) (r ∷ records) h = (h.0, ordered_taken n records h.1)

ordered_dropped : (n : ℕ) (records : List Record) → Ordered records → Ordered (drop n records)
ordered_dropped zero records h = h
ordered_dropped (suc n) [] h = tt
ordered_dropped (suc n) (r ∷ records) h = ordered_dropped n records h.1

ordered_filtered : (p : Record → Bool) (records : List Record) → Ordered records → Ordered (filter p records)
ordered_filtered p [] h = tt
ordered_filtered p (r ∷ records) h =
    let rest = ordered_filtered p records h.1 in
    elim (p r) as (λ t. Ordered (cond t (r ∷ filter p records) (filter p records))) [
      | true ↦ (h.0, rest)
      | false ↦ rest
    ]

ordered_at_most : (limit : Option ℕ) (records : List Record) → Ordered records → Ordered (at_most limit records)
ordered_at_most None records h = h
ordered_at_most (Some n) records h = ordered_taken n records h

ordered_sorted : (s : Sorting) (records : List Record) → Ordered records → Ordered (sorted s records)
ordered_sorted s records h =
    ordered_at_most s.limit (drop s.offset (sorted_by (record_cmp s.keys) records))
    (ordered_dropped s.offset (sorted_by (record_cmp s.keys) records)
    (all_sorted (record_cmp s.keys) IsInOrder records h))

pub ordered_lists : (records : List Record) → AllByRecursion IsFieldList records → Ordered records
ordered_lists [] h = tt
ordered_lists (r ∷ records) h = (h.0.ordered, ordered_lists records h.1)

-- ---- pipes that make records again, and others

map_itself : {A : Type 0} (xs : List A) → map (λ x. x) xs ≡ xs
map_itself [] = refl
map_itself (x ∷ xs) = ap (λ l. x ∷ l) (map_itself xs)

at_most_mapped : (f : Record → Record) (limit : Option ℕ) (records : List Record)
    → at_most limit (map f records) ≡ map f (at_most limit records)
at_most_mapped f None records = refl
at_most_mapped f (Some n) records = take-map f n records

module _ (more : List (List ℕ)) where
  abbrev less : Record → Record
  less r = only_fields more r

  ordered_less : (records : List Record) → Ordered records → Ordered (map less records)
  ordered_less records h = ordered_mapped less (in_order_filtered (λ f. is_one_of more f.0)) records h

  compared_alike : (keys : List SortBy) → Covers more (map (λ key. key.0) keys) → (a b : Record)
      → record_cmp keys (less a) (less b) ≡ record_cmp keys a b
  compared_alike [] covers a b = refl
  compared_alike ((name, desc) ∷ keys) covers a b =
      let names = map (λ (key : SortBy). key.0) keys in
      let one = covers_head name names more covers in
      let of_a = value_kept more a name one in
      let of_b = value_kept more b name one in
      let rest = compared_alike keys (covers_tail name names more covers) a b in
      λ i. ordering_then
      (let order = value_cmp (of_a i) (of_b i) in if desc then ordering_reverse order else order) (rest i)

  sorted_alike : (s : Sorting) → Covers more (map (λ key. key.0) s.keys) → (records : List Record)
      → sorted s (map less records) ≡ map less (sorted s records)
  sorted_alike s covers records =
      let compared = compared_alike s.keys covers in
      let inner : sorted_by (record_cmp s.keys) (map less records) ≡ map less (sorted_by (record_cmp s.keys) records) =
      sym (map_sorted less (record_cmp s.keys) records)
      ∙ (λ i. map less (sorted_by (λ a b. compared a b i) records)) in
      ap (λ rs. at_most s.limit (drop s.offset rs)) inner
      ∙ ap (at_most s.limit) (drop-map less s.offset (sorted_by (record_cmp s.keys) records))
      ∙ at_most_mapped less s.limit (drop s.offset (sorted_by (record_cmp s.keys) records))

  module _ (later : List (List ℕ)) (covers : Covers more later) where
    mapped_twice : (records : List Record) → map (only_fields later) (map less records) ≡ map
        (only_fields later) records
    mapped_twice [] = refl
    mapped_twice (r ∷ records) =
        let one = only_twice more later covers r in
        let rest = mapped_twice records in
        λ i. one i ∷ rest i

    mapped_same : (f : Record → Record)
        → ((r : Record) → IsInOrder r → only_fields later (f (less r)) ≡ only_fields later (f r))
        → (records : List Record) → Ordered records
        → map (only_fields later) (map f (map less records)) ≡ map (only_fields later) (map f records)
    mapped_same f same [] h = refl
    mapped_same f same (r ∷ records) h =
        let one = same r h.0 in
        let rest = mapped_same f same records h.1 in
        λ i. one i ∷ rest i

    -- What is made of less is as good for what comes later.
    passes : (others : List Stage)
        → ((records : List Record) → Ordered records → all_piped others (map (only_fields later) records)
        ≡ all_piped others records)
        → (f : List Record → List Record) → ((records : List Record) → Ordered records → Ordered (f records))
        → (records : List Record) → Ordered records
        → map (only_fields later) (f (map less records)) ≡ map (only_fields later) (f records)
        → all_piped others (f (map less records)) ≡ all_piped others (f records)
    passes others enough f keeps records h same =
        sym (enough (f (map less records)) (keeps (map less records) (ordered_less records h)))
        ∙ ap (all_piped others) same ∙ enough (f records) (keeps records h)

    -- such a pipe does the same to less
    commutes : (f : List Record → List Record) (records : List Record) → f (map less records) ≡ map less (f records)
        → map (only_fields later) (f (map less records)) ≡ map (only_fields later) (f records)
    commutes f records e = ap (map (only_fields later)) e ∙ mapped_twice (f records)

-- What is left of records that are made is as good for what comes later.
bound_alike : (later : List (List ℕ)) (others : List Stage)
    → ((records : List Record) → Ordered records → all_piped others (map (only_fields later) records)
    ≡ all_piped others records)
    → (outcome : Result (List Record) (List ℕ)) → IfOk outcome Ordered
    → (outcome >>= all_piped others) ≡ (all_kept later outcome >>= all_piped others)
bound_alike later others enough (Ok records) h = sym (enough records h)
bound_alike later others enough (Err name) h = refl

record IsSplit (looked : List (List ℕ)) (rest : Option (List (List ℕ))) (names : List (List ℕ)) : Type 0 where
  later : List (List ℕ)
  is : rest ≡ Some later
  whole : looked ++ later ≡ names

split_needed : (looked : List (List ℕ)) (rest : Option (List (List ℕ))) (names : List (List ℕ))
    → option_map (λ later. looked ++ later) rest ≡ Some names → IsSplit looked rest names
split_needed looked None names e = absurd cc
split_needed looked (Some later) names e = record { later = later; is = refl; whole = cc }

covers_split : (looked later names more : List (List ℕ)) → looked ++ later ≡ names → Covers more names
    → Covers more (looked ++ later)
covers_split looked later names more e covers = rw e covers

names_of : (looked names : List (List ℕ)) → Some looked ≡ Some names → looked ≡ names
names_of looked names e = cc

pub enough_of : (stages : List Stage) (names : List (List ℕ)) → needed stages ≡ Some names → (more : List (List ℕ))
    → Covers more names → (records : List Record) → Ordered records
    → all_piped stages (map (only_fields more) records) ≡ all_piped stages records
enough_of [] names e more covers records h = absurd cc
enough_of (does.fields fields ∷ others) names e more covers records h =
    let mine : Covers more fields = rw (names_of fields names e) covers in
    ap (all_piped others) (mapped_twice more fields mine records)
enough_of (does.uniq distinct ∷ others) names e more covers records h =
    let mine : Covers more distinct.names = rw (names_of distinct.names names e) covers in
    ap (all_piped others) (uniq_alike more distinct mine records)
enough_of (does.top ranking ∷ others) names e more covers records h =
    let mine : Covers more ranking.names = rw (names_of ranking.names names e) covers in
    ap (all_piped others) (top_alike more ranking mine records)
enough_of (does.stats grouping ∷ others) names e more covers records h =
    let mine : Covers more (looked_at (does.stats grouping)) = rw (names_of (looked_at
    (does.stats grouping)) names e) covers in
    ap (λ made. made >>= all_piped others) (grouped_alike more grouping mine records)
enough_of (does.delete gone ∷ others) names e more covers records h =
    let split = split_needed [] (needed others) names e in
    let mine = covers_split [] split.later names more split.whole covers in
    passes more split.later mine others (λ rs k. enough_of others split.later split.is split.later
    (covers_itself split.later) rs k)
    (map (without_fields gone)) (ordered_mapped (without_fields gone) (in_order_filtered _)) records h
    (mapped_same more split.later mine (without_fields gone)
    (λ r k. deleted_kept more split.later gone mine r) records h)
enough_of (does.rename pairs ∷ others) names e more covers records h =
    let looked = looked_at (does.rename pairs) in
    let split = split_needed looked (needed others) names e in
    let mine = covers_split looked split.later names more split.whole covers in
    let rest = covers_others looked split.later more mine in
    passes more split.later rest others (λ rs k. enough_of others split.later split.is split.later
    (covers_itself split.later) rs k)
    (map (rename_fields pairs)) (ordered_mapped (rename_fields pairs) (in_order_renames pairs)) records h
    (mapped_same more split.later rest (rename_fields pairs) (renames_kept pairs more split.later mine) records h)
enough_of (does.copy pairs ∷ others) names e more covers records h =
    let looked = looked_at (does.copy pairs) in
    let split = split_needed looked (needed others) names e in
    let mine = covers_split looked split.later names more split.whole covers in
    let rest = covers_others looked split.later more mine in
    passes more split.later rest others (λ rs k. enough_of others split.later split.is split.later
    (covers_itself split.later) rs k)
    (map (copy_fields pairs)) (ordered_mapped (copy_fields pairs) (in_order_copies pairs)) records h
    (mapped_same more split.later rest (copy_fields pairs) (copies_kept pairs more split.later mine) records h)
enough_of (does.limit n ∷ others) names e more covers records h =
    let split = split_needed [] (needed others) names e in
    let mine = covers_split [] split.later names more split.whole covers in
    passes more split.later mine others (λ rs k. enough_of others split.later split.is split.later
    (covers_itself split.later) rs k)
    (take n) (ordered_taken n) records h (commutes more split.later mine (take n) records (take-map
    (less more) n records))
enough_of (does.offset n ∷ others) names e more covers records h =
    let split = split_needed [] (needed others) names e in
    let mine = covers_split [] split.later names more split.whole covers in
    passes more split.later mine others (λ rs k. enough_of others split.later split.is split.later
    (covers_itself split.later) rs k)
    (drop n) (ordered_dropped n) records h (commutes more split.later mine (drop n) records (drop-map
    (less more) n records))
enough_of (does.sort sorting ∷ others) names e more covers records h =
    let looked = looked_at (does.sort sorting) in
    let split = split_needed looked (needed others) names e in
    let mine = covers_split looked split.later names more split.whole covers in
    let rest = covers_others looked split.later more mine in
    let keys = covers_first looked split.later more mine in
    passes more split.later rest others (λ rs k. enough_of others split.later split.is split.later
    (covers_itself split.later) rs k)
    (sorted sorting) (ordered_sorted sorting) records h
    (commutes more split.later rest (sorted sorting) records (sorted_alike more sorting keys records))
enough_of (does.keep condition ∷ others) names e more covers records h =
    let looked = looked_at (does.keep condition) in
    let split = split_needed looked (needed others) names e in
    let mine = covers_split looked split.later names more split.whole covers in
    let rest = covers_others looked split.later more mine in
    let fields = covers_first looked split.later more mine in
    let f = filter (record_holds condition) in
    passes more split.later rest others (λ rs k. enough_of others split.later split.is split.later
    (covers_itself split.later) rs k)
    f (ordered_filtered (record_holds condition)) records h
    (commutes more split.later rest f records
    (filtered_alike more (record_holds condition) (holds_alike more condition fields) records))
enough_of (does.make making ∷ others) names e more covers records h =
    let looked = named_by making in
    let split = split_needed looked (needed others) names e in
    let mine = covers_split looked split.later names more split.whole covers in
    let narrow = all (map (made making) (map (less more) records)) in
    let whole = all (map (made making) records) in
    let later = bound_alike split.later others (λ rs k. enough_of others split.later split.is split.later
    (covers_itself split.later) rs k) in
    later narrow (all_in_order making (map (less more) records) (ordered_less more records h))
    ∙ ap (λ outcome. outcome >>= all_piped others) (makings_alike making more split.later mine records h)
    ∙ sym (later whole (all_in_order making records h))

pub enough : (stages : List Stage) (records : List Record) → AllByRecursion IsFieldList records
    → all_piped stages (map (narrowed (needed stages)) records) ≡ all_piped stages records
enough stages records h = at (needed stages) refl
  where
    at : (names : Option (List (List ℕ))) → needed stages ≡ names
        → all_piped stages (map (narrowed names) records) ≡ all_piped stages records
    at None e = ap (all_piped stages) (map_itself records)
    at (Some names) e = enough_of stages names e names (covers_itself names) records (ordered_lists records h)

-- ---- the walk over pipes

module _ (pipes : List Pipe) (i : ℕ) (names : List (List ℕ)) (so_far : needed (map stage pipes)
    ≡ option_map (λ later. names ++ later) (needed (map stage (drop i pipes)))) where
  pub stops_here : (x : Pipe) (more : List (List ℕ)) → i < length pipes → x ≡ get_or pipes i x
      → makes_anew (stage x) ≡ true → more ≡ names ++ looked_at (stage x) → needed (map stage pipes) ≡ Some more
  stops_here x more below is anew e =
      let others = option_map (λ later. looked_at (stage x) ++ later) (needed (map stage (drop (i + 1) pipes))) in
      so_far
      ∙ ap (λ ps. option_map (λ later. names ++ later) (needed (map stage ps))) (rest_is pipes i x below is)
      ∙ ap (λ t. option_map (λ later. names ++ later) (cond t (Some (looked_at (stage x))) others)) anew
      ∙ ap Some (sym e)

  pub stops_nowhere : length pipes ≤ i → needed (map stage pipes) ≡ None
  stops_nowhere ends =
      so_far ∙ ap (λ ps. option_map (λ later. names ++ later) (needed (map stage ps))) (drop_all i pipes ends)

pub enough_for : (stages : List Stage) (names : Option (List (List ℕ))) → needed stages ≡ names
    → (records : List Record) → AllByRecursion IsFieldList records
    → all_piped stages (map (narrowed names) records) ≡ all_piped stages records
enough_for stages names e records lists =
    ap (λ n. all_piped stages (map (narrowed n) records)) (sym e) ∙ enough stages records lists
