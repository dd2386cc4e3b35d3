-- What conditions, groups and tuples see of records that lack fields.
use Rattle.std.proofs.Common.{◌≡◌, ℕ, Bool, true, false, not, ◌&&◌, ◌||◌, nat_le, nat_eq, cond, List, [], ◌∷◌, ◌++◌}
use Rattle.std.proofs.Common.{Option}
use Rattle.std.proofs.Common.{Some, None, refl, ap, ◌∙◌, bytes_eq, chars, codes, decimal, filter, length, map}
use Rattle.std.proofs.Common.{take}
use Rattle.std.specs.Prelude.{filter_map, flat_map, if◌then◌else◌, unsigned_abs, zip}
use Rattle.std.specs.List.{list_any, starts_with}
use Rattle.std.specs.Option.{option_map_or}
use Rattle.std.specs.Ordering.{is_eq, is_lt, nat_cmp}
use Rattle.std.proofs.lemmas.List.{length-map}
use Rattle.log_model.specs.Field.{bytes_cmp, field_value, is_empty, set_field}
use Rattle.log_model.specs.Order.{number_of, value_cmp}
use Rattle.log_model.specs.Words.{occurs}
use Rattle.lq_ast.specs.Prefix.{occurs_as_prefix}
use Rattle.lq_ast.specs.Condition.{Condition, Conditions}
use Rattle.lq_ast.specs.Condition as is
use Rattle.lq_ast.specs.Grouping.{all, asked, group_record, grouped, put, set_statistics, statistic_text, ◌>>=◌}
use Rattle.lq_ast.specs.Groups.{bucket_text, group_tuples, key_tuple, key_value, members, moment_of}
use Rattle.lq_ast.specs.Holds.{are_all_met, is_met, is_some_met, is_within, record_holds}
use Rattle.lq_ast.specs.Patterns.{is_found}
use Rattle.lq_ast.specs.Phrases.{case_folded, in_order}
use Rattle.lq_ast.specs.Records.{Record, is_one_of, only_fields, put_fields}
use Rattle.lq_ast.specs.Sorting.{at_most, counted_record, hits, top, tuple_record, tuples, uniq}
use Rattle.lq_ast.specs.Stage.{Distinct, GroupBy, Grouping, Ranking, Statistic}
use Rattle.lq_ast.specs.Statistics.{array_text, call_text, first_text, has_some, last_text, sum_text, values}
use Rattle.lq_ast.specs.Subject.{record_subject}
use Rattle.lq_ast.specs.Tuples.{Tuple, distinct_by, is_wholly_empty, sorted_by, tuple_cmp, tuple_of}
use Rattle.lq_ast.specs.declared.pipe.Call.{Call}
use Rattle.lq_ast.specs.declared.pipe.Call.TheVariants.{Count, CountEmpty, CountUniq, Max, Min, Sum, UniqValues}
use Rattle.lq_pipes.specs.Needs.{asked_among, asked_by, asked_by_statistic}
use Rattle.lq_pipes.proofs.Narrowed.{Covers, covers_first, covers_head, covers_others, covers_tail, value_kept}

module _ (more : List (List ℕ)) where
  -- what is left of a record
  abbrev less : Record → Record
  less r = only_fields more r

  value_alike : (name : List ℕ) → Covers more (name ∷ []) → (r : Record) → field_value (less r) name
      ≡ field_value r name
  value_alike name covers r = value_kept more r name (covers_head name [] more covers)

  -- ---- conditions

  mutual
    met_alike : (condition : Condition) → Covers more (asked_by condition) → (r : Record)
        → is_met condition (record_subject (less r)) ≡ is_met condition (record_subject r)
    met_alike is.always covers r = refl
    met_alike (is.some_value name) covers r = ap (λ v. not (is_empty v)) (value_alike name covers r)
    met_alike (is.no_value name) covers r = ap is_empty (value_alike name covers r)
    met_alike (is.phrase name text) covers r = ap (λ v. occurs v text) (value_alike name covers r)
    met_alike (is.prefix name text) covers r =
        ap (λ v. if is_empty text then not (is_empty v) else occurs_as_prefix v text) (value_alike name covers r)
    met_alike (is.exact name text) covers r = ap (λ v. bytes_eq v text) (value_alike name covers r)
    met_alike (is.exact_prefix name text) covers r = ap (λ v. starts_with nat_eq v text) (value_alike name covers r)
    met_alike (is.one_of name texts) covers r = ap (λ v. list_any (bytes_eq v) texts) (value_alike name covers r)
    met_alike (is.pattern name text) covers r = ap (is_found text) (value_alike name covers r)
    met_alike (is.folded name text) covers r =
        ap (λ v. if is_empty text then is_empty v else occurs (case_folded v) (case_folded text))
        (value_alike name covers r)
    met_alike (is.sequence name phrases) covers r = ap (λ v. in_order v 0 phrases) (value_alike name covers r)
    met_alike (is.length_in name low high) covers r =
        ap (λ v. nat_le low (length (chars v)) && nat_le (length (chars v)) high) (value_alike name covers r)
    met_alike (is.text_in name low high) covers r =
        ap (λ v. not (is_lt (bytes_cmp v low)) && is_lt (bytes_cmp v high)) (value_alike name covers r)
    met_alike (is.number_in name low high) covers r =
        ap (λ v. option_map_or (is_within low high) (number_of v) false) (value_alike name covers r)
    met_alike (is.last span) covers r = refl
    met_alike (is.times from to) covers r = refl
    met_alike (is.selected groups) covers r = refl
    met_alike (is.negated condition) covers r = ap not (met_alike condition covers r)
    met_alike (is.all_of conditions) covers r = all_met_alike conditions covers r
    met_alike (is.any_of conditions) covers r = some_met_alike conditions covers r

    all_met_alike : (conditions : Conditions) → Covers more (asked_among conditions) → (r : Record)
        → are_all_met conditions (record_subject (less r)) ≡ are_all_met conditions (record_subject r)
    all_met_alike is.no_more covers r = refl
    all_met_alike (is.one_more condition conditions) covers r =
        let first = met_alike condition (covers_first (asked_by condition) (asked_among conditions) more covers) r in
        let others = all_met_alike conditions (covers_others (asked_by condition)
        (asked_among conditions) more covers) r in
        λ i. first i && others i

    some_met_alike : (conditions : Conditions) → Covers more (asked_among conditions) → (r : Record)
        → is_some_met conditions (record_subject (less r)) ≡ is_some_met conditions (record_subject r)
    some_met_alike is.no_more covers r = refl
    some_met_alike (is.one_more condition conditions) covers r =
        let first = met_alike condition (covers_first (asked_by condition) (asked_among conditions) more covers) r in
        let others = some_met_alike conditions (covers_others (asked_by condition)
        (asked_among conditions) more covers) r in
        λ i. first i || others i

  pub holds_alike : (condition : Condition) → Covers more (asked_by condition) → (r : Record)
      → record_holds condition (less r) ≡ record_holds condition r
  holds_alike = met_alike

  -- ---- lists of records

  mapped_alike : {B : Type 0} (f : Record → B) → ((r : Record) → f (less r) ≡ f r) → (records : List Record)
      → map f (map less records) ≡ map f records
  mapped_alike f same [] = refl
  mapped_alike f same (r ∷ records) = let rest = mapped_alike f same records in λ i. same r i ∷ rest i

  pub filtered_alike : (p : Record → Bool) → ((r : Record) → p (less r) ≡ p r) → (records : List Record)
      → filter p (map less records) ≡ map less (filter p records)
  filtered_alike p same [] = refl
  filtered_alike p same (r ∷ records) =
      let kept = filter p (map less records) in
      let rest = filtered_alike p same records in
      ap (λ t. cond t (less r ∷ kept) kept) (same r)
      ∙ elim (p r) as (λ t. cond t (less r ∷ kept) kept ≡ map less (cond t (r ∷ filter p records) (filter p records))) [
        | true ↦ ap (λ l. less r ∷ l) rest
        | false ↦ rest
      ]

  -- ---- tuples

  tuple_alike : (names : List (List ℕ)) → Covers more names → (r : Record) → tuple_of names (less r) ≡ tuple_of names r
  tuple_alike [] covers r = refl
  tuple_alike (name ∷ names) covers r =
      let value = value_kept more r name (covers_head name names more covers) in
      let rest = tuple_alike names (covers_tail name names more covers) r in
      λ i. value i ∷ rest i

  tuples_alike : (names : List (List ℕ)) → Covers more names → (records : List Record)
      → tuples names (map less records) ≡ tuples names records
  tuples_alike names covers records =
      ap (λ ts. filter (λ tuple. not (is_wholly_empty tuple)) (distinct_by tuple_cmp ts))
      (mapped_alike (tuple_of names) (tuple_alike names covers) records)

  hits_alike : (names : List (List ℕ)) → Covers more names → (records : List Record) (tuple : Tuple)
      → hits names (map less records) tuple ≡ hits names records tuple
  hits_alike names covers records tuple =
      let p = λ (r : Record). is_eq (tuple_cmp (tuple_of names r) tuple) in
      ap length (filtered_alike p (λ r. ap (λ t. is_eq (tuple_cmp t tuple)) (tuple_alike names covers r)) records)
      ∙ length-map (filter p records) less

  counted_alike : (names : List (List ℕ)) → Covers more names → (records : List Record) (tuple : Tuple)
      → counted_record names (map less records) tuple ≡ counted_record names records tuple
  counted_alike names covers records tuple =
      ap (λ n. set_field (tuple_record names tuple) (codes "hits") (decimal n)) (hits_alike names covers records tuple)

  pub uniq_alike : (d : Distinct) → Covers more d.names → (records : List Record) → uniq d (map less records)
      ≡ uniq d records
  uniq_alike d covers records =
      let ts = tuples_alike d.names covers records in
      let counted = counted_alike d.names covers records in
      λ i. at_most d.limit (map (if d.hits then (λ tuple. counted tuple i) else tuple_record d.names) (ts i))

  pub top_alike : (r : Ranking) → Covers more r.names → (records : List Record) → top r (map less records)
      ≡ top r records
  top_alike r covers records =
      let ts = tuples_alike r.names covers records in
      let counted = counted_alike r.names covers records in
      let often = hits_alike r.names covers records in
      λ i. take r.most (map (λ tuple. counted tuple i) (sorted_by (λ a b. nat_cmp (often b i) (often a i)) (ts i)))

  -- ---- groups

  key_alike : (key : GroupBy) → is_one_of more key.0 ≡ true → (r : Record) → key_value (less r) key ≡ key_value r key
  key_alike (name, None) one r = value_kept more r name one
  key_alike (name, Some step) one r =
      ap (λ v. option_map_or (bucket_text (unsigned_abs step)) (moment_of v) []) (value_kept more r name one)

  key_tuple_alike : (keys : List GroupBy) → Covers more (map (λ key. key.0) keys) → (r : Record)
      → key_tuple keys (less r) ≡ key_tuple keys r
  key_tuple_alike [] covers r = refl
  key_tuple_alike (key ∷ keys) covers r =
      let names = map (λ (k : GroupBy). k.0) keys in
      let value = key_alike key (covers_head key.0 names more covers) r in
      let rest = key_tuple_alike keys (covers_tail key.0 names more covers) r in
      λ i. value i ∷ rest i

  group_tuples_alike : (keys : List GroupBy) → Covers more (map (λ key. key.0) keys) → (records : List Record)
      → group_tuples keys (map less records) ≡ group_tuples keys records
  group_tuples_alike [] covers records = refl
  group_tuples_alike (key ∷ keys) covers records =
      ap (distinct_by tuple_cmp) (mapped_alike (key_tuple (key ∷ keys)) (key_tuple_alike (key ∷ keys) covers) records)

  members_alike : (keys : List GroupBy) → Covers more (map (λ key. key.0) keys) → (records : List Record)
      (tuple : Tuple)
      → members keys (map less records) tuple ≡ map less (members keys records tuple)
  members_alike keys covers records tuple =
      filtered_alike (λ r. is_eq (tuple_cmp (key_tuple keys r) tuple))
      (λ r. ap (λ t. is_eq (tuple_cmp t tuple)) (key_tuple_alike keys covers r)) records

  -- ---- functions

  values_alike : (names : List (List ℕ)) → Covers more names → (records : List Record)
      → values names (map less records) ≡ values names records
  values_alike [] covers records = refl
  values_alike (name ∷ names) covers records =
      let first = mapped_alike (λ r. field_value r name)
      (λ r. value_kept more r name (covers_head name names more covers)) records in
      let rest = values_alike names (covers_tail name names more covers) records in
      λ i. first i ++ rest i

  has_some_alike : (names : List (List ℕ)) → Covers more names → (r : Record) → has_some names (less r)
      ≡ has_some names r
  has_some_alike names covers r = ap (λ t. not (is_wholly_empty t)) (tuple_alike names covers r)

  counts_alike : (p : Record → Bool) → ((r : Record) → p (less r) ≡ p r) → (records : List Record)
      → length (filter p (map less records)) ≡ length (filter p records)
  counts_alike p same records = ap length (filtered_alike p same records) ∙ length-map (filter p records) less

  call_alike : (call : Call) (names : List (List ℕ)) → Covers more names → (records : List Record)
      → call_text call names (map less records) ≡ call_text call names records
  call_alike Count [] covers records = ap (λ n. Some (decimal n)) (length-map records less)
  call_alike Count (name ∷ names) covers records =
      ap (λ n. Some (decimal n))
      (counts_alike (has_some (name ∷ names)) (has_some_alike (name ∷ names) covers) records)
  call_alike CountEmpty names covers records =
      ap (λ n. Some (decimal n))
      (counts_alike (λ r. not (has_some names r)) (λ r. ap not (has_some_alike names covers r)) records)
  call_alike CountUniq names covers records =
      ap (λ ts. Some (decimal (length (filter (λ tuple. not (is_wholly_empty tuple)) (distinct_by tuple_cmp ts)))))
      (mapped_alike (tuple_of names) (tuple_alike names covers) records)
  call_alike Sum names covers records = ap (λ vs. sum_text (filter_map number_of vs))
      (values_alike names covers records)
  call_alike Min names covers records =
      ap (λ vs. Some (first_text (sorted_by value_cmp (filter (λ value. not (is_empty value)) vs))))
      (values_alike names covers records)
  call_alike Max names covers records =
      ap (λ vs. Some (last_text (sorted_by value_cmp (filter (λ value. not (is_empty value)) vs))))
      (values_alike names covers records)
  call_alike UniqValues names covers records =
      ap (λ vs. Some (array_text (distinct_by value_cmp (filter (λ value. not (is_empty value)) vs))))
      (values_alike names covers records)

  asked_alike : (only : Option Condition) → Covers more (option_map_or asked_by only []) → (records : List Record)
      → asked only (map less records) ≡ map less (asked only records)
  asked_alike None covers records = refl
  asked_alike (Some condition) covers records =
      filtered_alike (record_holds condition) (holds_alike condition covers) records

  statistic_alike : (s : Statistic) → Covers more (asked_by_statistic s) → (records : List Record)
      → statistic_text s (map less records) ≡ statistic_text s records
  statistic_alike s covers records =
      let only = option_map_or asked_by s.only [] in
      ap (call_text s.call s.names) (asked_alike s.only (covers_others s.names only more covers) records)
      ∙ call_alike s.call s.names (covers_first s.names only more covers) (asked s.only records)

  statistics_alike : (statistics : List Statistic) → Covers more (flat_map asked_by_statistic statistics)
      → (records : List Record) (r : Record)
      → set_statistics (map less records) statistics r ≡ set_statistics records statistics r
  statistics_alike [] covers records r = refl
  statistics_alike (s ∷ statistics) covers records r =
      let others = flat_map asked_by_statistic statistics in
      let first = statistic_alike s (covers_first (asked_by_statistic s) others more covers) records in
      let rest = statistics_alike statistics (covers_others (asked_by_statistic s) others more covers) records in
      λ i. put s.name r (first i) >>= (λ made. rest made i)

  module _ (g : Grouping) (covers : Covers more (map
      (λ key. key.0) g.keys ++ flat_map asked_by_statistic g.statistics)) where
    keys_covered : Covers more (map (λ key. key.0) g.keys)
    keys_covered = covers_first (map (λ key. key.0) g.keys) (flat_map asked_by_statistic g.statistics) more covers

    statistics_covered : Covers more (flat_map asked_by_statistic g.statistics)
    statistics_covered = covers_others (map (λ key. key.0) g.keys)
        (flat_map asked_by_statistic g.statistics) more covers

    group_alike : (records : List Record) (tuple : Tuple)
        → group_record g (map less records) tuple ≡ group_record g records tuple
    group_alike records tuple =
        ap (λ ms. set_statistics ms g.statistics (put_fields [] (zip (map (λ key. key.0) g.keys) tuple)))
        (members_alike g.keys keys_covered records tuple)
        ∙ statistics_alike g.statistics statistics_covered (members g.keys records tuple)
        (put_fields [] (zip (map (λ key. key.0) g.keys) tuple))

    pub grouped_alike : (records : List Record) → grouped g (map less records) ≡ grouped g records
    grouped_alike records =
        let one = group_alike records in
        let ts = group_tuples_alike g.keys keys_covered records in
        λ i. all (map (λ tuple. one tuple i) (ts i))
